-- it is not in the list, so what the map says holds
use Rattle.std.proofs.Common.{ℕ, Option, ap, ◌∙◌}
use Rattle.std.specs.BTreeMap.{is_at}
use Rattle.std.specs.Map.{lookup}
use Rattle.std.specs.Option.{option_or}
use Rattle.warp_record.specs.Order.{record_cmp}
use Rattle.warp_table.specs.inner.Kept.{places_of}
use Rattle.warp_table.proofs.RisingRecords.{none_of, not_listed, put_in_map, some_of}
use Rattle.warp_table.proofs.others.Others.enter_joint.Goals as goal

pub returns-clause-known : goal.returns-clause-known
returns-clause-known c =
    let es = c.args.self.now.listed.items in
    let none = not_listed c.args.said.now es c.requires.kind c.args.self.now.announced in
    some_of c.in_ok-found.found _ _ (λ at says. (
      ap (places_of es) says.0,
      says.1,
      ap (λ (o : Option ℕ). option_or o (lookup (is_at (record_cmp c.args.said.now)) c.args.self.now.map.entries)) none ∙ says.2,
    )) c.in_ok-found.ensures.known

pub returns-clause-new : goal.returns-clause-new
returns-clause-new c =
    let es = c.args.self.now.listed.items in
    let none = not_listed c.args.said.now es c.requires.kind c.args.self.now.announced in
    none_of c.in_ok-found.found _ _ (λ says. (
      ap (λ (o : Option ℕ). option_or o (lookup (is_at (record_cmp c.args.said.now)) c.args.self.now.map.entries)) none ∙ says.0,
      ap (places_of es) says.1 ∙ put_in_map es c.args.self.now.map.entries c.args.said.now c.args.place none,
      says.2,
    )) c.in_ok-found.ensures.new
