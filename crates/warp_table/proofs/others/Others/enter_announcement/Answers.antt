-- it goes to an end of the list, or into the map
use Rattle.std.proofs.Common.{◌≡◌, ℕ, ◌∷◌, ◌++◌, [], List, None, Option, ap, sym, subst, ◌∙◌}
use Rattle.std.specs.BTreeMap.{is_at}
use Rattle.std.specs.List.{All}
use Rattle.std.specs.Map.{lookup}
use Rattle.std.specs.Option.{option_or}
use Rattle.std.proofs.lemmas.List.Elements.{All-push}
use Rattle.warp_record.specs.declared.record.Record.{Record}
use Rattle.warp_record.specs.Order.{kind_of, record_cmp}
use Rattle.warp_table.specs.inner.Kept.{places_of}
use Rattle.warp_table.proofs.RisingRecords.{Rises, before_all, behind_all, none_of, put_before, put_behind, put_in_map, rises_behind}
use Rattle.warp_table.proofs.others.Others.enter_announcement.Goals as goal

pub invariant_of-self-then-is_last : goal.invariant_of-self-then-is_last
invariant_of-self-then-is_last c =
    let said = c.args.said.now in
    let es = c.args.self.now.listed.items in
    let same : c.push_back_reserved.new.self.items ≡ es ++ (said, c.args.place) ∷ [] = c.push_back_reserved.ensures.items ∙ ap (λ (xs : List (Record × ℕ)). xs ++ (said, c.args.place) ∷ []) c.reserve.ensures.items in
    record {
      in_order = subst Rises (sym same) (rises_behind said c.args.place es c.args.self.now.in_order (c.is_last.ensures.list c.if-is_last.true));
      announced = subst (All (λ (e : Record × ℕ). kind_of e.0 ≡ 2)) (sym same) (All-push (λ (e : Record × ℕ). kind_of e.0 ≡ 2) es (said, c.args.place) c.args.self.now.announced c.requires);
    }

pub returns-then-is_last-clause-new : goal.returns-then-is_last-clause-new
returns-then-is_last-clause-new c =
    let said = c.args.said.now in
    let es = c.args.self.now.listed.items in
    let map = c.args.self.now.map.entries in
    let same : c.push_back_reserved.new.self.items ≡ es ++ (said, c.args.place) ∷ [] = c.push_back_reserved.ensures.items ∙ ap (λ (xs : List (Record × ℕ)). xs ++ (said, c.args.place) ∷ []) c.reserve.ensures.items in
    let none : lookup (is_at (record_cmp said)) es ≡ None = behind_all said es (c.is_last.ensures.list c.if-is_last.true) in (
      ap (λ (o : Option ℕ). option_or o (lookup (is_at (record_cmp said)) map)) none ∙ c.is_last.ensures.map c.if-is_last.true,
      ap (λ (xs : List (Record × ℕ)). places_of xs map) same ∙ put_behind es map said c.args.place none,
      c.in_ok-note_announcement.ensures.ok,
      c.in_ok-note_announcement.ensures.announced,
    )

pub returns-then-is_first-clause-new : goal.returns-then-is_first-clause-new
returns-then-is_first-clause-new c =
    let said = c.args.said.now in
    let es = c.args.self.now.listed.items in
    let map = c.args.self.now.map.entries in
    let same : c.push_front_reserved.new.self.items ≡ (said, c.args.place) ∷ es = c.push_front_reserved.ensures.items ∙ ap (λ (xs : List (Record × ℕ)). (said, c.args.place) ∷ xs) c.reserve-then-is_first.ensures.items in
    let none : lookup (is_at (record_cmp said)) es ≡ None = before_all said es (c.is_first.ensures.list c.if-is_first.true) in (
      ap (λ (o : Option ℕ). option_or o (lookup (is_at (record_cmp said)) map)) none ∙ c.is_first.ensures.map c.if-is_first.true,
      ap (λ (xs : List (Record × ℕ)). places_of xs map) same ∙ put_before es map said c.args.place,
      c.in_ok-note_announcement-2.ensures.ok,
      c.in_ok-note_announcement-2.ensures.announced,
    )

pub returns-clause-new : goal.returns-clause-new
returns-clause-new c =
    let said = c.args.said.now in
    let es = c.args.self.now.listed.items in
    let map = c.args.self.now.map.entries in
    let none : lookup (is_at (record_cmp said)) es ≡ None = sym c.find.ensures ∙ c.in_default.is in
    none_of c.in_ok-found.found _ _ (λ says. (
      ap (λ (o : Option ℕ). option_or o (lookup (is_at (record_cmp said)) map)) none ∙ says.0,
      ap (places_of es) says.1 ∙ put_in_map es map said c.args.place none,
      says.2,
      says.3,
    )) c.in_ok-found.ensures.new
