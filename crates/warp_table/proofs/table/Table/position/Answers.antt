-- what is found is the record's place
use Rattle.std.proofs.Common.{◌≡◌, ◌≤◌, List, Contains, ap, subst, ◌∙◌}
use Rattle.std.specs.Prelude.{IfNone, IfSome}
use Rattle.warp_tag.specs.Limits.{most_records, widest}
use Rattle.warp_record.specs.declared.record.Record.{Record}
use Rattle.warp_table.specs.Log.{IsAt}
use Rattle.warp_table.specs.inner.Others.{places}
use Rattle.warp_table.specs.inner.Kept.{place_in}
use Rattle.warp_table.proofs.Places.{place_lacks, place_told}
use Rattle.warp_table.proofs.table.Table.position.Goals as goal

found : (c : goal.After-place_of) → c.place_of.result ≡ place_in c.self.inside.records.items c.self.inside.names (places c.self.inside.others) c.args.record.now
found c = c.place_of.ensures ∙ ap (λ (rs : List Record). place_in rs c.self.inside.names (places c.self.inside.others) c.args.record.now) c.deref.ensures.value

pub returns-clause-found : goal.returns-clause-found
returns-clause-found c =
    let is = c.self.inside in
    subst (λ (rs : List Record). IfSome c.place_of.result (λ place. IsAt rs place c.args.record.now × (place ≤ most_records widest))) c.self.view_is
    (place_told is.records.items is.names (places is.others) c.args.record.now c.place_of.result c.self.invariant.1.places c.self.invariant.0 (found c))

pub returns-clause-none : goal.returns-clause-none
returns-clause-none c =
    let is = c.self.inside in
    subst (λ (rs : List Record). IfNone c.place_of.result (Contains rs c.args.record.now → ⊥)) c.self.view_is
    (place_lacks is.records.items is.names (places is.others) c.args.record.now c.place_of.result c.self.invariant.1.places (found c))
