-- of no records nothing is kept
use Rattle.std.proofs.Common.{◌≤◌, List, [], length, sym, subst}
use Rattle.warp_tag.specs.Limits.{most_records, widest}
use Rattle.warp_record.specs.declared.record.Record.{Record}
use Rattle.warp_table.specs.declared.names.Name.{Name}
use Rattle.warp_table.specs.declared.rows.Known.{Known}
use Rattle.warp_table.specs.inner.Heard.{AreHeard, Heard}
use Rattle.warp_table.specs.inner.Kept.{Keeps, OtherPlaces, no_others}
use Rattle.warp_table.specs.inner.Others.{places}
use Rattle.warp_table.specs.inner.Joint.{KeepsJoint}
use Rattle.warp_table.proofs.JointNext.{none_joint}
use Rattle.warp_table.proofs.NoRecords.{none_kept}
use Rattle.warp_table.proofs.table.Table.new.Goals as goal

pub invariant_of-result : goal.invariant_of-result
invariant_of-result c =
    subst (λ (rs : List Record). (length rs ≤ most_records widest) × Keeps rs c.new-2.result (places c.new-3.result) × AreHeard rs c.new-4.result.items × KeepsJoint rs c.new-4.result.items c.new-5.result) (sym c.new.ensures.items)
    (subst (λ (ns : List (Name × Known)). (length {A = Record} [] ≤ most_records widest) × Keeps [] ns (places c.new-3.result) × AreHeard [] c.new-4.result.items × KeepsJoint [] c.new-4.result.items c.new-5.result) (sym c.new-2.ensures)
    (subst (λ (ps : OtherPlaces). (length {A = Record} [] ≤ most_records widest) × Keeps [] [] ps × AreHeard [] c.new-4.result.items × KeepsJoint [] c.new-4.result.items c.new-5.result) (sym c.new-3.ensures)
    (subst (λ (hs : List Heard). (length {A = Record} [] ≤ most_records widest) × Keeps [] [] no_others × AreHeard [] hs × KeepsJoint [] hs c.new-5.result) (sym c.new-4.ensures.items)
    (none_kept.0, none_kept.1, none_kept.2, none_joint c.new-5.result c.new-5.ensures.announced c.new-5.ensures.reached c.new-5.ensures.broken))))
