-- the entry comes in behind the start, which is the front where the entries moved there
use Rattle.std.proofs.Common.{◌≡◌, ◌≤◌, length, drop, sym, ap, ◌∙◌, subst, arith, length-drop, w64}
use Rattle.std.proofs.lemmas.Int.{to_z-of_z}
use Rattle.std.specs.List.{insert}
use Rattle.warp_step.specs.declared.entries.Entries.TheInside.{Inside}
use Rattle.warp_step.specs.declared.pending.Waiting.{Waiting}
use Rattle.warp_step.proofs.EntryMoves.{inserted_from}
use Rattle.warp_step.proofs.entries.Entries.insert.Goals.{then-is_full, else-is_full}
use Rattle.warp_step.proofs.entries.Entries.insert.Goals as goal

pub returns : goal.returns
returns c =
    let j = c.if-is_full.self-inside in
    let x : Waiting = record { tag = c.args.tag; target = c.args.target; value = c.args.value } in
    let stands : (j.start ≤ length j.items.items) × (drop j.start j.items.items ≡ c.args.self.now) = elim c.if-is_full.branch [
      | then-is_full w ↦
          subst (λ (e : Inside). (e.start ≤ length e.items.items) × (drop e.start e.items.items ≡ c.args.self.now)) (sym w.self-inside-is)
          (omega arith, w.move_to_front.ensures ∙ c.self.view_is)
      | else-is_full w ↦
          subst (λ (e : Inside). (e.start ≤ length e.items.items) × (drop e.start e.items.items ≡ c.args.self.now)) (sym w.self-inside-is)
          (c.self.invariant.0, c.self.view_is)
    ] in
    let came = rw (to_z-of_z w64 c.args.value c.ranges.value) at c.insert_behind.ensures in
    ap (drop j.start) came
    ∙ inserted_from j.items.items j.start c.args.at x (omega (arith, stands.0, c.requires.within, ap length stands.1, length-drop j.start j.items.items))
    ∙ ap (λ l. insert l c.args.at x) stands.1
