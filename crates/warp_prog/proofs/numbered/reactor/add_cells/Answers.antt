use Rattle.std.proofs.Common.{◌≡◌, ◌++◌, ◌-◌, ◌∙◌, ap, length, List, map, pos, replicate, rules, sym, unsigned_abs, ℕ, ℤ}
use Rattle.warp_prog.specs.Numbered.{cell_with, starts_with}
use Rattle.warp_prog.specs.View.{start_tree}
use Rattle.warp_prog.specs.declared.file.ArrayStart.{ArrayStart}
use Rattle.warp_prog.proofs.Numbers.{cells_more}
use Rattle.warp_prog.proofs.numbered.reactor.add_cells.Goals.{in-All+in_ok-add_alike-in-All, in-Each+in_ok-add_given-in-Each}
use Rattle.warp_prog.proofs.numbered.reactor.add_cells.Goals as goal

pub loop-array-preserved : goal.loop-array-preserved
loop-array-preserved c =
    let l = c.loop-array in
    let within = rw c.deref-array-items.ensures.value at c.loop-array-test.true in
    let here = rw c.deref-array-items.ensures.value at c.array-item.is in
    let b = c.args.before.now in
    let done = l.cells.items in
    let a = c.array-item.result in
    let size : c.unsigned_abs-count.result ≡ unsigned_abs a.count = search rules in
    elim c.match-array.branch [
      | in-All+in_ok-add_alike-in-All w ↦
          let added : w.add_alike.new.cells.items ≡ done ++ map (cell_with b) (replicate c.unsigned_abs-count.result w.in-All.start) = search rules in
          rw w.cells-is
          (cells_more b done w.add_alike.new.cells.items c.args.reactor.now.arrays.items l.array-index a within here
          (added
          ∙ ap (λ (n : ℕ). done ++ map (cell_with b) (replicate n w.in-All.start)) size
          ∙ ap (λ (s : ArrayStart). done ++ map (cell_with b) (starts_with (unsigned_abs a.count) (start_tree s))) (sym w.in-All.is))
          ∙ l.invariant)
      | in-Each+in_ok-add_given-in-Each w ↦
          rw w.cells-is
          (cells_more b done w.add_given.new.cells.items c.args.reactor.now.arrays.items l.array-index a within here
          (w.in_ok-add_given-in-Each.ensures
          ∙ ap (λ (ns : List ℤ). done ++ map (cell_with b) (ns ++ replicate (c.unsigned_abs-count.result - length ns) (pos 0))) w.deref.ensures.value
          ∙ ap (λ (n : ℕ). done ++ map (cell_with b) (w.in-Each.starts.items ++ replicate (n - length w.in-Each.starts.items) (pos 0))) size
          ∙ ap (λ (s : ArrayStart). done ++ map (cell_with b) (starts_with (unsigned_abs a.count) (start_tree s))) (sym w.in-Each.is))
          ∙ l.invariant)
    ]
