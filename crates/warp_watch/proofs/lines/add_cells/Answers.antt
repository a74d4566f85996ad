-- The line's words are those of the values, or there are none.
use Rattle.std.proofs.Common.{◌≡◌, ◌≢◌, ◌∙◌, ◌∷◌, ◌++◌, [], ap, decimal, drop, length, take}
use Rattle.std.specs.Prelude.{◌==◌}
use Rattle.std.proofs.lemmas.Bool.{both_ways}
use Rattle.warp_watch.specs.Lines.{cells_text}
use Rattle.warp_watch.proofs.TextLines.{cells_added}
use Rattle.warp_watch.proofs.lines.add_cells.Goals as goal

pub returns : goal.returns
returns g c =
    let r = c.args.replica.now in
    let a = c.vars.ensures in
    let values = c.values_from-values.result.now in
    let t0 = c.args.text.now.items in
    let t1 = c.extend_from_slice.new.self.items in
    let some : values ≢ [] = λ e. both_ways c.is_empty.result c.if-is_empty.false (c.is_empty.ensures ∙ ap (λ xs. length xs == 0) e) in
    let is : values ≡ take c.args.count (drop c.args.first a.0.state.vars) =
    c.values_from-values.ensures ∙ ap (λ xs. take c.args.count (drop c.args.first xs)) a.2 in (
      a.0,
      a.1,
      cells_added (length r.records) c.args.first values t0 t1 c.add_number.new.text.items c.add_number-2.new.text.items
          c.add_values.new.text.items c.push.new.self.items some
          c.in_ok-extend_from_slice.ensures.items
          (c.in_ok-add_number.ensures ∙ ap (λ n. t1 ++ 32 ∷ decimal n) c.len.ensures.value)
          c.in_ok-add_number-2.ensures c.in_ok-add_values.ensures c.in_ok-push.ensures.items
          ∙ ap (λ xs. t0 ++ cells_text (length r.records) c.args.first xs) is,
    )
