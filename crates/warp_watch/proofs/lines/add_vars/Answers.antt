-- The line's words are those of the answers that the values are of.
use Rattle.std.proofs.Common.{◌∙◌, ◌∷◌, ◌++◌, ap, decimal, length}
use Rattle.std.specs.Prelude.{codes}
use Rattle.std.specs.Fmt.{signed_decimal}
use Rattle.std.specs.List.{flat_map}
use Rattle.warp_step.specs.Program.{told_of}
use Rattle.warp_watch.proofs.TextLines.{words_added}
use Rattle.warp_watch.proofs.lines.add_vars.Goals as goal

pub returns : goal.returns
returns g c =
    let a = c.vars.ensures in
    let t1 = c.extend_from_slice.new.self.items in
    let t2 = c.add_number.new.text.items in
    let variables = c.variables.ensures ∙ ap (λ P. P.variables) c.program.ensures in (
      a.0,
      a.1,
      words_added signed_decimal (codes "vars") (length c.args.replica.now.records) (told_of c.args.replica.now.program.variables a.0.state.vars)
          c.args.text.now.items t1 t2 c.add_told.new.text.items c.push.new.self.items
          c.in_ok-extend_from_slice.ensures.items
          (c.in_ok-add_number.ensures ∙ ap (λ n. t1 ++ 32 ∷ decimal n) c.len.ensures.value)
          (c.in_ok-add_told.ensures ∙ (λ i. t2 ++ flat_map (λ value. 32 ∷ signed_decimal value) (told_of (variables i) (a.2 i))))
          c.in_ok-push.ensures.items,
    )
