-- The line's words are those of the counts.
use Rattle.std.proofs.Common.{◌≡◌, ◌<◌, ◌∙◌, ◌∷◌, ◌++◌, true, ap, decimal, length, arith}
use Rattle.std.proofs.lemmas.Bool.Decides.{Decides-ltb, nat_tests}
use Rattle.std.proofs.lemmas.Result.{on_ok_weaker}
use Rattle.warp_step.specs.Events.{is_declared}
use Rattle.warp_watch.proofs.TextLines.{counts_added}
use Rattle.warp_watch.proofs.lines.add_counts.Goals as goal

pub returns : goal.returns
returns g c =
    let r = c.args.replica.now in
    let origin = c.args.origin in
    let counts = c.counts-counts.result in
    let t1 = c.extend_from_slice.new.self.items in
    let origins : c.origins.result ≡ r.program.origins = c.origins.ensures ∙ ap (λ P. P.origins) c.program.ensures in
    let below : origin < r.program.origins = grind (arith, nat_tests, c.if-origins-origin.false, origins) in
    let declared : is_declared r.program origin ≡ true = (Decides-ltb origin r.program.origins).1 below in
    on_ok_weaker c.add_tag.result (λ added. (
      counts,
      c.counts-counts.ensures,
      counts_added r.program (length r.records) origin counts c.args.text.now.items t1 c.add_number.new.text.items c.add_number-2.new.text.items
          c.add_number-3.new.text.items c.add_number-4.new.text.items c.add_tag.new.text.items declared
          c.in_ok-extend_from_slice.ensures.items
          (c.in_ok-add_number.ensures ∙ ap (λ n. t1 ++ 32 ∷ decimal n) c.len.ensures.value)
          c.in_ok-add_number-2.ensures c.in_ok-add_number-3.ensures c.in_ok-add_number-4.ensures added,
    )) c.add_tag.ensures
