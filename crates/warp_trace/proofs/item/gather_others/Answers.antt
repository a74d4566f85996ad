-- a run in which nothing changed adds nothing
use Rattle.std.proofs.Common.{◌≡◌, ◌∙◌, ◌+◌, ◌*◌, ◌++◌, [], ap, arith, get_or, rules, sym, true}
use Rattle.warp_trace.specs.inner.Tracing.{changed_from}
use Rattle.warp_trace.proofs.TraceItems.{run_passed}
use Rattle.warp_trace.proofs.item.gather_others.Goals as goal
use Rattle.warp_trace.proofs.item.gather_others.Goals.{then-not-is_same_run+in_ok-add_others, else-not-is_same_run}

pub loop-number-preserved : goal.loop-number-preserved
loop-number-preserved c =
    let before = c.args.before.now in
    let after = c.args.after.now in
    let n = c.loop-number.number in
    let left = changed_from before after ((n + 1) * 8) in
    let was = c.loop-number.invariant in
    elim c.if-not-is_same_run.branch [
      | then-not-is_same_run+in_ok-add_others w ↦ ap (λ v. v.items ++ left) w.items-is ∙ w.in_ok-add_others.ensures ∙ was
      | else-not-is_same_run w ↦
          let same : c.is_same_run.result ≡ true = search rules in
          let runs = c.is_same_run.ensures same in
          let old = c.as_chunks.ensures.front_len in
          let new = c.as_chunks-2.ensures.front_len in
          let there = runs.0 in
          let test = c.loop-number-test.true in
          let passed = run_passed before after n (omega arith) (omega arith)
          (ap (λ l. get_or l n []) (sym c.as_chunks.ensures.front) ∙ runs.1 ∙ ap (λ l. get_or l n []) c.as_chunks-2.ensures.front) in
          ap (λ v. v.items ++ left) w.items-is ∙ ap (λ l. c.loop-number.items.items ++ l) (sym passed) ∙ was
    ]
