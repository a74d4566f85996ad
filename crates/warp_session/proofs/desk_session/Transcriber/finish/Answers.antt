use Rattle.std.proofs.Common.{◌≡◌, ◌∙◌, ◌+◌, [], ap, refl}
use Rattle.warp_session.specs.inner.Turns.{Held}
use Rattle.warp_session.proofs.BreaksLemmas.{BreaksAtEnd-flush, BreaksAtEnd-last, broke_off}
use Rattle.warp_session.proofs.TurnsLemmas.{Ends-last}
use Rattle.warp_session.proofs.desk_session.Transcriber.finish.Goals as goal

pub returns : goal.returns
returns g c = λ state.
    let idle : c.self.inside.batch ≡ [] = ap (λ (h : Held). h.waits) c.self.view_is ∙ c.requires in
    record {
      does = rw (← c.self.view_is)
          (Ends-last c.args.form g.D.Desk.gives _ _ _ c.replace.new.dest c.end-last.result
          (λ line kept. c.end-last.ensures line (c.replace.ensures.value ∙ kept))
          (λ line kept. (c.in_ok-refuse_last.ensures.turn state line (c.end-last.ensures line (c.replace.ensures.value ∙ kept)) idle).does)
          refl c.flush.ensures.waits c.in_ok-flush.ensures.empty
          (c.flush.ensures.waits ∙ c.refuse_last.ensures.waits ∙ idle) c.in_ok-flush.ensures.written);
      breaks = tt;
      failures = c.in_ok-flush.ensures.failures ∙ c.in_ok-refuse_last.ensures.failures;
    }

pub returns-in_err-refuse_last : goal.returns-in_err-refuse_last
returns-in_err-refuse_last g c = λ state.
    let idle : c.self.inside.batch ≡ [] = ap (λ (h : Held). h.waits) c.self.view_is ∙ c.requires in
    broke_off _ _ _ _ _ c.from_residual.result c.from_residual.ensures.1
    (rw (← c.self.view_is)
    (BreaksAtEnd-last c.args.form g.D.Desk.gives _ _ c.replace.new.dest c.end-last.result
    (λ line kept. c.end-last.ensures line (c.replace.ensures.value ∙ kept))
    (λ line kept. (c.in_err-refuse_last.ensures.turn state line (c.end-last.ensures line (c.replace.ensures.value ∙ kept)) idle).breaks)))
    c.in_err-refuse_last.ensures.failures

pub returns-in_err-flush : goal.returns-in_err-flush
returns-in_err-flush g c = λ state.
    let idle : c.self.inside.batch ≡ [] = ap (λ (h : Held). h.waits) c.self.view_is ∙ c.requires in
    broke_off _ _ _ _ _ c.from_residual-in_err-flush.result c.from_residual-in_err-flush.ensures.1
    (rw (← c.self.view_is)
    (BreaksAtEnd-flush c.args.form g.D.Desk.gives _ _ _ c.replace.new.dest c.end-last.result
    (λ line kept. c.end-last.ensures line (c.replace.ensures.value ∙ kept))
    (λ line kept. (c.in_ok-refuse_last.ensures.turn state line (c.end-last.ensures line (c.replace.ensures.value ∙ kept)) idle).does)
    (c.refuse_last.ensures.waits ∙ idle) refl c.in_err-flush.ensures.front))
    (c.in_err-flush.ensures.failures ∙ ap (λ n. n + 1) c.in_ok-refuse_last.ensures.failures)
