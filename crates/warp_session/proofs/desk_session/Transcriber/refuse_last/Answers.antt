use Rattle.std.proofs.Common.{inl, inr, refl, subst, ◌∙◌}
use Rattle.warp_session.specs.inner.Turns.{IsFound, pieces_fed}
use Rattle.warp_session.proofs.BreaksLemmas.{bad_turn}
use Rattle.warp_session.proofs.TurnsLemmas.{Replied-nothing, last_is_bad}
use Rattle.warp_session.proofs.desk_session.Transcriber.refuse_last.Goals as goal

pub returns-in-Bad-clause-turn : goal.returns-in-Bad-clause-turn
returns-in-Bad-clause-turn g c = λ state line is idle.
    bad_turn c.args.form g.D.Desk.gives state _ _ _ _ _ _ (pieces_fed c.args.fed) c.in-Bad.refusal c.gather.result
    (subst (IsFound c.args.form (pieces_fed c.args.fed)) c.in-Bad.is c.read_fed.ensures) idle (c.gather.ensures.waits ∙ idle)
    c.gather.ensures.gathered c.gather.ensures.front c.gather.ensures.failures

-- it has no line feed, and so spells none; or there is none
pub returns-in-Asked : goal.returns-in-Asked
returns-in-Asked g c = record {
  turn = λ state line is idle. record {
    does = Replied-nothing c.args.form g.D.Desk.gives (pieces_fed c.args.fed) _
        (elim c.in-Asked.is [
          | inl h ↦ absurd (last_is_bad c.args.form c.args.fed line h.0 is
              (subst (IsFound c.args.form (pieces_fed c.args.fed)) h.1 c.read_fed.ensures))
          | inr h ↦ subst (IsFound c.args.form (pieces_fed c.args.fed)) h c.read_fed.ensures
        ]);
    breaks = tt;
    failures = refl;
  };
  waits = refl;
  failures = refl;
}
