use Rattle.std.proofs.Common.{◌∷◌, [], All, refl, subst, sym}
use Rattle.std.proofs.lemmas.List.Elements.{All-push}
use Rattle.warp_record.specs.Line.{IsLine, spelling}
use Rattle.warp_record.specs.Lines.Piece.{Whole}
use Rattle.warp_session.proofs.BreaksLemmas.{turn_behind}
use Rattle.warp_session.proofs.TurnsLemmas.{Replied-added}
use Rattle.warp_session.proofs.desk_session.Transcriber.add_waiting.Goals as goal

-- as many wait as are asked at once
pub returns-then-is_full-clause-turn : goal.returns-then-is_full-clause-turn
returns-then-is_full-clause-turn g c = rw (← c.self.view_is) (λ f good is.
    turn_behind f g.D.Desk.gives (Whole (spelling c.args.line) ∷ []) _ _ _ c.answer_waiting.result
    (Replied-added f g.D.Desk.gives _ _ c.args.line c.push.ensures refl refl refl) refl
    (c.answer_waiting.ensures.turn f (subst (All (IsLine f)) (sym c.push.ensures) (All-push (IsLine f) c.self.inside.batch c.args.line good is))))

pub returns-clause-turn : goal.returns-clause-turn
returns-clause-turn g c = rw (← c.self.view_is) (λ f good is. record {
  does = Replied-added f g.D.Desk.gives _ _ c.args.line c.push.ensures refl refl refl;
  breaks = tt;
  failures = refl;
})
