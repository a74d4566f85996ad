use Rattle.std.proofs.Common.{◌≡◌, ◌+◌, ◌∷◌, [], ap, sym, refl, ◌∙◌}
use Rattle.warp_record.specs.Lines.Piece.{Whole}
use Rattle.warp_session.specs.inner.Turns.{Held, pieces_fed}
use Rattle.warp_session.proofs.TurnsLemmas.{cut_by_push}
use Rattle.warp_session.proofs.desk_session.Transcriber.find_line.Goals as goal

-- the line stands whole among the bytes, and nothing of it came before
pub returns-in-Some-clause-finds : goal.returns-in-Some-clause-finds
returns-in-Some-clause-finds c =
    let found = c.in-Some.ensures.found in
    let view : c.self.inside.feed ≡ c.args.self.now.kept = ap (λ (h : Held). h.kept) c.self.view_is in (
      Whole c.in-Some.text.now ∷ [],
      c.read_text.ensures,
      (ap (λ n. n + 1) found.1, found.2, λ line is. c.in-Some.ensures.line line (view ∙ is), sym view ∙ c.in-Some.ensures.fresh),
    )

pub returns-clause-finds : goal.returns-clause-finds
returns-clause-finds c =
    let view : c.self.inside.feed ≡ c.args.self.now.kept = ap (λ (h : Held). h.kept) c.self.view_is in
    let pushed = c.push-count.ensures in (
      pieces_fed c.push-count.result.1,
      c.read_fed.ensures,
      rw (← view) (cut_by_push c.self.inside.feed c.push-count.new.self c.args.bytes.now c.push-count.result.0 c.push-count.result.1
          pushed.taken pushed.given pushed.line pushed.fresh pushed.kept),
    )
