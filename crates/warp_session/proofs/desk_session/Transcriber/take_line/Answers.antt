use Rattle.std.proofs.Common.{◌≡◌, ◌∷◌, [], All, List, inr, refl, subst, sym}
use Rattle.warp_record.specs.Line.{IsLine, spelling}
use Rattle.warp_record.specs.Lines.{Piece, Whole}
use Rattle.warp_session.specs.inner.Turns.{Finds, IsCut, at}
use Rattle.warp_session.proofs.BreaksLemmas.{Broken-found, BreaksBytes-cut, broke_off, either_found}
use Rattle.warp_session.proofs.TurnsLemmas.{IsReady, Replied-found, Replied-nil, TakesBytes-cut, ready_found, ready_front}
use Rattle.warp_session.proofs.desk_session.Transcriber.take_line.Goals as goal
use Rattle.warp_session.proofs.desk_session.Transcriber.take_line.Goals.{in-Some, in-None+in-Asked}

-- a line was found, in front or by its end, and was asked or waits
pub returns-clause-turn : goal.returns-clause-turn
returns-clause-turn g c =
    let self = c.args.self.now in
    let bytes = c.args.bytes.now in
    let met = c.match-read_fresh in
    let ready : IsReady c.args.form self bytes met.line.1 met.line.0 met.self =
    elim c.match-read_fresh.branch [
      | in-Some w ↦ rw (w.self-is, w.line-is) (ready_front c.args.form self bytes _ _ w.in-Some.ensures.front w.in-Some.ensures.fresh)
      | in-None+in-Asked w ↦ rw (w.self-is, w.line-is) (ready_found c.args.form self w.find_line-count.new.self bytes _ _
          (subst (λ o. Finds c.args.form self.kept bytes w.find_line-count.result o w.find_line-count.new.self.kept) w.in-Asked.is w.find_line-count.ensures.finds)
          w.find_line-count.ensures.waits w.find_line-count.ensures.gathered)
    ] in
    let turn = c.in_ok-add.ensures.turn c.args.form (subst (All (IsLine c.args.form)) (sym ready.2) c.requires.lines) ready.0 in
    record {
      does = TakesBytes-cut c.args.form g.D.Desk.gives _ _ bytes met.line.1 (Whole (spelling met.line.0) ∷ [])
          (subst (IsCut self.kept bytes met.line.1 (Whole (spelling met.line.0) ∷ [])) (sym c.add.ensures.kept) ready.1)
          (Replied-found c.args.form g.D.Desk.gives _ _ self met.self _ _ _ ready.2 ready.3 turn.does);
      breaks = tt;
      failures = turn.failures;
    }

pub returns-clause-lines : goal.returns-clause-lines
returns-clause-lines g c =
    let self = c.args.self.now in
    let bytes = c.args.bytes.now in
    let met = c.match-read_fresh in
    let ready : IsReady c.args.form self bytes met.line.1 met.line.0 met.self =
    elim c.match-read_fresh.branch [
      | in-Some w ↦ rw (w.self-is, w.line-is) (ready_front c.args.form self bytes _ _ w.in-Some.ensures.front w.in-Some.ensures.fresh)
      | in-None+in-Asked w ↦ rw (w.self-is, w.line-is) (ready_found c.args.form self w.find_line-count.new.self bytes _ _
          (subst (λ o. Finds c.args.form self.kept bytes w.find_line-count.result o w.find_line-count.new.self.kept) w.in-Asked.is w.find_line-count.ensures.finds)
          w.find_line-count.ensures.waits w.find_line-count.ensures.gathered)
    ] in
    c.add.ensures.lines c.args.form (subst (All (IsLine c.args.form)) (sym ready.2) c.requires.lines) ready.0

-- a write failed at the answers to it and to those that waited
pub returns-in_err-add-clause-turn : goal.returns-in_err-add-clause-turn
returns-in_err-add-clause-turn g c =
    let self = c.args.self.now in
    let bytes = c.args.bytes.now in
    let met = c.match-read_fresh in
    let ready : IsReady c.args.form self bytes met.line.1 met.line.0 met.self =
    elim c.match-read_fresh.branch [
      | in-Some w ↦ rw (w.self-is, w.line-is) (ready_front c.args.form self bytes _ _ w.in-Some.ensures.front w.in-Some.ensures.fresh)
      | in-None+in-Asked w ↦ rw (w.self-is, w.line-is) (ready_found c.args.form self w.find_line-count.new.self bytes _ _
          (subst (λ o. Finds c.args.form self.kept bytes w.find_line-count.result o w.find_line-count.new.self.kept) w.in-Asked.is w.find_line-count.ensures.finds)
          w.find_line-count.ensures.waits w.find_line-count.ensures.gathered)
    ] in
    let turn = c.in_err-add.ensures.turn c.args.form (subst (All (IsLine c.args.form)) (sym ready.2) c.requires.lines) ready.0 in
    broke_off _ _ _ _ _ c.from_residual-in_err-add.result c.from_residual-in_err-add.ensures.1
    (BreaksBytes-cut c.args.form g.D.Desk.gives _ _ met.self.kept bytes met.line.1 (Whole (spelling met.line.0)) ready.1
    (inr (Broken-found c.args.form g.D.Desk.gives _ _ self met.self _ _ _ ready.2 ready.3 turn.breaks)))
    turn.failures

-- what the bytes end is refused
pub returns-in-Bad-clause-turn : goal.returns-in-Bad-clause-turn
returns-in-Bad-clause-turn g c =
    let self = c.args.self.now in
    let bytes = c.args.bytes.now in
    let look = c.find_line-count in
    let found = subst (λ o. Finds c.args.form self.kept bytes look.result o look.new.self.kept) c.in-Bad.is look.ensures.finds in
    let turn = c.in_ok-refuse-in-Bad.ensures.turn c.args.form found.1.0
    (subst (All (IsLine c.args.form)) (sym look.ensures.waits) c.requires.lines) found.1.2 in
    record {
      does = TakesBytes-cut c.args.form g.D.Desk.gives _ _ bytes look.result (found.1.0 ∷ [])
          (subst (IsCut self.kept bytes look.result (found.1.0 ∷ [])) (sym c.refuse.ensures.kept)
          (subst (λ (ps : List Piece). IsCut self.kept bytes look.result ps look.new.self.kept) found.1.1 found.2))
          (Replied-found c.args.form g.D.Desk.gives _ _ self look.new.self _ _ _ look.ensures.waits look.ensures.gathered turn.does);
      breaks = tt;
      failures = turn.failures;
    }

-- or a write failed there
pub returns-in_err-refuse-in-Bad-clause-turn : goal.returns-in_err-refuse-in-Bad-clause-turn
returns-in_err-refuse-in-Bad-clause-turn g c =
    let self = c.args.self.now in
    let bytes = c.args.bytes.now in
    let look = c.find_line-count in
    let found = subst (λ o. Finds c.args.form self.kept bytes look.result o look.new.self.kept) c.in-Bad.is look.ensures.finds in
    let turn = c.in_err-refuse-in-Bad.ensures.turn c.args.form found.1.0
    (subst (All (IsLine c.args.form)) (sym look.ensures.waits) c.requires.lines) found.1.2 in
    broke_off _ _ _ _ _ c.from_residual.result c.from_residual.ensures.1
    (BreaksBytes-cut c.args.form g.D.Desk.gives _ _ look.new.self.kept bytes look.result found.1.0
    (subst (λ (ps : List Piece). IsCut self.kept bytes look.result ps look.new.self.kept) found.1.1 found.2)
    (either_found c.args.form g.D.Desk.gives _ _ self look.new.self _ _ _ look.ensures.waits look.ensures.gathered turn.breaks))
    turn.failures

-- they end nothing
pub returns-in-Nothing-clause-turn : goal.returns-in-Nothing-clause-turn
returns-in-Nothing-clause-turn g c =
    let self = c.args.self.now in
    let bytes = c.args.bytes.now in
    let look = c.find_line-count in
    let found = subst (λ o. Finds c.args.form self.kept bytes look.result o look.new.self.kept) c.in-Nothing.is look.ensures.finds in
    record {
      does = TakesBytes-cut c.args.form g.D.Desk.gives _ _ bytes look.result []
          (subst (λ (ps : List Piece). IsCut self.kept bytes look.result ps look.new.self.kept) found.1 found.2)
          (Replied-found c.args.form g.D.Desk.gives _ _ self look.new.self _ _ _ look.ensures.waits look.ensures.gathered
          (Replied-nil c.args.form g.D.Desk.gives _));
      breaks = tt;
      failures = refl;
    }
