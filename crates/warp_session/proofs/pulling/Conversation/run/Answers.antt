use Rattle.std.proofs.Common.{◌≡◌, ℕ, ◌+◌, Bool, false, [], ◌∷◌, ◌++◌, length, length-append, Option, Some, None, is_none, ap, refl, subst, sym, ◌∙◌, arith}
use Rattle.warp_record.specs.declared.feed.Fed.{Fed}
use Rattle.warp_session.specs.declared.pulling.PullEnd.TheVariants as end
use Rattle.warp_session.specs.Pull.{Heard, GoesOn, levels_with, question, questions}
use Rattle.warp_session.specs.Stream.{reads_more}
use Rattle.warp_session.specs.inner.Inbox.{pending, waiting}
use Rattle.warp_session.proofs.ReadsLemmas.{reads_more-add, reads_more-none}
use Rattle.warp_session.proofs.PullsLemmas.{more, PullsAll-more, AllGoOn-more, last_levels-more, levels_few, ends_behind, ends_cut, behind_no_end, begun_behind, turns_behind, turns_cut}
use Rattle.warp_session.proofs.WentLemmas.{Talked-moved, Talked-nil, Talked-none, Talked-some, Went-turned, has_asked, has_heard, begun_waiting, turned_none, turned_some}
use Rattle.warp_session.proofs.pulling.Conversation.run.Goals as goal

pub turns-init : goal.turns-init
turns-init g c = record {
  heard = [];
  pulls = (c.requires.started.0, refl);
  talked = Talked-nil c.args.form _ _ _ _ _ c.requires.silent.0 c.requires.silent.1;
  goes = tt;
  levels = c.requires.started.1;
  few = omega (arith, c.requires.started.1);
  count = 0;
  turns = omega (arith, ap waiting c.requires.silent.1);
  counted = reads_more-none _;
  reads_sound = refl;
  writes_sound = refl;
}

pub returns-in-Err-clause-pulls : goal.returns-in-Err-clause-pulls
returns-in-Err-clause-pulls g c =
    let was = c.turns.invariant in
    let e = c.in-Err.ensures in
    let place = c.turns.self.puller in
    let pend = pending c.turns.self.waits place in
    let talked = Talked-moved c.args.form _ _ _ _ _ _ was.heard pend e.front.0 _ _ was.talked e.front.2 in (
      was.heard,
      place,
      1,
      was.pulls,
      ends_cut c.args.quiet was.heard c.in-Err.end was.goes e.cut.0,
      has_heard c.args.form _ _ _ _ was.heard (pend ++ e.front.0) _ c.in-Err.end talked e.end,
      has_asked c.args.form _ _ _ _ was.heard (pend ++ e.front.0) _ c.in-Err.end place 1 talked e.front.1,
      (
        was.count + waiting c.turns.self.waits,
        turns_cut c.args.form c.in-Err.end ((length was.heard + 1) + (was.count + waiting c.turns.self.waits)) e.cut.0 (omega arith)
            (omega (arith, was.turns, c.turns-test.true)),
        c.turn.ensures.reads ∙ ap (reads_more (waiting c.turns.self.waits)) was.counted ∙ reads_more-add was.count (waiting c.turns.self.waits) _,
      ),
    )

-- where a line was cut off, no question waits
flag_false : (fed : Option Fed) (given : Fed) → fed ≡ Some given → false ≡ is_none fed
flag_false None given is = absurd cc
flag_false (Some fed) given is = refl

none_pending : (fed : Option Fed) (given : Fed) (waits : Bool) (place : ℕ) → fed ≡ Some given → waits ≡ is_none fed → pending waits place ≡ []
none_pending None given waits place is flag = absurd cc
none_pending (Some fed) given waits place is flag = ap (λ (b : Bool). pending b place) flag

many_no_end : end.TooManyTurns ≡ end.End → ⊥
many_no_end is = cc

pub returns-clause-pulls : goal.returns-clause-pulls
returns-clause-pulls g c =
    let was = c.turns.invariant in
    let place = c.turns.self.puller in
    let pend = pending c.turns.self.waits place in (
      was.heard,
      place,
      waiting c.turns.self.waits,
      was.pulls,
      was.goes,
      has_heard c.args.form _ _ _ _ was.heard pend _ end.TooManyTurns was.talked (λ is. absurd (many_no_end is)),
      has_asked c.args.form _ _ _ _ was.heard pend _ end.TooManyTurns place (waiting c.turns.self.waits)
          was.talked (begun_waiting c.turns.self.waits place),
      (was.count, omega (arith, was.turns, c.turns-test.false, c.turns.auto._turn-end), was.counted),
    )

pub turns-preserved-in_default : goal.turns-preserved-in_default
turns-preserved-in_default g c =
    let was = c.turns.invariant in
    let t = c.in-Ok.ensures.asked in
    let place = c.turns.self.puller in
    let went = Went-turned _ _ _ _ _ _ was.talked.cut (questions was.heard) (pending c.turns.self.waits place) t.0 (question place)
    c.in-Ok.fed _ t.1 c.turn.new.self.inbox was.talked.went t.2 t.3 t.4 in
    record {
      heard = was.heard;
      pulls = rw c.turn.ensures.puller was.pulls;
      talked = Talked-none c.args.form _ _ _ _ was.talked.cut was.heard c.in-Ok.fed c.turn.new.self.waits place c.turn.new.self.puller
          c.turn.new.self.inbox was.talked.spelled went c.in_default.is c.in-Ok.ensures.waits c.turn.ensures.puller;
      goes = was.goes;
      levels = c.turn.ensures.levels ∙ was.levels;
      few = omega (arith, was.few, c.turn.ensures.levels);
      count = was.count + waiting c.turns.self.waits;
      turns = turned_none was.heard c.turns._turn was.count c.turns.self.waits c.turn.new.self.waits c.in-Ok.fed c.in_default.is
          c.in-Ok.ensures.waits was.turns;
      counted = c.turn.ensures.reads ∙ ap (reads_more (waiting c.turns.self.waits)) was.counted
          ∙ reads_more-add was.count (waiting c.turns.self.waits) _;
      reads_sound = c.in-Ok.ensures.ok.0 ∙ was.reads_sound;
      writes_sound = c.in-Ok.ensures.ok.1 ∙ was.writes_sound;
    }

pub returns-in-Some-end_of-clause-pulls : goal.returns-in-Some-end_of-clause-pulls
returns-in-Some-end_of-clause-pulls g c =
    let was = c.turns.invariant in
    let t = c.in-Ok.ensures.asked in
    let h = c.hear-pulled.ensures in
    let outcome = c.hear-pulled.result in
    let place = c.turns.self.puller in
    let next = c.hear-pulled.new.self.puller in
    let heard = more was.heard place h.pulls.0 outcome in
    let pend = pending c.hear-pulled.new.self.waits next in
    let one : Heard = record { place = place; reply = h.pulls.0; pulled = outcome } in
    let levels = h.levels ∙ ap (λ (n : ℕ). levels_with n outcome) (c.turn.ensures.levels ∙ was.levels) in
    let went = Went-turned _ _ _ _ _ _ was.talked.cut (questions was.heard) (pending c.turns.self.waits place) t.0 (question place)
    c.in-Ok.fed _ t.1 c.turn.new.self.inbox was.talked.went t.2 t.3 t.4 in
    let talked = Talked-some c.args.form _ _ _ _ was.talked.cut was.heard c.in-Ok.fed c.in-Some.fed one c.hear-pulled.new.self.waits next
    c.turn.new.self.inbox c.hear-pulled.new.self.inbox was.talked.spelled went c.in-Some.is h.pulls.1
    (h.others.1 ∙ c.in-Ok.ensures.waits) h.others.0 in
    let turns : c.turns._turn + 1 ≡ (length heard + 0) + (was.count + waiting c.turns.self.waits) =
    turned_some was.heard one c.turns._turn was.count c.turns.self.waits false c.in-Ok.fed c.in-Some.fed c.in-Some.is
    (flag_false c.in-Ok.fed c.in-Some.fed c.in-Some.is) was.turns in (
      heard,
      next,
      0,
      PullsAll-more g.D.Desk.gives _ _ _ 1 place next was.heard h.pulls.0 outcome was.pulls (rw (← c.turn.ensures.puller) h.pulls.2),
      ends_behind c.args.quiet c.hear-pulled.new.self.levels was.heard place h.pulls.0 outcome c.in-Some-end_of.end was.goes levels
          c.in-Some-end_of.ensures.some,
      has_heard c.args.form _ _ _ _ heard pend _ c.in-Some-end_of.end talked
          (λ is. absurd (behind_no_end c.args.quiet c.hear-pulled.new.self.levels outcome c.in-Some-end_of.end c.in-Some-end_of.ensures.some is)),
      has_asked c.args.form _ _ _ _ heard pend _ c.in-Some-end_of.end next 0 talked
          (begun_behind c.args.quiet c.hear-pulled.new.self.levels outcome (question next) pend c.in-Some-end_of.end c.in-Some-end_of.ensures.some
          (none_pending c.in-Ok.fed c.in-Some.fed c.hear-pulled.new.self.waits next c.in-Some.is (h.others.1 ∙ c.in-Ok.ensures.waits))),
      (
        was.count + waiting c.turns.self.waits,
        turns_behind c.args.form c.args.quiet c.hear-pulled.new.self.levels outcome c.in-Some-end_of.end
            ((length heard + 0) + (was.count + waiting c.turns.self.waits)) c.in-Some-end_of.ensures.some
            (omega (arith, length-append was.heard (one ∷ []))) (omega (arith, turns, c.turns-test.true)),
        c.turn.ensures.reads ∙ ap (reads_more (waiting c.turns.self.waits)) was.counted ∙ reads_more-add was.count (waiting c.turns.self.waits) _,
      ),
    )

pub turns-preserved : goal.turns-preserved
turns-preserved g c =
    let was = c.turns.invariant in
    let t = c.in-Ok.ensures.asked in
    let h = c.hear-pulled.ensures in
    let outcome = c.hear-pulled.result in
    let place = c.turns.self.puller in
    let next = c.hear-pulled.new.self.puller in
    let one : Heard = record { place = place; reply = h.pulls.0; pulled = outcome } in
    let levels = h.levels ∙ ap (λ (n : ℕ). levels_with n outcome) (c.turn.ensures.levels ∙ was.levels) in
    let went = Went-turned _ _ _ _ _ _ was.talked.cut (questions was.heard) (pending c.turns.self.waits place) t.0 (question place)
    c.in-Ok.fed _ t.1 c.turn.new.self.inbox was.talked.went t.2 t.3 t.4 in
    record {
      heard = more was.heard place h.pulls.0 outcome;
      pulls = PullsAll-more g.D.Desk.gives _ _ _ 1 place next was.heard h.pulls.0 outcome was.pulls (rw (← c.turn.ensures.puller) h.pulls.2);
      talked = Talked-some c.args.form _ _ _ _ was.talked.cut was.heard c.in-Ok.fed c.in-Some.fed one c.hear-pulled.new.self.waits next
          c.turn.new.self.inbox c.hear-pulled.new.self.inbox was.talked.spelled went c.in-Some.is h.pulls.1
          (h.others.1 ∙ c.in-Ok.ensures.waits) h.others.0;
      goes = AllGoOn-more c.args.quiet 0 was.heard place h.pulls.0 outcome was.goes
          (subst (λ (n : ℕ). GoesOn c.args.quiet n outcome) levels c.in-None.ensures.none);
      levels = levels ∙ sym (last_levels-more 0 was.heard place h.pulls.0 outcome);
      few = levels_few c.hear-pulled.new.self.levels c.turn.new.self.levels c.turns._turn outcome h.levels (rw c.turn.ensures.levels was.few);
      count = was.count + waiting c.turns.self.waits;
      turns = turned_some was.heard one c.turns._turn was.count c.turns.self.waits c.hear-pulled.new.self.waits c.in-Ok.fed c.in-Some.fed
          c.in-Some.is (h.others.1 ∙ c.in-Ok.ensures.waits) was.turns;
      counted = c.turn.ensures.reads ∙ ap (reads_more (waiting c.turns.self.waits)) was.counted
          ∙ reads_more-add was.count (waiting c.turns.self.waits) _;
      reads_sound = c.in-Ok.ensures.ok.0 ∙ was.reads_sound;
      writes_sound = c.in-Ok.ensures.ok.1 ∙ was.writes_sound;
    }
