use Rattle.std.proofs.Common.{refl, arith}
use Rattle.std.proofs.lemmas.List.{length-set}
use Rattle.warp_session.proofs.FetchedLemmas.{fetched_next, fetched_none, fetches_last, level_next}
use Rattle.warp_session.proofs.port_desk.fetch_last.Goals as goal

pub loop-at-init : goal.loop-at-init
loop-at-init g c = record {
  places = refl;
  fetched = fetched_none c.fetch_down_to.new.port c.args.replies.now;
  level = λ some. absurd (omega (arith, some));
}

pub loop-at-preserved : goal.loop-at-preserved
loop-at-preserved g c =
    let was = c.loop-at.invariant in
    let next = c.next_answer.ensures in
    record {
      places = omega (arith, length-set c.loop-at.replies c.loop-at.at c.next_answer.result.reply, was.places);
      fetched = fetched_next _ _ _ c.loop-at.at c.loop-at.replies c.next_answer.result (omega (arith, was.places)) was.fetched next.answer;
      level = λ some. level_next _ _ _ next.answer next.missing;
    }

pub returns-clause-fetched : goal.returns-clause-fetched
returns-clause-fetched g c =
    let was = c.loop-at.invariant in
    fetches_last _ _ _ c.loop-at.replies c.loop-at.at _ c.requires.some (omega (arith, was.places)) was.places c.fetch_down_to.ensures.fetched
    c.fetch_down_to.ensures.missing was.fetched was.level
