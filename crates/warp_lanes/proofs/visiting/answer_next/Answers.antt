use Rattle.warp_replica.specs.declared.answer.Answer.{Answer}
use Rattle.warp_replica.proofs.AnsweredLines.{answers_line}
use Rattle.warp_lanes.proofs.Publishing.{has_news}
use Rattle.warp_lanes.proofs.visiting.answer_next.Goals as goal

pub returns-clause-made : goal.returns-clause-made
returns-clause-made g c =
    let answer : Answer = record { len = c.len-len.result; reply = c.ask_in_batch-reply.result } in
    let popped = c.pop_known-line.ensures.received in (
      c.pop_known-line.result,
      answer,
      popped.0,
      popped.1,
      answers_line _ _ _ answer _ c.ask_in_batch-reply.ensures.answered c.len-len.ensures.value c.len-len.ensures.bound,
      c.push.ensures.items,
    )

pub returns-clause-news : goal.returns-clause-news
returns-clause-news g c = rw c.news.ensures (has_news _ _ _ _ _ c.ask_in_batch-reply.ensures.answered.gives)
