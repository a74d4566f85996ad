use Rattle.warp_replica.specs.declared.answer.Answer.{Answer}
use Rattle.warp_replica.proofs.AnsweredLines.{answers_line}
use Rattle.warp_lanes.proofs.draining.answer_one.Goals as goal

pub returns-clause-made : goal.returns-clause-made
returns-clause-made g c =
    let answer : Answer = record { len = c.len-len.result; reply = c.ask-reply.result } in
    let popped = c.pop_known-line.ensures.received in (
      c.pop_known-line.result,
      answer,
      popped.0,
      popped.1,
      record {
        answers = answers_line _ _ _ answer _ c.ask-reply.ensures.answered c.len-len.ensures.value c.len-len.ensures.bound;
        settled = c.ask-reply.ensures.settled;
      },
      c.keep.ensures.items,
    )
