use Rattle.std.proofs.Common.{◌≡◌, arith, ◌++◌, ◌∷◌, [], ap, ◌∙◌}
use Rattle.std.proofs.lemmas.Bool.Decides.{nat_tests}
use Rattle.std.proofs.lemmas.List.{nil_from_length}
use Rattle.rtrb.specs.Ring.{known_free}
use Rattle.warp_replica.specs.declared.answer.Answer.{Answer}
use Rattle.warp_replica.proofs.AnsweredLines.{answers_line}
use Rattle.warp_lanes.proofs.Publishing.{has_news}
use Rattle.warp_lanes.proofs.Serving.{before_none}
use Rattle.warp_lanes.proofs.engine.serve.Goals as goal

pub returns-clause-turns : goal.returns-clause-turns
returns-clause-turns g c =
    let f = c.is_full.ensures.looked in
    let p = c.in-Ok.ensures in
    let q = c.push_reserved.ensures in
    let none : c.lane.inside.last.items ≡ [] =
    nil_from_length _ (grind (c.if-not-is_empty.false, c.is_empty.ensures, c.lane.inside.last.ok.0, nat_tests, arith)) in
    let answer : Answer = record { len = c.len-len.result; reply = c.ask-reply.result } in (
      c.in-Ok.line,
      answer,
      (
        record {
          answers = answers_line _ _ _ answer _ c.ask-reply.ensures.answered c.len-len.ensures.value c.len-len.ensures.bound;
          settled = c.ask-reply.ensures.settled;
        },
        rw (← c.lane.view_is)
            (λ i. record {
              lane = (
                record { words = p.ring.0.0 i; slots = p.ring.0.1 i; names = p.ring.0.2 i },
                record { words = (q.ring.0.0 ∙ f.0.0.0) i; slots = (q.ring.0.1 ∙ f.0.0.1) i; names = (q.ring.0.2 ∙ f.0.0.2) i },
              );
              commands = p.ok.0 i;
              answers = before_none _ _ _ (answer ∷ []) none (q.sent.0 ∙ ap (λ l. l ++ answer ∷ []) f.1) i;
              free = known_free c.push_reserved.new.self;
            }),
      ),
    )

pub returns-clause-news : goal.returns-clause-news
returns-clause-news g c = rw c.news.ensures (has_news _ _ _ _ _ c.ask-reply.ensures.answered.gives)
