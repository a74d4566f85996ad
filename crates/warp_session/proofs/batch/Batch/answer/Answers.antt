use Rattle.std.proofs.Common.{◌≡◌, ◌++◌, ◌∙◌, List, OnErr, arith, drop, length-take, subst, take}
use Rattle.std.specs.List.{flat_map}
use Rattle.std.proofs.lemmas.List.{take-append-le, take_all}
use Rattle.warp_record.specs.Reply.{reply_line}
use Rattle.warp_record.specs.declared.reply.Reply.{Reply}
use Rattle.warp_session.specs.Stream.{WritesFront}
use Rattle.warp_session.proofs.Fronts.{err_so}
use Rattle.warp_session.proofs.batch.Batch.answer.Goals as goal

pub returns-clause-front : goal.returns-clause-front
returns-clause-front g c =
    let b = c.self.inside in
    let said = c.ask_all.new.replies in
    let many = length-take b.count b.lines in
    let whole : take b.count (said ++ drop b.count b.replies) ≡ said =
    take-append-le b.count said (drop b.count b.replies) (omega (arith, c.ask_all.ensures.places, many))
    ∙ take_all b.count said (omega (arith, c.ask_all.ensures.places, many)) in
    err_so c.gather_all.result (λ front. (said, rw (← c.self.view_is) c.ask_all.ensures.gives, front))
    (subst (λ (rs : List Reply). OnErr c.gather_all.result
    (WritesFront (g.W.Sink.written c.args.sink.now) (g.W.Sink.written c.gather_all.new.sink) (c.args.outbox.now ++ flat_map reply_line rs)))
    whole c.gather_all.ensures.front)
