-- proofs/order/writes_any/Answers.antt
use Rattle.std.proofs.Common.{ap, ◌∙◌}
use Rattle.std.specs.List.{list_any}
use Rattle.warp_body.specs.Presence.{is_target}
use Rattle.warp_body.specs.declared.place.Target.TheVariants.{Port}
use Rattle.warp_prog.proofs.MarkLemmas.{writes-from}
use Rattle.warp_prog.proofs.order.writes_any.Goals as goal

pub returns : goal.returns
returns c =
    c.any_is_one_of.ensures
    ∙ ap (list_any (λ t. list_any (λ p. is_target (Port p) t) c.args.ports.now)) c.deref.ensures.value
    ∙ writes-from c.args.reaction.now.writes.items c.args.ports.now
