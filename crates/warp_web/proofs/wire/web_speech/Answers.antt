use Rattle.warp_web.specs.Lines.{nothing_passed}
use Rattle.warp_web.proofs.WireLemmas.{web_heard}
use Rattle.warp_web.proofs.wire.web_speech.Goals as goal

pub returns-in-Ok-clause-passes : goal.returns-in-Ok-clause-passes
returns-in-Ok-clause-passes c =
    web_heard c.args.input.now.items c.as_slice.result.now c.in_ok-hear.field-0 c.len.result c.hear.new.self c.in-Ok.web.value c.as_slice.ensures c.len.ensures.value
    c.if-branch-len.false c.in-Ok.ensures.ok (c.in_ok-hear.ensures.speaks nothing_passed c.new-web.ensures)
