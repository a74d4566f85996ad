use Rattle.std.proofs.Common.{subst}
use Rattle.warp_web.specs.Wire.{PassesIn}
use Rattle.warp_web.proofs.WireLemmas.{hear_http, hear_lines, hear_web}
use Rattle.warp_web.proofs.wire.Wire.hear_some.Goals as goal

pub returns-in-Lines-clause-passes : goal.returns-in-Lines-clause-passes
returns-in-Lines-clause-passes c =
    hear_lines c.hear.result c.args.bytes.now c.args.self.now.speech c.begin.new.self.speech c.in-Lines.lines c.hear.new.self c.in_ok-begin.ensures.passes
    c.in-Lines.is c.hear.ensures.carries

pub returns-in-Http-clause-passes : goal.returns-in-Http-clause-passes
returns-in-Http-clause-passes c =
    hear_http c.hear-in-Http.result c.args.bytes.now c.args.self.now.speech c.begin.new.self.speech c.in-Http.http.value c.deref_mut.result.now
    c.hear-in-Http.new.self c.in_ok-begin.ensures.passes (λ p h. subst (PassesIn p) c.in-Http.is h) c.deref_mut.ensures.value c.hear-in-Http.ensures.converses

pub returns-in-Web-clause-passes : goal.returns-in-Web-clause-passes
returns-in-Web-clause-passes c =
    hear_web c.hear-in-Web.result c.args.bytes.now c.args.self.now.speech c.begin.new.self.speech c.in-Web.web.value c.deref_mut-in-Web.result.now
    c.hear-in-Web.new.self c.in_ok-begin.ensures.passes (λ p h. subst (PassesIn p) c.in-Web.is h) c.deref_mut-in-Web.ensures.value c.hear-in-Web.ensures.speaks
