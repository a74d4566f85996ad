use Rattle.std.proofs.Common.{Some, None, slice_get, length, refl, sym, ap, subst, ◌∙◌}
use Rattle.std.proofs.lemmas.Option.{slice_get_read, slice_get_past}
use Rattle.warp_record.specs.declared.line.Query.TheVariants.{Output}
use Rattle.warp_record.specs.declared.reply.Reply.TheVariants as reply
use Rattle.warp_replica.specs.Gives.{GivesQuery}
use Rattle.warp_replica.proofs.Answering.{gives_output, few_outputs}
use Rattle.warp_replica.proofs.SomeHorizon.{announced_to}
use Rattle.warp_replica.proofs.replica.Replica.output.Goals as goal

pub returns-in-Some-clause-gives : goal.returns-in-Some-clause-gives
returns-in-Some-clause-gives g c =
    let r = c.self.inside in
    let log = c.len-log in
    let done = c.self.invariant.1.0 in
    let stood = c.outputs.ensures _ c.self.invariant.1.1 in
    let outs = c.outputs.result.now in
    let out = c.in-Some.output.now in
    let item = c.in-Some.ensures.lookup in
    let is = ap (λ l. slice_get l c.args.number) (sym stood.1) ∙ slice_get_read outs (length outs) c.args.number out refl item.3.0 item.1 in
    subst (λ s. GivesQuery s.program s.records (Output c.args.number) (reply.Output log.result out)) c.self.view_is
    (gives_output r.program r.table done log.result log.ensures.once log.ensures.value stood.0
    (announced_to r.program r.table c.valid.ensures) c.args.number (Some out) is)

pub output_in_range-requires : goal.output_in_range-requires
output_in_range-requires g c =
    let r = c.self.inside in
    let done = c.self.invariant.1.0 in
    let stood = c.outputs.ensures _ c.self.invariant.1.1 in
    let outs = c.outputs.result.now in
    let out = c.in-Some.output.now in
    let item = c.in-Some.ensures.lookup in
    let is = ap (λ l. slice_get l c.args.number) (sym stood.1) ∙ slice_get_read outs (length outs) c.args.number out refl item.3.0 item.1 in
    few_outputs r.program _ done stood.0 c.args.number out c.valid.ensures is

pub returns-in-None-clause-gives : goal.returns-in-None-clause-gives
returns-in-None-clause-gives g c =
    let r = c.self.inside in
    let log = c.len-log in
    let done = c.self.invariant.1.0 in
    let stood = c.outputs.ensures _ c.self.invariant.1.1 in
    let none = slice_get_past c.outputs.result.now c.args.number c.in-None.ensures.lookup.3 in
    let is = ap (λ l. slice_get l c.args.number) (sym stood.1) ∙ none in
    subst (λ s. GivesQuery s.program s.records (Output c.args.number) (reply.Nothing log.result)) c.self.view_is
    (gives_output r.program r.table done log.result log.ensures.once log.ensures.value stood.0
    (announced_to r.program r.table c.valid.ensures) c.args.number None is)
