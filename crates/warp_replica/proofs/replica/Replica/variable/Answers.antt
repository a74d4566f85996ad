use Rattle.std.proofs.Common.{Some, None, slice_get, length, refl, sym, ap, subst, ◌∙◌, rules, w64, FitsSigned}
use Rattle.std.proofs.lemmas.Int.{to_z-of_z}
use Rattle.std.proofs.lemmas.Option.{slice_get_read, slice_get_past}
use Rattle.warp_record.specs.declared.line.Query.TheVariants.{Var}
use Rattle.warp_record.specs.declared.reply.Reply.TheVariants as reply
use Rattle.warp_record.specs.declared.reply.Refusal.TheVariants.{NoVar}
use Rattle.warp_replica.specs.Gives.{GivesQuery}
use Rattle.warp_replica.proofs.Answering.{gives_var}
use Rattle.warp_replica.proofs.SomeHorizon.{announced_to}
use Rattle.warp_replica.proofs.replica.Replica.variable.Goals as goal

pub returns-in-Some-clause-gives : goal.returns-in-Some-clause-gives
returns-in-Some-clause-gives g c =
    let r = c.self.inside in
    let log = c.len-log in
    let done = c.self.invariant.1.0 in
    let stood = c.state.ensures _ c.self.invariant.1.1 in
    let vars = c.vars.ensures ∙ ap (λ s. s.vars) stood.1 in
    let value = c.in-Some.value.now in
    let item = c.in-Some.ensures.lookup in
    let found = slice_get_read c.vars.result.now (length c.vars.result.now) c.args.number value refl item.3.0 item.1 in
    let is = ap (λ l. slice_get l c.args.number) (sym vars) ∙ found in
    let fits : FitsSigned w64 value = search rules in
    rw (to_z-of_z w64 value fits)
    (subst (λ s. GivesQuery s.program s.records (Var c.args.number) (reply.Var log.result value)) c.self.view_is
    (gives_var r.program r.table done log.result log.ensures.once log.ensures.value stood.0
    (announced_to r.program r.table c.valid.ensures) c.args.number (Some value) is))

pub returns-in-None-clause-gives : goal.returns-in-None-clause-gives
returns-in-None-clause-gives g c =
    let r = c.self.inside in
    let log = c.len-log in
    let done = c.self.invariant.1.0 in
    let stood = c.state.ensures _ c.self.invariant.1.1 in
    let vars = c.vars.ensures ∙ ap (λ s. s.vars) stood.1 in
    let item = c.in-None.ensures.lookup in
    let none = slice_get_past c.vars.result.now c.args.number item.3 in
    let is = ap (λ l. slice_get l c.args.number) (sym vars) ∙ none in
    subst (λ s. GivesQuery s.program s.records (Var c.args.number) (reply.Refused NoVar)) c.self.view_is
    (gives_var r.program r.table done log.result log.ensures.once log.ensures.value stood.0
    (announced_to r.program r.table c.valid.ensures) c.args.number None is)
