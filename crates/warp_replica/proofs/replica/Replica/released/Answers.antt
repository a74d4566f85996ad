-- The outputs before the horizon are a front, and the point of the partition is its length.
use Rattle.std.proofs.Common.{rules, ◌<◌, length, take, refl, sym, ap, subst, ◌∙◌}
use Rattle.std.proofs.lemmas.List.Elements.{All-take}
use Rattle.std.proofs.lemmas.List.Sorted.{IsPartitionPoint-from_clause}
use Rattle.warp_tag.specs.Limits.{most_outputs, widest}
use Rattle.warp_tag.specs.declared.out.Out.{Out}
use Rattle.warp_tag.specs.Moment.{is_before}
use Rattle.warp_tag.specs.Table.{live}
use Rattle.warp_step.specs.Run.{outputs_until}
use Rattle.warp_step.proofs.OutputsBefore.{outputs_partitioned, outputs_point}
use Rattle.warp_table.specs.Log.{EachOnce}
use Rattle.warp_table.specs.Records.{set_of}
use Rattle.warp_table.specs.LogNames.{table_of}
use Rattle.warp_replica.specs.Answers.{IsReleased}
use Rattle.warp_replica.proofs.Answering.{few_ports, released_before}
use Rattle.warp_replica.proofs.SomeHorizon.{announced_before}
use Rattle.warp_replica.proofs.replica.Replica.released.Goals as goal

pub returns-clause-released : goal.returns-clause-released
returns-clause-released g c =
    let r = c.self.inside in
    let end = c.horizon-horizon.result in
    let reached = c.horizon-horizon.ensures in
    let events = live (table_of r.table) in
    let once = subst (λ s. EachOnce s.records) (sym c.self.view_is) c.valid.ensures.once in
    let done = c.self.invariant.1.0 in
    let outs = c.outputs-outputs.result.now in
    let stood = c.outputs-outputs.ensures _ c.self.invariant.1.1 in
    let count = c.partition_point-count in
    let parted = outputs_partitioned r.program events done end outs stood.0 stood.1 in
    let point = IsPartitionPoint-from_clause (λ out. is_before out.tag end) _ _ count.ensures.partitioned parted (λ a b f k. search rules) in
    let front = outputs_point r.program events done end outs count.result stood.0 stood.1 count.ensures.bound point in
    subst (λ s. IsReleased s.program (set_of s.records) (take count.result outs)) c.self.view_is
    (released_before r.program r.table done (length r.table) once refl stood.0 (announced_before r.program r.table end reached)
    end (take count.result outs) reached (front.1 ∙ ap (outputs_until end) stood.1))

pub returns-clause-ports : goal.returns-clause-ports
returns-clause-ports g c =
    let r = c.self.inside in
    let outs = c.outputs-outputs.result.now in
    let stood = c.outputs-outputs.ensures _ c.self.invariant.1.1 in
    All-take (λ (out : Out). out.port < most_outputs widest) c.partition_point-count.result outs
    (few_ports r.program (live (table_of r.table)) c.self.invariant.1.0 stood.0 c.valid-2.ensures outs stood.1)
