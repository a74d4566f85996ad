-- outputs are ports of a valid program, and few enough; those that are not marked are not present
use Rattle.std.proofs.Common.{◌≡◌, ℕ, ◌+◌, ◌-◌, ◌<◌, ◌≤◌, ◌++◌, List, [], drop, get_or, nat_lt, length, ap, sym, ◌∙◌, subst, arith}
use Rattle.std.proofs.lemmas.Bool.{ltb-true}
use Rattle.warp_tag.specs.Limits.{most_outputs, widest}
use Rattle.warp_body.specs.Presence.{present_at}
use Rattle.warp_body.specs.declared.place.Places.{Places}
use Rattle.warp_body.specs.declared.place.Target.TheVariants as to
use Rattle.warp_step.specs.inner.Plan.{output_heeds}
use Rattle.warp_step.specs.Step.{outputs_from, with_output}
use Rattle.warp_tag.specs.declared.out.Out.{Out}
use Rattle.warp_step.specs.inner.Due.{AreMarked}
use Rattle.warp_step.proofs.ReactLemmas.{outputs_one_more}
use Rattle.warp_step.proofs.SkipLemmas.{skip_outputs}
use Rattle.warp_step.proofs.ValidLemmas.{list_all_get, outputs_within, validity}
use Rattle.warp_step.proofs.react.put_due_outputs.Goals as goal

pub overflow_cast-number : goal.overflow_cast-number
overflow_cast-number c =
    let few : length c.args.program.now.outputs ≤ most_outputs widest = (validity c.args.program.now c.valid.ensures).limits.outputs in
    let same = ap length c.outputs-ports.ensures in
    omega (arith, few, same, c.loop-mark-test.true)

pub put_output-requires : goal.put_output-requires
put_output-requires c =
    let P = c.args.program.now in
    let n = c.loop-mark.mark - c.first_output-first.result in
    let len : length c.outputs-ports.result.now ≡ length P.outputs = ap length c.outputs-ports.ensures in
    let starts = c.loop-mark.invariant.first in
    let lt : n < length P.outputs = omega (arith, len, starts, c.loop-mark-test.true) in
    let within : get_or P.outputs n 0 < length P.ports =
    ltb-true _ _ (list_all_get (λ k. nat_lt k (length P.ports)) P.outputs n 0 (outputs_within P c.valid.ensures) lt) in
    let here : get_or c.outputs-ports.result.now n 0 ≡ get_or P.outputs n 0 =
    ap (λ (ports : List ℕ). get_or ports n 0) c.outputs-ports.ensures in
    let ports : length c.args.present.now.ports ≡ length P.ports = ap (λ (p : Places). p.ports) c.requires.places in
    let room = c.loop-mark.invariant.room in
    record { port = omega (arith, within, here, ports); room = omega (arith, lt, room) }

pub loop-mark-init : goal.loop-mark-init
loop-mark-init c =
    let P = c.args.program.now in
    let first = c.first_output-first.result in
    let due = subst (λ (at : ℕ). AreMarked output_heeds at P.outputs c.args.present.now c.args.due.word) (sym c.first_output-first.ensures.first) c.requires.due.outputs in
    let len : length c.outputs-ports.result.now ≡ length P.outputs = ap length c.outputs-ports.ensures in
    let skipped = skip_outputs P c.args.tag c.args.present.now c.args.due.word first due first c.next-mark.result (omega arith)
    c.next-mark.ensures.from c.next-mark.ensures.between in
    let none : first - first ≡ 0 = omega arith in
    let outs = λ (k : ℕ). outputs_from k c.args.tag c.args.present.now (drop k P.outputs) in
    record {
      first = c.next-mark.ensures.from;
      rest = ap (λ (more : List Out). c.args.out.now.items ++ more) (sym skipped ∙ ap outs none);
      room = omega (arith, c.requires.room);
      capacity = omega arith;
    }

pub loop-mark-preserved : goal.loop-mark-preserved
loop-mark-preserved c =
    let P = c.args.program.now in
    let first = c.first_output-first.result in
    let due = subst (λ (at : ℕ). AreMarked output_heeds at P.outputs c.args.present.now c.args.due.word) (sym c.first_output-first.ensures.first) c.requires.due.outputs in
    let n = c.loop-mark.mark - c.first_output-first.result in
    let front = c.loop-mark.out.items in
    let t = c.args.tag in
    let present = c.args.present.now in
    let len : length c.outputs-ports.result.now ≡ length P.outputs = ap length c.outputs-ports.ensures in
    let starts = c.loop-mark.invariant.first in
    let lt : n < length P.outputs = omega (arith, len, starts, c.loop-mark-test.true) in
    let next = c.after-mark in
    let skipped = skip_outputs P t present c.args.due.word first due (c.loop-mark.mark + 1) next.result (omega (arith, starts))
    next.ensures.from next.ensures.between in
    let after : c.loop-mark.mark + 1 - c.first_output-first.result ≡ n + 1 = omega (arith, starts) in
    let put = c.put_output.ensures.outputs in
    let room = c.loop-mark.invariant.room in
    let more = c.put_output.ensures.len in
    let kept = c.put_output.ensures.capacity in
    let so_far = c.loop-mark.invariant.capacity in
    let further = next.ensures.from in
    record {
      first = omega (arith, starts, further);
      rest = ap (λ (outs : List Out). c.put_output.new.out.items ++ outs) (sym skipped)
          ∙ ap (λ (k : ℕ). c.put_output.new.out.items ++ outputs_from k t present (drop k P.outputs)) after
          ∙ ap (λ (outs : List Out). outs ++ outputs_from (n + 1) t present (drop (n + 1) P.outputs)) put
          ∙ ap (λ (ports : List ℕ). (front ++ with_output n t (present_at present (to.Port (get_or ports n 0))) []) ++ outputs_from (n + 1) t present (drop (n + 1) P.outputs)) c.outputs-ports.ensures
          ∙ outputs_one_more front n t present P.outputs lt ∙ c.loop-mark.invariant.rest;
      room = omega (arith, starts, room, more, kept, further);
      capacity = omega (arith, kept, so_far);
    }
