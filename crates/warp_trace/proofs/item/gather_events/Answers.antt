-- the events for the next input that there are events for
use Rattle.std.proofs.Common.{◌≡◌, ◌∙◌, ◌+◌, ◌<◌, ◌++◌, ap, arith, drop, filter, length, map, sym}
use Rattle.std.specs.Prelude.{◌==◌}
use Rattle.warp_tag.specs.Table.{Event, live}
use Rattle.warp_step.specs.declared.parts.ProgramInput.{ProgramInput}
use Rattle.warp_trace.specs.Trace.{came, came_of}
use Rattle.warp_trace.proofs.TraceItems.{came_from, came_next, came_passed, gathered}
use Rattle.warp_trace.proofs.item.gather_events.Goals as goal

pub loop-number-init : goal.loop-number-init
loop-number-init c =
    let P = c.args.program.now in
    let E = live c.args.entries.now in
    let m = c.next_input-number.result in
    let size : length c.inputs.result.now ≡ length P.inputs = ap length c.inputs.ensures in
    let last = c.next_input-number.ensures.end in
    record {
      within = last;
      came = ap (λ l. l ++ came_from m (drop m P.inputs) E) c.clear.ensures.items
          ∙ sym (came_passed E 0 m P.inputs (omega arith) (omega arith) c.next_input-number.ensures.none);
    }

pub loop-number-preserved : goal.loop-number-preserved
loop-number-preserved c =
    let P = c.args.program.now in
    let E = live c.args.entries.now in
    let n = c.loop-number.number in
    let m = c.next_input-number-in-loop-number.result in
    let size : length c.inputs.result.now ≡ length P.inputs = ap length c.inputs.ensures in
    let test = c.loop-number-test.true in
    let last = c.next_input-number-in-loop-number.ensures.end in
    let none : ProgramInput = record { origin = 0; port = 0 } in
    let within : n < length P.inputs = omega arith in
    record {
      within = last;
      came = ap (λ l. c.add_events.new.items.items ++ l)
          (sym (came_passed E (n + 1) m P.inputs c.next_input-number-in-loop-number.ensures.from (omega arith) c.next_input-number-in-loop-number.ensures.none))
          ∙ gathered c.loop-number.items.items (map came_of (filter (λ (e : Event). e.input == n) E)) c.add_events.new.items.items
          (came_from (n + 1) (drop (n + 1) P.inputs) E) (came_from n (drop n P.inputs) E) (came P E) c.in_ok-add_events.ensures
          (came_next E n P.inputs none within) c.loop-number.invariant.came;
    }
