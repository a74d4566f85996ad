-- The event is noted at the place of the name.
use Rattle.std.proofs.Common.{ℤ, ap, ◌∙◌, w64}
use Rattle.std.proofs.lemmas.Int.{to_z-of_z}
use Rattle.warp_tag.specs.Table.{with_event}
use Rattle.warp_tag.proofs.Tables.{with_event_names}
use Rattle.warp_line.proofs.TableLemmas.{noted}
use Rattle.warp_line.proofs.sorted_names.note_event.Goals as goal

pub returns : goal.returns
returns c =
    let made = c.note_event.ensures.entry ∙ ap (λ (v : ℤ). with_event c.args.input v c.index_mut.result.now) (to_z-of_z w64 c.args.value c.ranges.value) in
    let n = noted (with_event c.args.input c.args.value) (with_event_names c.args.input c.args.value) c.args.origin c.args.tag c.args.entries.now.items c.enter_name-at.new.entries.items c.enter_name-at.result
    c.index_mut.result.now c.note_event.new.self c.requires.table c.enter_name-at.ensures.entry c.enter_name-at.ensures.change c.index_mut.ensures.value made in
    record {
      table = n.table;
      ordered = n.ordered;
      same = λ r. n.stays (c.note_event.ensures.same r);
      changes = λ r h. c.note_event.ensures.changes r (n.shows h);
      capacity = c.enter_name-at.ensures.capacity;
    }
