-- the next name adds its event, where it is for the input
use Rattle.std.proofs.Common.{List, [], ◌∷◌, ◌++◌, ◌+◌, drop, filter, map}
use Rattle.std.specs.Prelude.{◌==◌}
use Rattle.warp_tag.specs.Table.{Event, live}
use Rattle.warp_tag.specs.declared.entry.Entry.{Entry}
use Rattle.warp_trace.specs.Trace.{came_of}
use Rattle.warp_trace.specs.declared.item.Item.{Item}
use Rattle.warp_trace.proofs.TraceItems.{events_more, gathered}
use Rattle.warp_trace.proofs.item.add_events.Goals as goal

pub loop-entry-preserved : goal.loop-entry-preserved
loop-entry-preserved c =
    let xs = c.args.entries.now in
    let i = c.loop-entry.entry-index in
    let x = c.entry-item.result in
    let told : List Entry → List Item = λ es. map came_of (filter (λ (e : Event). e.input == c.args.input) (live es)) in
    gathered c.loop-entry.items.items (told (x ∷ [])) c.add_event.new.items.items (told (drop (i + 1) xs)) (told (drop i xs))
    (c.args.items.now.items ++ told xs) c.in_ok-add_event.ensures (events_more c.args.input xs i x c.loop-entry-test.true c.entry-item.is) c.loop-entry.invariant
