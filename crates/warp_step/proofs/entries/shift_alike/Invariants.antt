-- so many are put behind the others, and are present
use Rattle.std.proofs.Common.{◌≡◌, ◌+◌, ◌-◌, length, drop}
use Rattle.warp_body.specs.Presence.{places_of}
use Rattle.warp_step.specs.inner.Due.{AreDue}
use Rattle.warp_step.specs.inner.TriggeredTurn.{IsTriggeredTurn}
use Rattle.warp_step.proofs.TogetherLemmas.{Shifted}
use Rattle.warp_step.proofs.entries.shift_alike.Given as goal

abbrev pub invariant-loop-count : goal.invariant-loop-count
invariant-loop-count l = record {
  so_far : Shifted l.program l.tag l.later l.period (drop l.start l.fn.items.items) l.count (drop l.start l.items.items) l.fn.present l.present;
  len : length l.items.items ≡ length l.fn.items.items + l.count;
  places : places_of l.present ≡ places_of l.fn.present;
  sources : l.present.sources ≡ l.fn.present.sources;
  due : AreDue l.program l.fn.present l.fn.due.word → AreDue l.program l.present l.due.word;
  triggered_turn : IsTriggeredTurn l.program l.fn.present l.fn.triggered_turn → IsTriggeredTurn l.program l.present l.triggered_turn;
}

abbrev pub decreases-loop-count : goal.decreases-loop-count
decreases-loop-count l = l.end - l.count
