-- so many entries are taken as were alike and as turns were made, whom they concern is due, and a reaction is sure
use Rattle.std.proofs.Common.{◌≡◌, ◌+◌}
use Rattle.warp_body.specs.Presence.{places_of}
use Rattle.warp_step.specs.inner.Due.{AreDue}
use Rattle.warp_step.specs.inner.TriggeredTurn.{IsTriggeredTurn}
use Rattle.warp_step.proofs.TakenLemmas.{SoFar}
use Rattle.warp_step.proofs.state.State.take_each.Given as goal

abbrev pub invariant-loop : goal.invariant-loop
invariant-loop l = record {
  so_far : SoFar l.program l.tag l.fn.self (l.count + l.counter) l.self l.fn.present l.present;
  places : places_of l.present ≡ places_of l.fn.present;
  sources : l.present.sources ≡ l.fn.present.sources;
  due : AreDue l.program l.fn.present l.fn.due.word → AreDue l.program l.present l.due.word;
  triggered_turn : IsTriggeredTurn l.program l.fn.present l.fn.triggered_turn → IsTriggeredTurn l.program l.present l.triggered_turn;
}
