-- what is left arrives on what came so far as all does on the start, whom it concerns is due, and a
-- reaction is sure
use Rattle.std.proofs.Common.{◌≡◌, drop, length, nat_lt, IsTrue}
use Rattle.std.specs.List.{list_all}
use Rattle.warp_body.specs.Presence.{places_of}
use Rattle.warp_step.specs.Step.{arrived}
use Rattle.warp_step.specs.inner.Due.{AreDue}
use Rattle.warp_step.specs.inner.TriggeredTurn.{IsTriggeredTurn}
use Rattle.warp_step.proofs.arrive.arrive.Given as goal

abbrev pub invariant-loop-g : goal.invariant-loop-g
invariant-loop-g l = record {
  rest : arrived l.program (drop l.g-index l.given) l.present ≡ arrived l.program l.given l.fn.present;
  places : places_of l.present ≡ places_of l.fn.present;
  sources : l.present.sources ≡ l.fn.present.sources;
  known : IsTrue (list_all (λ g. nat_lt g.input (length l.program.inputs)) (drop l.g-index l.given));
  due : AreDue l.program l.fn.present l.fn.due.word → AreDue l.program l.present l.due.word;
  triggered_turn : IsTriggeredTurn l.program l.fn.present l.fn.triggered_turn → IsTriggeredTurn l.program l.present l.triggered_turn;
}
