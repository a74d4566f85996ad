-- the reactions that are left go on from here as all do from the start, have no wishes yet, and are due where triggered; the
-- next one is triggered where that is sure
use Rattle.std.proofs.Common.{◌≡◌, ℕ, ◌-◌, ◌<◌, ◌≤◌, [], drop, get_or, length, IsTrue, true, vec_capacity}
use Rattle.std.specs.List.{list_all}
use Rattle.warp_body.specs.Effect.{wish_fits}
use Rattle.warp_body.specs.Presence.{places_of}
use Rattle.warp_step.specs.Valid.{program_sizes}
use Rattle.warp_step.specs.Step.{after_reactions, no_wishes}
use Rattle.warp_step.specs.inner.Room.{lists_of}
use Rattle.warp_step.specs.inner.Due.{AreDue}
use Rattle.warp_step.specs.inner.Flagged.{AreOf}
use Rattle.warp_step.specs.inner.TriggeredTurn.{IsTriggeredTurn}
use Rattle.warp_step.proofs.react.run_reactions.Given as goal

abbrev pub invariant-loop-turn : goal.invariant-loop-turn
invariant-loop-turn l = record {
  rest : after_reactions l.program (drop l.turn l.program.order)
      (record { vars = l.vars; present = l.present; wishes = lists_of l.wishes.items })
      ≡ after_reactions l.program l.program.order
      (record { vars = l.fn.vars; present = l.fn.present; wishes = no_wishes l.program });
  vars : length l.vars ≡ length l.fn.vars;
  places : places_of l.present ≡ places_of l.fn.present;
  sources : l.present.sources ≡ l.fn.present.sources;
  bodies : length l.wishes.items ≡ length l.fn.wishes.items;
  room : vec_capacity l.wishes ≡ vec_capacity l.fn.wishes;
  none : (k : ℕ) → l.turn ≤ k → k < length l.program.order → get_or (lists_of l.wishes.items) (get_or l.program.order k 0) [] ≡ [];
  wishes : IsTrue (list_all (list_all (wish_fits (program_sizes l.program))) (lists_of l.wishes.items));
  wished : AreOf l.wished (lists_of l.wishes.items);
  few : l.wished.count ≤ l.turn;
  due : AreDue l.program l.present l.due.word;
  triggered_turn : l.is_known ≡ true → IsTriggeredTurn l.program l.present l.turn;
}

abbrev pub decreases-loop-turn : goal.decreases-loop-turn
decreases-loop-turn l = length l.plan.turns - l.turn
