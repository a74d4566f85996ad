-- the effect of the statements that are left, from here, is the effect of all, from the start
use Rattle.std.proofs.Common.{◌≡◌, ◌+◌, ◌*◌, ◌≤◌, drop, length, IsTrue}
use Rattle.std.specs.List.{list_all}
use Rattle.warp_body.specs.Presence.{places_of}
use Rattle.warp_body.specs.Term.{sizes_of, term_fits, term_of}
use Rattle.warp_body.specs.Effect.{statements_of, effect_of, schedules_of, body_fits, wish_fits, holds, turns}
use Rattle.warp_body.proofs.stmt.+run_stmt.Given as goal

abbrev pub invariant-run_body-loop-stmt : goal.invariant-run_body-loop-stmt
invariant-run_body-loop-stmt l = record {
  rest : effect_of (statements_of (drop l.stmt-index l.body)) (record { vars = l.vars; present = l.present; wishes = l.wishes.items })
      ≡ effect_of (statements_of l.body) (record { vars = l.fn.vars; present = l.fn.present; wishes = l.fn.wishes.items });
  vars : length l.vars ≡ length l.fn.vars;
  places : places_of l.present ≡ places_of l.fn.present;
  sources : l.present.sources ≡ l.fn.present.sources;
  fits : IsTrue (body_fits (sizes_of l.vars l.present) (statements_of (drop l.stmt-index l.body)));
  room : length l.wishes.items + schedules_of (statements_of (drop l.stmt-index l.body)) ≤ length l.fn.wishes.items + schedules_of (statements_of l.body);
  wishes : IsTrue (list_all (wish_fits (sizes_of l.fn.vars l.fn.present)) l.fn.wishes.items) → IsTrue (list_all (wish_fits (sizes_of l.fn.vars l.fn.present)) l.wishes.items);
}

-- what the turns that are left make, from here, is what all make, from the start
abbrev pub invariant-run_turns-turns : goal.invariant-run_turns-turns
invariant-run_turns-turns l = record {
  rest : turns l.left (holds (term_of l.test)) (effect_of (statements_of l.body)) (record { vars = l.vars; present = l.present; wishes = l.wishes.items })
      ≡ turns l.most (holds (term_of l.test)) (effect_of (statements_of l.body)) (record { vars = l.fn.vars; present = l.fn.present; wishes = l.fn.wishes.items });
  vars : length l.vars ≡ length l.fn.vars;
  places : places_of l.present ≡ places_of l.fn.present;
  sources : l.present.sources ≡ l.fn.present.sources;
  test : IsTrue (term_fits (sizes_of l.vars l.present) (term_of l.test));
  fits : IsTrue (body_fits (sizes_of l.vars l.present) (statements_of l.body));
  room : length l.wishes.items + l.left * schedules_of (statements_of l.body) ≤ length l.fn.wishes.items + l.most * schedules_of (statements_of l.body);
  wishes : IsTrue (list_all (wish_fits (sizes_of l.fn.vars l.fn.present)) l.fn.wishes.items) → IsTrue (list_all (wish_fits (sizes_of l.fn.vars l.fn.present)) l.wishes.items);
}

abbrev pub decreases-run_turns-turns : goal.decreases-run_turns-turns
decreases-run_turns-turns l = l.left
