-- each reaction fits, since the program is valid; its own list of wishes is empty before its turn, since it has no other; those
-- that are not marked are not triggered
use Rattle.std.proofs.Common.{◌≡◌, ◌≢◌, ℕ, ◌+◌, ◌≤◌, ◌<◌, Bool, List, [], drop, IsTrue, ap, sym, ◌∙◌, subst, get_or, length, refl, true, false, arith}
use Rattle.std.specs.Prelude.{slice_index_or}
use Rattle.std.specs.List.{list_all}
use Rattle.std.specs.Prelude.{◌&&◌, nat_le, if◌then◌else◌}
use Rattle.std.proofs.lemmas.Bool.{and_parts, eqb-true, leb-true, not-false}
use Rattle.std.proofs.lemmas.List.{at_drop_all, get_or-map, length-map, length-replicate}
use Rattle.arrayvec.specs.ArrayVec.{ArrayVec}
use Rattle.warp_tag.specs.Limits.{most_reactions, most_wishes, widest}
use Rattle.warp_body.specs.Effect.{body_fits, schedules_of, wish_fits}
use Rattle.warp_body.specs.Presence.{places_of, target_fits}
use Rattle.warp_body.specs.Term.{sizes_of}
use Rattle.warp_body.specs.declared.place.Places.{Places}
use Rattle.warp_body.specs.declared.place.Sizes.{Sizes}
use Rattle.warp_body.specs.declared.stmt.Wish.{Wish}
use Rattle.warp_step.specs.declared.react.Wished.{Wished}
use Rattle.warp_step.specs.inner.Flagged.{AreOf}
use Rattle.warp_step.specs.inner.Plan.{Plan, TurnPlan, may_wish, plan_of, ready_turn, rule_numbered, turn_plan, turn_rule}
use Rattle.warp_step.specs.Program.{Program, Rule}
use Rattle.warp_step.specs.Valid.{is_valid, program_places, program_sizes, rule_fits}
use Rattle.warp_step.specs.inner.TriggeredTurn.{IsTriggeredTurn}
use Rattle.warp_step.specs.Step.{Reacting, after_reactions, is_triggered, react}
use Rattle.warp_step.specs.inner.Room.{lists_of}
use Rattle.warp_step.proofs.ReactLemmas.{after_one_more, empty_at, empty_pass, react_other}
use Rattle.warp_step.proofs.SkipLemmas.{skip_reactions}
use Rattle.warp_step.proofs.TurnLemmas.{IsTurn, get_or_same, other_turn, own_order, rule_in_turn, turn_of}
use Rattle.warp_step.proofs.ValidLemmas.{RuleFits, list_all_get, rule_parts, validity}
use Rattle.warp_step.proofs.react.run_reactions.Goals as goal

-- there are as many turns as the order has numbers, and they are few
turns_are : (P : Program) (plan : Plan) → plan ≡ plan_of P → length plan.turns ≡ length P.order
turns_are P plan is = ap (λ (p : Plan). length p.turns) is ∙ length-map P.order (turn_plan P)

few : (P : Program) → IsTrue (is_valid P) → length P.order ≤ 2304
few P valid =
    let limit : length P.reactions ≤ most_reactions widest = (validity P valid).limits.reactions in
    let whole = (own_order P valid).whole in
    omega (arith, limit, whole)

-- a turn that is counted has a number, and its reaction, which fits, is kept for it
record IsKept (P : Program) (turn : ℕ) (kept : TurnPlan) : Type 0 where
  pub mine : IsTurn P turn (get_or P.order turn 0)
  pub is : kept ≡ turn_plan P (get_or P.order turn 0)
  pub may : IsTrue (rule_fits P (rule_numbered P.reactions (get_or P.order turn 0)))

kept_at : (P : Program) (plan : Plan) (turn count : ℕ) (kept : TurnPlan) → IsTrue (is_valid P) → plan ≡ plan_of P → count ≡ length plan.turns → turn < count
    → kept ≡ slice_index_or plan.turns turn kept → IsKept P turn kept
kept_at P plan turn count kept valid is counted lt at =
    let turns = turns_are P plan is in
    let within : turn < length P.order = omega (arith, turns, counted, lt) in
    let mine = turn_of P P.order turn valid refl within in
    record {
      mine = mine;
      is = at ∙ ap (λ (p : Plan). slice_index_or p.turns turn kept) is ∙ get_or-map (turn_plan P) P.order turn 0 kept within;
      may = list_all_get (rule_fits P) P.reactions (get_or P.order turn 0) _ (validity P valid).rules mine.below;
    }

-- a rule that has no wishes schedules nothing
wishless : (P : Program) (rule : Rule) → may_wish P rule ≡ false → schedules_of rule.body ≤ 0
wishless P rule h =
    let fits = not-false (body_fits (program_sizes P) rule.body && nat_le (schedules_of rule.body) 0) h in
    leb-true (schedules_of rule.body) 0 (and_parts (body_fits (program_sizes P) rule.body) (nat_le (schedules_of rule.body) 0) fits).1

-- with one more reaction, whose list alone may have changed
noted : (may : Bool) (number : ℕ) (old new : List (List Wish)) (before after : Wished) → AreOf before old
    → after ≡ (if may then record { count = before.count + 1; last = number } else before) → (may ≡ false → new ≡ old)
    → ((m : ℕ) → m ≢ number → get_or new m [] ≡ get_or old m []) → number < length new → AreOf after new
noted true number old new before after were is same others within = subst (λ (w : Wished). AreOf w new) (sym is) (record {
  none = λ h. absurd (omega (arith, h));
  one = λ h m other. others m other ∙ were.none (omega (arith, h)) m;
  within = λ h. within;
})
noted false number old new before after were is same others within =
    subst (λ (w : Wished). AreOf w new) (sym is) (subst (λ (wss : List (List Wish)). AreOf before wss) (sym (same refl)) were)

counted : (may : Bool) (before after : Wished) (number : ℕ) → after ≡ (if may then record { count = before.count + 1; last = number } else before)
    → after.count ≤ before.count + 1
counted true before after number is = let count = ap (λ (w : Wished). w.count) is in omega (arith, count)
counted false before after number is = let count = ap (λ (w : Wished). w.count) is in omega (arith, count)

pub note-requires : goal.note-requires
note-requires c =
    let many = few c.args.program.now c.valid.ensures in
    let turns = turns_are c.args.program.now c.args.plan.now c.requires.plan in
    omega (arith, many, turns, c.turns.ensures, c.loop-turn-test.true, c.loop-turn.invariant.few)

pub loop-turn-init : goal.loop-turn-init
loop-turn-init c =
    let P = c.args.program.now in
    let start = λ (wss : List (List Wish)). after_reactions P P.order (record { vars = c.args.vars.now; present = c.args.present.now; wishes = wss }) in
    let now : Reacting = record { vars = c.args.vars.now; present = c.args.present.now; wishes = lists_of c.args.wishes.now.items } in
    let skipped = skip_reactions P now c.args.due.now.word c.valid.ensures c.requires.due.reactions 0 c.next-turn.result c.next-turn.ensures.from
    c.next-turn.ensures.between in
    record {
      rest = sym skipped ∙ ap start c.requires.wishes;
      vars = refl;
      places = refl;
      sources = refl;
      bodies = refl;
      room = refl;
      none = λ k h within. ap (λ (wss : List (List Wish)). get_or wss (get_or P.order k 0) []) c.requires.wishes ∙ empty_at (length P.reactions) (get_or P.order k 0);
      wishes = subst (λ (wss : List (List Wish)). IsTrue (list_all (list_all (wish_fits (program_sizes P))) wss))
          (sym c.requires.wishes) (empty_pass (wish_fits (program_sizes P)) (length P.reactions));
      wished = record {
        none = λ h k. ap (λ (wss : List (List Wish)). get_or wss k []) c.requires.wishes ∙ empty_at (length P.reactions) k;
        one = λ h. absurd (omega (arith, h));
        within = λ h. absurd (omega (arith, h));
      };
      few = omega arith;
      due = c.requires.due;
      triggered_turn = λ h. subst (λ (k : ℕ). IsTriggeredTurn P c.args.present.now k) (sym (eqb-true c.next-turn.result c.args.triggered_turn h)) c.requires.triggered_turn;
    }

pub run_reaction-may_wish-requires : goal.run_reaction-may_wish-requires
run_reaction-may_wish-requires c =
    let P = c.args.program.now in
    let turn = c.loop-turn.turn in
    let n = get_or P.order turn 0 in
    let kept = kept_at P c.args.plan.now turn c.turns.result (ready_turn c.reaction-ready.result.now) c.valid.ensures c.requires.plan c.turns.ensures
    c.loop-turn-test.true c.reaction-ready.ensures in
    let rule = rule_numbered P.reactions n in
    let fits : RuleFits P rule = rule_parts P rule kept.may in
    let own = sym kept.is in
    let places : program_places P ≡ places_of c.loop-turn.present = sym (c.loop-turn.invariant.places ∙ c.requires.places) in
    let vars : length P.variables ≡ length c.loop-turn.vars = sym (c.loop-turn.invariant.vars ∙ c.requires.vars) in
    let sizes : program_sizes P ≡ sizes_of c.loop-turn.vars c.loop-turn.present = λ i. record { vars = vars i; places = places i } in
    let lists : length c.loop-turn.wishes.items ≡ length P.reactions =
    c.loop-turn.invariant.bodies ∙ sym (length-map c.args.wishes.now.items (λ (w : ArrayVec Wish). w.items)) ∙ ap length c.requires.wishes ∙ length-replicate (length P.reactions) [] in
    let below = kept.mine.below in
    let same = ap (λ (t : TurnPlan). t.number) kept.is in
    record {
      number = omega (arith, same, below, lists);
      triggered_turn = λ h. ap (λ (t : TurnPlan). is_triggered (turn_rule t) c.loop-turn.present) kept.is
          ∙ c.loop-turn.invariant.triggered_turn h rule (rule_in_turn P turn n kept.mine.within kept.mine.number);
      triggers = subst (λ (t : TurnPlan). IsTrue (list_all (target_fits (places_of c.loop-turn.present)) t.triggers)) own
          (subst (λ (p : Places). IsTrue (list_all (target_fits p) rule.triggers)) places fits.triggers);
      body = subst (λ (t : TurnPlan). IsTrue (body_fits (sizes_of c.loop-turn.vars c.loop-turn.present) t.body)) own
          (subst (λ (s : Sizes). IsTrue (body_fits s rule.body)) sizes fits.body);
      room = subst (λ (t : TurnPlan). schedules_of t.body ≤ most_wishes) own fits.room;
      none = ap (λ (t : TurnPlan). get_or (lists_of c.loop-turn.wishes.items) t.number []) kept.is ∙ c.loop-turn.invariant.none turn (omega arith) kept.mine.within;
      wish = λ h. subst (λ (t : TurnPlan). schedules_of t.body ≤ 0) own (wishless P rule (sym (ap (λ (t : TurnPlan). t.may_wish) kept.is) ∙ h));
    }

pub loop-turn-preserved : goal.loop-turn-preserved
loop-turn-preserved c =
    let P = c.args.program.now in
    let turn = c.loop-turn.turn in
    let n = get_or P.order turn 0 in
    let kept = kept_at P c.args.plan.now turn c.turns.result (ready_turn c.reaction-ready.result.now) c.valid.ensures c.requires.plan c.turns.ensures
    c.loop-turn-test.true c.reaction-ready.ensures in
    let mine = kept.mine in
    let rule = rule_numbered P.reactions n in
    let places : program_places P ≡ places_of c.loop-turn.present = sym (c.loop-turn.invariant.places ∙ c.requires.places) in
    let vars : length P.variables ≡ length c.loop-turn.vars = sym (c.loop-turn.invariant.vars ∙ c.requires.vars) in
    let sizes : program_sizes P ≡ sizes_of c.loop-turn.vars c.loop-turn.present = λ i. record { vars = vars i; places = places i } in
    let own = c.loop-turn.invariant.sources ∙ c.requires.own in
    let ran = c.run_reaction-may_wish in
    let after : Reacting = record { vars = ran.new.vars; present = ran.new.present; wishes = lists_of ran.new.wishes.items } in
    let now : Reacting = record { vars = c.loop-turn.vars; present = c.loop-turn.present; wishes = lists_of c.loop-turn.wishes.items } in
    let effect : after ≡ react n rule now = ran.ensures.effect ∙ ap (λ (t : TurnPlan). react t.number (turn_rule t) now) kept.is in
    let due = ran.ensures.due P rule c.valid.ensures kept.may (sym (ap (λ (t : TurnPlan). t.body) kept.is)) own (ap (λ (t : TurnPlan). t.after) kept.is)
    c.loop-turn.invariant.due in
    let next = c.after-turn in
    let skipped = skip_reactions P after ran.new.due.word c.valid.ensures due.reactions (turn + 1) next.result next.ensures.from next.ensures.between in
    record {
      rest = sym skipped ∙ ap (λ (r : Reacting). after_reactions P (drop (turn + 1) P.order) r) effect
          ∙ sym (after_one_more P turn n rule now mine.within mine.number mine.below (get_or_same P.reactions n _ rule mine.below)) ∙ c.loop-turn.invariant.rest;
      vars = ran.ensures.vars ∙ c.loop-turn.invariant.vars;
      places = ran.ensures.places ∙ c.loop-turn.invariant.places;
      sources = ran.ensures.sources ∙ c.loop-turn.invariant.sources;
      bodies = ran.ensures.bodies ∙ c.loop-turn.invariant.bodies;
      room = ran.ensures.room ∙ c.loop-turn.invariant.room;
      none = λ k h within.
          let later : turn + 1 ≤ next.result = next.ensures.from in
          let past : turn < k = omega (arith, later, h) in
          let before : turn ≤ k = omega (arith, past) in
          let m = get_or P.order k 0 in
          ap (λ (r : Reacting). get_or r.wishes m []) effect
          ∙ react_other n rule now m (other_turn P turn n k c.valid.ensures mine past within) ∙ c.loop-turn.invariant.none k before within;
      wishes = subst (λ (s : Sizes). IsTrue (list_all (list_all (wish_fits s)) (lists_of ran.new.wishes.items))) (sym sizes)
          (ran.ensures.wishes
          (subst (λ (s : Sizes). IsTrue (list_all (list_all (wish_fits s)) (lists_of c.loop-turn.wishes.items))) sizes c.loop-turn.invariant.wishes));
      wished =
          let number = ap (λ (t : TurnPlan). t.number) kept.is in
          let lists : length c.loop-turn.wishes.items ≡ length P.reactions =
          c.loop-turn.invariant.bodies ∙ sym (length-map c.args.wishes.now.items (λ (w : ArrayVec Wish). w.items)) ∙ ap length c.requires.wishes ∙ length-replicate (length P.reactions) [] in
          let all = length-map ran.new.wishes.items (λ (w : ArrayVec Wish). w.items) in
          noted ran.result c.reaction-ready.result.now.number (lists_of c.loop-turn.wishes.items) (lists_of ran.new.wishes.items) c.loop-turn.wished c.note.new.self
          c.loop-turn.invariant.wished c.note.ensures ran.ensures.none
          (λ m other. ap (λ (r : Reacting). get_or r.wishes m []) effect ∙ react_other n rule now m (λ same. other (same ∙ sym number)))
          (omega (arith, number, mine.below, lists, all, ran.ensures.bodies));
      few = omega (arith, counted ran.result c.loop-turn.wished c.note.new.self c.reaction-ready.result.now.number c.note.ensures, c.loop-turn.invariant.few, next.ensures.from);
      due = due;
      triggered_turn = λ h. let no : false ≡ true = h in cc;
    }

pub after-turn-requires : goal.after-turn-requires
after-turn-requires c =
    let many = few c.args.program.now c.valid.ensures in
    let turns = turns_are c.args.program.now c.args.plan.now c.requires.plan in
    omega (arith, many, turns, c.turns.ensures, c.loop-turn-test.true)

pub returns-clause-effect : goal.returns-clause-effect
returns-clause-effect c =
    let P = c.args.program.now in
    let turn = c.loop-turn.turn in
    let now : Reacting = record { vars = c.loop-turn.vars; present = c.loop-turn.present; wishes = lists_of c.loop-turn.wishes.items } in
    let turns = turns_are P c.args.plan.now c.requires.plan in
    let end : length P.order ≤ turn = omega (arith, turns, c.turns.ensures, c.loop-turn-test.false) in
    sym (at_drop_all (λ (ns : List ℕ). after_reactions P ns now) P.order turn end) ∙ c.loop-turn.invariant.rest
