-- what the body does is the reaction's effect, and the wishes of the others stay
use Rattle.std.proofs.Common.{◌≡◌, ℕ, List, [], IsTrue, length, filter, ap, sym, ◌∙◌, subst, refl, arith}
use Rattle.std.specs.List.{list_all}
use Rattle.std.specs.Prelude.{slice_set}
use Rattle.std.proofs.lemmas.Bool.{cond-true}
use Rattle.std.proofs.lemmas.List.{get_or-map, map-set, nil_from_length, set-get_or}
use Rattle.arrayvec.specs.ArrayVec.{ArrayVec}
use Rattle.warp_body.specs.Effect.{Body, Effect, effect_of, wish_fits}
use Rattle.warp_body.specs.Term.{sizes_of}
use Rattle.warp_body.specs.declared.stmt.Wish.{Wish}
use Rattle.warp_step.specs.Step.{Reacting, effect_in, is_triggered}
use Rattle.warp_step.specs.inner.Room.{lists_of}
use Rattle.warp_body.specs.Presence.{Presence}
use Rattle.warp_step.specs.inner.Due.{AreDue}
use Rattle.warp_step.specs.inner.Marks.{no_marks}
use Rattle.warp_step.specs.inner.Plan.{is_port, ready_turn, turn_rule}
use Rattle.warp_step.proofs.DueBodies.{follows_body}
use Rattle.warp_step.proofs.DueLemmas.{Marks, due_after, marks_ports}
use Rattle.warp_step.proofs.ReactLemmas.{list_all_set}
use Rattle.warp_step.proofs.ValidLemmas.{rule_parts}
use Rattle.warp_step.proofs.react.run_reaction.Goals as goal

pub returns-then-triggered-clause-effect : goal.returns-then-triggered-clause-effect
returns-then-triggered-clause-effect c =
    let ready = ready_turn c.args.ready.now in
    let rule = turn_rule ready in
    let W = c.args.wishes.now.items in
    let n = ready.number in
    let room = c.index_mut.result.now in
    let vars = c.args.vars.now in
    let present = c.args.present.now in
    let now : Reacting = record { vars = vars; present = present; wishes = lists_of W } in
    let none : room.items ≡ [] =
    ap (λ (w : ArrayVec Wish). w.items) c.index_mut.ensures.value ∙ sym (get_or-map (λ (w : ArrayVec Wish). w.items) W n room [] c.requires.number) ∙ c.requires.none in
    let effect =
    c.run.ensures.effect
    ∙ ap (λ (ws : List Wish). effect_of rule.body (record { vars = vars; present = present; wishes = ws })) none in
    let lists : lists_of (slice_set W n c.run.new.wishes) ≡ slice_set (lists_of W) n (effect_in rule now).wishes =
    map-set (λ (w : ArrayVec Wish). w.items) W n c.run.new.wishes
    ∙ ap (λ (e : Effect). slice_set (lists_of W) n e.wishes) effect in
    let ran = cond-true (is_triggered rule present) (record {
      vars = (effect_in rule now).vars;
      present = (effect_in rule now).present;
      wishes = slice_set (lists_of W) n (effect_in rule now).wishes;
    }) now (sym c.triggered.ensures ∙ c.if-triggered.true) in
    (λ i. record { vars = (effect i).vars; present = (effect i).present; wishes = lists i }) ∙ sym ran

pub returns-then-triggered-clause-wishes : goal.returns-then-triggered-clause-wishes
returns-then-triggered-clause-wishes c = λ all.
    let W = c.args.wishes.now.items in
    let n = (ready_turn c.args.ready.now).number in
    let room = c.index_mut.result.now in
    let fits = wish_fits (sizes_of c.args.vars.now c.args.present.now) in
    let none : [] ≡ room.items =
    sym (ap (λ (w : ArrayVec Wish). w.items) c.index_mut.ensures.value ∙ sym (get_or-map (λ (w : ArrayVec Wish). w.items) W n room [] c.requires.number) ∙ c.requires.none) in
    let own : IsTrue (list_all fits c.run.new.wishes.items) =
    c.run.ensures.wishes (subst (λ (ws : List Wish). IsTrue (list_all fits ws)) none refl) in
    subst (λ (wss : List (List Wish)). IsTrue (list_all (list_all fits) wss))
    (sym (map-set (λ (w : ArrayVec Wish). w.items) W n c.run.new.wishes))
    (list_all_set (list_all fits) (lists_of W) n c.run.new.wishes.items all own)

pub returns-then-triggered-clause-due : goal.returns-then-triggered-clause-due
returns-then-triggered-clause-due c = λ P rule valid fits body own after_is were.
    let room = c.index_mut.result.now in
    let now : Effect = record { vars = c.args.vars.now; present = c.args.present.now; wishes = room.items } in
    let effect =
    c.run.ensures.effect ∙ ap (λ (b : Body). effect_of b now) (sym body) in
    subst (λ (p : Presence). AreDue P p c.add_all.new.self.word) (sym (ap (λ (e : Effect). e.present) effect))
    (due_after P (filter is_port rule.writes) c.args.present.now (effect_of rule.body now).present c.args.due.now.word c.args.ready.now.after.word c.add_all.new.self.word
    own (follows_body P rule fits now)
    (subst (λ (word : ℕ). Marks P (filter is_port rule.writes) word) (sym after_is) (marks_ports P rule.writes no_marks valid (rule_parts P rule fits).writes))
    c.add_all.ensures were)

pub returns-then-triggered-clause-none : goal.returns-then-triggered-clause-none
returns-then-triggered-clause-none c = λ h.
    let W = c.args.wishes.now.items in
    let n = (ready_turn c.args.ready.now).number in
    let room = c.index_mut.result.now in
    let none : room.items ≡ [] =
    ap (λ (w : ArrayVec Wish). w.items) c.index_mut.ensures.value ∙ sym (get_or-map (λ (w : ArrayVec Wish). w.items) W n room [] c.requires.number) ∙ c.requires.none in
    let few = c.requires.wish h in
    let before = ap (λ (ws : List Wish). length ws) none in
    let after : c.run.new.wishes.items ≡ [] = nil_from_length c.run.new.wishes.items (omega (arith, few, before, c.run.ensures.room)) in
    map-set (λ (w : ArrayVec Wish). w.items) W n c.run.new.wishes
    ∙ ap (λ (ws : List Wish). slice_set (lists_of W) n ws) (after ∙ sym c.requires.none)
    ∙ set-get_or (lists_of W) n []
