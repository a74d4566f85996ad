-- Whom a reaction's body concerns: those that heed a port that the reaction writes.
use Rattle.std.proofs.Common.{◌≡◌, inl, inr, ℕ, Bool, true, false, ◌&&◌, List, [], ◌∷◌, IsTrue, filter, is_some, if◌then◌else◌, refl, sym, ap, ◌∙◌}
use Rattle.std.specs.List.{list_any}
use Rattle.std.proofs.lemmas.Bool.{cases_Bool, or_cases, or_left, or_right, and_parts}
use Rattle.warp_body.specs.Presence.{Presence, is_target, present_at}
use Rattle.warp_body.specs.Effect.{Statement, SetVariable, PutOutput, ScheduleAction, Choose, SetCell, Repeat, Body, Done, Then, Effect, effect_of, effect_of_one, holds}
use Rattle.warp_body.specs.Term.{is_true, value_of}
use Rattle.warp_body.specs.declared.place.Target.{Target}
use Rattle.warp_body.proofs.Turns.{turns_keep}
use Rattle.warp_body.specs.declared.place.Target.TheVariants as to
use Rattle.warp_step.specs.inner.Plan.{heeds, heeds_any, is_port}
use Rattle.warp_step.specs.Program.{Program, Rule}
use Rattle.warp_step.specs.Valid.{body_may, names, rule_fits, statement_may, term_may}
use Rattle.warp_step.proofs.DueLemmas.{Follows, or_false, triggers_stay}
use Rattle.warp_step.proofs.ValidLemmas.{same_target}

-- what holds of both branches of a choice holds of it
pub of_both : (Q : Effect → Type 0) (b : Bool) (x y : Effect) → Q x → Q y → Q (if b then x else y)
of_both Q true x y h k = h
of_both Q false x y h k = k

-- statements and bodies leave the sources of ports
mutual
  pub statement_sources : (s : Statement) (now : Effect) → (effect_of_one s now).present.sources ≡ now.present.sources
  statement_sources (SetVariable k e) now = refl
  statement_sources (PutOutput port e) now = refl
  statement_sources (ScheduleAction action delay e) now = refl
  statement_sources (Choose e first second) now =
      of_both (λ (done : Effect). done.present.sources ≡ now.present.sources) (is_true (value_of e now.vars now.present))
      (effect_of first now) (effect_of second now) (body_sources first now) (body_sources second now)
  statement_sources (SetCell first count index e) now = refl
  statement_sources (Repeat most e body) now =
      turns_keep (λ (x : Effect). x.present.sources ≡ now.present.sources) (holds e) (effect_of body) (λ x h. body_sources body x ∙ h) most now refl

  pub body_sources : (b : Body) (now : Effect) → (effect_of b now).present.sources ≡ now.present.sources
  body_sources Done now = refl
  body_sources (Then s rest) now = body_sources rest (effect_of_one s now) ∙ statement_sources s now

-- a port that is named among targets is named among their ports
port_named : (targets : List Target) (port : ℕ) → IsTrue (names targets (to.Port port)) → IsTrue (names (filter is_port targets) (to.Port port))
port_named [] port h = h
port_named (to.Startup ∷ ts) port h = port_named ts port h
port_named ((to.Timer n) ∷ ts) port h = port_named ts port h
port_named ((to.Action n) ∷ ts) port h = port_named ts port h
port_named ((to.Port n) ∷ ts) port h = elim (or_cases (is_target (to.Port port) (to.Port n)) (names ts (to.Port port)) h) [
  | inl here ↦ or_left (is_target (to.Port port) (to.Port n)) (names (filter is_port ts) (to.Port port)) here
  | inr there ↦ or_right (is_target (to.Port port) (to.Port n)) (names (filter is_port ts) (to.Port port)) (port_named ts port there)
]

-- where none of the places is heeded, none that is named among them is
unheeded : (sources : List ℕ) (triggers places : List Target) (place : Target) → heeds_any sources triggers places ≡ false
    → IsTrue (names places place) → heeds sources triggers place ≡ false
unheeded sources triggers [] place none named = let no : false ≡ true = named in cc
unheeded sources triggers (t ∷ ts) place none named =
    let both = or_false (heeds sources triggers t) (heeds_any sources triggers ts) none in
    elim (or_cases (is_target place t) (list_any (is_target place) ts) named) [
      | inl here ↦ ap (heeds sources triggers) (same_target place t here) ∙ both.0
      | inr there ↦ unheeded sources triggers ts place both.1 there
    ]

-- one of the triggers is present
abbrev some_present : List Target → Presence → Bool
some_present triggers present = list_any (λ trigger. is_some (present_at present trigger)) triggers

-- What a reaction's statements and its body do triggers nothing new where none of the ports that the reaction writes is heeded.
module _ (P : Program) (r : Rule) (triggers : List Target) where
  mutual
    statement_same : (s : Statement) (now : Effect) → IsTrue (statement_may P r s) → heeds_any now.present.sources triggers (filter is_port r.writes) ≡ false
        → some_present triggers (effect_of_one s now).present ≡ some_present triggers now.present
    statement_same (SetVariable k e) now may none = refl
    statement_same (PutOutput port e) now may none =
        let both = and_parts (names r.writes (to.Port port)) (term_may P r e) may in
        triggers_stay (to.Port port) (value_of e now.vars now.present) now.present triggers
        (unheeded now.present.sources triggers (filter is_port r.writes) (to.Port port) none (port_named r.writes port both.0))
    statement_same (ScheduleAction action delay e) now may none = refl
    statement_same (Choose e first second) now may none =
        let outer = and_parts (term_may P r e && body_may P r first) (body_may P r second) may in
        let inner = and_parts (term_may P r e) (body_may P r first) outer.0 in
        of_both (λ (done : Effect). some_present triggers done.present ≡ some_present triggers now.present) (is_true (value_of e now.vars now.present))
        (effect_of first now) (effect_of second now) (body_same first now inner.1 none) (body_same second now outer.1 none)
    statement_same (SetCell first count index e) now may none = refl
    statement_same (Repeat most e body) now may none =
        let both = and_parts (term_may P r e) (body_may P r body) may in
        let kept = turns_keep
        (λ (x : Effect). (heeds_any x.present.sources triggers (filter is_port r.writes) ≡ false) × (some_present triggers x.present ≡ some_present triggers now.present))
        (holds e) (effect_of body)
        (λ x h. (ap (λ (sources : List ℕ). heeds_any sources triggers (filter is_port r.writes)) (body_sources body x) ∙ h.0, body_same body x both.1 h.0 ∙ h.1))
        most now (none, refl) in
        kept.1

    body_same : (b : Body) (now : Effect) → IsTrue (body_may P r b) → heeds_any now.present.sources triggers (filter is_port r.writes) ≡ false
        → some_present triggers (effect_of b now).present ≡ some_present triggers now.present
    body_same Done now may none = refl
    body_same (Then s rest) now may none =
        let both = and_parts (statement_may P r s) (body_may P r rest) may in
        let still = ap (λ (sources : List ℕ). heeds_any sources triggers (filter is_port r.writes)) (statement_sources s now) ∙ none in
        body_same rest (effect_of_one s now) both.1 still ∙ statement_same s now both.0 none

-- what a rule's body does it may do
pub body_of_fits : (P : Program) (r : Rule) → IsTrue (rule_fits P r) → IsTrue (body_may P r r.body)
body_of_fits P r h =
    let a = and_parts _ _ h in
    let b = and_parts _ _ a.0 in
    b.1

-- after a reaction's body triggers are present that were so before, or that heed one of the ports that the reaction writes
pub follows_body : (P : Program) (r : Rule) → IsTrue (rule_fits P r) → (now : Effect) → Follows (filter is_port r.writes) now.present (effect_of r.body now).present
follows_body P r fits now = λ triggers h. elim (cases_Bool (heeds_any now.present.sources triggers (filter is_port r.writes))) [
  | inl heeded ↦ inr heeded
  | inr none ↦ inl (sym (body_same P r triggers r.body now (body_of_fits P r fits) none) ∙ h)
]
