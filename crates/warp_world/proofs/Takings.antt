-- What a log is once a record was taken: it has the record as its last one where the log takes it in, and else is as before.
use Rattle.std.proofs.Common.{◌≡◌, ◌≢◌, ◌⊎◌, ℕ, ◌+◌, ◌-◌, ◌<◌, ◌≤◌, Bool, true, false, not, ◌&&◌, ◌||◌, nat_lt, List, [], ◌∷◌, ◌++◌, length, slice_get, Option, Some, None, Result, Ok, Err, Contains, if◌then◌else◌, inl, inr, sym, ap, subst, ◌∙◌, refl, true≢false, arith}
use Rattle.std.specs.Option.{is_none}
use Rattle.std.proofs.Math.Bool.{and-false}
use Rattle.std.proofs.lemmas.Bool.{and_from, cases_Bool, le-ltb, lt-ltb, ltb-true}
use Rattle.std.proofs.lemmas.Bool.Decides.{nat_tests}
use Rattle.std.proofs.lemmas.Option.{get_or_from_slice_get, slice_get-get_or, slice_get_within}
use Rattle.warp_tag.specs.Limits.{has_joint, most_records}
use Rattle.warp_tag.specs.Moment.{is_before}
use Rattle.warp_step.specs.Program.{Program, top_of}
use Rattle.warp_step.specs.Events.{is_declared, is_in_time, has_input, owns_input}
use Rattle.warp_record.specs.declared.record.Record.{Record}
use Rattle.warp_record.specs.declared.record.Record.TheVariants.{Event, Withdraw, Announce, Joint}
use Rattle.warp_record.specs.declared.reply.Refusal.{Refusal}
use Rattle.warp_record.specs.declared.reply.Refusal.TheVariants.{NotYours, PastStop, LogFull, NoMemory}
use Rattle.warp_table.specs.Check.{end_of, refusal_of}
use Rattle.warp_table.specs.Log.{IsAt}
use Rattle.warp_table.specs.Records.{set_of}
use Rattle.warp_table.proofs.Sets.{in_set}
use Rattle.warp_record.specs.declared.reply.Reply.TheVariants as tell
use Rattle.warp_replica.specs.Gives.{IsNew, LacksRoom, Takes, told}
use Rattle.warp_replica.proofs.Takings.{full}
use Rattle.warp_replica.specs.declared.taking.Took.{Took}
use Rattle.warp_replica.specs.declared.taking.Took.TheVariants.{New, Known}
use Rattle.warp_world.specs.World.{takes_in}

-- what a log is where its taking in is decided
abbrev pub log_with : Program → List Record → Record → List Record
log_with P log said = if takes_in P log said then log ++ said ∷ [] else log

-- that memory was wanting
abbrev is_memory : Option Refusal → Bool
is_memory (Some NoMemory) = true
is_memory _ = false

either : (b : Bool) (x y : Option Refusal) → is_memory x ≡ false → is_memory y ≡ false → is_memory (if b then x else y) ≡ false
either true x y first second = first
either false x y first second = second

-- it is no reason of a program
no_reason : (P : Program) (said : Record) → is_memory (refusal_of P said) ≡ false
no_reason P (Event origin tag input value) =
    either (is_declared P origin) _ _
    (either (is_in_time P tag) _ _ (either (has_input P input) _ _ (either (owns_input P origin input) None (Some NotYours) refl refl) refl) refl)
    refl
no_reason P (Withdraw origin tag) = either (is_declared P origin) _ _ (either (is_in_time P tag) None (Some PastStop) refl refl) refl
no_reason P (Announce origin tag events withdrawn) =
    either (is_declared P origin) _ _ (either (is_before (end_of P) tag || nat_lt (top_of P) tag.microstep) (Some PastStop) None refl refl) refl
no_reason P (Joint tag events withdrawn) =
    either (has_joint P.form) _ _ (either (is_before (end_of P) tag || nat_lt (top_of P) tag.microstep) (Some PastStop) None refl refl) refl

-- a reason of a program
abbrev some_refusal : Refusal → Option Refusal
some_refusal refusal = Some refusal

-- that a record was refused
abbrev refused : Refusal → Result Took Refusal
refused refusal = Err refusal

module _ (P : Program) (log : List Record) (said : Record) where
  decided : (taken : Bool) → takes_in P log said ≡ taken → log_with P log said ≡ (if taken then log ++ said ∷ [] else log)
  decided taken h = ap (λ b. if b then log ++ said ∷ [] else log) h

  -- a new record of a log with room is taken in
  pub new_in : IsNew P log said → length log < most_records P.form → takes_in P log said ≡ true
  new_in new room =
      let lacks : not (set_of log said) ≡ true = elim (cases_Bool (set_of log said)) [
        | inl there ↦ absurd (new.1 ((in_set log said).1 there))
        | inr missing ↦ ap not missing
      ] in
      and_from (is_none (refusal_of P said)) (not (set_of log said) && nat_lt (length log) (most_records P.form)) (ap (λ o. is_none o) new.0)
      (and_from (not (set_of log said)) (nat_lt (length log) (most_records P.form)) lacks (lt-ltb (length log) (most_records P.form) room))

  -- a known one is not
  pub known_out : (place : ℕ) → IsAt log place said → takes_in P log said ≡ false
  known_out place at =
      let has : Contains log said =
      (place - 1, slice_get_within log (place - 1) said at.1, get_or_from_slice_get log (place - 1) said said at.1) in
      ap (λ b. is_none (refusal_of P said) && (not b && nat_lt (length log) (most_records P.form))) ((in_set log said).0 has)
      ∙ and-false (is_none (refusal_of P said))

  pub taken_ok : (took : Took) (after : List Record) → Takes P log said (Ok took) after → after ≡ log_with P log said
  taken_ok (New place) after h = h.3 ∙ sym (decided true (new_in h.0 h.1))
  taken_ok (Known place) after h = h.2 ∙ sym (decided false (known_out place h.1))

  -- one that is refused for another reason than want of memory is not taken in either
  pub refused_out : (refusal : Refusal) → refusal ≢ NoMemory → (refusal_of P said ≡ Some refusal) ⊎ (IsNew P log said × LacksRoom P.form log refusal)
      → takes_in P log said ≡ false
  refused_out refusal other (inl reason) = ap (λ (o : Option Refusal). is_none o && (not (set_of log said) && nat_lt (length log) (most_records P.form))) reason
  refused_out refusal other (inr lacks) =
      let within : nat_lt (length log) (most_records P.form) ≡ false = le-ltb (length log) (most_records P.form) (omega (arith, (full P.form log refusal lacks.1 other).1)) in
      rw (within, and-false (not (set_of log said))) (and-false (is_none (refusal_of P said)))

  pub taken : (answer : Result Took Refusal) (after : List Record) → answer ≢ Err NoMemory → Takes P log said answer after → after ≡ log_with P log said
  taken (Ok took) after other h = taken_ok took after h
  taken (Err refusal) after other h = h.1 ∙ sym (decided false (refused_out refusal (λ is. other (ap refused is)) h.0))

  -- one for which memory was wanting would have been
  would : (refusal_of P said ≡ Some NoMemory) ⊎ (IsNew P log said × LacksRoom P.form log NoMemory) → takes_in P log said ≡ true
  would (inl reason) = absurd (true≢false (sym (ap is_memory reason) ∙ no_reason P said))
  would (inr lacks) = new_in lacks.0 lacks.1

  pub wanted : (answer : Result Took Refusal) (after : List Record) → answer ≡ Err NoMemory → Takes P log said answer after
      → (takes_in P log said ≡ true) × (after ≡ log)
  wanted answer after is h = let lacks = subst (λ a. Takes P log said a after) is h in (would lacks.0, lacks.1)

  -- it may be taken, or refused for another reason than want of memory, where the log is not longer than it may be
  abbrev MayTake : Type 0
  MayTake =
      (result : Result Took Refusal) × (after : List Record)
      × Takes P log said result after × (told result ≢ tell.Refused NoMemory)

  by_room : refusal_of P said ≡ None → (¬ Contains log said) → length log ≤ most_records P.form → MayTake
  by_room fits new few = elim (cases_Bool (nat_lt (length log) (most_records P.form))) [
    | inl room ↦ (
      Ok (New (length log + 1)),
      log ++ said ∷ [],
      ((fits, new), ltb-true (length log) (most_records P.form) room, refl, refl),
      λ same. let no : ⊥ = cc in no,
    )
    | inr full ↦ (
      Err LogFull,
      log,
      (inr ((fits, new), grind (arith, nat_tests)), refl),
      λ same. let no : ⊥ = cc in no,
    )
  ]

  by_place : refusal_of P said ≡ None → Contains log said → MayTake
  by_place fits there =
      let back : there.0 + 1 - 1 ≡ there.0 = omega arith in
      let at : slice_get log (there.0 + 1 - 1) ≡ Some said =
      ap (slice_get log) back ∙ slice_get-get_or log there.0 said there.1 ∙ ap Some there.2 in
      (Ok (Known (there.0 + 1)), log, (fits, (omega arith, at), refl), λ same. let no : ⊥ = cc in no)

  by_reason : (reason : Option Refusal) → refusal_of P said ≡ reason → length log ≤ most_records P.form → MayTake
  by_reason (Some refusal) is few = (
    Err refusal,
    log,
    (inl is, refl),
    λ same.
        let lacks : refusal ≡ NoMemory = cc in
        true≢false (sym (ap is_memory (is ∙ ap some_refusal lacks)) ∙ no_reason P said),
  )
  by_reason None is few = elim (cases_Bool (set_of log said)) [
    | inl there ↦ by_place is ((in_set log said).1 there)
    | inr missing ↦ by_room is (λ there. true≢false (sym ((in_set log said).0 there) ∙ missing)) few
  ]

  pub may_take : length log ≤ most_records P.form → MayTake
  may_take few = by_reason (refusal_of P said) refl few
