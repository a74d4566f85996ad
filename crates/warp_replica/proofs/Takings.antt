-- How a record is taken: in one way, but that memory may be wanting, and want of memory apart there is a way.
use Rattle.std.proofs.Common.{◌≡◌, ◌≢◌, ◌⊎◌, inl, inr, ℕ, ◌+◌, ◌-◌, ◌<◌, ◌≤◌, Bool, true, false, ◌||◌, nat_lt, List, ◌∷◌, [], ◌++◌}
use Rattle.std.proofs.Common.{length, slice_get, Contains, Option, Some, None, Result, Ok, Err, if◌then◌else◌, refl}
use Rattle.std.proofs.Common.{sym, ap, ◌∙◌, arith}
use Rattle.std.proofs.lemmas.Bool.{both_ways, cases_Bool, cases_lt}
use Rattle.std.proofs.lemmas.Option.{get_or_from_slice_get, slice_get-get_or, slice_get_within}
use Rattle.warp_tag.specs.Limits.{has_joint, most_records}
use Rattle.warp_tag.specs.Moment.{is_before}
use Rattle.warp_tag.specs.declared.form.Form.{Form}
use Rattle.warp_step.specs.Program.{Program, top_of}
use Rattle.warp_step.specs.Events.{is_declared, is_in_time, has_input, owns_input}
use Rattle.warp_record.specs.declared.record.Record.{Record}
use Rattle.warp_record.specs.declared.record.Record.TheVariants.{Event, Withdraw, Announce, Joint}
use Rattle.warp_record.specs.declared.reply.Refusal.{Refusal}
use Rattle.warp_record.specs.declared.reply.Refusal.TheVariants.{Syntax, NoOrigin, PastStop, NoInput, NotYours, NoVar}
use Rattle.warp_record.specs.declared.reply.Refusal.TheVariants.{LogFull, NoMemory, TooLong, Busy, NoBoard}
use Rattle.warp_table.specs.Check.{end_of, refusal_of}
use Rattle.warp_table.specs.Log.{EachOnce, IsAt}
use Rattle.warp_table.specs.Records.{set_of}
use Rattle.warp_table.proofs.Sets.{in_set}
use Rattle.warp_replica.specs.Gives.{IsNew, LacksRoom, Takes}
use Rattle.warp_replica.specs.declared.taking.Took.{Took}
use Rattle.warp_replica.specs.declared.taking.Took.TheVariants.{New, Known}

-- the list has the record that stands at a place
at_contains : (records : List Record) (place : ℕ) (said : Record) → IsAt records place said → Contains records said
at_contains records place said at =
    (place - 1, slice_get_within records (place - 1) said at.1, get_or_from_slice_get records (place - 1) said said at.1)

-- at two places stand two records
apart : (records : List Record) (said : Record) (i j : ℕ) → EachOnce records → slice_get records i ≡ Some said → slice_get records j ≡ Some said → i < j → ⊥
apart records said i j once first second below =
    once i j said below (slice_get_within records j said second)
    (get_or_from_slice_get records i said said first ∙ sym (get_or_from_slice_get records j said said second))

-- where each record stands once, it has one place
one_place : (records : List Record) (said : Record) (p q : ℕ) → EachOnce records → IsAt records p said → IsAt records q said → p ≡ q
one_place records said p q once at_p at_q = elim (cases_lt (p - 1) (q - 1)) [
  | inl below ↦ absurd (apart records said (p - 1) (q - 1) once at_p.1 at_q.1 below)
  | inr past ↦ elim (cases_lt (q - 1) (p - 1)) [
    | inl below ↦ absurd (apart records said (q - 1) (p - 1) once at_q.1 at_p.1 below)
    | inr same ↦ omega (arith, past, same, at_p.0, at_q.0)
  ]
]

-- the program's reasons are none of memory
neither : (test : Bool) (one other : Option Refusal) → one ≢ Some NoMemory → other ≢ Some NoMemory → (if test then one else other) ≢ Some NoMemory
neither true one other h k = h
neither false one other h k = k

no_reason_memory : (P : Program) (said : Record) → refusal_of P said ≢ Some NoMemory
no_reason_memory P (Event origin tag input value) =
    neither (is_declared P origin) _ _
    (neither (is_in_time P tag) _ _
    (neither (has_input P input) _ _
    (neither (owns_input P origin input) _ _ (λ e. cc) (λ e. cc))
    (λ e. cc))
    (λ e. cc))
    (λ e. cc)
no_reason_memory P (Withdraw origin tag) = neither (is_declared P origin) _ _ (neither (is_in_time P tag) _ _ (λ e. cc) (λ e. cc)) (λ e. cc)
no_reason_memory P (Announce origin tag events withdrawn) =
    neither (is_declared P origin) _ _
    (neither (is_before (end_of P) tag || nat_lt (top_of P) tag.microstep) _ _ (λ e. cc) (λ e. cc)) (λ e. cc)
no_reason_memory P (Joint tag events withdrawn) =
    neither (has_joint P.form) _ _
    (neither (is_before (end_of P) tag || nat_lt (top_of P) tag.microstep) _ _ (λ e. cc) (λ e. cc)) (λ e. cc)

-- room is wanting, memory apart, where the log is full
pub full : (f : Form) (records : List Record) (refusal : Refusal) → LacksRoom f records refusal → refusal ≢ NoMemory → (refusal ≡ LogFull) × (length records ≡ most_records f)
full f records LogFull lacks other = (refl, lacks)
full f records NoMemory lacks other = absurd (other refl)
full f records Syntax lacks other = absurd lacks
full f records NoOrigin lacks other = absurd lacks
full f records PastStop lacks other = absurd lacks
full f records NoInput lacks other = absurd lacks
full f records NotYours lacks other = absurd lacks
full f records NoVar lacks other = absurd lacks
full f records TooLong lacks other = absurd lacks
full f records Busy lacks other = absurd lacks
full f records NoBoard lacks other = absurd lacks

-- not taken, for this refusal
abbrev failed : Refusal → Result Took Refusal
failed refusal = Err refusal

-- equal errors have one refusal
failed_is : (a b : Refusal) → failed a ≡ failed b → a ≡ b
failed_is a b same = cc

-- an error that is none of memory has a refusal that is none of memory
not_memory : (refusal : Refusal) → failed refusal ≢ failed NoMemory → refusal ≢ NoMemory
not_memory refusal other same = other (ap failed same)

module _ (P : Program) (records : List Record) (said : Record) where
  -- why it does not come in
  abbrev Refuses : Refusal → Type 0
  Refuses refusal = (refusal_of P said ≡ Some refusal) ⊎ (IsNew P records said × LacksRoom P.form records refusal)

  -- the program has no reason, or one
  no_reason : (refusal : Refusal) → refusal_of P said ≡ None → refusal_of P said ≡ Some refusal → ⊥
  no_reason refusal none reason = let never : None ≡ Some refusal = sym none ∙ reason in cc

  -- a new record of a log with room is refused for want of memory alone
  new_refused : (refusal : Refusal) → IsNew P records said → length records < most_records P.form → Refuses refusal → refusal ≢ NoMemory → ⊥
  new_refused refusal new room (inl reason) other = no_reason refusal new.0 reason
  new_refused refusal new room (inr h) other = let most = (full P.form records refusal h.1 other).1 in omega (arith, room, most)

  -- a known record is not refused
  known_refused : (place : ℕ) (refusal : Refusal) → refusal_of P said ≡ None → IsAt records place said → Refuses refusal → ⊥
  known_refused place refusal none at (inl reason) = no_reason refusal none reason
  known_refused place refusal none at (inr h) = h.0.1 (at_contains records place said at)

  -- nor is it new
  new_known : (place : ℕ) → IsNew P records said → IsAt records place said → ⊥
  new_known place new at = new.1 (at_contains records place said at)

  -- and where it is refused, it is for one reason
  refused_once : (a b : Refusal) → Refuses a → Refuses b → a ≢ NoMemory → b ≢ NoMemory → a ≡ b
  refused_once a b (inl h) (inl k) other_a other_b = let same : Some a ≡ Some b = sym h ∙ k in cc
  refused_once a b (inl h) (inr k) other_a other_b = absurd (no_reason a k.0.0 h)
  refused_once a b (inr h) (inl k) other_a other_b = absurd (no_reason b h.0.0 k)
  refused_once a b (inr h) (inr k) other_a other_b = (full P.form records a h.1 other_a).0 ∙ sym (full P.form records b k.1 other_b).0

  -- a record is taken in one way, but that memory may be wanting
  pub one_taking : (a b : Result Took Refusal) (left right : List Record) → EachOnce records → Takes P records said a left → Takes P records said b right
      → a ≢ Err NoMemory → b ≢ Err NoMemory → (a ≡ b) × (left ≡ right)
  one_taking (Ok (New p)) (Ok (New q)) left right once h k other_a other_b = (ap (λ n. Ok (New n)) (h.2 ∙ sym k.2), h.3 ∙ sym k.3)
  one_taking (Ok (New p)) (Ok (Known q)) left right once h k other_a other_b = absurd (new_known q h.0 k.1)
  one_taking (Ok (New p)) (Err r) left right once h k other_a other_b = absurd (new_refused r h.0 h.1 k.0 (not_memory r other_b))
  one_taking (Ok (Known p)) (Ok (New q)) left right once h k other_a other_b = absurd (new_known p k.0 h.1)
  one_taking (Ok (Known p)) (Ok (Known q)) left right once h k other_a other_b =
      (ap (λ n. Ok (Known n)) (one_place records said p q once h.1 k.1), h.2 ∙ sym k.2)
  one_taking (Ok (Known p)) (Err r) left right once h k other_a other_b = absurd (known_refused p r h.0 h.1 k.0)
  one_taking (Err r) (Ok (New q)) left right once h k other_a other_b = absurd (new_refused r k.0 k.1 h.0 (not_memory r other_a))
  one_taking (Err r) (Ok (Known q)) left right once h k other_a other_b = absurd (known_refused q r k.0 k.1 h.0)
  one_taking (Err r) (Err s) left right once h k other_a other_b =
      (ap Err (refused_once r s h.0 k.0 (not_memory r other_a) (not_memory s other_b)), h.1 ∙ sym k.1)

  -- it may be taken in some way that is not for want of memory
  abbrev Taken : Type 0
  Taken = (a : Result Took Refusal) × (after : List Record) × Takes P records said a after × (a ≢ Err NoMemory)

  -- known in the place where it stands
  taken_known : refusal_of P said ≡ None → Contains records said → Taken
  taken_known none has =
      let same : has.0 + 1 - 1 ≡ has.0 = omega arith in
      let found : slice_get records (has.0 + 1 - 1) ≡ Some said = ap (slice_get records) same ∙ slice_get-get_or records has.0 said has.1 ∙ ap Some has.2 in
      (Ok (Known (has.0 + 1)), records, (none, (omega arith, found), refl), λ e. cc)

  -- new in the last place, or not at all where the log is full
  taken_new : IsNew P records said → length records ≤ most_records P.form → Taken
  taken_new new limit = elim (cases_lt (length records) (most_records P.form)) [
    | inl room ↦ (Ok (New (length records + 1)), records ++ said ∷ [], (new, room, refl, refl), λ e. cc)
    | inr most ↦ (Err LogFull, records, (inr (new, omega (arith, limit, most)), refl), λ e. cc)
  ]

  -- there is a way, want of memory apart
  pub some_taking : length records ≤ most_records P.form → Taken
  some_taking limit = by (refusal_of P said) refl
    where
      by : (reason : Option Refusal) → refusal_of P said ≡ reason → Taken
      by (Some refusal) is = (Err refusal, records, (inl is, refl), λ e. no_reason_memory P said (is ∙ ap Some (failed_is refusal NoMemory e)))
      by None is = elim (cases_Bool (set_of records said)) [
        | inl there ↦ taken_known is ((in_set records said).1 there)
        | inr missing ↦ taken_new (is, λ has. both_ways (set_of records said) missing ((in_set records said).0 has)) limit
      ]
