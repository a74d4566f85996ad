-- A record that a program takes is one that the program takes when it is raised, and a log is taken over whole.
use Rattle.std.proofs.Common.{◌≡◌, ◌≢◌, ℕ, ◌+◌, ◌≤◌, Bool, true, false, ◌&&◌, ◌||◌, List, [], ◌∷◌, ◌++◌, Contains}
use Rattle.std.proofs.Common.{length, slice_get, take, Option, Some, None, Ok, Err, inl, inr, refl, sym, ap, subst, ◌∙◌, arith}
use Rattle.std.specs.Prelude.{if◌then◌else◌, nat_lt}
use Rattle.std.proofs.lemmas.Bool.Decides.{nat_tests}
use Rattle.std.proofs.lemmas.List.{length-take-le, take_all, take_more}
use Rattle.std.proofs.lemmas.List.Elements.{All-contains}
use Rattle.std.proofs.lemmas.Option.{get_or_from_slice_get, none-some, slice_get_within}
use Rattle.warp_tag.specs.Limits.{has_joint, most_records, wider}
use Rattle.warp_tag.specs.Moment.{Moment, is_before}
use Rattle.warp_tag.specs.declared.form.Form.{Form}
use Rattle.warp_tag.proofs.Forms.{joint_kept, microstep_kept, records_kept}
use Rattle.warp_step.specs.Program.{Program, raised_to, top_of}
use Rattle.warp_step.specs.Events.{is_declared, is_in_time, has_input, owns_input}
use Rattle.warp_record.specs.declared.record.Record.{Record}
use Rattle.warp_record.specs.declared.record.Record.TheVariants.{Event, Withdraw, Announce, Joint}
use Rattle.warp_record.specs.declared.reply.Refusal.{Refusal}
use Rattle.warp_record.specs.declared.reply.Refusal.TheVariants.{NoOrigin, PastStop, NoInput, NotYours, LogFull, NoMemory}
use Rattle.warp_table.specs.Check.{end_of, refusal_of}
use Rattle.warp_table.specs.Log.{EachOnce}
use Rattle.warp_replica.specs.Floor.{comes_behind, floor_after}
use Rattle.warp_replica.specs.Gives.{LacksRoom, Takes, came_in}
use Rattle.warp_replica.specs.Replica.{ReplicaState}
use Rattle.warp_replica.specs.declared.taking.Took.{Took}
use Rattle.warp_replica.specs.declared.taking.Took.TheVariants.{New, Known}
use Rattle.warp_replica.proofs.MergeProgress.{at_contained, others_before}

-- a tag that is in time stays so
still_in_time : (f : Form) (P : Program) (tag : Moment) → is_in_time P tag ≡ true → is_in_time (raised_to f P) tag ≡ true
still_in_time f P tag h = let kept = microstep_kept f P.form in grind (arith, nat_tests)

-- a microstep that is not past the last stays so
not_past : (b : Bool) (m n k : ℕ) → m ≤ n → (b || nat_lt m k) ≡ false → (b || nat_lt n k) ≡ false
not_past true m n k wider h = h
not_past false m n k wider h = grind (arith, nat_tests)

-- of four parts that are looked at in turn the second may become true
event_still : (a b c d more : Bool) → (b ≡ true → more ≡ true)
    → (if a then (if b then (if c then (if d then None else Some NotYours) else Some NoInput) else Some PastStop) else Some NoOrigin) ≡ None
    → (if a then (if more then (if c then (if d then None else Some NotYours) else Some NoInput) else Some PastStop) else Some NoOrigin) ≡ None
event_still true true c d true grows h = h
event_still true true c d false grows h = let never = grows refl in cc
event_still true false c d more grows h = cc
event_still false b c d more grows h = h

-- and of two
name_still : (a b more : Bool) → (b ≡ true → more ≡ true) → (if a then (if b then None else Some PastStop) else Some NoOrigin) ≡ None
    → (if a then (if more then None else Some PastStop) else Some NoOrigin) ≡ None
name_still true true true grows h = h
name_still true true false grows h = let never = grows refl in cc
name_still true false more grows h = cc
name_still false b more grows h = h

-- what stood against an announcement may go
end_still : (a b more : Bool) → (b ≡ false → more ≡ false) → (if a then (if b then Some PastStop else None) else Some NoOrigin) ≡ None
    → (if a then (if more then Some PastStop else None) else Some NoOrigin) ≡ None
end_still true false false goes h = h
end_still true false true goes h = let never = goes refl in cc
end_still true true more goes h = cc
end_still false b more goes h = h

-- and what stood against a joint one, where there may come to be such
joint_still : (a grown b more : Bool) → (a ≡ true → grown ≡ true) → (b ≡ false → more ≡ false)
    → (if a then (if b then Some PastStop else None) else Some NoOrigin) ≡ None
    → (if grown then (if more then Some PastStop else None) else Some NoOrigin) ≡ None
joint_still true true b more grows goes h = end_still true b more goes h
joint_still true false b more grows goes h = let never = grows refl in cc
joint_still false grown b more grows goes h = cc

-- what a program has no reason against, the raised program has none against
pub raised_allows : (f : Form) (P : Program) (said : Record) → refusal_of P said ≡ None → refusal_of (raised_to f P) said ≡ None
raised_allows f P (Event origin tag input value) h =
    event_still (is_declared P origin) (is_in_time P tag) (has_input P input) (owns_input P origin input) (is_in_time (raised_to f P) tag) (still_in_time f P tag) h
raised_allows f P (Withdraw origin tag) h = name_still (is_declared P origin) (is_in_time P tag) (is_in_time (raised_to f P) tag) (still_in_time f P tag) h
raised_allows f P (Announce origin tag events withdrawn) h =
    end_still (is_declared P origin) (is_before (end_of P) tag || nat_lt (top_of P) tag.microstep)
    (is_before (end_of P) tag || nat_lt (top_of (raised_to f P)) tag.microstep)
    (not_past (is_before (end_of P) tag) (top_of P) (top_of (raised_to f P)) tag.microstep (microstep_kept f P.form)) h
raised_allows f P (Joint tag events withdrawn) h =
    joint_still (has_joint P.form) (has_joint (wider f P.form)) (is_before (end_of P) tag || nat_lt (top_of P) tag.microstep)
    (is_before (end_of P) tag || nat_lt (top_of (raised_to f P)) tag.microstep) (joint_kept f P.form)
    (not_past (is_before (end_of P) tag) (top_of P) (top_of (raised_to f P)) tag.microstep (microstep_kept f P.form)) h

-- The first records of another log are there, and no others.
pub record HasFirst (theirs now : List Record) (count : ℕ) : Type 0 where
  pub within : count ≤ length theirs
  pub records : now ≡ take count theirs

-- So many records of the other log are there, and nothing of them is let go of.
pub record TakesOver {T : Type 0} (floor_of : T → Option Moment) (old now : ReplicaState T) (theirs : List Record) (count : ℕ) : Type 0 where
  pub program : now.program ≡ old.program
  pub first : HasFirst theirs now.records count
  pub floor : floor_of now.timeline ≡ None

-- at first there are none
pub first_of_none : (theirs now : List Record) → now ≡ [] → HasFirst theirs now 0
first_of_none theirs now none = record { within = omega arith; records = none }

-- what the old program took fits the raised one
pub fits_raised : (f : Form) (P Q : Program) (said : Record) → Q ≡ raised_to f P → refusal_of P said ≡ None → refusal_of Q said ≡ None
fits_raised f P Q said same fits = subst (λ (R : Program). refusal_of R said ≡ None) (sym same) (raised_allows f P said fits)

goes_at : (old : Option Moment) → old ≡ None → (b : Bool) → (if b then None else old) ≡ None
goes_at old none true = refl
goes_at old none false = none

-- where nothing is behind, a record that was taken leaves it so
pub floor_stays : (old new : Option Moment) (said : Record) (took : Took) → old ≡ None → new ≡ floor_after old said (Ok took) → new ≡ None
floor_stays old new said took none is =
    let goes_none : (b : Bool) → (if b then None else old) ≡ None = goes_at old none in
    is ∙ goes_none (came_in (Ok took) && comes_behind old said)

-- one more that was taken is new
module _ (P : Program) (theirs now next : List Record) (i : ℕ) (said : Record) (far : HasFirst theirs now i) (once : EachOnce theirs)
    (at : slice_get theirs i ≡ Some said) where
  lacks : ¬ Contains now said
  lacks has =
      All-contains (λ (r : Record). r ≢ said) (take i theirs) said (others_before theirs i said once at)
      (subst (λ (l : List Record). Contains l said) far.records has) refl

  pub one_more : (took : Took) → Takes P now said (Ok took) next → HasFirst theirs next (i + 1)
  one_more (New place) taken =
      let within = slice_get_within theirs i said at in
      let more = take_more theirs i said within ∙ ap (λ (r : Record). take i theirs ++ r ∷ []) (get_or_from_slice_get theirs i said said at) in
      record {
        within = omega arith;
        records = taken.3 ∙ ap (λ (l : List Record). l ++ said ∷ []) far.records ∙ sym more;
      }
  one_more (Known place) taken = absurd (lacks (at_contained now place said taken.1))

-- the raised program has room for as many records
pub room_raised : (f : Form) (P Q : Program) (theirs : List Record) → Q ≡ raised_to f P → length theirs ≤ most_records P.form
    → length theirs ≤ most_records Q.form
room_raised f P Q theirs same few =
    let more = records_kept f P.form in
    let wide : most_records Q.form ≡ most_records (wider f P.form) = ap (λ (R : Program). most_records R.form) same in
    omega (arith, few, more, wide)

-- what keeps it out is want of memory, since the log is not full
module _ (P : Program) (theirs now next : List Record) (i : ℕ) (said : Record) (far : HasFirst theirs now i) (once : EachOnce theirs)
    (few : length theirs ≤ most_records P.form) (at : slice_get theirs i ≡ Some said) (fits : refusal_of P said ≡ None) where
  not_full : ¬ (length now ≡ most_records P.form)
  not_full full =
      let within = slice_get_within theirs i said at in
      let long = ap length far.records in
      let short = length-take-le i theirs (omega arith) in
      omega arith

  no_room : (refusal : Refusal) → LacksRoom P.form now refusal → refusal ≡ NoMemory
  no_room NoMemory room = refl
  no_room LogFull room = absurd (not_full room)
  no_room other room = absurd room

  pub no_memory : (refusal : Refusal) → Takes P now said (Err refusal) next → refusal ≡ NoMemory
  no_memory refusal taken = elim taken.0 [
    | inl why ↦ absurd (none-some refusal (sym fits ∙ why))
    | inr room ↦ no_room refusal room.1
  ]

-- where none stands behind them these are all
pub all_first : (theirs now : List Record) (i : ℕ) → HasFirst theirs now i → length theirs ≤ i → now ≡ theirs
all_first theirs now i far all = far.records ∙ take_all i theirs all
