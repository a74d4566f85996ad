-- In every world each log has each record once, is not too long, and has only records that were made; and the program takes
-- what was made. Each move keeps that.
use Rattle.std.proofs.Common.{◌≡◌, ℕ, zero, suc, ◌<◌, ◌≤◌, Bool, true, false, not, ◌&&◌, nat_lt, List, [], ◌∷◌, ◌++◌, length, slice_get, Option, Some, None, Contains, if◌then◌else◌, inl, inr, refl, sym, ap, subst, ◌∙◌, arith, length-append}
use Rattle.std.specs.List.{All, fold}
use Rattle.std.specs.Option.{is_none, option_and_then}
use Rattle.std.proofs.lemmas.Bool.{and_parts, both_ways, ltb-true, not-true, or_cases, or_left, or_right}
use Rattle.std.proofs.lemmas.List.Elements.{All-replicate, All-set, All-weaker, Contains-get_or}
use Rattle.std.proofs.lemmas.List.Quantifiers.{all_pairs_push}
use Rattle.std.proofs.lemmas.Option.{get_or_from_slice_get, slice_get_within}
use Rattle.warp_tag.specs.Limits.{most_records}
use Rattle.warp_tag.specs.declared.form.Form.{Form}
use Rattle.warp_step.specs.Program.{Program}
use Rattle.warp_record.specs.declared.record.Record.{Record}
use Rattle.warp_table.specs.Announced.{IsWithin}
use Rattle.warp_table.specs.Check.{refusal_of}
use Rattle.warp_table.specs.Log.{EachOnce}
use Rattle.warp_table.specs.Records.{IsIn, Records, set_of, union}
use Rattle.warp_tag.proofs.Lists.{some_not_none}
use Rattle.warp_table.proofs.Members.{Contains-cases, Contains-here, Contains-nil}
use Rattle.warp_table.proofs.Sets.{in_set, set_append}
use Rattle.warp_replica.specs.Gives.{record_at}
use Rattle.warp_world.specs.World.{World, after_carry, after_make, log_entry, happens, log_of, new_world, takes_in, with_log, world_after}
use Rattle.warp_world.specs.declared.moves.Move.{Move}
use Rattle.warp_world.specs.declared.moves.Move.TheVariants.{Make, Carry, Collect, Settle, Restart}

-- a log as it may be in a form where these records were made
pub record IsSoundLog (f : Form) (made : Records) (log : List Record) : Type 0 where
  pub once : EachOnce log
  pub few : length log ≤ most_records f
  pub within : IsWithin (set_of log) made

-- a world as it may be
pub record IsSound (P : Program) (w : World) : Type 0 where
  pub logs : All (IsSoundLog P.form w.made) w.logs
  pub taken : (said : Record) → IsIn w.made said → refusal_of P said ≡ None

-- why a log takes a record
pub record HasRoomFor (P : Program) (log : List Record) (said : Record) : Type 0 where
  pub fits : refusal_of P said ≡ None
  pub lacks : set_of log said ≡ false
  pub room : length log < most_records P.form

-- an option that has nothing
none_is : {X : Type 0} (o : Option X) → is_none o ≡ true → o ≡ None
none_is None h = refl
none_is (Some x) h = absurd (both_ways false refl h)

pub takes_in_is : (P : Program) (log : List Record) (said : Record) → takes_in P log said ≡ true → HasRoomFor P log said
takes_in_is P log said h =
    let outer = and_parts (is_none (refusal_of P said)) (not (set_of log said) && nat_lt (length log) (most_records P.form)) h in
    let inner = and_parts (not (set_of log said)) (nat_lt (length log) (most_records P.form)) outer.1 in
    record {
      fits = none_is (refusal_of P said) outer.0;
      lacks = not-true (set_of log said) inner.0;
      room = ltb-true (length log) (most_records P.form) inner.1;
    }

-- what holds of each of a list holds of the one at a place
pub All_at : {X : Type 0} (P : X → Type 0) (xs : List X) (i : ℕ) (x : X) → All P xs → slice_get xs i ≡ Some x → P x
All_at P xs i x all at = subst P (get_or_from_slice_get xs i x x at) (all i x (slice_get_within xs i x at))

-- one record is the set of itself
pub only_one : (said other : Record) → IsIn (set_of (said ∷ [])) other → said ≡ other
only_one said other h = elim (Contains-cases said [] other ((in_set (said ∷ []) other).1 h)) [
  | inl same ↦ same
  | inr there ↦ absurd (Contains-nil other there)
]

-- what is in a set, and one more that is in it
pub within_more : (made : Records) (log : List Record) (said : Record) → IsWithin (set_of log) made → IsIn made said
    → IsWithin (set_of (log ++ said ∷ [])) made
within_more made log said within here other h =
    elim (or_cases (set_of log other) (set_of (said ∷ []) other) (sym (ap (λ (S : Records). S other) (set_append log (said ∷ []))) ∙ h)) [
      | inl old ↦ within other old
      | inr new ↦ subst (λ (r : Record). IsIn made r) (only_one said other new) here
    ]

-- a log that takes a record that was made
sound_grown : (P : Program) (made : Records) (log : List Record) (said : Record) → IsSoundLog P.form made log → HasRoomFor P log said → IsIn made said
    → IsSoundLog P.form made (log ++ said ∷ [])
sound_grown P made log said s fits here = record {
  once = all_pairs_push (λ a b. a ≡ b → ⊥) log said s.once (λ k d l same. both_ways (set_of log said) fits.lacks
      ((in_set log said).0 (subst (λ (r : Record). Contains log r) same (Contains-get_or log k d l))));
  few = let size = length-append log (said ∷ []) in let room = fits.room in omega (arith, size, room);
  within = within_more made log said s.within here;
}

-- a log as it was where more was made
sound_wider : (f : Form) (made more : Records) (log : List Record) → IsWithin made more → IsSoundLog f made log → IsSoundLog f more log
sound_wider f made more log wider s = record { once = s.once; few = s.few; within = λ said h. wider said (s.within said h) }

-- an empty log
sound_empty : (f : Form) (made : Records) → IsSoundLog f made []
sound_empty f made = record {
  once = λ i j d lt l. absurd (omega (arith, l));
  few = omega arith;
  within = λ said h. absurd (Contains-nil said ((in_set [] said).1 h));
}

-- the world before the first move is one
pub sound_new : (P : Program) (count : ℕ) → IsSound P (new_world count)
sound_new P count = record {
  logs = All-replicate (IsSoundLog P.form (set_of [])) count [] (sound_empty P.form (set_of []));
  taken = λ said h. absurd (Contains-nil said ((in_set [] said).1 h));
}

-- the world after a record was made at a replica with this log
abbrev with_made : ℕ → Record → List Record → World → World
with_made replica said log w = with_log replica (log ++ said ∷ []) (record w { made = union w.made (set_of (said ∷ [])) })

-- a world of two that one test chooses between
either_world : (P : Program) (test : Bool) (one other : World) → (test ≡ true → IsSound P one) → IsSound P other → IsSound P (if test then one else other)
either_world P true one other h k = h refl
either_world P false one other h k = k

module _ (P : Program) (w : World) (s : IsSound P w) where
  -- a replica has another log
  sound_with : (replica : ℕ) (log : List Record) → IsSoundLog P.form w.made log → IsSound P (with_log replica log w)
  sound_with replica log fair = record { logs = All-set (IsSoundLog P.form w.made) w.logs replica log fair s.logs; taken = s.taken }

  -- the log of a replica
  sound_at : (replica : ℕ) (log : List Record) → log_of w replica ≡ Some log → IsSoundLog P.form w.made log
  sound_at replica log at = All_at (IsSoundLog P.form w.made) w.logs replica log s.logs at

  -- what was made, and one more
  sound_more : (replica : ℕ) (said : Record) (log : List Record) → log_of w replica ≡ Some log → HasRoomFor P log said
      → IsSound P (with_made replica said log w)
  sound_more replica said log at fits =
      let more : Records = union w.made (set_of (said ∷ [])) in
      let wider : IsWithin w.made more = λ other h. or_left (w.made other) (set_of (said ∷ []) other) h in
      let here : IsIn more said = or_right (w.made said) (set_of (said ∷ []) said) ((in_set (said ∷ []) said).0 (Contains-here said [])) in
      record {
        logs = All-set (IsSoundLog P.form more) w.logs replica (log ++ said ∷ [])
            (sound_grown P more log said (sound_wider P.form w.made more log wider (sound_at replica log at)) fits here)
            (All-weaker (IsSoundLog P.form w.made) (IsSoundLog P.form more) (λ old. sound_wider P.form w.made more old wider) w.logs s.logs);
        taken = λ other h. elim (or_cases (w.made other) (set_of (said ∷ []) other) h) [
          | inl old ↦ s.taken other old
          | inr new ↦ subst (λ (r : Record). refusal_of P r ≡ None) (only_one said other new) fits.fits
        ];
      }

  -- a record is made
  sound_make : (replica : ℕ) (said : Record) (log : Option (List Record)) → log_of w replica ≡ log → IsSound P (after_make P replica said w log)
  sound_make replica said None at = s
  sound_make replica said (Some log) at =
      either_world P (takes_in P log said) (with_made replica said log w) w (λ h. sound_more replica said log at (takes_in_is P log said h)) s

  -- a record that was made is carried
  sound_carry : (to : ℕ) (said : Option Record) (log : Option (List Record)) → ((r : Record) → said ≡ Some r → IsIn w.made r) → log_of w to ≡ log
      → IsSound P (after_carry P to w said log)
  sound_carry to None log made at = s
  sound_carry to (Some said) None made at = s
  sound_carry to (Some said) (Some log) made at =
      either_world P (takes_in P log said) (with_log to (log ++ said ∷ []) w) w
      (λ h. sound_with to (log ++ said ∷ []) (sound_grown P w.made log said (sound_at to log at) (takes_in_is P log said h) (made said refl))) s

  -- the record at a place of a log was made
  made_at : (log : List Record) (place : ℕ) (said : Record) → IsSoundLog P.form w.made log → record_at log place ≡ Some said → IsIn w.made said
  made_at log zero said fair at = absurd (some_not_none said (sym at))
  made_at log (suc index) said fair at =
      fair.within said ((in_set log said).0 (index, slice_get_within log index said at, get_or_from_slice_get log index said said at))

  -- and so was the one that a carry finds
  made_entry : (from place : ℕ) (log : Option (List Record)) (said : Record) → log_of w from ≡ log
      → option_and_then (λ l. record_at l place) log ≡ Some said → IsIn w.made said
  made_entry from place None said at found = absurd (some_not_none said (sym found))
  made_entry from place (Some log) said at found = made_at log place said (sound_at from log at) found

  -- each move leaves it one
  pub sound_happens : (m : Move) → IsSound P (happens P w m)
  sound_happens (Make replica said) = sound_make replica said (log_of w replica) refl
  sound_happens (Carry from place to) =
      sound_carry to (log_entry w from place) (log_of w to) (λ said found. made_entry from place (log_of w from) said refl found) refl
  sound_happens (Collect replica) = s
  sound_happens (Settle replica) = s
  sound_happens (Restart replica) = sound_with replica [] (sound_empty P.form w.made)

-- and so do all
pub sound_fold : (P : Program) (w : World) (moves : List Move) → IsSound P w → IsSound P (fold (happens P) w moves)
sound_fold P w [] s = s
sound_fold P w (m ∷ moves) s = sound_fold P (happens P w m) moves (sound_happens P w s m)

pub sound_after : (P : Program) (count : ℕ) (moves : List Move) → IsSound P (world_after P count moves)
sound_after P count moves = sound_fold P (new_world count) moves (sound_new P count)
