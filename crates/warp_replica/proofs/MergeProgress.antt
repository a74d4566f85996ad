-- How far merging has come: which records of the other log are in.
use Rattle.std.proofs.Common.{◌≡◌, ◌≢◌, ℕ, ◌+◌, ◌-◌, ◌≤◌, ◌<◌, nat_lt, Bool, true, false, cond, not, List, [], ◌∷◌}
use Rattle.std.proofs.Common.{◌++◌, All, Contains, filter, get_or, length, slice_get, take, Some, None, Ok, Err, inl}
use Rattle.std.proofs.Common.{inr, refl, sym, ap, subst, ◌∙◌, arith, append_assoc, length-append}
use Rattle.std.proofs.lemmas.Bool.{cases_Bool, ltb-true}
use Rattle.std.proofs.lemmas.Bool.Decides.{nat_tests}
use Rattle.std.proofs.lemmas.List.{append-nil, get_or-take, length-take, take_all}
use Rattle.std.proofs.lemmas.List.Elements.{All-contains, All-filter, Contains-append_left, Contains-append_cases}
use Rattle.std.proofs.lemmas.List.Elements.{filter_more}
use Rattle.std.proofs.lemmas.Option.{get_or_from_slice_get, none-some, slice_get-get_or, slice_get_within}
use Rattle.warp_tag.specs.declared.form.Form.{Form}
use Rattle.warp_step.specs.Program.{Program}
use Rattle.warp_step.specs.Run.{Row}
use Rattle.warp_record.specs.declared.record.Record.{Record}
use Rattle.warp_record.specs.declared.reply.Refusal.{Refusal}
use Rattle.warp_line.specs.Timeline.{Standing}
use Rattle.warp_table.specs.Check.{refusal_of}
use Rattle.warp_table.specs.Log.{EachOnce, IsAt}
use Rattle.warp_table.specs.Records.{set_of}
use Rattle.warp_replica.specs.Gives.{LacksRoom, Takes, came_in}
use Rattle.warp_replica.specs.Merge.{merged, Merges}
use Rattle.warp_replica.specs.Replica.{ReplicaState, Stands}
use Rattle.warp_replica.specs.declared.taking.Took.{Took}
use Rattle.warp_replica.specs.declared.taking.Took.TheVariants.{New, Known}
use Rattle.warp_table.proofs.Sets.{in_set}

-- the log after one more record of the other: the log before, and the record if the log lacked it at the start
next_record : (mine theirs : List Record) (i : ℕ) (said : Record) (known : Bool) → slice_get theirs i ≡ Some said → set_of mine said ≡ known
    → merged mine (take (i + 1) theirs) ≡ merged mine (take i theirs) ++ cond (not known) (said ∷ []) []
next_record mine theirs i said known at is =
    let p : Record → Bool = λ (r : Record). not (set_of mine r) in
    let front : List Record = filter p (take i theirs) in
    let more = filter_more p theirs i said (slice_get_within theirs i said at) in
    let here = ap (λ (r : Record). front ++ cond (p r) (r ∷ []) []) (get_or_from_slice_get theirs i said said at) in
    let so = ap (λ (b : Bool). front ++ cond (not b) (said ∷ []) []) is in
    ap (λ (l : List Record). mine ++ l) (more ∙ here ∙ so) ∙ sym (append_assoc mine front (cond (not known) (said ∷ []) []))

-- a record that the log lacks by now comes in behind it
next_new : (mine theirs : List Record) (i : ℕ) (said : Record) → slice_get theirs i ≡ Some said → ¬ Contains (merged mine (take i theirs)) said
    → merged mine (take (i + 1) theirs) ≡ merged mine (take i theirs) ++ said ∷ []
next_new mine theirs i said at lacks = elim (cases_Bool (set_of mine said)) [
  | inl there ↦ absurd (lacks (Contains-append_left mine (filter (λ r. not (set_of mine r)) (take i theirs)) said ((in_set mine said).1 there)))
  | inr new ↦ next_record mine theirs i said false at new
]

-- no record before it is the same
pub others_before : (theirs : List Record) (i : ℕ) (said : Record) → EachOnce theirs → slice_get theirs i ≡ Some said → All (λ r. r ≢ said) (take i theirs)
others_before theirs i said once at = λ k d below same.
    let within = slice_get_within theirs i said at in
    let before : k < i = omega (arith, length-take i theirs) in
    once k i d before within (sym (get_or-take i theirs k d before) ∙ same ∙ sym (get_or_from_slice_get theirs i said d at))

-- one that the log has by now was there at the start, and the log stays
next_known : (mine theirs : List Record) (i : ℕ) (said : Record) → EachOnce theirs → slice_get theirs i ≡ Some said
    → Contains (merged mine (take i theirs)) said → merged mine (take (i + 1) theirs) ≡ merged mine (take i theirs)
next_known mine theirs i said once at has =
    let p : Record → Bool = λ (r : Record). not (set_of mine r) in
    let front : List Record = filter p (take i theirs) in
    let others = All-filter p (λ (r : Record). r ≢ said) (take i theirs) (others_before theirs i said once at) in
    elim (Contains-append_cases mine front said has) [
      | inl there ↦ next_record mine theirs i said true at ((in_set mine said).0 there) ∙ append-nil (merged mine (take i theirs))
      | inr later ↦ absurd (All-contains (λ (r : Record). r ≢ said) front said others later refl)
    ]

-- So many records of the other log are in; where none of them came in, nothing else changed.
pub record HasMerged {T : Type 0} (stands_for : T → Standing → Type 0) (is_settled : T → Bool) (old new : ReplicaState T) (theirs : List Record) (count : ℕ) : Type 0 where
  pub within : count ≤ length theirs
  pub program : new.program ≡ old.program
  pub records : new.records ≡ merged old.records (take count theirs)
  pub kept : new.records ≡ old.records → (done : List Row) → Stands stands_for old done → Stands stands_for new done
  pub settled : new.records ≡ old.records → is_settled new.timeline ≡ is_settled old.timeline

-- the record at the place behind so many
pub at_next : (records : List Record) (i : ℕ) (said : Record) → IsAt records (i + 1) said → slice_get records i ≡ Some said
at_next records i said at = let same : i + 1 - 1 ≡ i = omega arith in subst (λ (k : ℕ). slice_get records k ≡ Some said) same at.1

-- where none stands behind so many, these are all
pub at_end : (records : List Record) (i : ℕ) → ((said : Record) → ¬ IsAt records (i + 1) said) → length records ≤ i
at_end [] i none = omega arith
at_end (said ∷ rest) i none = elim (cases_Bool (nat_lt i (length (said ∷ rest)))) [
  | inl within ↦
      let same : i + 1 - 1 ≡ i = omega arith in
      let found = slice_get-get_or (said ∷ rest) i said (ltb-true i (length (said ∷ rest)) within) in
      absurd (none (get_or (said ∷ rest) i said) (omega arith, ap (slice_get (said ∷ rest)) same ∙ found))
  | inr past ↦ grind (arith, nat_tests)
]

-- a record that stands at a place is in the log
pub at_contained : (records : List Record) (place : ℕ) (said : Record) → IsAt records place said → Contains records said
at_contained records place said at =
    (place - 1, slice_get_within records (place - 1) said at.1, get_or_from_slice_get records (place - 1) said said at.1)

-- one more record that was taken, whether it was new or known
module _ {T : Type 0} (stands_for : T → Standing → Type 0) (is_settled : T → Bool) (old now next : ReplicaState T) (theirs : List Record) (i : ℕ) (said : Record)
    (far : HasMerged stands_for is_settled old now theirs i) (once : EachOnce theirs) (at : slice_get theirs i ≡ Some said) (same : next.program ≡ now.program) where
  -- where it was new, the log has grown
  came : next.records ≡ now.records ++ said ∷ [] → ¬ Contains now.records said → HasMerged stands_for is_settled old next theirs (i + 1)
  came more new =
      let mine = old.records in
      let before = subst (λ (l : List Record). ¬ Contains l said) far.records new in
      let within = slice_get_within theirs i said at in
      let now_long = ap length far.records ∙ length-append mine (filter (λ r. not (set_of mine r)) (take i theirs)) in
      let next_long = ap length more ∙ length-append now.records (said ∷ []) in
      let grown : (next.records ≡ mine) → ⊥ = λ stays. let long = ap length stays in omega arith in
      record {
        within = omega arith;
        program = same ∙ far.program;
        records = more ∙ ap (λ (l : List Record). l ++ said ∷ []) far.records ∙ sym (next_new mine theirs i said at before);
        kept = λ stays done h. absurd (grown stays);
        settled = λ stays. absurd (grown stays);
      }

  -- where it was known, nothing has changed
  stayed : next.records ≡ now.records → Contains now.records said
      → ((done : List Row) → Stands stands_for now done → Stands stands_for next done) → is_settled next.timeline ≡ is_settled now.timeline
      → HasMerged stands_for is_settled old next theirs (i + 1)
  stayed stay known kept settled =
      let mine = old.records in
      let before = subst (λ (l : List Record). Contains l said) far.records known in
      let within = slice_get_within theirs i said at in
      record {
        within = omega arith;
        program = same ∙ far.program;
        records = stay ∙ far.records ∙ sym (next_known mine theirs i said once at before);
        kept = λ stays done h. kept done (far.kept (sym stay ∙ stays) done h);
        settled = λ stays. settled ∙ far.settled (sym stay ∙ stays);
      }

  -- however it was taken
  pub goes_on : (P : Program) (took : Took) → Takes P now.records said (Ok took) next.records
      → (came_in (Ok took) ≡ false → (done : List Row) → Stands stands_for now done → Stands stands_for next done)
      → (came_in (Ok took) ≡ false → is_settled next.timeline ≡ is_settled now.timeline)
      → HasMerged stands_for is_settled old next theirs (i + 1)
  goes_on P (New place) taken kept settled = came taken.3 taken.0.1
  goes_on P (Known place) taken kept settled = stayed taken.2 (at_contained now.records place said taken.1) (kept refl) (settled refl)

  -- one that was refused found no room
  pub stops : (P : Program) (refusal : Refusal) → Takes P now.records said (Err refusal) next.records → refusal_of P said ≡ None
      → Merges P.form old.records theirs (Err (i, refusal)) next.records
  stops P refusal taken fits = elim taken.0 [
    | inl why ↦ absurd (none-some refusal (sym fits ∙ why))
    | inr room ↦
        let lacks = subst (λ (l : List Record). ¬ Contains l said) (sym taken.1) room.0.1 in
        ((said, at, lacks), taken.1 ∙ far.records, subst (λ (l : List Record). LacksRoom P.form l refusal) (sym taken.1) room.1)
  ]

-- with all of the other log
pub ends : {T : Type 0} (stands_for : T → Standing → Type 0) (is_settled : T → Bool) (f : Form) (old new : ReplicaState T) (theirs : List Record) (i : ℕ)
    → HasMerged stands_for is_settled old new theirs i → length theirs ≤ i → Merges f old.records theirs (Ok i) new.records
ends stands_for is_settled f old new theirs i far all =
    let whole = take_all i theirs all in
    let within = far.within in
    (omega arith, far.records ∙ ap (merged old.records) whole)
