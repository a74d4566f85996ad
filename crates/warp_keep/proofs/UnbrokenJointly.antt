-- Where all origins are kept, one record more breaks no joint announcement.
use Rattle.std.proofs.Common.{◌≡◌, ◌⊎◌, inl, inr, ℕ, zero, suc, ◌+◌, ◌<◌, Bool, true, false, Option, Some, None, List, [], ◌∷◌, ◌++◌, All, length, IsTrue, if◌then◌else◌, refl, sym, ap, subst, arith}
use Rattle.std.proofs.lemmas.Bool.{ltb-true}
use Rattle.std.proofs.lemmas.List.{append_assoc, append-nil}
use Rattle.warp_tag.specs.Moment.{Moment, is_before}
use Rattle.warp_step.specs.Events.{is_declared}
use Rattle.warp_step.specs.Program.{Program}
use Rattle.warp_record.specs.Record.{origin_of, tag_of}
use Rattle.warp_record.specs.declared.record.Record.{Record}
use Rattle.warp_record.specs.declared.record.Record.TheVariants.{Event, Withdraw, Announce, Joint}
use Rattle.warp_record.specs.declared.reply.Refusal.{Refusal}
use Rattle.warp_record.specs.declared.reply.Refusal.TheVariants.{NoOrigin}
use Rattle.warp_table.specs.Records.{IsIn, Records, set_of}
use Rattle.warp_table.specs.Joint.{AtLeastNames, IsBrokenJointly, all_events_below, all_withdrawals_below}
use Rattle.warp_table.specs.Check.{refusal_of}
use Rattle.warp_table.proofs.JointCounts.{still_named}
use Rattle.warp_table.proofs.Heard.{IsWithOne, with_one}
use Rattle.warp_table.proofs.Members.{Contains-here}
use Rattle.warp_table.proofs.Sets.{in_set}
use Rattle.std.proofs.lemmas.List.Elements.{All-contains, Contains-append_right}
use Rattle.warp_replica.specs.Release.{AreTaken}
use Rattle.warp_keep.specs.Kept.{AreAllKept, MayCome, NoneBehind, SaysAllJointly, SpeaksOfKept}
use Rattle.warp_keep.proofs.Unbroken.{HasAllBelow, below_same}

-- a joint announcement that says no less than the one set has says no less than the other, of which it has all names before its tag
all_said : (S T : Records) (end : Moment) (events withdrawn : ℕ) → ((origin : ℕ) → HasAllBelow S T origin end) → SaysAllJointly S end events withdrawn → SaysAllJointly T end events withdrawn
all_said S T end events withdrawn has says = record {
  no_more = λ more. says.no_more (still_named (events + 1) (all_events_below T end) (all_events_below S end) (λ name h. (h.0, (h.1.0, (has name.0).events name.1 h.1.0 h.0 h.1.1))) more);
  no_more_withdrawn = λ more. says.no_more_withdrawn (still_named (withdrawn + 1) (all_withdrawals_below T end) (all_withdrawals_below S end) (λ name h. (h.0, (has name.0).withdrawals name.1 h.0 h.1)) more);
  single = λ origin tag before two. says.single origin tag before (two.0, two.1, (has origin).events tag two.0 before two.2, (has origin).events tag two.1 before two.3, two.4);
}

-- one in a set in which none is broken says no less than the set has
says_of : (S : Records) (end : Moment) (events withdrawn : ℕ) → (IsBrokenJointly S → ⊥) → IsIn S (Joint end events withdrawn) → SaysAllJointly S end events withdrawn
says_of S end events withdrawn whole announced = record {
  no_more = λ more. whole (end, events, withdrawn, announced, inl more);
  no_more_withdrawn = λ more. whole (end, events, withdrawn, announced, inr (inl more));
  single = λ origin tag before two. whole (end, events, withdrawn, announced, inr (inr (origin, tag, before, two)));
}

-- and where all say no less none is broken
not_broken : (S : Records) → ((end : Moment) (events withdrawn : ℕ) → IsIn S (Joint end events withdrawn) → SaysAllJointly S end events withdrawn) → IsBrokenJointly S → ⊥
not_broken S says broken =
    let all = says broken.0 broken.1 broken.2 broken.3 in
    elim broken.4 [
      | inl more ↦ all.no_more more
      | inr rest ↦ elim rest [
        | inl more ↦ all.no_more_withdrawn more
        | inr two ↦ all.single two.0 two.1 two.2 two.3
      ]
    ]

-- one more record that may come breaks none
one_more : (S T : Records) (one : Record) → IsWithOne S one T → MayCome S one → (IsBrokenJointly S → ⊥) → IsBrokenJointly T → ⊥
one_more S T (Event o t input value) more may whole = not_broken T says
  where
    says : (end : Moment) (events withdrawn : ℕ) → IsIn T (Joint end events withdrawn) → SaysAllJointly T end events withdrawn
    says end events withdrawn announced = elim ((more.each (Joint end events withdrawn)).0 announced) [
      | inl old ↦ all_said S T end events withdrawn (λ origin. below_same S T (Event o t input value) more origin end
          (λ tag payload before e. may.0 (end, inr (events, withdrawn, old), subst (λ (x : Moment). IsTrue (is_before x end)) (ap tag_of e) before))
          (λ tag before e. cc)) (says_of S end events withdrawn whole old)
      | inr e ↦ cc
    ]
one_more S T (Withdraw o t) more may whole = not_broken T says
  where
    says : (end : Moment) (events withdrawn : ℕ) → IsIn T (Joint end events withdrawn) → SaysAllJointly T end events withdrawn
    says end events withdrawn announced = elim ((more.each (Joint end events withdrawn)).0 announced) [
      | inl old ↦ all_said S T end events withdrawn (λ origin. below_same S T (Withdraw o t) more origin end
          (λ tag payload before e. cc)
          (λ tag before e. may (end, inr (events, withdrawn, old), subst (λ (x : Moment). IsTrue (is_before x end)) (ap tag_of e) before))) (says_of S end events withdrawn whole old)
      | inr e ↦ cc
    ]
one_more S T (Announce o h e w) more may whole = not_broken T says
  where
    says : (end : Moment) (events withdrawn : ℕ) → IsIn T (Joint end events withdrawn) → SaysAllJointly T end events withdrawn
    says end events withdrawn announced = elim ((more.each (Joint end events withdrawn)).0 announced) [
      | inl old ↦ all_said S T end events withdrawn (λ origin. below_same S T (Announce o h e w) more origin end (λ tag payload before e. cc) (λ tag before e. cc)) (says_of S end events withdrawn whole old)
      | inr e ↦ cc
    ]
one_more S T (Joint h e w) more may whole = not_broken T says
  where
    says : (end : Moment) (events withdrawn : ℕ) → IsIn T (Joint end events withdrawn) → SaysAllJointly T end events withdrawn
    says end events withdrawn announced = all_said S T end events withdrawn (λ origin. below_same S T (Joint h e w) more origin end (λ tag payload before e. cc) (λ tag before e. cc)) (elim ((more.each (Joint end events withdrawn)).0 announced) [
      | inl old ↦ says_of S end events withdrawn whole old
      | inr e ↦ subst (λ (r : Record). MayCome S r) (sym e) may
    ])

-- the origin of a record against which a program has no reason is one of the program's
declared : (P : Program) (origin : ℕ) (rest : Option Refusal) → (if is_declared P origin then rest else Some NoOrigin) ≡ None → origin < P.origins
declared P origin rest h = ltb-true origin P.origins (first (is_declared P origin) h)
  where
    first : (b : Bool) → (if b then rest else Some NoOrigin) ≡ None → b ≡ true
    first true e = refl
    first false e = cc

pub declared_own : (P : Program) (origin : ℕ) (said : Record) → origin_of said ≡ Some origin → refusal_of P said ≡ None → origin < P.origins
declared_own P origin (Event o t input value) own taken = let is : o ≡ origin = cc in subst (λ (x : ℕ). x < P.origins) is (declared P o _ taken)
declared_own P origin (Withdraw o t) own taken = let is : o ≡ origin = cc in subst (λ (x : ℕ). x < P.origins) is (declared P o _ taken)
declared_own P origin (Announce o h e w) own taken = let is : o ≡ origin = cc in subst (λ (x : ℕ). x < P.origins) is (declared P o _ taken)
declared_own P origin (Joint h e w) own taken = cc

-- where all are kept, each record that the program takes speaks of a kept one, if the program has origins
speaks : (P : Program) (keeps : ℕ → Bool) (said : Record) → AreAllKept P keeps → 0 < P.origins → refusal_of P said ≡ None → SpeaksOfKept keeps said
speaks P keeps (Event o t input value) kept some taken = kept o (declared P o _ taken)
speaks P keeps (Withdraw o t) kept some taken = kept o (declared P o _ taken)
speaks P keeps (Announce o h e w) kept some taken = kept o (declared P o _ taken)
speaks P keeps (Joint h e w) kept some taken = (0, kept 0 some)

-- records behind a log, of which each may come
none_more : (P : Program) (keeps : ℕ → Bool) (log more : List Record) → AreAllKept P keeps → 0 < P.origins → AreTaken P (set_of (log ++ more)) → (IsBrokenJointly (set_of log) → ⊥) → NoneBehind keeps log more → IsBrokenJointly (set_of (log ++ more)) → ⊥
none_more P keeps log [] kept some taken whole behind = subst (λ (l : List Record). IsBrokenJointly (set_of l) → ⊥) (sym (append-nil log)) whole
none_more P keeps log (said ∷ more) kept some taken whole behind =
    let joined = append_assoc log (said ∷ []) more in
    let there : IsIn (set_of (log ++ said ∷ more)) said = (in_set (log ++ said ∷ more) said).0 (Contains-append_right log (said ∷ more) said (Contains-here said more)) in
    subst (λ (l : List Record). IsBrokenJointly (set_of l) → ⊥) joined
    (none_more P keeps (log ++ said ∷ []) more kept some (subst (λ (l : List Record). AreTaken P (set_of l)) (sym joined) taken)
    (one_more (set_of log) (set_of (log ++ said ∷ [])) said (with_one log said) (behind.0 (speaks P keeps said kept some (taken said there))) whole)
    behind.1)

-- a set of records that a program without origins takes has no names, and so breaks nothing
module _ (P : Program) (S : Records) (none : P.origins ≡ 0) (taken : AreTaken P S) where
  no_name : (count : ℕ) (are : ℕ × Moment → Type 0) → ((name : ℕ × Moment) → are name → ⊥) → AtLeastNames (count + 1) are → ⊥
  no_name count are not counted = first counted.0 counted.2 counted.3
    where
      first : (names : List (ℕ × Moment)) → All are names → length names ≡ count + 1 → ⊥
      first [] all e = omega (arith, e)
      first (name ∷ names) all e = not name (All-contains are (name ∷ names) name all (Contains-here name names))

  nothing_broken : IsBrokenJointly S → ⊥
  nothing_broken broken = elim broken.4 [
    | inl more ↦ no_name broken.1 (all_events_below S broken.0) (λ name h. omega (arith, none, declared P name.0 _ (taken (Event name.0 name.1 h.1.0.0 h.1.0.1) h.1.1))) more
    | inr rest ↦ elim rest [
      | inl more ↦ no_name broken.2 (all_withdrawals_below S broken.0) (λ name h. omega (arith, none, declared P name.0 _ (taken (Withdraw name.0 name.1) h.1))) more
      | inr two ↦ omega (arith, none, declared P two.0 _ (taken (Event two.0 two.1 two.3.0.0 two.3.0.1) two.3.2))
    ]
  ]

some_or_none : (n : ℕ) → (0 < n) ⊎ (n ≡ 0)
some_or_none zero = inr refl
some_or_none (suc n) = inl (omega arith)

pub none_broken_jointly : (P : Program) (keeps : ℕ → Bool) (log more : List Record) → AreAllKept P keeps → AreTaken P (set_of (log ++ more)) → (IsBrokenJointly (set_of log) → ⊥) → NoneBehind keeps log more → IsBrokenJointly (set_of (log ++ more)) → ⊥
none_broken_jointly P keeps log more kept taken whole behind = elim (some_or_none P.origins) [
  | inl some ↦ none_more P keeps log more kept some taken whole behind
  | inr none ↦ nothing_broken P (set_of (log ++ more)) none taken
]

-- where each of the program's origins may be kept none is broken
pub may_begin : (P : Program) (S : Records) → AreTaken P S → ((origin : ℕ) → origin < P.origins → IsBrokenJointly S → ⊥) → IsBrokenJointly S → ⊥
may_begin P S taken each = elim (some_or_none P.origins) [
  | inl some ↦ each 0 some
  | inr none ↦ nothing_broken P S none taken
]
