-- The order of names: by tag, then by origin.
use Rattle.std.proofs.Common.{◌≡◌, ◌⊎◌, inl, inr, ℕ, Bool, true, false, ◌&&◌, ◌||◌, List, nat_lt, refl, sym, ap, ◌∙◌, arith, rules, IsTrue}
use Rattle.std.specs.List.{AllByRecursion}
use Rattle.std.proofs.lemmas.Bool.{cases_Bool, false≢true}
use Rattle.std.proofs.lemmas.Bool.Decides.{nat_tests}
use Rattle.warp_tag.specs.Moment.{Moment, is_before, is_same}
use Rattle.warp_tag.specs.declared.entry.Entry.{Entry}
use Rattle.warp_tag.specs.Table.{name_before, has_name, fresh}
use Rattle.warp_tag.proofs.Tags.{before_trans, before_same, same_before, same_trans}

-- the entry's name comes before the name
abbrev pub ahead : ℕ → Moment → Entry → Bool
ahead origin tag e = name_before e.origin e.tag (fresh origin tag)

-- each entry's name comes after the name
abbrev pub Above : ℕ → Moment → List Entry → Type 0
Above origin tag es = AllByRecursion (λ d. IsTrue (name_before origin tag d)) es

-- of two names one comes first, or they are the same
pub ahead_not_before : (o : ℕ) (t : Moment) (e : Entry) → ahead o t e ≡ true → name_before o t e ≡ false
ahead_not_before o t e h = grind (arith, nat_tests)

pub ahead_not_named : (o : ℕ) (t : Moment) (e : Entry) → ahead o t e ≡ true → has_name o t e ≡ false
ahead_not_named o t e h = grind (arith, nat_tests)

pub named_not_before : (o : ℕ) (t : Moment) (e : Entry) → has_name o t e ≡ true → name_before o t e ≡ false
named_not_before o t e h = grind (arith, nat_tests)

pub named_not_ahead : (o : ℕ) (t : Moment) (e : Entry) → has_name o t e ≡ true → ahead o t e ≡ false
named_not_ahead o t e h = grind (arith, nat_tests)

pub behind : (o : ℕ) (t : Moment) (e : Entry) → ahead o t e ≡ false → has_name o t e ≡ false → name_before o t e ≡ true
behind o t e h k = grind (arith, nat_tests)

pub else_ahead : (o : ℕ) (t : Moment) (e : Entry) → name_before o t e ≡ false → has_name o t e ≡ false → ahead o t e ≡ true
else_ahead o t e h k = grind (arith, nat_tests)

-- the parts of a test of names, and how they make one
less_trans : (a b c : ℕ) → nat_lt a b ≡ true → nat_lt b c ≡ true → nat_lt a c ≡ true
less_trans a b c h k = grind (arith, nat_tests)

or_true : (a b : Bool) → b ≡ true → (a || b) ≡ true
or_true true b h = refl
or_true false b h = h

or_left : (a b : Bool) → a ≡ true → (a || b) ≡ true
or_left a b h = rw h refl

-- why a name comes before an entry's
pub before_why : (o : ℕ) (t : Moment) (e : Entry) → name_before o t e ≡ true → (is_before t e.tag ≡ true) ⊎ ((is_same t e.tag ≡ true) × (nat_lt o e.origin ≡ true))
before_why o t e h = elim (cases_Bool (is_before t e.tag)) [
  | inl a ↦ inl a
  | inr a ↦ inr (both (is_same t e.tag) (nat_lt o e.origin) (either (is_before t e.tag) (is_same t e.tag && nat_lt o e.origin) a h))
] where
  either : (a b : Bool) → a ≡ false → (a || b) ≡ true → b ≡ true
  either true b k l = cc
  either false b k l = l

  both : (a b : Bool) → (a && b) ≡ true → (a ≡ true) × (b ≡ true)
  both true true k = (refl, refl)
  both true false k = cc
  both false b k = cc

pub before_by_tag : (o : ℕ) (t : Moment) (e : Entry) → is_before t e.tag ≡ true → name_before o t e ≡ true
before_by_tag o t e h = or_left (is_before t e.tag) (is_same t e.tag && nat_lt o e.origin) h

pub before_by_origin : (o : ℕ) (t : Moment) (e : Entry) → is_same t e.tag ≡ true → nat_lt o e.origin ≡ true → name_before o t e ≡ true
before_by_origin o t e h k = or_true (is_before t e.tag) (is_same t e.tag && nat_lt o e.origin) (all h k) where
  all : {a b : Bool} → a ≡ true → b ≡ true → (a && b) ≡ true
  all h k = rw h k

-- names are ordered
pub name_before_trans : (o : ℕ) (t : Moment) (e d : Entry) → name_before o t e ≡ true → name_before e.origin e.tag d ≡ true → name_before o t d ≡ true
name_before_trans o t e d h k = elim (before_why o t e h) [
  | inl a ↦ elim (before_why e.origin e.tag d k) [
    | inl b ↦ before_by_tag o t d (before_trans t e.tag d.tag a b)
    | inr b ↦ before_by_tag o t d (before_same t e.tag d.tag a b.0)
  ]
  | inr a ↦ elim (before_why e.origin e.tag d k) [
    | inl b ↦ before_by_tag o t d (same_before t e.tag d.tag a.0 b)
    | inr b ↦ before_by_origin o t d (same_trans t e.tag d.tag a.0 b.0) (less_trans o e.origin d.origin a.1 b.1)
  ]
]

-- what comes before an entry that is ahead is ahead
pub ahead_trans : (o : ℕ) (t : Moment) (e d : Entry) → name_before e.origin e.tag d ≡ true → ahead o t d ≡ true → ahead o t e ≡ true
ahead_trans o t e d h k = name_before_trans e.origin e.tag d (fresh o t) h k

-- an entry of a name has its origin and tag
pub named_is : (o : ℕ) (t : Moment) (e : Entry) → has_name o t e ≡ true → (o ≡ e.origin) × (t ≡ e.tag)
named_is o t e h =
    let times : t.time ≡ e.tag.time = grind (arith, nat_tests) in
    let microsteps : t.microstep ≡ e.tag.microstep = grind (arith, nat_tests) in
    (grind (arith, nat_tests), search rules)

-- of one origin's names the tags decide
pub before_own : (o : ℕ) (t : Moment) (e : Entry) → e.origin ≡ o → name_before o t e ≡ is_before t e.tag
before_own o t e h = grind (arith, nat_tests)

-- what comes after a name that is after the tag is after the tag
pub before_tag : (t : Moment) (e d : Entry) → is_before t e.tag ≡ true → name_before e.origin e.tag d ≡ true → is_before t d.tag ≡ true
before_tag t e d h k = grind (arith, nat_tests)

-- what comes before a name that is not after the tag is not of the tag's name
pub before_through : (o : ℕ) (t : Moment) (e d : Entry) → name_before e.origin e.tag d ≡ true → d.origin ≡ o → e.origin ≡ o → is_before t d.tag ≡ false → has_name o t e ≡ false
before_through o t e d h s r k = grind (arith, nat_tests)

-- a name that comes before an entry's is another
pub before_not_named : (o : ℕ) (t : Moment) (e : Entry) → name_before o t e ≡ true → has_name o t e ≡ false
before_not_named o t e h = grind (arith, nat_tests)

-- what comes before a name that is not after this one is not of this name
pub before_unnamed : (o : ℕ) (t : Moment) (e d : Entry) → name_before e.origin e.tag d ≡ true → name_before o t d ≡ false → has_name o t e ≡ false
before_unnamed o t e d h k = elim (cases_Bool (has_name o t e)) [
  | inl named ↦
      let is = named_is o t e named in
      absurd (false≢true (sym k ∙ ap (λ n. name_before n t d) is.0 ∙ ap (λ u. name_before e.origin u d) is.1 ∙ h))
  | inr other ↦ other
]
