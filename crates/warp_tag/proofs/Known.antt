-- What a table knows of a name: after a change, and that no two tables know the same of each name.
use Rattle.std.proofs.Common.{◌≡◌, inl, inr, ℕ, Bool, true, false, cond, List, [], ◌∷◌, Some, None, IsTrue, ap, sym, subst, ◌∙◌, refl, arith}
use Rattle.std.specs.Option.{unwrap_or}
use Rattle.std.proofs.lemmas.Bool.{cases_Bool}
use Rattle.std.proofs.lemmas.Bool.Decides.{nat_tests}
use Rattle.warp_tag.specs.Moment.{Moment}
use Rattle.warp_tag.specs.declared.entry.Entry.{Entry}
use Rattle.warp_tag.specs.Table.{IsTable, name_before, has_name, fresh, changed, known}
use Rattle.warp_tag.proofs.Lists.{All-weaker, find_fails, some_not_none}
use Rattle.warp_tag.proofs.Names.{Above, else_ahead, named_is}
use Rattle.warp_tag.proofs.Tables.{KeepsNames, above_trans, before_change}

-- a name that comes before an entry's is not that entry's
pub before_not_named : (o : ℕ) (t : Moment) (e : Entry) → name_before o t e ≡ true → has_name o t e ≡ false
before_not_named o t e h = grind (arith, nat_tests)

-- an entry is of its own name
pub named_self : (e : Entry) → has_name e.origin e.tag e ≡ true
named_self e = grind (arith, nat_tests)

-- a change that keeps names keeps whose an entry is
kept_named : (f : Entry → Entry) → KeepsNames f → (o : ℕ) (t : Moment) (e : Entry) (b : Bool) → has_name o t e ≡ b → has_name o t (f e) ≡ b
kept_named f names o t e b h = rw ((names e).0, (names e).1) h

pub known_here : (o : ℕ) (t : Moment) (e : Entry) (es : List Entry) → has_name o t e ≡ true → known o t (e ∷ es) ≡ Some e
known_here o t e es h = ap (λ b. cond b (Some e) (known o t es)) h

pub known_past : (o : ℕ) (t : Moment) (e : Entry) (es : List Entry) → has_name o t e ≡ false → known o t (e ∷ es) ≡ known o t es
known_past o t e es h = ap (λ b. cond b (Some e) (known o t es)) h

-- where each entry's name comes after the name, nothing is known of it
pub known_above : (o : ℕ) (t : Moment) (es : List Entry) → Above o t es → known o t es ≡ None
known_above o t es above =
    find_fails (has_name o t) es (All-weaker (λ d. IsTrue (name_before o t d)) (λ d. has_name o t d ≡ false) (before_not_named o t) es above)

-- where an entry of the name comes before all others, they say nothing of it
known_behind : (o : ℕ) (t : Moment) (e : Entry) (es : List Entry) → has_name o t e ≡ true → Above e.origin e.tag es → known o t es ≡ None
known_behind o t e es h above = let is = named_is o t e h in rw (is.0, is.1) (known_above e.origin e.tag es above)

-- the entry that a change starts from is what is known of the name
pub before_change_known : (o : ℕ) (t : Moment) (es : List Entry) → IsTable es → before_change o t es ≡ unwrap_or (known o t es) (fresh o t)
before_change_known o t [] table = refl
before_change_known o t (e ∷ es) table = elim (cases_Bool (name_before o t e)) [
  | inl b ↦
      let none : known o t (e ∷ es) ≡ None = known_above o t (e ∷ es) (b, above_trans o t e es b table.0) in
      rw b (ap (λ r. unwrap_or r (fresh o t)) (sym none))
  | inr b ↦ elim (cases_Bool (has_name o t e)) [
    | inl n ↦ rw (b, n) refl
    | inr n ↦ rw (b, n) (before_change_known o t es table.1)
  ]
]

-- after a change of what is known of a name, that is known of it
pub known_changed : (f : Entry → Entry) → KeepsNames f → (o : ℕ) (t : Moment) (es : List Entry) → IsTable es → known o t (changed f o t es) ≡ Some (f (unwrap_or (known o t es) (fresh o t)))
known_changed f names o t [] table = known_here o t (f (fresh o t)) [] (kept_named f names o t (fresh o t) true (named_self (fresh o t)))
known_changed f names o t (e ∷ es) table = elim (cases_Bool (name_before o t e)) [
  | inl b ↦
      let none : known o t (e ∷ es) ≡ None = known_above o t (e ∷ es) (b, above_trans o t e es b table.0) in
      let here : known o t (f (fresh o t) ∷ e ∷ es) ≡ Some (f (fresh o t)) = known_here o t (f (fresh o t)) (e ∷ es) (kept_named f names o t (fresh o t) true (named_self (fresh o t))) in
      rw b (here ∙ ap (λ r. Some (f (unwrap_or r (fresh o t)))) (sym none))
  | inr b ↦ elim (cases_Bool (has_name o t e)) [
    | inl n ↦ rw (b, n) (known_here o t (f e) es (kept_named f names o t e true n))
    | inr n ↦ rw (b, n) (known_past o t e (changed f o t es) n ∙ known_changed f names o t es table.1)
  ]
]

-- and of each other name the same as before
pub known_elsewhere : (f : Entry → Entry) → KeepsNames f → (c : ℕ) (s : Moment) (o : ℕ) (t : Moment) → has_name o t (fresh c s) ≡ false → (es : List Entry) → known o t (changed f c s es) ≡ known o t es
known_elsewhere f names c s o t other [] = known_past o t (f (fresh c s)) [] (kept_named f names o t (fresh c s) false other)
known_elsewhere f names c s o t other (e ∷ es) = elim (cases_Bool (name_before c s e)) [
  | inl b ↦ rw b (known_past o t (f (fresh c s)) (e ∷ es) (kept_named f names o t (fresh c s) false other))
  | inr b ↦ elim (cases_Bool (has_name c s e)) [
    | inl n ↦
        let is = named_is c s e n in
        let past : has_name o t e ≡ false = rw (← is.0, ← is.1) other in
        rw (b, n) (known_past o t (f e) es (kept_named f names o t e false past) ∙ sym (known_past o t e es past))
    | inr n ↦ rw (b, n) (ap (λ r. cond (has_name o t e) (Some e) r) (known_elsewhere f names c s o t other es))
  ]
]

-- of the first entry's name a table whose first entry comes later knows nothing
first_missing : (d e : Entry) (ds es : List Entry) → name_before d.origin d.tag e ≡ true → Above e.origin e.tag es → known d.origin d.tag (d ∷ ds) ≡ known d.origin d.tag (e ∷ es) → ⊥
first_missing d e ds es b above h =
    some_not_none d (sym (known_here d.origin d.tag d ds (named_self d)) ∙ h ∙ known_above d.origin d.tag (e ∷ es) (b, above_trans d.origin d.tag e es b above))

-- two tables that know the same of each name are one list
pub same_table : (a b : List Entry) → IsTable a → IsTable b → ((o : ℕ) (t : Moment) → known o t a ≡ known o t b) → a ≡ b
same_table [] [] ta tb h = refl
same_table [] (e ∷ es) ta tb h = absurd (some_not_none e (sym (known_here e.origin e.tag e es (named_self e)) ∙ sym (h e.origin e.tag)))
same_table (d ∷ ds) [] ta tb h = absurd (some_not_none d (sym (known_here d.origin d.tag d ds (named_self d)) ∙ h d.origin d.tag))
same_table (d ∷ ds) (e ∷ es) ta tb h = elim (cases_Bool (name_before d.origin d.tag e)) [
  | inl b ↦ absurd (first_missing d e ds es b tb.0 (h d.origin d.tag))
  | inr b ↦ elim (cases_Bool (has_name d.origin d.tag e)) [
    | inl n ↦
        let found : Some d ≡ Some e = sym (known_here d.origin d.tag d ds (named_self d)) ∙ h d.origin d.tag ∙ known_here d.origin d.tag e es n in
        let same : d ≡ e = cc in
        let rest : ds ≡ es = same_table ds es ta.1 tb.1 (known_rest d e ds es same ta.0 tb.0 h) in
        cc
    | inr n ↦ absurd (first_missing e d es ds (else_ahead d.origin d.tag e b n) ta.0 (sym (h e.origin e.tag)))
  ]
]
  where
    known_rest : (d e : Entry) (ds es : List Entry) → d ≡ e → Above d.origin d.tag ds → Above e.origin e.tag es → ((o : ℕ) (t : Moment) → known o t (d ∷ ds) ≡ known o t (e ∷ es)) → (o : ℕ) (t : Moment) → known o t ds ≡ known o t es
    known_rest d e ds es same ad ae h o t = elim (cases_Bool (has_name o t d)) [
      | inl n ↦ known_behind o t d ds n ad ∙ sym (known_behind o t e es (subst (λ (x : Entry). has_name o t x ≡ true) same n) ae)
      | inr n ↦ sym (known_past o t d ds n) ∙ h o t ∙ known_past o t e es (subst (λ (x : Entry). has_name o t x ≡ false) same n)
    ]
