-- Two texts of words, each behind a space: where the first word begins in which they differ, and where the last one ends.
use Rattle.std.proofs.Common.{◌≡◌, ◌≢◌, ◌⊎◌, inl, inr, ℕ, suc, ◌+◌, ◌-◌, ◌<◌, ◌≤◌, ltb, Bool, false, cond, List, ◌∷◌, ◌++◌, length, get_or, drop, Option, Some, None, refl, sym, ap, ◌∙◌, arith}
use Rattle.std.specs.List.{position, position_or_len}
use Rattle.std.proofs.lemmas.Bool.{cases_Bool, eqb-true, false≢true, ltb-false, ltb-true}
use Rattle.std.proofs.lemmas.List.{ext_get_or, get_or-append-add, get_or-drop, get_or-take, get_or_append_left, length-append, length-drop}
use Rattle.std.proofs.lemmas.List.Quantifiers.{position-Some}
use Rattle.std.proofs.lemmas.List.Sums.{fails_before_first}
use Rattle.warp_push.specs.Texts.{is_space}
use Rattle.warp_push.specs.Stretches.{AreAlike, AreAlikeBehind, IsLastSpace, end_behind}

some_not_none : (n : ℕ) → Some n ≡ None → ⊥
some_not_none n e = cc

abbrev pub Plain : List ℕ → Type 0
Plain word = (k : ℕ) → k < length word → 32 < get_or word k 0

pub three : (a b : ℕ) → (a < b) ⊎ ((b < a) ⊎ (a ≡ b))
three a b =
    elim (cases_Bool (ltb a b)) [
      | inl below ↦ inl (ltb-true a b below)
      | inr not_below ↦
          elim (cases_Bool (ltb b a)) [
            | inl above ↦ inr (inl (ltb-true b a above))
            | inr not_above ↦ inr (inr (omega (arith, ltb-false a b not_below, ltb-false b a not_above)))
          ]
    ]

-- what stands in a list behind another, and in its front
behind : (xs ys : List ℕ) (i j : ℕ) → i ≡ length xs + j → get_or (xs ++ ys) i 0 ≡ get_or ys j 0
behind xs ys i j is = ap (λ (n : ℕ). get_or (xs ++ ys) n 0) is ∙ get_or-append-add xs ys j 0

front : (xs ys : List ℕ) (i : ℕ) → i < length xs → get_or (xs ++ ys) i 0 ≡ get_or xs i 0
front xs ys i below = get_or_append_left xs ys 0 i below

-- a text: a front, a space, a word, and what stands behind it
abbrev pub whole : List ℕ → List ℕ → List ℕ → List ℕ
whole x u s = x ++ 32 ∷ (u ++ s)

pub whole_long : (x u s : List ℕ) → length (whole x u s) ≡ length x + (1 + (length u + length s))
whole_long x u s = omega (arith, length-append x (32 ∷ (u ++ s)), length-append u s)

at_space : (x u s : List ℕ) (i : ℕ) → i ≡ length x → get_or (whole x u s) i 0 ≡ 32
at_space x u s i is = behind x (32 ∷ (u ++ s)) i 0 (omega (arith, is))

in_word : (x u s : List ℕ) (i j : ℕ) → i ≡ length x + suc j → j < length u → get_or (whole x u s) i 0 ≡ get_or u j 0
in_word x u s i j is below = behind x (32 ∷ (u ++ s)) i (suc j) is ∙ front u s j below

past_word : (x u s : List ℕ) (i j : ℕ) → i ≡ length x + suc (length u + j) → get_or (whole x u s) i 0 ≡ get_or s j 0
past_word x u s i j is =
    behind x (32 ∷ (u ++ s)) i (suc (length u + j)) is ∙ behind u s (length u + j) j (omega arith)

-- nowhere is a space
none_at_all : (text : List ℕ) → position is_space text ≡ None → (k : ℕ) → k < length text → is_space (get_or text k 0) ≡ false
none_at_all text at k below =
    elim (cases_Bool (ltb (position_or_len is_space text) (length text))) [
      | inl some ↦
          absurd (some_not_none (position_or_len is_space text)
          (sym (ap (λ (b : Bool). cond b (Some (position_or_len is_space text)) None) some) ∙ at))
      | inr not_some ↦
          fails_before_first is_space text k 0
          (omega (arith, below, ltb-false (position_or_len is_space text) (length text) not_some))
    ]

-- ---- the first word in which they differ

module _ (x u v s t : List ℕ) (plain_u : Plain u) (plain_v : Plain v) (low_s : get_or s 0 0 ≤ 32) (low_t : get_or t 0 0 ≤ 32)
    (other : u ≢ v) (n : ℕ) (alike : AreAlike (whole x u s) (whole x v t) n) where
  same_below : (k : ℕ) → k < n → get_or (whole x u s) k 0 ≡ get_or (whole x v t) k 0
  same_below k below =
      sym (get_or-take n (whole x u s) k 0 below) ∙ ap (λ (xs : List ℕ). get_or xs k 0) alike.same
      ∙ get_or-take n (whole x v t) k 0 below

  -- they are alike up to the space in front of it
  reaches : length x < n
  reaches =
      elim (three (length x) n) [
        | inl below ↦ below
        | inr (inl above) ↦
            absurd (alike.most (omega (arith, above, whole_long x u s)) (omega (arith, above, whole_long x v t))
            (front x (32 ∷ (u ++ s)) n above ∙ sym (front x (32 ∷ (v ++ t)) n above)))
        | inr (inr same) ↦
            absurd (alike.most (omega (arith, same, whole_long x u s)) (omega (arith, same, whole_long x v t))
            (at_space x u s n (sym same) ∙ sym (at_space x v t n (sym same))))
      ]

  -- and not beyond the word
  ends : n ≤ length x + suc (length v)
  ends =
      elim (three (length x + suc (length v)) n) [
        | inr (inl above) ↦ omega (arith, above)
        | inr (inr same) ↦ omega (arith, same)
        | inl below ↦
            elim (three (length u) (length v)) [
              | inl shorter ↦
                  let i = length x + suc (length u) in
                  let is = same_below i (omega (arith, below, shorter)) in
                  let one = past_word x u s i 0 (omega arith) in
                  let two = in_word x v t i (length u) refl shorter in
                  let high = plain_v (length u) shorter in
                  absurd (omega (arith, is, one, two, high, low_s))
              | inr (inl longer) ↦
                  let i = length x + suc (length v) in
                  let is = same_below i (omega (arith, below)) in
                  let one = in_word x u s i (length v) refl longer in
                  let two = past_word x v t i 0 (omega arith) in
                  let high = plain_u (length v) longer in
                  absurd (omega (arith, is, one, two, high, low_t))
              | inr (inr long) ↦
                  absurd (other (ext_get_or 0 u v long
                  (λ k at.
                  let i = length x + suc k in
                  sym (in_word x u s i k refl at) ∙ same_below i (omega (arith, below, at, long))
                  ∙ in_word x v t i k refl (omega (arith, at, long)))))
            ]
      ]

  -- so the last space among what is alike is the one in front of the word
  pub begins_there : (at : ℕ) → IsLastSpace (whole x v t) n at → at ≡ length x
  begins_there at space =
      elim (three at (length x)) [
        | inr (inr same) ↦ same
        | inl before ↦ absurd (space.last (length x) before reaches (at_space x v t (length x) refl))
        | inr (inl past) ↦
            let j = at - length x - 1 in
            let below : j < length v = omega (arith, past, ends, space.below) in
            let is = in_word x v t at j (omega (arith, past)) below in
            let high = plain_v j below in
            absurd (omega (arith, is, high, space.is))
      ]

-- ---- the last word in which they differ

module _ (x y u v s : List ℕ) (plain_u : Plain u) (plain_v : Plain v) (some : 0 < length s) (other : u ≢ v) (n : ℕ)
    (alike : AreAlikeBehind (whole x u s) (whole y v s) n) where
  -- so many bytes from behind
  at_end : (xs : List ℕ) (j : ℕ) → ℕ
  at_end xs j = length xs - 1 - j

  same_past : (j : ℕ) → j < n → get_or (whole x u s) (length (whole x u s) - 1 - j) 0 ≡ get_or (whole y v s) (length (whole y v s) - 1 - j) 0
  same_past j below =
      let old = whole x u s in
      let new = whole y v s in
      let i = n - 1 - j in
      let one : (length old - n) + i ≡ length old - 1 - j = omega (arith, below, alike.in_left) in
      let two : (length new - n) + i ≡ length new - 1 - j = omega (arith, below, alike.in_right) in
      ap (λ (k : ℕ). get_or old k 0) (sym one) ∙ sym (get_or-drop (length old - n) old i 0)
      ∙ ap (λ (xs : List ℕ). get_or xs i 0) alike.same ∙ get_or-drop (length new - n) new i 0
      ∙ ap (λ (k : ℕ). get_or new k 0) two

  -- they are alike in all that stands behind it
  covers : length s ≤ n
  covers =
      elim (three n (length s)) [
        | inr (inl above) ↦ omega (arith, above)
        | inr (inr same) ↦ omega (arith, same)
        | inl below ↦
            let old = whole_long x u s in
            let new = whole_long y v s in
            let j = length s - 1 - n in
            absurd (alike.most (omega (arith, below, old)) (omega (arith, below, new))
            (past_word x u s (length (whole x u s) - 1 - n) j (omega (arith, below, old))
            ∙ sym (past_word y v s (length (whole y v s) - 1 - n) j (omega (arith, below, new)))))
      ]

  -- and not beyond the word
  stops : n ≤ length s + length v
  stops =
      elim (three (length s + length v) n) [
        | inr (inl above) ↦ omega (arith, above)
        | inr (inr same) ↦ omega (arith, same)
        | inl below ↦
            let old = whole_long x u s in
            let new = whole_long y v s in
            elim (three (length u) (length v)) [
              | inl shorter ↦
                  let j = length s + length u in
                  let is = same_past j (omega (arith, below, shorter)) in
                  let one = at_space x u s (length (whole x u s) - 1 - j) (omega (arith, old)) in
                  let k = length v - 1 - length u in
                  let two = in_word y v s (length (whole y v s) - 1 - j) k (omega (arith, new, shorter)) (omega (arith, shorter)) in
                  let high = plain_v k (omega (arith, shorter)) in
                  absurd (omega (arith, is, one, two, high))
              | inr (inl longer) ↦
                  let j = length s + length v in
                  let is = same_past j (omega (arith, below)) in
                  let two = at_space y v s (length (whole y v s) - 1 - j) (omega (arith, new)) in
                  let k = length u - 1 - length v in
                  let one = in_word x u s (length (whole x u s) - 1 - j) k (omega (arith, old, longer)) (omega (arith, longer)) in
                  let high = plain_u k (omega (arith, longer)) in
                  absurd (omega (arith, is, one, two, high))
              | inr (inr long) ↦
                  absurd (other (ext_get_or 0 u v long
                  (λ k at.
                  let j = length s + (length v - 1 - k) in
                  sym (in_word x u s (length (whole x u s) - 1 - j) k (omega (arith, old, at, long)) at)
                  ∙ same_past j (omega (arith, below, at, long))
                  ∙ in_word y v s (length (whole y v s) - 1 - j) k (omega (arith, new, at, long)) (omega (arith, at, long)))))
            ]
      ]

  -- no byte of the word is a space, where they are alike
  pub none_before : (k : ℕ) → length (whole y v s) - n ≤ k → k < length y + suc (length v) → get_or (whole y v s) k 0 ≡ 32 → ⊥
  none_before k from below is =
      let new = whole_long y v s in
      let j = k - length y - 1 in
      let past : length y + 1 ≤ k = omega (arith, from, new, stops) in
      let here = in_word y v s k j (omega (arith, past)) (omega (arith, past, below)) in
      let high = plain_v j (omega (arith, past, below)) in
      omega (arith, here, high, is)

  pub starts_before : length (whole y v s) - n ≤ length y + suc (length v)
  starts_before = omega (arith, covers, whole_long y v s)

  pub starts_after : length y + 1 ≤ length (whole y v s) - n
  starts_after = omega (arith, stops, whole_long y v s)

  pub behind_word : (j : ℕ) → get_or (whole y v s) (length y + suc (length v + j)) 0 ≡ get_or s j 0
  behind_word j = past_word y v s (length y + suc (length v + j)) j refl

  -- so the first space among what is alike, or the last byte, is behind the word
  pub ends_there : (o : Option ℕ) → (get_or s 0 0 ≡ 32) ⊎ (length s ≡ 1)
      → position is_space (drop (length (whole y v s) - n) (whole y v s)) ≡ o
      → end_behind (length (whole y v s) - n) o (length (whole y v s)) ≡ length y + suc (length v)
  ends_there (Some at) kind is =
      let new = whole y v s in
      let start = length new - n in
      let e = length y + suc (length v) in
      let rest = drop start new in
      let here = position-Some is_space rest at 0 is in
      let moved = get_or-drop start new at 0 in
      let byte : get_or new (start + at) 0 ≡ 32 = sym moved ∙ eqb-true (get_or rest at 0) 32 here.1 in
      let inside : start + at < length new = omega (arith, here.0, length-drop start new) in
      elim (three (start + at) e) [
        | inr (inr same) ↦ same
        | inl before ↦ absurd (none_before (start + at) (omega arith) before byte)
        | inr (inl past) ↦
            elim kind [
              | inr one ↦ absurd (omega (arith, one, past, inside, whole_long y v s))
              | inl space ↦
                  let k = e - start in
                  let below : k < at = omega (arith, past, starts_before) in
                  let there : start + k ≡ e = omega (arith, starts_before) in
                  let what : get_or rest k 0 ≡ 32 =
                  get_or-drop start new k 0 ∙ ap (λ (i : ℕ). get_or new i 0) there
                  ∙ past_word y v s e 0 (omega arith) ∙ space in
                  absurd (false≢true (sym (here.2 k below) ∙ ap is_space what))
            ]
      ]
  ends_there None kind is =
      let new = whole y v s in
      let start = length new - n in
      let e = length y + suc (length v) in
      let rest = drop start new in
      elim kind [
        | inr one ↦ omega (arith, one, whole_long y v s)
        | inl space ↦
            let k = e - start in
            let there : start + k ≡ e = omega (arith, starts_before) in
            let below : k < length rest = omega (arith, there, some, whole_long y v s, length-drop start new) in
            let what : get_or rest k 0 ≡ 32 =
            get_or-drop start new k 0 ∙ ap (λ (i : ℕ). get_or new i 0) there
            ∙ past_word y v s e 0 (omega arith) ∙ space in
            absurd (false≢true (sym (none_at_all rest is k below) ∙ ap is_space what))
      ]
