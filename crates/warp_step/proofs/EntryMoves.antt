-- What stands behind a place of a list after an entry came in there, one was written, or all behind it moved to the front.
use Rattle.std.proofs.Common.{◌≡◌, ℕ, suc, ◌+◌, ◌-◌, ◌<◌, ◌≤◌, List, [], ◌∷◌, ◌++◌, length, take, drop, set, sym, ap, ◌∙◌, arith, append_assoc, append-nil, length-drop}
use Rattle.std.specs.List.{insert, copy_within, refill}
use Rattle.std.proofs.Math.Seq.{paste, take-add, drop-append-add, set_split}
use Rattle.std.proofs.lemmas.List.{drop_all, drop-append-le, drop-drop, drop-take, take_all, take-take, take-append-le, length-take-le}
use Rattle.std.proofs.lemmas.List.Edits.{length-paste, take-paste, drop-paste}

module _ {X : Type 0} where
  -- an entry comes in, and what is behind it moved up
  pub came_up : (xs : List X) (at : ℕ) (x : X) → at < length xs
      → set (copy_within xs at (length xs - 1) (at + 1)) at x ≡ insert (take (length xs - 1) xs) at x
  came_up xs at x within =
      let e = length xs - 1 in
      let n = e - at in
      let tail = drop at xs in
      let rest = drop (at + 1 + n) xs in
      let ys = copy_within xs at e (at + 1) in
      let some : n ≤ length tail = omega (arith, length-drop at xs) in
      let long : length ys ≡ length xs = length-paste xs (at + 1) tail n (omega arith) some in
      let head : length (take (at + 1) xs) ≡ at + 1 = length-take-le (at + 1) xs (omega arith) in
      let low : take at ys ≡ take at xs =
      ap (take at) (append_assoc (take (at + 1) xs) (take n tail) rest) ∙ take-append-le at (take (at + 1) xs) (take n tail ++ rest) (omega arith) ∙ take-take at (at + 1) xs (omega arith) in
      let past : suc at ≡ length (take (at + 1) xs) + 0 = omega arith in
      let none : rest ≡ [] = drop_all (at + 1 + n) xs (omega arith) in
      let high : drop (suc at) ys ≡ take n tail =
      ap (drop (suc at)) (append_assoc (take (at + 1) xs) (take n tail) rest) ∙ ap (λ k. drop k (take (at + 1) xs ++ (take n tail ++ rest))) past
      ∙ drop-append-add (take (at + 1) xs) (take n tail ++ rest) 0 ∙ ap (λ l. take n tail ++ l) none ∙ append-nil (take n tail) in
      let all : e ≡ at + n = omega arith in
      set_split ys at x (omega arith) ∙ ap (λ l. l ++ x ∷ drop (suc at) ys) low ∙ ap (λ l. take at xs ++ x ∷ l) high
      ∙ sym (ap (λ l. l ++ x ∷ drop at (take e xs)) (take-take at e xs (omega arith)) ∙ ap (λ k. take at xs ++ x ∷ drop at (take k xs)) all
      ∙ ap (λ l. take at xs ++ x ∷ l) (drop-take at n xs))

  -- an entry comes in, and what is in front of it moved down
  pub came_down : (xs : List X) (s at : ℕ) (x : X) → 0 < s → s + at ≤ length xs
      → drop (s - 1) (set (copy_within xs s (s + at) (s - 1)) (s - 1 + at) x) ≡ insert (drop s xs) at x
  came_down xs s at x before within =
      let r = s - 1 in
      let i = r + at in
      let tail = drop s xs in
      let ys = paste xs r tail at in
      let many : s + at - s ≡ at = omega arith in
      let some : at ≤ length tail = omega (arith, length-drop s xs) in
      let long : length ys ≡ length xs = length-paste xs r tail at (omega arith) some in
      let low : take i ys ≡ take r xs ++ take at tail = take-paste xs r tail at (omega arith) some in
      let on : i + 1 ≡ s + at = omega arith in
      let next : suc i ≡ i + 1 = omega arith in
      let high : drop (suc i) ys ≡ drop at tail =
      ap (λ k. drop k ys) next ∙ sym (drop-drop 1 i ys) ∙ ap (drop 1) (drop-paste xs r tail at (omega arith) some) ∙ drop-drop 1 i xs ∙ ap (λ k. drop k xs) on
      ∙ sym (drop-drop at s xs) in
      let front : length (take r xs) ≡ r = length-take-le r xs (omega arith) in
      let start : r ≡ length (take r xs) + 0 = omega arith in
      let parts : set ys i x ≡ take r xs ++ insert tail at x =
      set_split ys i x (omega arith) ∙ ap (λ l. l ++ x ∷ drop (suc i) ys) low
      ∙ ap (λ l. (take r xs ++ take at tail) ++ x ∷ l) high ∙ append_assoc (take r xs) (take at tail) (x ∷ drop at tail) in
      ap (λ k. drop r (set (paste xs r tail k) i x)) many ∙ ap (drop r) parts
      ∙ ap (λ k. drop k (take r xs ++ insert tail at x)) start ∙ drop-append-add (take r xs) (insert tail at x) 0

  -- an entry comes in behind a place
  pub inserted_from : (xs : List X) (s at : ℕ) (x : X) → s + at ≤ length xs → drop s (insert xs (s + at) x) ≡ insert (drop s xs) at x
  inserted_from xs s at x within =
      let front : length (take s xs) ≡ s = length-take-le s xs (omega arith) in
      let start : s ≡ length (take s xs) + 0 = omega arith in
      let behind = take at (drop s xs) ++ x ∷ drop (s + at) xs in
      ap (λ l. drop s (l ++ x ∷ drop (s + at) xs)) (take-add s at xs)
      ∙ ap (drop s) (append_assoc (take s xs) (take at (drop s xs)) (x ∷ drop (s + at) xs))
      ∙ ap (λ k. drop k (take s xs ++ behind)) start ∙ drop-append-add (take s xs) behind 0
      ∙ ap (λ l. take at (drop s xs) ++ x ∷ l) (sym (drop-drop at s xs))

  -- to come in behind all others
  last_of : (xs : List X) (n : ℕ) (x : X) → n ≡ length xs → insert xs n x ≡ xs ++ x ∷ []
  last_of xs n x all =
      ap (λ l. l ++ x ∷ drop n xs) (take_all n xs (omega (arith, all))) ∙ ap (λ l. xs ++ x ∷ l) (drop_all n xs (omega (arith, all)))

  -- an entry comes in last
  pub came_last : (xs : List X) (s : ℕ) (x : X) → s ≤ length xs → drop s (xs ++ x ∷ []) ≡ insert (drop s xs) (length (drop s xs)) x
  came_last xs s x within = drop-append-le s xs (x ∷ []) within ∙ sym (last_of (drop s xs) (length (drop s xs)) x (omega arith))

  -- what is written over a whole list is there
  pub refilled : (xs ws : List X) → length ws ≡ length xs → refill (length xs) xs ws ≡ ws
  refilled xs ws same = take-append-le (length xs) ws (drop (length ws) xs) (omega (arith, same)) ∙ take_all (length xs) ws (omega (arith, same))

  -- all behind a place move to the front
  pub moved : (xs : List X) (s : ℕ) → s ≤ length xs → take (length xs - s) (copy_within xs s (length xs) 0) ≡ drop s xs
  moved xs s within =
      let n = length xs - s in
      let many : n ≡ 0 + n = omega arith in
      ap (λ k. take k (copy_within xs s (length xs) 0)) many ∙ take-paste xs 0 (drop s xs) n (omega arith) (omega (arith, length-drop s xs))
      ∙ take_all n (drop s xs) (omega (arith, length-drop s xs))
