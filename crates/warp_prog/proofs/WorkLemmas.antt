-- The account of work: as much as a count can show, and the first that is the most.
use Rattle.std.proofs.Common.{◌≡◌, ℕ, ◌+◌, ◌<◌, ◌≤◌, ◌^◌, max, List, [], ◌∷◌, ◌++◌, map, take, drop, get_or, length, nat_lt, cond, slice_get, suc, ap, subst, sym, ◌∙◌, refl, inl, inr, lt-ltb, le-ltb, ltb-true, ltb-false, arith}
use Rattle.std.specs.Option.{option_map_or}
use Rattle.std.proofs.lemmas.Bool.{cases_Bool, cond-true, cond-false}
use Rattle.std.proofs.lemmas.Bool.Decides.{nat_tests}
use Rattle.std.proofs.lemmas.List.{at_drop_more, length-map, length-take-le, map-append, map_more, take_all}
use Rattle.warp_prog.specs.Work.{greatest, place_of, shown}

-- a shown part counts as the whole does
pub shown_part : (a b : ℕ) → shown (shown a + b) ≡ shown (a + b)
shown_part a b = grind (arith, nat_tests)

-- what a count shows is shown whole
pub shown_whole : (a : ℕ) → a < 2 ^ 64 → shown a ≡ a
shown_whole a fits = grind (arith, nat_tests)

-- what is shown is shown as it is
pub shown_stays : (a b : ℕ) → a ≡ shown b → shown a ≡ a
shown_stays a b is = grind (is, arith, nat_tests)

-- nothing is left, and what there is is shown
pub none_left : (F : ℕ) (now all : ℕ) → F ≡ 0 → shown now ≡ now → shown (now + F) ≡ shown all → now ≡ shown all
none_left F now all none fits so_far =
    let whole : now + F ≡ now = omega (arith, none) in
    sym fits ∙ ap shown (sym whole) ∙ so_far

-- one more of a sum: what was before, with the one, and the rest
pub more_shown : (before own rest now all : ℕ) → now ≡ shown (before + own) → all ≡ own + rest → shown (now + rest) ≡ shown (before + all)
more_shown before own rest now all is sum =
    let grouped : before + own + rest ≡ before + all = omega (arith, sum) in
    ap (λ n. shown (n + rest)) is ∙ shown_part (before + own) rest ∙ ap shown grouped

-- the same where the one is counted as far as a count shows it
pub more_shown_part : (before own rest now all : ℕ) → now ≡ shown (before + shown own) → all ≡ own + rest → shown (now + rest) ≡ shown (before + all)
more_shown_part before own rest now all is sum =
    let both : shown (before + shown own) ≡ shown (before + own) = grind (arith, nat_tests) in
    more_shown before own rest now all (is ∙ both) sum

-- the greatest of numbers, with one more behind them
pub greatest_more : (ns : List ℕ) (n : ℕ) → greatest (ns ++ n ∷ []) ≡ max (greatest ns) n
greatest_more [] n = omega arith
greatest_more (m ∷ ns) n = ap (max m) (greatest_more ns n) ∙ grouped m (greatest ns) n
  where
    grouped : (a b c : ℕ) → max a (max b c) ≡ max (max a b) c
    grouped a b c = omega arith

-- none stands before the first that is not less than 0
pub none_before : (most : ℕ) (ns : List ℕ) → most ≤ 0 → place_of most ns ≡ 0
none_before most [] none = refl
none_before most (n ∷ ns) none = cond-false (nat_lt n most) (1 + place_of most ns) 0 (le-ltb n most (omega (arith, none)))

-- where one is so much, none behind counts
pub place_kept : (most : ℕ) (ns more : List ℕ) → most ≤ greatest ns → place_of most (ns ++ more) ≡ place_of most ns
place_kept most [] more le = none_before most more le
place_kept most (n ∷ ns) more le =
    elim (cases_Bool (nat_lt n most)) [
      | inl less ↦
          let below = ltb-true n most less in
          cond-true (nat_lt n most) (1 + place_of most (ns ++ more)) 0 less ∙ ap (λ k. 1 + k) (place_kept most ns more (omega (arith, le, below)))
          ∙ sym (cond-true (nat_lt n most) (1 + place_of most ns) 0 less)
      | inr not ↦ cond-false (nat_lt n most) (1 + place_of most (ns ++ more)) 0 not ∙ sym (cond-false (nat_lt n most) (1 + place_of most ns) 0 not)
    ]

one_more : (k : ℕ) → 1 + k ≡ suc k
one_more k = omega arith

-- where none is so much but the one behind them, all stand before it
pub place_new : (ns : List ℕ) (most n : ℕ) → greatest ns < most → most ≤ n → place_of most (ns ++ n ∷ []) ≡ length ns
place_new [] most n less le = cond-false (nat_lt n most) (1 + place_of most []) 0 (le-ltb n most le)
place_new (m ∷ ns) most n less le =
    cond-true (nat_lt m most) (1 + place_of most (ns ++ n ∷ [])) 0 (lt-ltb m most (omega (arith, less))) ∙ ap (λ k. 1 + k) (place_new ns most n (omega (arith, less)) le) ∙ one_more (length ns)

-- what is the most so far, and where it stands, by what stood there before: of the numbers at the place of a list of lists
pub record IsMost (most first second place : ℕ) (ns : List ℕ) (m f s : ℕ) : Type 0 where
  pub most_is : m ≡ max most (greatest ns)
  pub first_is : f ≡ cond (nat_lt most (greatest ns)) place first
  pub second_is : s ≡ cond (nat_lt most (greatest ns)) (place_of (greatest ns) ns) second

pub most_none : (most first second place : ℕ) → IsMost most first second place [] most first second
most_none most first second place = record {
  most_is = omega arith;
  first_is = sym (cond-false (nat_lt most 0) place first (le-ltb most 0 (omega arith)));
  second_is = sym (cond-false (nat_lt most 0) 0 second (le-ltb most 0 (omega arith)));
}

-- one number more
pub most_more : (most first second place : ℕ) (ns : List ℕ) (m f s n : ℕ) {m' f' s' : ℕ} → IsMost most first second place ns m f s →
    m' ≡ max m n → f' ≡ cond (nat_lt m n) place f → s' ≡ cond (nat_lt m n) (length ns) s → IsMost most first second place (ns ++ n ∷ []) m' f' s'
most_more most first second place ns m f s n so_far me fe se =
    let g = greatest ns in
    let all = greatest (ns ++ n ∷ []) in
    let more : all ≡ max g n = greatest_more ns n in
    let before = so_far.most_is in
    elim (cases_Bool (nat_lt m n)) [
      | inl above ↦
          let over = ltb-true m n above in
          let now : all ≡ n = omega (arith, more, before, over) in
          let is = lt-ltb most all (omega (arith, now, before, over)) in
          record {
            most_is = omega (arith, me, now, before, over);
            first_is = fe ∙ cond-true (nat_lt m n) place f above ∙ sym (cond-true (nat_lt most all) place first is);
            second_is = se ∙ cond-true (nat_lt m n) (length ns) s above ∙ sym (ap (λ k. place_of k (ns ++ n ∷ [])) now ∙ place_new ns n n (omega (arith, before, over)) (omega arith))
                ∙ sym (cond-true (nat_lt most all) (place_of all (ns ++ n ∷ [])) second is);
          }
      | inr not ↦
          let under = ltb-false m n not in
          let kept = fe ∙ cond-false (nat_lt m n) place f not ∙ so_far.first_is in
          let stays = se ∙ cond-false (nat_lt m n) (length ns) s not ∙ so_far.second_is in
          elim (cases_Bool (nat_lt most g)) [
            | inl passed ↦
                let over = ltb-true most g passed in
                let now : all ≡ g = omega (arith, more, before, under, over) in
                let is = lt-ltb most all (omega (arith, now, over)) in
                record {
                  most_is = omega (arith, me, now, before, under);
                  first_is = kept ∙ cond-true (nat_lt most g) place first passed ∙ sym (cond-true (nat_lt most all) place first is);
                  second_is = stays ∙ cond-true (nat_lt most g) (place_of g ns) second passed ∙ sym (ap (λ k. place_of k (ns ++ n ∷ [])) now ∙ place_kept g ns (n ∷ []) (omega arith))
                      ∙ sym (cond-true (nat_lt most all) (place_of all (ns ++ n ∷ [])) second is);
                }
            | inr stood ↦
                let below = ltb-false most g stood in
                let is = le-ltb most all (omega (arith, more, before, under, below)) in
                record {
                  most_is = omega (arith, me, more, before, under, below);
                  first_is = kept ∙ cond-false (nat_lt most g) place first stood ∙ sym (cond-false (nat_lt most all) place first is);
                  second_is = stays ∙ cond-false (nat_lt most g) (place_of g ns) second stood ∙ sym (cond-false (nat_lt most all) (place_of all (ns ++ n ∷ [])) second is);
                }
          ]
    ]

-- what is at a place of a list; nothing where nothing is there
abbrev pub at_place : {X : Type 0} → (X → List ℕ) → List X → ℕ → List ℕ
at_place inside xs place = option_map_or inside (slice_get xs place) []

abbrev pub each_greatest : {X : Type 0} → (X → List ℕ) → List X → List ℕ
each_greatest inside xs = map (λ x. greatest (inside x)) xs

-- the first that has one that is so much stays the first, with one more behind all
pub same_at : {X : Type 0} (inside : X → List ℕ) (most : ℕ) (xs : List X) (x : X) → most ≤ greatest (each_greatest inside xs) →
    place_of most (at_place inside (xs ++ x ∷ []) (place_of most (each_greatest inside xs))) ≡ place_of most (at_place inside xs (place_of most (each_greatest inside xs)))
same_at inside most [] x le = none_before most (inside x) le
same_at inside most (y ∷ ys) x le =
    let g = greatest (inside y) in
    let rest = place_of most (each_greatest inside ys) in
    elim (cases_Bool (nat_lt g most)) [
      | inl less ↦
          let below = ltb-true g most less in
          let there : place_of most (each_greatest inside (y ∷ ys)) ≡ suc rest = cond-true (nat_lt g most) (1 + rest) 0 less ∙ one_more rest in
          ap (λ k. place_of most (at_place inside (y ∷ (ys ++ x ∷ [])) k)) there
          ∙ same_at inside most ys x (omega (arith, le, below))
          ∙ sym (ap (λ k. place_of most (at_place inside (y ∷ ys) k)) there)
      | inr not ↦
          let there = cond-false (nat_lt g most) (1 + rest) 0 not in
          ap (λ k. place_of most (at_place inside (y ∷ (ys ++ x ∷ [])) k)) there ∙ sym (ap (λ k. place_of most (at_place inside (y ∷ ys) k)) there)
    ]

-- the last of a list
pub at_last : {X : Type 0} (inside : X → List ℕ) (xs : List X) (x : X) → at_place inside (xs ++ x ∷ []) (length xs) ≡ inside x
at_last inside [] x = refl
at_last inside (y ∷ ys) x = at_last inside ys x

-- the most of all lists so far, and where it stands
pub record IsFirst {X : Type 0} (inside : X → List ℕ) (xs : List X) (m f s : ℕ) : Type 0 where
  pub most_is : m ≡ greatest (each_greatest inside xs)
  pub first_is : f ≡ place_of m (each_greatest inside xs)
  pub second_is : s ≡ place_of m (at_place inside xs f)

-- one list more
pub first_more : {X : Type 0} (inside : X → List ℕ) (xs : List X) (x : X) (m f s m' f' s' : ℕ) → IsFirst inside xs m f s →
    m' ≡ max m (greatest (inside x)) → f' ≡ cond (nat_lt m (greatest (inside x))) (length xs) f →
    s' ≡ cond (nat_lt m (greatest (inside x))) (place_of (greatest (inside x)) (inside x)) s → IsFirst inside (xs ++ x ∷ []) m' f' s'
first_more inside xs x m f s m' f' s' so_far me fe se =
    let own = greatest (inside x) in
    let each = each_greatest inside xs in
    let more : each_greatest inside (xs ++ x ∷ []) ≡ each ++ own ∷ [] = map-append (λ y. greatest (inside y)) xs (x ∷ []) in
    let all = ap greatest more ∙ greatest_more each own in
    let before = so_far.most_is in
    let size = length-map xs (λ y. greatest (inside y)) in
    elim (cases_Bool (nat_lt m own)) [
      | inl above ↦
          let over = ltb-true m own above in
          let now : m' ≡ own = omega (arith, me, over) in
          let place : f' ≡ length xs = fe ∙ cond-true (nat_lt m own) (length xs) f above in
          record {
            most_is = omega (arith, now, all, before, over);
            first_is = place ∙ sym (ap (λ k. place_of k (each_greatest inside (xs ++ x ∷ []))) now ∙ ap (place_of own) more ∙ place_new each own own (omega (arith, before, over)) (omega arith) ∙ size);
            second_is = se ∙ cond-true (nat_lt m own) (place_of own (inside x)) s above
                ∙ sym (ap (λ k. place_of k (at_place inside (xs ++ x ∷ []) f')) now ∙ ap (λ k. place_of own (at_place inside (xs ++ x ∷ []) k)) place ∙ ap (place_of own) (at_last inside xs x));
          }
      | inr not ↦
          let under = ltb-false m own not in
          let now : m' ≡ m = omega (arith, me, under) in
          let place : f' ≡ f = fe ∙ cond-false (nat_lt m own) (length xs) f not in
          let le : m ≤ greatest each = omega (arith, before) in
          record {
            most_is = omega (arith, now, all, before, under);
            first_is = place ∙ so_far.first_is ∙ sym (ap (λ k. place_of k (each_greatest inside (xs ++ x ∷ []))) now ∙ ap (place_of m) more ∙ place_kept m each (own ∷ []) le);
            second_is = se ∙ cond-false (nat_lt m own) (place_of own (inside x)) s not ∙ so_far.second_is
                ∙ ap (λ k. place_of m (at_place inside xs k)) so_far.first_is ∙ sym (same_at inside m xs x le)
                ∙ sym (ap (λ k. place_of k (at_place inside (xs ++ x ∷ []) f')) now ∙ ap (λ k. place_of m (at_place inside (xs ++ x ∷ []) k)) (place ∙ so_far.first_is));
          }
    ]

-- the sum of what is left, and that of what is left behind one more
pub sum_more : {X : Type 0} (F : List X → ℕ) (one : X → ℕ) → ((x : X) (xs : List X) → F (x ∷ xs) ≡ one x + F xs) → (xs : List X) (i : ℕ) (x : X) →
    i < length xs → x ≡ get_or xs i x → F (drop i xs) ≡ one x + F (drop (i + 1) xs)
sum_more F one step xs i x within here =
    at_drop_more F xs i x within ∙ step (get_or xs i x) (drop (i + 1) xs) ∙ ap (λ y. one y + F (drop (i + 1) xs)) (sym here)

-- the one at a place of a list whose elements so far are known
pub most_next : {X Y : Type 0} (seen : X → Y) (work : Y → ℕ) (most first second place : ℕ) (xs : List X) (i : ℕ) (x : X) (m f s its : ℕ) {m' f' s' : ℕ} →
    i < length xs → x ≡ get_or xs i x → its ≡ work (seen x) → IsMost most first second place (map work (map seen (take i xs))) m f s →
    m' ≡ max m its → f' ≡ cond (nat_lt m its) place f → s' ≡ cond (nat_lt m its) i s →
    IsMost most first second place (map work (map seen (take (i + 1) xs))) m' f' s'
most_next seen work most first second place xs i x m f s its {m' = m'} {f' = f'} {s' = s'} within here own so_far me fe se =
    let front = map work (map seen (take i xs)) in
    let size : length front ≡ i = length-map (map seen (take i xs)) work ∙ length-map (take i xs) seen ∙ length-take-le i xs (omega (arith, within)) in
    let next : front ++ its ∷ [] ≡ map work (map seen (take (i + 1) xs)) =
    ap (λ n. front ++ n ∷ []) (own ∙ ap (λ y. work (seen y)) here) ∙ sym (map-append work (map seen (take i xs)) (seen (get_or xs i x) ∷ [])) ∙ ap (map work) (sym (map_more seen xs i x within)) in
    subst (λ ns. IsMost most first second place ns m' f' s') next
    (most_more most first second place front m f s its so_far me fe (se ∙ ap (λ k. cond (nat_lt m its) k s) (sym size)))

pub first_next : {X Y : Type 0} (seen : X → Y) (inside : Y → List ℕ) (xs : List X) (i : ℕ) (x : X) (m f s m' f' s' : ℕ) → i < length xs → x ≡ get_or xs i x →
    IsFirst inside (map seen (take i xs)) m f s → m' ≡ max m (greatest (inside (seen x))) → f' ≡ cond (nat_lt m (greatest (inside (seen x)))) i f →
    s' ≡ cond (nat_lt m (greatest (inside (seen x)))) (place_of (greatest (inside (seen x))) (inside (seen x))) s →
    IsFirst inside (map seen (take (i + 1) xs)) m' f' s'
first_next seen inside xs i x m f s m' f' s' within here so_far me fe se =
    let front = map seen (take i xs) in
    let size : length front ≡ i = length-map (take i xs) seen ∙ length-take-le i xs (omega (arith, within)) in
    let next : front ++ seen x ∷ [] ≡ map seen (take (i + 1) xs) = ap (λ y. front ++ seen y ∷ []) here ∙ sym (map_more seen xs i x within) in
    subst (λ ys. IsFirst inside ys m' f' s') next
    (first_more inside front (seen x) m f s m' f' s' so_far me (fe ∙ ap (λ k. cond (nat_lt m (greatest (inside (seen x)))) k f) (sym size)) se)

pub first_none : {X : Type 0} (inside : X → List ℕ) → IsFirst inside [] 0 0 0
first_none inside = record { most_is = refl; first_is = refl; second_is = refl }

-- of all
pub most_all : {X Y : Type 0} (seen : X → Y) (work : Y → ℕ) (most first second place : ℕ) (xs : List X) (i m f s : ℕ) → length xs ≤ i →
    IsMost most first second place (map work (map seen (take i xs))) m f s → IsMost most first second place (map work (map seen xs)) m f s
most_all seen work most first second place xs i m f s past all = subst (λ ys. IsMost most first second place (map work (map seen ys)) m f s) (take_all i xs past) all

pub first_all : {X Y : Type 0} (seen : X → Y) (inside : Y → List ℕ) (xs : List X) (i m f s : ℕ) → length xs ≤ i →
    IsFirst inside (map seen (take i xs)) m f s → IsFirst inside (map seen xs) m f s
first_all seen inside xs i m f s past all = subst (λ ys. IsFirst inside (map seen ys) m f s) (take_all i xs past) all
