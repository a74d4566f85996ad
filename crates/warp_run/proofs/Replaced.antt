-- Values that were written over: giving them back, and the values at each checkpoint.
use Rattle.std.proofs.Common.{◌≡◌, ◌≤◌, ◌<◌, ◌+◌, ◌*◌, ◌/◌, ◌-◌, ℕ, zero, suc, ℤ, Bool, true, List, [], ◌∷◌, ◌++◌, length, take, drop, set, pos, refl, sym, subst, ap, ◌∙◌, arith, get_or, inl, inr}
use Rattle.std.specs.Prelude.{slice_index_or, nat_lt, if◌then◌else◌}
use Rattle.std.proofs.lemmas.Bool.{cases_Bool}
use Rattle.std.proofs.lemmas.Bool.Decides.{nat_tests}
use Rattle.std.proofs.lemmas.Nat.{div-mul-add, le-div}
use Rattle.std.proofs.lemmas.List.{append-nil, append_assoc, drop_all, drop_at, drop-append-le, drop-drop, get_or-set_same, length-append, length-drop, length-set, length-take-le, set-get_or, set-set, take-append-drop, take-set-le, take-take, take_at, take_more, take_more_same, drop-take}
use Rattle.warp_run.specs.Stack.{cells_in, free_for, given_back, values_of}
use Rattle.warp_run.specs.declared.changes.Cell.{Cell}

-- as many values stay
pub length-given_back : (cells : List Cell) (values : List ℤ) → length (given_back cells values) ≡ length values
length-given_back [] values = refl
length-given_back (c ∷ cells) values = length-set (given_back cells values) c.at c.value ∙ length-given_back cells values

-- the last are given back first
pub given_back-append : (cells more : List Cell) (values : List ℤ) → given_back (cells ++ more) values ≡ given_back cells (given_back more values)
given_back-append [] more values = refl
given_back-append (c ∷ cells) more values = ap (λ (xs : List ℤ). set xs c.at c.value) (given_back-append cells more values)

-- with one more value written over and kept, the same is given back
pub same_back : (cells : List Cell) (i : ℕ) (v : ℤ) (image was : List ℤ) → given_back cells image ≡ was
    → given_back (cells ++ (record { at = i; value = slice_index_or image i (pos 0) }) ∷ []) (set image i v) ≡ was
same_back cells i v image was h =
    given_back-append cells ((record { at = i; value = slice_index_or image i (pos 0) }) ∷ []) (set image i v)
    ∙ ap (given_back cells) (set-set image i v (slice_index_or image i (pos 0)) ∙ set-get_or image i (pos 0)) ∙ h

-- one that is given back, and then those before it behind the first so many
pub one_back : (rest : ℕ) (cells all : List Cell) (c : Cell) (image : List ℤ) → rest ≤ length cells → all ≡ cells ++ c ∷ []
    → given_back (drop rest cells) (set image c.at c.value) ≡ given_back (drop rest all) image
one_back rest cells all c image le is =
    sym (ap (λ (l : List Cell). given_back (drop rest l) image) is ∙ ap (λ (l : List Cell). given_back l image) (drop-append-le rest cells (c ∷ []) le)
    ∙ given_back-append (drop rest cells) (c ∷ []) image)

-- where the next value is written, both are the same up to the next place
pub next_front : (xs ys : List ℤ) (i : ℕ) → i < length xs → i < length ys → take i xs ≡ take i ys
    → take (i + 1) (set xs i (slice_index_or ys i (pos 0))) ≡ take (i + 1) ys
next_front xs ys i less lower front =
    let v = slice_index_or ys i (pos 0) in
    take_more_same (set xs i v) ys i (pos 0) (omega (length-set xs i v, less, arith)) lower (take-set-le i xs i v (omega arith) ∙ front) (get_or-set_same xs i v (pos 0) less)

-- what is left without the last one is a front of all too
pub front_kept : (cells now all : List Cell) (c : Cell) → now ≡ cells ++ c ∷ [] → now ≡ take (length now) all → cells ≡ take (length cells) all
front_kept cells now all c is h =
    let more : length now ≡ length cells + 1 = ap (λ (l : List Cell). length l) is ∙ length-append cells (c ∷ []) in
    sym (take_at cells (c ∷ []) (length cells) refl) ∙ ap (take (length cells)) (sym is ∙ h) ∙ take-take (length cells) (length now) all (omega (more, arith))

take-add : (a b : ℕ) (xs : List ℤ) → take (a + b) xs ≡ take a xs ++ take b (drop a xs)
take-add a b xs =
    let less : a ≤ a + b = omega arith in
    sym (take-append-drop a (take (a + b) xs)) ∙ (λ i. take-take a (a + b) xs less i ++ drop-take a b xs i)

-- the same up to one place and from there to another are the same up to that
pub same_front : (xs ys : List ℤ) (at to : ℕ) → at ≤ to → take at xs ≡ take at ys
    → take (to - at) (drop at xs) ≡ take (to - at) (drop at ys) → take to xs ≡ take to ys
same_front xs ys at to order front part =
    let whole : at + (to - at) ≡ to = omega (order, arith) in
    (λ i. take (sym whole i) xs) ∙ take-add at (to - at) xs ∙ (λ i. front i ++ part i) ∙ sym (take-add at (to - at) ys)
    ∙ (λ i. take (whole i) ys)

-- what was written over in two pieces
pub back_twice : (old new now : List Cell) (first more : List Cell) (was between image : List ℤ) → now ≡ old ++ first → new ≡ now ++ more
    → given_back first between ≡ was → given_back more image ≡ between
    → (all : List Cell) × (new ≡ old ++ all) × (given_back all image ≡ was)
back_twice old new now first more was between image now_is new_is first_back more_back = (
  first ++ more,
  new_is ∙ ap (λ (cs : List Cell). cs ++ more) now_is ∙ append_assoc old first more,
  given_back-append first more image ∙ ap (given_back first) more_back ∙ first_back,
)

-- ---- the values at each checkpoint

-- behind some steps one more
pub cells_in-more : (steps : List ℕ) (step : ℕ) → cells_in (steps ++ step ∷ []) ≡ cells_in steps + step
cells_in-more [] step = omega arith
cells_in-more (s ∷ steps) step = let rest = cells_in-more steps step in omega arith

pub values_more : (image older : List ℤ) (cells more : List Cell) (steps : List ℕ) → cells_in steps ≡ length cells → given_back more image ≡ older
    → values_of image (cells ++ more) (steps ++ length more ∷ []) ≡ values_of older cells steps ++ image
values_more image older [] more [] count back =
    ap (λ (cs : List Cell). given_back cs image ++ []) (drop_all (length more) more (omega arith)) ∙ append-nil image
values_more image older (c ∷ cells) more [] count back = absurd (omega (count, arith))
values_more image older cells more (s ∷ steps) count back =
    let enough : s ≤ length cells = omega (count, arith) in
    let left : cells_in steps ≡ length (drop s cells) = omega (count, length-drop s cells, arith) in
    let behind : drop s (cells ++ more) ≡ drop s cells ++ more = drop-append-le s cells more enough in
    (λ i. given_back (behind i) image ++ values_of image (behind i) (steps ++ length more ∷ []))
    ∙ (λ i. (given_back-append (drop s cells) more image ∙ ap (given_back (drop s cells)) back) i
    ++ values_more image older (drop s cells) more steps left back i)
    ∙ sym (append_assoc (given_back (drop s cells) older) (values_of older (drop s cells) steps) image)

-- each has as many
pub length-values_of : (image : List ℤ) (cells : List Cell) (steps : List ℕ) → length (values_of image cells steps) ≡ length steps * length image
length-values_of image cells [] = omega arith
length-values_of image cells (s ∷ steps) =
    let here = length-given_back (drop s cells) image in
    let rest = length-values_of image (drop s cells) steps in
    let both = length-append (given_back (drop s cells) image) (values_of image (drop s cells) steps) in
    omega (arith, here, rest, both)

-- the newest of some steps, the cells that it wrote over, and the values of the one before it
pub record HasTop (image : List ℤ) (cells : List Cell) (steps : List ℕ) (others : List ℕ) (step : ℕ) : Type 0 where
  pub enough : step ≤ length cells
  pub count : cells_in others ≡ length (take (length cells - step) cells)
  pub values : values_of image cells steps
      ≡ values_of (given_back (drop (length cells - step) cells) image) (take (length cells - step) cells) others ++ image

pub has_top : (image : List ℤ) (cells : List Cell) (steps others : List ℕ) (step : ℕ) → steps ≡ others ++ step ∷ [] → cells_in steps ≡ length cells
    → HasTop image cells steps others step
has_top image cells steps others step is count =
    let sum : cells_in steps ≡ cells_in others + step = ap cells_in is ∙ cells_in-more others step in
    let enough : step ≤ length cells = omega (arith, sum, count) in
    let rest : ℕ = length cells - step in
    let front : length (take rest cells) ≡ rest = length-take-le rest cells (omega arith) in
    let last : length (drop rest cells) ≡ step = omega (arith, enough, length-drop rest cells) in
    let few : cells_in others ≡ length (take rest cells) = omega (arith, sum, count, front, enough) in
    let whole : take rest cells ++ drop rest cells ≡ cells = take-append-drop rest cells in
    record {
      enough = enough;
      count = few;
      values = (λ i. values_of image (sym whole i) (is i))
          ∙ (λ i. values_of image (take rest cells ++ drop rest cells) (others ++ sym last i ∷ []))
          ∙ values_more image (given_back (drop rest cells) image) (take rest cells) (drop rest cells) others few refl;
    }

-- steps have a last one, if there are any
pub last_step : (steps : List ℕ) → 0 < length steps → (others : List ℕ) × (step : ℕ) × (steps ≡ others ++ step ∷ [])
last_step [] some = absurd (omega (some, arith))
last_step (s ∷ []) some = ([], s, refl)
last_step (s ∷ t ∷ steps) some =
    let rest = last_step (t ∷ steps) (omega arith) in
    (s ∷ rest.0, rest.1, ap (λ (ss : List ℕ). s ∷ ss) rest.2)

-- there are, where there are values
pub some_step : (image : List ℤ) (cells : List Cell) (steps : List ℕ) → 0 < length image → length image ≤ length (values_of image cells steps)
    → 0 < length steps
some_step image cells [] some within = absurd (omega (some, within, arith))
some_step image cells (s ∷ steps) some within = omega arith

-- the newest are the last of all
pub newest_last : (image : List ℤ) (cells : List Cell) (steps : List ℕ) → cells_in steps ≡ length cells → 0 < length image
    → length image ≤ length (values_of image cells steps)
    → drop (length (values_of image cells steps) - length image) (values_of image cells steps) ≡ image
newest_last image cells steps count some within =
    let last = last_step steps (some_step image cells steps some within) in
    let top = has_top image cells steps last.0 last.1 last.2 count in
    let older : List ℤ = values_of (given_back (drop (length cells - last.1) cells) image) (take (length cells - last.1) cells) last.0 in
    let lengths : length (values_of image cells steps) ≡ length older + length image = ap (λ (xs : List ℤ). length xs) top.values ∙ length-append older image in
    (λ i. drop (length (values_of image cells steps) - length image) (top.values i))
    ∙ drop_at older image (length (values_of image cells steps) - length image) (omega (arith, lengths))

-- and those before it are in front of them
pub others_first : (image : List ℤ) (cells : List Cell) (steps others : List ℕ) (step : ℕ) → HasTop image cells steps others step
    → take (length (values_of image cells steps) - length image) (values_of image cells steps)
    ≡ values_of (given_back (drop (length cells - step) cells) image) (take (length cells - step) cells) others
others_first image cells steps others step top =
    let older : List ℤ = values_of (given_back (drop (length cells - step) cells) image) (take (length cells - step) cells) others in
    let lengths : length (values_of image cells steps) ≡ length older + length image = ap (λ (xs : List ℤ). length xs) top.values ∙ length-append older image in
    (λ i. take (length (values_of image cells steps) - length image) (top.values i))
    ∙ take_at older image (length (values_of image cells steps) - length image) (omega (arith, lengths))

-- ---- the oldest go

-- the steps of a front and of what is behind it
pub cells_in-split : (k : ℕ) (steps : List ℕ) → cells_in (take k steps) + cells_in (drop k steps) ≡ cells_in steps
cells_in-split zero steps = omega arith
cells_in-split (suc k) [] = omega arith
cells_in-split (suc k) (s ∷ steps) = let rest = cells_in-split k steps in omega arith

-- without them
pub values_behind : (k : ℕ) (image : List ℤ) (cells : List Cell) (steps : List ℕ) → k ≤ length steps
    → values_of image (drop (cells_in (take k steps)) cells) (drop k steps) ≡ drop (k * length image) (values_of image cells steps)
values_behind zero image cells steps within =
    let none : 0 ≡ 0 * length image = omega arith in ap (λ (n : ℕ). drop n (values_of image cells steps)) none
values_behind (suc k) image cells [] within = absurd (omega (within, arith))
values_behind (suc k) image cells (s ∷ steps) within =
    let here : List ℤ = given_back (drop s cells) image in
    let rest : List ℤ = values_of image (drop s cells) steps in
    let width : length here ≡ length image = length-given_back (drop s cells) image in
    let order : cells_in (take k steps) + s ≡ s + cells_in (take k steps) = omega arith in
    let gone : suc k * length image ≡ length image + k * length image = omega arith in
    (λ i. values_of image (sym (drop-drop (cells_in (take k steps)) s cells) i) (drop k steps))
    ∙ values_behind k image (drop s cells) steps (omega arith)
    ∙ (λ i. drop (k * length image) (sym (drop_at here rest (length image) width) i))
    ∙ drop-drop (k * length image) (length image) (here ++ rest)
    ∙ (λ i. drop (sym gone i) (here ++ rest))

-- so many checkpoints there are at most
pub few_steps : (count steps width : ℕ) → 0 < width → count * width ≤ steps * width → count ≤ steps
few_steps count steps width some within =
    let below = le-div count (steps * width) width some within in
    let is : (steps * width + 0) / width ≡ steps = div-mul-add steps width 0 some in
    let none : steps * width + 0 ≡ steps * width = omega arith in
    let exact : (steps * width) / width ≡ steps = ap (λ (n : ℕ). n / width) (sym none) ∙ is in
    omega (arith, below, exact)

-- so it is where they have so many values
pub steps_within : (image : List ℤ) (cells : List Cell) (steps : List ℕ) (count : ℕ) → 0 < length image
    → count * length image ≤ length (values_of image cells steps) → count ≤ length steps
steps_within image cells steps count some within =
    let all = length-values_of image cells steps in
    few_steps count (length steps) (length image) some (subst (λ (n : ℕ). count * length image ≤ n) all within)

-- the cells that go with the first steps, and those that stay
pub cells_gone : (steps list : List ℕ) (cells : List Cell) (count gone : ℕ) → list ≡ steps → gone ≡ cells_in (take count list)
    → cells_in steps ≡ length cells
    → (gone ≡ cells_in (take count steps)) × (cells_in (drop count steps) + gone ≡ length cells)
cells_gone steps list cells count gone same is all =
    let here : gone ≡ cells_in (take count steps) = is ∙ ap (λ (xs : List ℕ). cells_in (take count xs)) same in
    (here, omega (arith, here, cells_in-split count steps, all))

-- room
pub some_free : (steps room left : ℕ) → 0 < free_for steps room left → (steps < room) × (free_for steps room left ≡ left)
some_free steps room left some = elim (cases_Bool (nat_lt steps room)) [
  | inl more ↦ let free : free_for steps room left ≡ left = ap (λ (b : Bool). if b then left else 0) more in (grind (arith, nat_tests), free)
  | inr full ↦
      let none : free_for steps room left ≡ 0 = ap (λ (b : Bool). if b then left else 0) full in
      absurd (omega (some, none, arith))
]

pub all_free : (steps room left : ℕ) → steps < room → free_for steps room left ≡ left
all_free steps room left more =
    let is : nat_lt steps room ≡ true = grind (arith, nat_tests) in
    ap (λ (b : Bool). if b then left else 0) is

-- one more step
pub cells_in-next : (steps : List ℕ) (i : ℕ) → i < length steps → cells_in (take (i + 1) steps) ≡ cells_in (take i steps) + get_or steps i 0
cells_in-next steps i within = ap cells_in (take_more steps i 0 within) ∙ cells_in-more (take i steps) (get_or steps i 0)

pub cells_in-some : (steps : List ℕ) (i : ℕ) → i < length steps → cells_in (take i steps) + get_or steps i 0 ≤ cells_in steps
cells_in-some steps i within =
    let next = cells_in-next steps i within in
    let all = cells_in-split (i + 1) steps in
    omega (arith, next, all)
