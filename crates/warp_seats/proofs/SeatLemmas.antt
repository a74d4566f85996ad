-- The first seat that passes a test; a seat that is changed.
use Rattle.std.proofs.Common.{◌≡◌, ◌⊎◌, ◌∙◌, ℕ, zero, suc, ◌+◌, ◌<◌, ◌≤◌, Bool, true, false, List, [], ◌∷◌, length, Option, Some, None, get_or, set, ap, sym, subst, refl, inl, inr, arith}
use Rattle.std.proofs.Math.ListN.{get_or-eq_default}
use Rattle.std.proofs.lemmas.List.{get_or-set_other, get_or-set_same}
use Rattle.std.specs.Prelude.{is_some, min, nat_le, replicate, if◌then◌else◌}
use Rattle.warp_seats.specs.declared.seat.Seat.{Seat}
use Rattle.warp_seats.specs.declared.seat.Sitter.{Sitter}
use Rattle.warp_seats.specs.declared.seat.Sitter.TheVariants.{Nobody, Here, Away}
use Rattle.warp_seats.specs.Seats.{SeatsState, expired, first_from, first_of, has_expired, is_over, kept_until, never, no_seat, seat_at, soonest, with_seat}

-- the first moment is none past never
kept_most : (timeout : ℕ) (sitter : Sitter) → kept_until timeout sitter ≤ never
kept_most timeout Nobody = omega arith
kept_most timeout (Here who) = omega arith
kept_most timeout (Away since) = omega arith

pub soonest_most : (timeout : ℕ) (seats : List Seat) → soonest timeout seats ≤ never
soonest_most timeout [] = omega arith
soonest_most timeout (s ∷ seats) = omega (arith, soonest_most timeout seats)

pub from_never : (timeout : ℕ) (seats : List Seat) → min never (soonest timeout seats) ≡ soonest timeout seats
from_never timeout seats = omega (arith, soonest_most timeout seats)

-- what the first one is, and that no earlier one passes
pub record IsFirst (p : ℕ → Seat → Bool) (k : ℕ) (seats : List Seat) (n : ℕ) : Type 0 where
  pub place : ℕ
  pub is : n ≡ k + place
  pub within : place < length seats
  pub passes : p n (get_or seats place no_seat) ≡ true
  pub before : (m : ℕ) → m < place → p (k + m) (get_or seats m no_seat) ≡ false

value_or : {A : Type 0} → Option A → A → A
value_or None a = a
value_or (Some b) a = b

some_is : {A : Type 0} (a b : A) → Some a ≡ Some b → a ≡ b
some_is a b h = grind (arith, h)

behind : (p : ℕ → Seat → Bool) (k : ℕ) (s : Seat) (seats : List Seat) → p k s ≡ false → (m : ℕ) →
    ((j : ℕ) → j < m → p (k + 1 + j) (get_or seats j no_seat) ≡ false) →
    (j : ℕ) → j < suc m → p (k + j) (get_or (s ∷ seats) j no_seat) ≡ false
behind p k s seats none m h zero few = subst (λ n. p n s ≡ false) (omega arith) none
behind p k s seats none m h (suc j) few =
    let e : k + 1 + j ≡ k + suc j = omega arith in subst (λ n. p n (get_or seats j no_seat) ≡ false) e (h j (omega (arith, few)))

first_by : (p : ℕ → Seat → Bool) (k : ℕ) (s : Seat) (seats : List Seat) (n : ℕ) → (b : Bool) → p k s ≡ b →
    (first_from p (k + 1) seats ≡ Some n → IsFirst p (k + 1) seats n) →
    (if b then Some k else first_from p (k + 1) seats) ≡ Some n → IsFirst p k (s ∷ seats) n
first_by p k s seats n true is rest h = let e : k ≡ n = some_is k n h in record {
  place = 0;
  is = omega (arith, e);
  within = omega arith;
  passes = subst (λ n. p n s ≡ true) e is;
  before = λ m few. absurd (omega (arith, few));
}
first_by p k s seats n false is rest h = let w = rest h in record {
  place = suc w.place;
  is = omega (arith, w.is);
  within = omega (arith, w.within);
  passes = w.passes;
  before = behind p k s seats is w.place w.before;
}

first_at : (p : ℕ → Seat → Bool) (k : ℕ) (seats : List Seat) (n : ℕ) → first_from p k seats ≡ Some n → IsFirst p k seats n
first_at p k [] n h = absurd (grind (arith, h))
first_at p k (s ∷ seats) n h = first_by p k s seats n (p k s) refl (first_at p (k + 1) seats n) h

none_by : (p : ℕ → Seat → Bool) (k : ℕ) (s : Seat) (seats : List Seat) → (b : Bool) → p k s ≡ b →
    (first_from p (k + 1) seats ≡ None → (m : ℕ) → m < length seats → p (k + 1 + m) (get_or seats m no_seat) ≡ false) →
    (if b then Some k else first_from p (k + 1) seats) ≡ None → (m : ℕ) → m < suc (length seats) →
    p (k + m) (get_or (s ∷ seats) m no_seat) ≡ false
none_by p k s seats true is rest h m few = absurd (grind (arith, h))
none_by p k s seats false is rest h m few = behind p k s seats is (length seats) (rest h) m few

none_at : (p : ℕ → Seat → Bool) (k : ℕ) (seats : List Seat) → first_from p k seats ≡ None → (m : ℕ) → m < length seats →
    p (k + m) (get_or seats m no_seat) ≡ false
none_at p k [] h m few = absurd (omega (arith, few))
none_at p k (s ∷ seats) h m few = none_by p k s seats (p k s) refl (none_at p (k + 1) seats) h m (omega (arith, few))

-- the same of all seats
pub found : (p : ℕ → Seat → Bool) (seats : List Seat) (n : ℕ) → first_of p seats ≡ Some n → p n (get_or seats n no_seat) ≡ true
found p seats n h = let w = first_at p 0 seats n h in
    let e : w.place ≡ n = omega (arith, w.is) in subst (λ m. p n (get_or seats m no_seat) ≡ true) e w.passes

pub found_within : (p : ℕ → Seat → Bool) (seats : List Seat) (n : ℕ) → first_of p seats ≡ Some n → n < length seats
found_within p seats n h = let w = first_at p 0 seats n h in omega (arith, w.is, w.within)

pub none_before : (p : ℕ → Seat → Bool) (seats : List Seat) (n m : ℕ) → first_of p seats ≡ Some n → m < n →
    p m (get_or seats m no_seat) ≡ false
none_before p seats n m h few = let w = first_at p 0 seats n h in
    let e : 0 + m ≡ m = omega arith in subst (λ k. p k (get_or seats m no_seat) ≡ false) e (w.before m (omega (arith, w.is, few)))

pub none_within : (p : ℕ → Seat → Bool) (seats : List Seat) → first_of p seats ≡ None → (m : ℕ) → m < length seats →
    p m (get_or seats m no_seat) ≡ false
none_within p seats h m few = let e : 0 + m ≡ m = omega arith in
    subst (λ k. p k (get_or seats m no_seat) ≡ false) e (none_at p 0 seats h m few)

-- of a test that the seat which nobody took fails, wherever it stands
pub none_at_all : (p : ℕ → Seat → Bool) (seats : List Seat) → ((m : ℕ) → p m no_seat ≡ false) → first_of p seats ≡ None → (m : ℕ) →
    p m (get_or seats m no_seat) ≡ false
none_at_all p seats fails h m =
    let which : (m < length seats) ⊎ (length seats ≤ m) = grind arith in
    elim which [
      | inl few ↦ none_within p seats h m few
      | inr far ↦ subst (λ s. p m s ≡ false) (sym (get_or-eq_default seats no_seat far)) (fails m)
    ]

-- none is found where none passes
none_from : (p : ℕ → Seat → Bool) (k : ℕ) (seats : List Seat) → ((m : ℕ) → p (k + m) (get_or seats m no_seat) ≡ false) →
    first_from p k seats ≡ None
none_from p k [] h = refl
none_from p k (s ∷ seats) h =
    let here : p k s ≡ false = let e : k + 0 ≡ k = omega arith in subst (λ n. p n s ≡ false) e (h 0) in
    let rest : first_from p (k + 1) seats ≡ None =
    none_from p (k + 1) seats (λ m. let e : k + suc m ≡ k + 1 + m = omega arith in
    subst (λ n. p n (get_or seats m no_seat) ≡ false) e (h (suc m))) in
    ap (λ b. if b then Some k else first_from p (k + 1) seats) here ∙ rest

pub finds_none : (p : ℕ → Seat → Bool) (seats : List Seat) → ((m : ℕ) → p m (get_or seats m no_seat) ≡ false) → first_of p seats ≡ None
finds_none p seats h = none_from p 0 seats (λ m. let e : m ≡ 0 + m = omega arith in subst (λ n. p n (get_or seats m no_seat) ≡ false) e (h m))

-- the seat of an origin behind a change of one: it is the changed one, or as it was
pub changed_at : (n : ℕ) (change : Seat → Seat) (s : SeatsState) → n < length s.seats →
    seat_at n (with_seat n change s) ≡ change (seat_at n s)
changed_at n change s few = get_or-set_same s.seats n (change (seat_at n s)) no_seat few

pub unchanged : (n m : ℕ) (change : Seat → Seat) (s : SeatsState) → (m ≡ n → ⊥) → seat_at m (with_seat n change s) ≡ seat_at m s
unchanged n m change s other = get_or-set_other s.seats n m (change (seat_at n s)) no_seat other

pub record IsChanged (n : ℕ) (change : Seat → Seat) (s : SeatsState) (m : ℕ) : Type 0 where
  pub same : m ≡ n
  pub is : seat_at m (with_seat n change s) ≡ change (seat_at n s)

beyond : {A : Type 0} (l : List A) (n : ℕ) (a : A) → length l ≤ n → set l n a ≡ l
beyond [] n a h = refl
beyond (x ∷ l) zero a h = absurd (omega (arith, h))
beyond (x ∷ l) (suc n) a h = ap (λ l. x ∷ l) (beyond l n a (omega (arith, h)))

changed_here : (n m : ℕ) (change : Seat → Seat) (s : SeatsState) → m ≡ n →
    IsChanged n change s m ⊎ (seat_at m (with_seat n change s) ≡ seat_at m s)
changed_here n m change s same =
    let which : (n < length s.seats) ⊎ (length s.seats ≤ n) = grind arith in
    elim which [
      | inl few ↦ inl (record {
        same = same;
        is = ap (λ k. seat_at k (with_seat n change s)) same ∙ get_or-set_same s.seats n (change (seat_at n s)) no_seat few;
      })
      | inr far ↦ inr (ap (λ l. get_or l m no_seat) (beyond s.seats n (change (seat_at n s)) far))
    ]

pub changed : (n m : ℕ) (change : Seat → Seat) (s : SeatsState) →
    IsChanged n change s m ⊎ (seat_at m (with_seat n change s) ≡ seat_at m s)
changed n m change s =
    let which : (m < n) ⊎ ((m ≡ n) ⊎ (n < m)) = grind arith in
    elim which [
      | inl less ↦ inr (get_or-set_other s.seats n m (change (seat_at n s)) no_seat (λ e. omega (arith, less, e)))
      | inr rest ↦ elim rest [
        | inr more ↦ inr (get_or-set_other s.seats n m (change (seat_at n s)) no_seat (λ e. omega (arith, more, e)))
        | inl same ↦ changed_here n m change s same
      ]
    ]

pub always : (k n : ℕ) → get_or (replicate k no_seat) n no_seat ≡ no_seat
always zero n = refl
always (suc k) zero = refl
always (suc k) (suc n) = always k n

-- when the first seat is to be freed
later_on : (timeout now k : ℕ) (b : Bool) (until rest : ℕ) (found : Option ℕ) → now < never → rest ≤ never → nat_le until now ≡ b →
    is_some found ≡ nat_le rest now → is_some (if b then Some k else found) ≡ nat_le (min until rest) now
later_on timeout now k true until rest found soon most is h = grind (is, arith)
later_on timeout now k false until rest found soon most is h = h ∙ grind (is, arith)

due_by : (now timeout k : ℕ) (sitter : Sitter) (rest : ℕ) (found : Option ℕ) → now < never → rest ≤ never → is_some found ≡ nat_le rest now →
    is_some (if has_expired now timeout sitter then Some k else found) ≡ nat_le (min (kept_until timeout sitter) rest) now
due_by now timeout k Nobody rest found soon most h = h ∙ ap (λ n. nat_le n now) (omega (arith, most))
due_by now timeout k (Here who) rest found soon most h = h ∙ ap (λ n. nat_le n now) (omega (arith, most))
due_by now timeout k (Away since) rest found soon most h =
    later_on timeout now k (nat_le (min never (since + timeout)) now) (min never (since + timeout)) rest found soon most refl h

due_from : (now timeout k : ℕ) (seats : List Seat) → now < never →
    is_some (first_from (is_over now timeout) k seats) ≡ nat_le (soonest timeout seats) now
due_from now timeout k [] soon = grind (soon, arith)
due_from now timeout k (s ∷ seats) soon =
    due_by now timeout k s.sitter (soonest timeout seats) (first_from (is_over now timeout) (k + 1) seats) soon (soonest_most timeout seats)
    (due_from now timeout (k + 1) seats soon)

pub due : (now timeout : ℕ) (s : SeatsState) → now < never → is_some (expired now timeout s) ≡ nat_le (soonest timeout s.seats) now
due now timeout s soon = due_from now timeout 0 s.seats soon

kept_by : (now timeout : ℕ) (sitter : Sitter) → has_expired now timeout sitter ≡ true →
    (since : ℕ) × (sitter ≡ Away since) × (min never (since + timeout) ≤ now)
kept_by now timeout Nobody h = absurd (grind (arith, h))
kept_by now timeout (Here who) h = absurd (grind (arith, h))
kept_by now timeout (Away since) h = (since, refl, grind (arith, h))

pub kept : (now timeout n : ℕ) (s : SeatsState) → expired now timeout s ≡ Some n →
    (since : ℕ) × ((seat_at n s).sitter ≡ Away since) × (min never (since + timeout) ≤ now)
kept now timeout n s h = kept_by now timeout (seat_at n s).sitter (found (is_over now timeout) s.seats n h)
