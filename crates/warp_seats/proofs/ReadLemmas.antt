-- Reading the lines of seats one origin after another.
use Rattle.std.proofs.Common.{◌≡◌, ◌⊎◌, ◌∙◌, ℕ, zero, suc, ◌+◌, ◌-◌, ◌<◌, ◌≤◌, Bool, true, false, List, [], ◌∷◌, ◌++◌, length, Option, Some, None, get_or, ap, sym, subst, refl, inl, inr, not, arith, append_assoc}
use Rattle.std.proofs.Math.ListN.{get_or-map}
use Rattle.std.proofs.lemmas.Bool.{eqb-true, true≢false}
use Rattle.std.proofs.lemmas.List.{append-nil, get_or_default, length-map, length-replicate, length-set}
use Rattle.std.proofs.lemmas.Slice.Eq.{bytes_eq-Decides}
use Rattle.std.specs.Prelude.{◌==◌, is_some, if◌then◌else◌}
use Rattle.warp_watch.specs.declared.client_id.ClientId.{ClientId}
use Rattle.warp_seats.specs.declared.seat.Said.{Said}
use Rattle.warp_seats.specs.declared.seat.Seat.{Seat}
use Rattle.warp_seats.specs.declared.seat.Sitter.TheVariants.{Away}
use Rattle.warp_seats.specs.Seats.{AreApart, SeatsState, found_by, fresh, has_digest, is_empty, is_holder, is_taken, is_taken_with, no_seat, seat_at, with_seat}
use Rattle.warp_seats.specs.Text.{AreKept, AreOffered, CanBeSaid, CanSay, HasNoLine, IsKept, IsWrong, ReadsOn, TakesLine, kept_at, kept_from, kept_of}
use Rattle.warp_seats.specs.Text.{line_at, lines_from, said_of, seat_line, text_of}
use Rattle.warp_seats.proofs.ApartLemmas.{Fits, apart_with, both_no, digest_none, fresh_apart, taken_so}
use Rattle.warp_seats.proofs.SeatLemmas.{always, changed, changed_at, found, unchanged}
use Rattle.warp_seats.proofs.TextLemmas.{line_same}

-- the seats of the first so many origins are the same
abbrev pub Agrees : ℕ → SeatsState → SeatsState → Type 0
Agrees n a b = (m : ℕ) → m < n → seat_at m a ≡ seat_at m b

-- of a text the lines of the first so many origins were read
pub record IsRead (flags : List Bool) (now : ℕ) (text : List ℕ) (n : ℕ) (rest : List ℕ) (s : SeatsState) : Type 0 where
  pub offered : s.offered ≡ flags
  pub count : length s.seats ≡ 64
  pub each : (m : ℕ) → IsKept now m s
  pub apart : AreApart s
  pub later : (m : ℕ) → n ≤ m → seat_at m s ≡ no_seat
  pub sound : (after : SeatsState) → Agrees n after s → rest ≡ lines_from (64 - n) n after → text ≡ text_of after
  pub whole : (other : SeatsState) → AreKept flags now other → text ≡ text_of other →
      Agrees n other s × (rest ≡ lines_from (64 - n) n other)

pub text_is : (s : SeatsState) → text_of s ≡ lines_from 64 0 s
unfolding text_of
text_is s = refl

pub begins : (flags : List Bool) (now : ℕ) (text : List ℕ) → IsRead flags now text 0 text (fresh flags)
begins flags now text = record {
  offered = refl;
  count = length-replicate 64 no_seat;
  each = λ m. inl (always 64 m);
  apart = fresh_apart flags;
  later = λ m h. always 64 m;
  sound = λ after agrees is. is ∙ sym (text_is after);
  whole = λ other kept is. (λ m few. absurd (omega (arith, few)), is ∙ text_is other);
}

pub unrolled : (n : ℕ) (s : SeatsState) → n < 64 → lines_from (64 - n) n s ≡ line_at n s ++ lines_from (64 - (n + 1)) (n + 1) s
unrolled n s few = let e : 64 - n ≡ suc (64 - (n + 1)) = omega (arith, few) in ap (λ k. lines_from k n s) e

-- the line of a seat on which nobody or somebody sits
line_none : (n : ℕ) (s : SeatsState) → seat_at n s ≡ no_seat → line_at n s ≡ []
line_none n s h = ap (λ x. if is_empty x.sitter then [] else seat_line n (said_of x)) h

line_some : (now n : ℕ) (s : SeatsState) → (seat_at n s).sitter ≡ Away now → line_at n s ≡ seat_line n (said_of (seat_at n s))
line_some now n s h = ap (λ x. if is_empty x then [] else seat_line n (said_of (seat_at n s))) h

abbrev starts : List ℕ → Bool
starts [] = false
starts (b ∷ rest) = true

-- no line of an origin stands among those behind it
behind_it : (now count m n : ℕ) (s : SeatsState) (said : Said) (rest : List ℕ) → ((k : ℕ) → IsKept now k s) → n < m → m + count ≤ 64 →
    CanSay said → lines_from count m s ≡ seat_line n said ++ rest → ⊥
behind_it now zero m n s said rest kept past few can is = true≢false (sym (ap starts is))
behind_it now (suc count) m n s said rest kept past few can is = elim (kept m) [
  | inl none ↦ behind_it now count (m + 1) n s said rest kept (omega (arith, past)) (omega (arith, few)) can
      (ap (λ line. line ++ lines_from count (m + 1) s) (sym (line_none m s none)) ∙ is)
  | inr some ↦ let same = line_same m n (said_of (seat_at m s)) said (lines_from count (m + 1) s) rest (omega (arith, few)) (omega (arith, past, few))
      some.1.1 can (ap (λ line. line ++ lines_from count (m + 1) s) (sym (line_some now m s some.1.0)) ∙ is) in
      omega (arith, same.origin, past)
]

more : (n : ℕ) (a b : SeatsState) → Agrees n a b → seat_at n a ≡ seat_at n b → Agrees (n + 1) a b
more n a b agrees here m h =
    let which : (m < n) ⊎ (m ≡ n) = grind (h, arith) in
    elim which [
      | inl few ↦ agrees m few
      | inr same ↦ subst (λ k. seat_at k a ≡ seat_at k b) (sym same) here
    ]

passed_whole : (flags : List Bool) (now : ℕ) (text : List ℕ) (n : ℕ) (rest : List ℕ) (s : SeatsState) → IsRead flags now text n rest s → n < 64 →
    HasNoLine n rest → (other : SeatsState) → AreKept flags now other → Agrees n other s × (rest ≡ lines_from (64 - n) n other) →
    IsKept now n other → Agrees (n + 1) other s × (rest ≡ lines_from (64 - (n + 1)) (n + 1) other)
passed_whole flags now text n rest s r few none other kept at (inl empty) = (
  more n other s at.0 (empty ∙ sym (r.later n (omega arith))),
  at.1 ∙ unrolled n other few ∙ ap (λ line. line ++ lines_from (64 - (n + 1)) (n + 1) other) (line_none n other empty),
)
passed_whole flags now text n rest s r few none other kept at (inr some) =
    absurd (none (said_of (seat_at n other)) (lines_from (64 - (n + 1)) (n + 1) other) some.1.1
    (at.1 ∙ unrolled n other few ∙ ap (λ line. line ++ lines_from (64 - (n + 1)) (n + 1) other) (line_some now n other some.1.0)))

-- one more origin, whose line is not in front
pub passed : (flags : List Bool) (now : ℕ) (text : List ℕ) (n : ℕ) (rest : List ℕ) (s : SeatsState) → IsRead flags now text n rest s → n < 64 →
    HasNoLine n rest → IsRead flags now text (n + 1) rest s
passed flags now text n rest s r few none = record {
  offered = r.offered;
  count = r.count;
  each = r.each;
  apart = r.apart;
  later = λ m h. r.later m (omega (arith, h));
  sound = λ after agrees is.
      let here : seat_at n after ≡ no_seat = agrees n (omega arith) ∙ r.later n (omega arith) in
      r.sound after (λ m h. agrees m (omega (arith, h)))
      (is ∙ ap (λ line. line ++ lines_from (64 - (n + 1)) (n + 1) after) (sym (line_none n after here)) ∙ sym (unrolled n after few));
  whole = λ other kept is. passed_whole flags now text n rest s r few none other kept (r.whole other kept is) (kept.each n);
}

-- one more origin, whose line is
fits_kept : (now n : ℕ) (s : SeatsState) (said : Said) → found_by said.digest s ≡ None → Fits n (kept_of now said) s
fits_kept now n s said none = record {
  clients = λ who m h k. absurd (true≢false (sym h));
  digests = λ digest m h k. let same : digest ≡ said.digest = sym ((bytes_eq-Decides said.digest digest).0 h) in
      absurd (both_no _ (subst (λ d. is_taken_with d (seat_at m s) ≡ true) same k) (digest_none said.digest s none m));
}

kept_with : (now n m : ℕ) (s : SeatsState) (said : Said) → CanSay said → get_or s.offered n false ≡ true → IsKept now m s →
    IsKept now m (with_seat n (kept_of now said) s)
kept_with now n m s said can offered was = elim (changed n m (kept_of now said) s) [
  | inl a ↦ inr (
    ap (λ k. get_or s.offered k false) a.same ∙ offered,
    (ap (λ (x : Seat). x.sitter) a.is, subst (λ x. CanSay (said_of x)) (sym a.is) can),
  )
  | inr a ↦ elim was [
    | inl none ↦ inl (a ∙ none)
    | inr some ↦ inr (some.0, (ap (λ (x : Seat). x.sitter) a ∙ some.1.0, subst (λ x. CanSay (said_of x)) (sym a) some.1.1))
  ]
]

below : (now n : ℕ) (s : SeatsState) (said : Said) (after : SeatsState) → Agrees (n + 1) after (with_seat n (kept_of now said) s) →
    Agrees n after s
below now n s said after agrees m h = agrees m (omega (arith, h)) ∙ unchanged n m (kept_of now said) s (λ e. omega (arith, e, h))

same_seat : (now : ℕ) (said : Said) (x y : Seat) → x.sitter ≡ Away now → said_of x ≡ said → x ≡ kept_of now said y
same_seat now said x y away same = λ i. record { generation = (same i).generation; digest = (same i).digest; sitter = away i }

taken_whole : (flags : List Bool) (now : ℕ) (text : List ℕ) (n : ℕ) (rest : List ℕ) (s : SeatsState) (left : List ℕ) → IsRead flags now text n rest s →
    n < 64 → (said : Said) → CanSay said → rest ≡ seat_line n said ++ left → (other : SeatsState) → AreKept flags now other →
    Agrees n other s × (rest ≡ lines_from (64 - n) n other) → IsKept now n other →
    Agrees (n + 1) other (with_seat n (kept_of now said) s) × (left ≡ lines_from (64 - (n + 1)) (n + 1) other)
taken_whole flags now text n rest s left r few said can line other kept at (inl empty) =
    absurd (behind_it now (64 - (n + 1)) (n + 1) n other said left kept.each (omega arith) (omega (arith, few)) can
    (ap (λ front. front ++ lines_from (64 - (n + 1)) (n + 1) other) (sym (line_none n other empty))
    ∙ sym (unrolled n other few) ∙ sym at.1 ∙ line))
taken_whole flags now text n rest s left r few said can line other kept at (inr some) =
    let same = line_same n n (said_of (seat_at n other)) said (lines_from (64 - (n + 1)) (n + 1) other) left (omega (arith, few)) (omega (arith, few))
    some.1.1 can (ap (λ front. front ++ lines_from (64 - (n + 1)) (n + 1) other) (sym (line_some now n other some.1.0))
    ∙ sym (unrolled n other few) ∙ sym at.1 ∙ line) in
    let within : n < length s.seats = omega (arith, few, r.count) in (
      more n other (with_seat n (kept_of now said) s)
          (λ m h. at.0 m h ∙ sym (unchanged n m (kept_of now said) s (λ e. omega (arith, e, h))))
          (same_seat now said (seat_at n other) (seat_at n s) some.1.0 same.said ∙ sym (changed_at n (kept_of now said) s within)),
      sym same.behind,
    )

taken_on : (flags : List Bool) (now : ℕ) (text : List ℕ) (n : ℕ) (rest : List ℕ) (s : SeatsState) (left : List ℕ) → IsRead flags now text n rest s →
    n < 64 → (said : Said) → CanSay said → rest ≡ seat_line n said ++ left → get_or s.offered n false ≡ true → found_by said.digest s ≡ None →
    IsRead flags now text (n + 1) left (with_seat n (kept_of now said) s)
taken_on flags now text n rest s left r few said can line offered known =
    let within : n < length s.seats = omega (arith, few, r.count) in record {
      offered = r.offered;
      count = length-set s.seats n (kept_of now said (seat_at n s)) ∙ r.count;
      each = λ m. kept_with now n m s said can offered (r.each m);
      apart = apart_with n (kept_of now said) s r.apart (fits_kept now n s said known);
      later = λ m h. unchanged n m (kept_of now said) s (λ e. omega (arith, e, h)) ∙ r.later m (omega (arith, h));
      sound = λ after agrees is.
          let here : seat_at n after ≡ kept_of now said (seat_at n s) = agrees n (omega arith) ∙ changed_at n (kept_of now said) s within in
          r.sound after (below now n s said after agrees)
          (line ∙ ap (λ more. seat_line n said ++ more) is
          ∙ ap (λ (x : Seat). (if is_empty x.sitter then [] else seat_line n (said_of x)) ++ lines_from (64 - (n + 1)) (n + 1) after) (sym here)
          ∙ sym (unrolled n after few));
      whole = λ other kept is. taken_whole flags now text n rest s left r few said can line other kept (r.whole other kept is) (kept.each n);
    }

pub taken : (flags : List Bool) (now : ℕ) (text : List ℕ) (n : ℕ) (rest : List ℕ) (s : SeatsState) (left : List ℕ) (s' : SeatsState) →
    IsRead flags now text n rest s → n < 64 → TakesLine n now rest s left s' → IsRead flags now text (n + 1) left s'
taken flags now text n rest s left s' r few t =
    subst (IsRead flags now text (n + 1) left) (sym t.seat) (taken_on flags now text n rest s left r few t.said t.can t.line t.offered t.known)

found_there : (o : Option ℕ) → is_some o ≡ true → (m : ℕ) × (o ≡ Some m)
found_there None h = absurd (true≢false (sym h))
found_there (Some m) h = (m, refl)

no_digest_there : (digest : List ℕ) (m : ℕ) (s : SeatsState) → seat_at m s ≡ no_seat → is_taken_with digest (seat_at m s) ≡ true → ⊥
no_digest_there digest m s none h = both_no _ h (ap (is_taken_with digest) none)

twice : (flags : List Bool) (now n m : ℕ) (s other : SeatsState) (said : Said) → ((k : ℕ) → n ≤ k → seat_at k s ≡ no_seat) → Agrees n other s →
    AreKept flags now other → is_taken_with said.digest (seat_at n other) ≡ true → is_taken_with said.digest (seat_at m s) ≡ true → ⊥
twice flags now n m s other said later agrees kept here there =
    let which : (m < n) ⊎ (n ≤ m) = grind arith in
    elim which [
      | inl few ↦ let same = kept.apart.digests said.digest m n (subst (λ x. is_taken_with said.digest x ≡ true) (sym (agrees m few)) there) here in
          omega (arith, same, few)
      | inr far ↦ no_digest_there said.digest m s (later m far) there
    ]

wrong_by : (flags : List Bool) (now n : ℕ) (s other : SeatsState) (said : Said) (behind : List ℕ) → ((k : ℕ) → n ≤ k → seat_at k s ≡ no_seat) →
    s.offered ≡ flags → Agrees n other s → AreKept flags now other → n < 64 → CanSay said →
    line_at n other ++ lines_from (64 - (n + 1)) (n + 1) other ≡ seat_line n said ++ behind → IsKept now n other →
    (get_or s.offered n false ≡ false) ⊎ (is_some (found_by said.digest s) ≡ true) → ⊥
wrong_by flags now n s other said behind later same agrees kept few can so (inl empty) why =
    behind_it now (64 - (n + 1)) (n + 1) n other said behind kept.each (omega arith) (omega (arith, few)) can
    (ap (λ front. front ++ lines_from (64 - (n + 1)) (n + 1) other) (sym (line_none n other empty)) ∙ so)
wrong_by flags now n s other said behind later same agrees kept few can so (inr some) (inl none) =
    both_no _ some.0 (ap (λ all. get_or all n false) (kept.offered ∙ sym same) ∙ none)
wrong_by flags now n s other said behind later same agrees kept few can so (inr some) (inr twin) =
    let line = line_same n n (said_of (seat_at n other)) said (lines_from (64 - (n + 1)) (n + 1) other) behind (omega (arith, few)) (omega (arith, few))
    some.1.1 can (ap (λ front. front ++ lines_from (64 - (n + 1)) (n + 1) other) (sym (line_some now n other some.1.0)) ∙ so) in
    let at = found_there (found_by said.digest s) twin in
    let here : is_taken_with said.digest (seat_at n other) ≡ true =
    taken_so said.digest (seat_at n other) (ap is_empty some.1.0)
    ((bytes_eq-Decides (seat_at n other).digest said.digest).1 (ap (λ (x : Said). x.digest) line.said)) in
    twice flags now n at.0 s other said later agrees kept here (found (has_digest said.digest) s.seats at.0 at.1)

pub reads : (flags : List Bool) (now : ℕ) (text : List ℕ) (n : ℕ) (rest : List ℕ) (s : SeatsState) (left : List ℕ) (s' : SeatsState) →
    IsRead flags now text n rest s → n < 64 → ReadsOn n now rest s left s' → IsRead flags now text (n + 1) left s'
reads flags now text n rest s left s' r few (inl h) =
    subst (IsRead flags now text (n + 1) left) (sym h.2)
    (subst (λ rest. IsRead flags now text (n + 1) rest s) (sym h.1) (passed flags now text n rest s r few h.0))
reads flags now text n rest s left s' r few (inr t) = taken flags now text n rest s left s' r few t

-- what is wrong in front is in no text of such seats
pub wrong : (flags : List Bool) (now : ℕ) (text : List ℕ) (n : ℕ) (rest : List ℕ) (s : SeatsState) → IsRead flags now text n rest s → n < 64 →
    IsWrong n rest s → (other : SeatsState) → AreKept flags now other → text ≡ text_of other → ⊥
wrong flags now text n rest s r few w other kept is =
    let at = r.whole other kept is in
    let so : line_at n other ++ lines_from (64 - (n + 1)) (n + 1) other ≡ seat_line n w.said ++ w.behind =
    sym (unrolled n other few) ∙ sym at.1 ∙ w.line in
    wrong_by flags now n s other w.said w.behind r.later r.offered at.0 kept few w.can so (kept.each n) w.why

-- the end
pub ends : (flags : List Bool) (now : ℕ) (text : List ℕ) (n : ℕ) (rest : List ℕ) (s : SeatsState) → IsRead flags now text n rest s → n ≡ 64 →
    rest ≡ [] → AreKept flags now s × (text ≡ text_of s)
ends flags now text n rest s r end none = (
  record { offered = r.offered; count = r.count; each = r.each; apart = r.apart },
  let e : 64 - n ≡ 0 = omega (arith, end) in r.sound s (λ m h. refl) (none ∙ sym (ap (λ k. lines_from k n s) e)),
)

pub too_long : (flags : List Bool) (now : ℕ) (text : List ℕ) (n : ℕ) (rest : List ℕ) (s : SeatsState) → IsRead flags now text n rest s → n ≡ 64 →
    (rest ≡ [] → ⊥) → (other : SeatsState) → AreKept flags now other → text ≡ text_of other → ⊥
too_long flags now text n rest s r end some other kept is =
    let e : 64 - n ≡ 0 = omega (arith, end) in some ((r.whole other kept is).1 ∙ ap (λ k. lines_from k n other) e)

-- two such seats with one text are the same
first_or : (m : ℕ) → (m ≡ 0) ⊎ ((k : ℕ) × (m ≡ k + 1))
first_or zero = inl refl
first_or (suc k) = inr (k, omega arith)

one_step : (flags : List Bool) (now count n : ℕ) (s other : SeatsState) → AreKept flags now s → AreKept flags now other → n + suc count ≤ 64 →
    line_at n s ++ lines_from count (n + 1) s ≡ line_at n other ++ lines_from count (n + 1) other → IsKept now n s → IsKept now n other →
    (seat_at n s ≡ seat_at n other) × (lines_from count (n + 1) s ≡ lines_from count (n + 1) other)
one_step flags now count n s other a b few is (inl x) (inl y) = (
  x ∙ sym y,
  ap (λ front. front ++ lines_from count (n + 1) s) (sym (line_none n s x)) ∙ is
      ∙ ap (λ front. front ++ lines_from count (n + 1) other) (line_none n other y),
)
one_step flags now count n s other a b few is (inl x) (inr y) =
    absurd (behind_it now count (n + 1) n s (said_of (seat_at n other)) (lines_from count (n + 1) other) a.each (omega arith) (omega (arith, few)) y.1.1
    (ap (λ front. front ++ lines_from count (n + 1) s) (sym (line_none n s x)) ∙ is
    ∙ ap (λ front. front ++ lines_from count (n + 1) other) (line_some now n other y.1.0)))
one_step flags now count n s other a b few is (inr x) (inl y) =
    absurd (behind_it now count (n + 1) n other (said_of (seat_at n s)) (lines_from count (n + 1) s) b.each (omega arith) (omega (arith, few)) x.1.1
    (ap (λ front. front ++ lines_from count (n + 1) other) (sym (line_none n other y)) ∙ sym is
    ∙ ap (λ front. front ++ lines_from count (n + 1) s) (line_some now n s x.1.0)))
one_step flags now count n s other a b few is (inr x) (inr y) =
    let same = line_same n n (said_of (seat_at n s)) (said_of (seat_at n other)) (lines_from count (n + 1) s) (lines_from count (n + 1) other)
    (omega (arith, few)) (omega (arith, few)) x.1.1 y.1.1
    (ap (λ front. front ++ lines_from count (n + 1) s) (sym (line_some now n s x.1.0)) ∙ is
    ∙ ap (λ front. front ++ lines_from count (n + 1) other) (line_some now n other y.1.0)) in
    ((λ i. record { generation = (same.said i).generation; digest = (same.said i).digest; sitter = (x.1.0 ∙ sym y.1.0) i }), same.behind)

one_from : (flags : List Bool) (now count n : ℕ) (s other : SeatsState) → AreKept flags now s → AreKept flags now other → n + count ≤ 64 →
    lines_from count n s ≡ lines_from count n other → (m : ℕ) → m < count → seat_at (n + m) s ≡ seat_at (n + m) other
one_from flags now zero n s other a b few is m h = absurd (omega (arith, h))
one_from flags now (suc count) n s other a b few is m h =
    let step = one_step flags now count n s other a b few is (a.each n) (b.each n) in
    elim (first_or m) [
      | inl here ↦ let e : n + m ≡ n = omega (arith, here) in subst (λ k. seat_at k s ≡ seat_at k other) (sym e) step.0
      | inr later ↦ let e : n + 1 + later.0 ≡ n + m = omega (arith, later.1) in
          subst (λ k. seat_at k s ≡ seat_at k other) e
          (one_from flags now count (n + 1) s other a b (omega (arith, few)) step.1 later.0 (omega (arith, h, later.1)))
    ]

pub one : (flags : List Bool) (now : ℕ) (s other : SeatsState) → AreKept flags now s → AreKept flags now other → text_of s ≡ text_of other →
    (n : ℕ) → n < 64 → seat_at n s ≡ seat_at n other
one flags now s other a b is n few = let e : 0 + n ≡ n = omega arith in
    subst (λ k. seat_at k s ≡ seat_at k other) e
    (one_from flags now 64 0 s other a b (omega arith) (sym (text_is s) ∙ is ∙ text_is other) n few)

-- what is kept of seats
kept_seat : (now n : ℕ) (s : SeatsState) → seat_at n (kept_from now s) ≡ kept_at now (seat_at n s)
kept_seat now n s = get_or-map (kept_at now) s.seats n no_seat

kept_by : (now : ℕ) (x : Seat) (b : Bool) → is_empty x.sitter ≡ b → kept_at now x ≡ (if b then no_seat else kept_of now (said_of x) x)
kept_by now x b h = ap (λ b. if b then no_seat else kept_of now (said_of x) x) h

line_by : (now n : ℕ) (x : Seat) (b : Bool) → is_empty x.sitter ≡ b →
    (if is_empty (kept_at now x).sitter then [] else seat_line n (said_of (kept_at now x))) ≡ (if is_empty x.sitter then [] else seat_line n (said_of x))
line_by now n x true h = ap (λ (y : Seat). if is_empty y.sitter then [] else seat_line n (said_of y)) (kept_by now x true h)
    ∙ sym (ap (λ b. if b then [] else seat_line n (said_of x)) h)
line_by now n x false h = ap (λ (y : Seat). if is_empty y.sitter then [] else seat_line n (said_of y)) (kept_by now x false h)
    ∙ sym (ap (λ b. if b then [] else seat_line n (said_of x)) h)

line_kept : (now n : ℕ) (x : Seat) →
    (if is_empty (kept_at now x).sitter then [] else seat_line n (said_of (kept_at now x))) ≡ (if is_empty x.sitter then [] else seat_line n (said_of x))
line_kept now n x = line_by now n x (is_empty x.sitter) refl

each_kept : (now n : ℕ) (s : SeatsState) (b : Bool) → is_empty (seat_at n s).sitter ≡ b →
    (is_taken n s ≡ true → get_or s.offered n false ≡ true) → CanSay (said_of (seat_at n s)) → IsKept now n (kept_from now s)
each_kept now n s true h offered can = inl (kept_seat now n s ∙ kept_by now (seat_at n s) true h)
each_kept now n s false h offered can =
    let is : seat_at n (kept_from now s) ≡ kept_of now (said_of (seat_at n s)) (seat_at n s) = kept_seat now n s ∙ kept_by now (seat_at n s) false h in
    inr (offered (ap not h), (ap (λ (x : Seat). x.sitter) is, subst (λ x. CanSay (said_of x)) (sym is) can))

here_by : (now : ℕ) (who : ClientId) (x : Seat) (b : Bool) → is_empty x.sitter ≡ b → is_holder who (kept_at now x).sitter ≡ true → ⊥
here_by now who x true h k = true≢false (sym (subst (λ (y : Seat). is_holder who y.sitter ≡ true) (kept_by now x true h) k))
here_by now who x false h k = true≢false (sym (subst (λ (y : Seat). is_holder who y.sitter ≡ true) (kept_by now x false h) k))

nobody_here : (now : ℕ) (who : ClientId) (x : Seat) → is_holder who (kept_at now x).sitter ≡ true → ⊥
nobody_here now who x h = here_by now who x (is_empty x.sitter) refl h

taken_by_b : (now : ℕ) (digest : List ℕ) (x : Seat) (b : Bool) → is_empty x.sitter ≡ b → is_taken_with digest (kept_at now x) ≡ true →
    is_taken_with digest x ≡ true
taken_by_b now digest x true h k = absurd (true≢false (sym (subst (λ y. is_taken_with digest y ≡ true) (kept_by now x true h) k)))
taken_by_b now digest x false h k = taken_so digest x h (subst (λ y. is_taken_with digest y ≡ true) (kept_by now x false h) k)

still_taken : (now : ℕ) (digest : List ℕ) (x : Seat) → is_taken_with digest (kept_at now x) ≡ true → is_taken_with digest x ≡ true
still_taken now digest x h = taken_by_b now digest x (is_empty x.sitter) refl h

kept_line : (now n : ℕ) (s : SeatsState) → line_at n (kept_from now s) ≡ line_at n s
kept_line now n s = ap (λ (x : Seat). if is_empty x.sitter then [] else seat_line n (said_of x)) (kept_seat now n s) ∙ line_kept now n (seat_at n s)

kept_lines : (now count n : ℕ) (s : SeatsState) → lines_from count n (kept_from now s) ≡ lines_from count n s
kept_lines now zero n s = refl
kept_lines now (suc count) n s =
    ap (λ line. line ++ lines_from count (n + 1) (kept_from now s)) (kept_line now n s)
    ∙ ap (λ more. line_at n s ++ more) (kept_lines now count (n + 1) s)

pub kept_is : (now : ℕ) (s : SeatsState) → AreApart s → length s.seats ≡ 64 → AreOffered s → CanBeSaid s → AreKept s.offered now (kept_from now s)
kept_is now s apart count offered can = record {
  offered = refl;
  count = length-map s.seats (kept_at now) ∙ count;
  each = λ n. each_kept now n s (is_empty (seat_at n s).sitter) refl (offered n) (can n);
  apart = record {
    clients = λ who m n h k. absurd (nobody_here now who (seat_at m s) (subst (λ (x : Seat). is_holder who x.sitter ≡ true) (kept_seat now m s) h));
    digests = λ digest m n h k. apart.digests digest m n
        (still_taken now digest (seat_at m s) (subst (λ x. is_taken_with digest x ≡ true) (kept_seat now m s) h))
        (still_taken now digest (seat_at n s) (subst (λ x. is_taken_with digest x ≡ true) (kept_seat now n s) k));
  };
}

pub kept_text : (now : ℕ) (s : SeatsState) → text_of (kept_from now s) ≡ text_of s
kept_text now s = text_is (kept_from now s) ∙ kept_lines now 64 0 s ∙ sym (text_is s)

-- a seat's line more
pub writes : (n : ℕ) (s : SeatsState) (old before after : List ℕ) → n < 64 → before ++ lines_from (64 - n) n s ≡ old ++ text_of s →
    after ≡ before ++ line_at n s → after ++ lines_from (64 - (n + 1)) (n + 1) s ≡ old ++ text_of s
writes n s old before after few is more =
    ap (λ front. front ++ lines_from (64 - (n + 1)) (n + 1) s) more ∙ append_assoc before (line_at n s) (lines_from (64 - (n + 1)) (n + 1) s)
    ∙ ap (λ rest. before ++ rest) (sym (unrolled n s few)) ∙ is

pub written : (n : ℕ) (s : SeatsState) (old text : List ℕ) → n ≡ 64 → text ++ lines_from (64 - n) n s ≡ old ++ text_of s → text ≡ old ++ text_of s
written n s old text end is =
    let e : 64 - n ≡ 0 = omega (arith, end) in sym (append-nil text) ∙ ap (λ rest. text ++ rest) (sym (ap (λ k. lines_from k n s) e)) ∙ is

pub writes_item : (n origin : ℕ) (s : SeatsState) (seats : List Seat) (d : Seat) (old before after : List ℕ) → n < 64 → length s.seats ≡ 64 →
    seats ≡ s.seats → origin ≡ n → before ++ lines_from (64 - n) n s ≡ old ++ text_of s →
    after ≡ before ++ (if is_empty (get_or seats n d).sitter then [] else seat_line origin (said_of (get_or seats n d))) →
    after ++ lines_from (64 - (n + 1)) (n + 1) s ≡ old ++ text_of s
writes_item n origin s seats d old before after few count same place is more =
    let item : get_or seats n d ≡ seat_at n s = ap (λ l. get_or l n d) same ∙ get_or_default s.seats n d no_seat (omega (arith, few, count)) in
    writes n s old before after few is
    (more ∙ ap (λ (x : Seat). before ++ (if is_empty x.sitter then [] else seat_line origin (said_of x))) item
    ∙ ap (λ k. before ++ (if is_empty (seat_at n s).sitter then [] else seat_line k (said_of (seat_at n s)))) place)

pub empty_is : (xs : List ℕ) → (length xs == 0) ≡ true → xs ≡ []
empty_is [] h = refl
empty_is (x ∷ xs) h = let e = eqb-true (length (x ∷ xs)) 0 h in absurd (omega (arith, e))
