-- No client has two seats, and no secret; a secret of which nobody sits brings nobody back.
use Rattle.std.proofs.Common.{◌≡◌, ◌⊎◌, ◌∙◌, ℕ, ◌<◌, ◌≤◌, Bool, true, false, List, [], ◌∷◌, length, Option, Some, None, ap, sym, subst, refl, inl, inr, arith, not}
use Rattle.std.proofs.Math.ListN.{get_or-eq_default}
use Rattle.std.proofs.lemmas.Bool.{cases_Bool}
use Rattle.std.proofs.lemmas.Bool.Decides.{Decides-eqb, nat_tests}
use Rattle.std.proofs.lemmas.Slice.Eq.{bytes_eq-Decides}
use Rattle.std.specs.Prelude.{◌&&◌, ◌||◌, ◌==◌, get_or, is_some, if◌then◌else◌}
use Rattle.std.specs.Str.{bytes_eq}
use Rattle.warp_tag.specs.Limits.{last_number}
use Rattle.warp_watch.specs.declared.client_id.ClientId.{ClientId}
use Rattle.warp_seats.specs.declared.seat.Seat.{Seat}
use Rattle.warp_seats.specs.declared.seat.Sitter.{Sitter}
use Rattle.warp_seats.specs.declared.seat.Sitter.TheVariants.{Nobody, Here, Away}
use Rattle.warp_seats.specs.Seats.{AreApart, NobodyJoins, SeatStep, SeatsState, after_step, after_steps, back_to, can_take, expired, first_of, found_by, free_for}
use Rattle.warp_seats.specs.Seats.{freed, fresh, goes_back, has_digest, held_by, holds, is_empty, is_holder, is_taken, is_taken_with, left_at, may_send}
use Rattle.warp_seats.specs.Seats.{no_seat, same_client, seat_at, seat_of, taken_by, with_any, with_seat}
use Rattle.warp_seats.specs.Text.{AreOffered}
use Rattle.warp_seats.specs.Seats.SeatStep.{Joins, Returns, Leaves, Goes, Frees, Expires}
use Rattle.warp_seats.proofs.SeatLemmas.{always, changed, changed_at, found, found_within, finds_none, none_at_all, none_before, none_within, unchanged}

pub both_no : (b : Bool) → b ≡ true → b ≡ false → ⊥
both_no b h e = grind (arith, h, e)

and_parts : (a b : Bool) → (not a && b) ≡ true → (a ≡ false) × (b ≡ true)
and_parts true b h = absurd (grind (arith, h))
and_parts false b h = (refl, h)

pub taken_is : (digest : List ℕ) (s : Seat) → is_taken_with digest s ≡ true → (is_empty s.sitter ≡ false) × (s.digest ≡ digest)
taken_is digest s h = let p = and_parts (is_empty s.sitter) (bytes_eq s.digest digest) h in
    (p.0, (bytes_eq-Decides s.digest digest).0 p.1)

pub taken_so : (digest : List ℕ) (s : Seat) → is_empty s.sitter ≡ false → bytes_eq s.digest digest ≡ true → is_taken_with digest s ≡ true
taken_so digest s e same = ap (λ b. not b && bytes_eq s.digest digest) e ∙ same

not_taken : (digest : List ℕ) (s : Seat) → is_empty s.sitter ≡ false → is_taken_with digest s ≡ false → bytes_eq s.digest digest ≡ false
not_taken digest s e none = sym (ap (λ b. not b && bytes_eq s.digest digest) e) ∙ none

held_is_taken : (who : ClientId) (sitter : Sitter) → is_holder who sitter ≡ true → is_empty sitter ≡ false
held_is_taken who Nobody h = absurd (grind (arith, h))
held_is_taken who (Here other) h = refl
held_is_taken who (Away since) h = refl

same_by : (a b c : ClientId) → same_client a c ≡ true → same_client b c ≡ true → same_client a b ≡ true
same_by a b c x y = grind (x, y, arith, nat_tests)

pub same_self : (a : ClientId) → same_client a a ≡ true
same_self a = grind (arith, nat_tests)

same_holder : (who other : ClientId) (sitter : Sitter) → same_client who other ≡ true → is_holder other sitter ≡ true →
    is_holder who sitter ≡ true
same_holder who other Nobody same h = h
same_holder who other (Here sits) same h = same_by sits who other h same
same_holder who other (Away since) same h = h

-- a test that at most one seat passes, behind a change of one
two : (p : Seat → Bool) (n : ℕ) (change : Seat → Seat) (s : SeatsState) →
    ((m k : ℕ) → p (seat_at m s) ≡ true → p (seat_at k s) ≡ true → m ≡ k) →
    ((m : ℕ) → p (change (seat_at n s)) ≡ true → p (seat_at m s) ≡ true → m ≡ n) →
    (m k : ℕ) → p (seat_at m (with_seat n change s)) ≡ true → p (seat_at k (with_seat n change s)) ≡ true → m ≡ k
two p n change s one here m k hm hk = elim (changed n m change s) [
  | inl a ↦ elim (changed n k change s) [
    | inl b ↦ a.same ∙ sym b.same
    | inr b ↦ a.same ∙ sym (here k (subst (λ x. p x ≡ true) a.is hm) (subst (λ x. p x ≡ true) b hk))
  ]
  | inr a ↦ elim (changed n k change s) [
    | inl b ↦ here m (subst (λ x. p x ≡ true) b.is hk) (subst (λ x. p x ≡ true) a hm) ∙ sym b.same
    | inr b ↦ one m k (subst (λ x. p x ≡ true) a hm) (subst (λ x. p x ≡ true) b hk)
  ]
]

-- who sits there then, and the secret that it has then, had no other seat
pub record Fits (n : ℕ) (change : Seat → Seat) (s : SeatsState) : Type 0 where
  pub clients : (who : ClientId) (m : ℕ) → is_holder who (change (seat_at n s)).sitter ≡ true → is_holder who (seat_at m s).sitter ≡ true → m ≡ n
  pub digests : (digest : List ℕ) (m : ℕ) → is_taken_with digest (change (seat_at n s)) ≡ true → is_taken_with digest (seat_at m s) ≡ true → m ≡ n

pub apart_with : (n : ℕ) (change : Seat → Seat) (s : SeatsState) → AreApart s → Fits n change s → AreApart (with_seat n change s)
apart_with n change s apart fits = record {
  clients = λ who. two (λ x. is_holder who x.sitter) n change s (apart.clients who) (fits.clients who);
  digests = λ digest. two (is_taken_with digest) n change s (apart.digests digest) (fits.digests digest);
}

fits_freed : (n : ℕ) (s : SeatsState) → Fits n freed s
fits_freed n s = record {
  clients = λ who m h k. absurd (grind (arith, h));
  digests = λ digest m h k. absurd (grind (arith, h));
}

fits_left : (now n : ℕ) (s : SeatsState) → AreApart s → is_empty (seat_at n s).sitter ≡ false → Fits n (left_at now) s
fits_left now n s apart taken = record {
  clients = λ who m h k. absurd (grind (arith, h));
  digests = λ digest m h k. apart.digests digest m n k (taken_so digest (seat_at n s) taken h);
}

fits_held : (who : ClientId) (n : ℕ) (s : SeatsState) → AreApart s → is_empty (seat_at n s).sitter ≡ false →
    ((m : ℕ) → is_holder who (seat_at m s).sitter ≡ true → m ≡ n) → Fits n (held_by who) s
fits_held who n s apart taken alone = record {
  clients = λ other m h k. alone m (same_holder who other (seat_at m s).sitter h k);
  digests = λ digest m h k. apart.digests digest m n k (taken_so digest (seat_at n s) taken h);
}

fits_taken : (who : ClientId) (digest : List ℕ) (n : ℕ) (s : SeatsState) → ((m : ℕ) → is_holder who (seat_at m s).sitter ≡ false) →
    ((m : ℕ) → is_taken_with digest (seat_at m s) ≡ false) → Fits n (taken_by who digest) s
fits_taken who digest n s sits known = record {
  clients = λ other m h k. absurd (both_no _ (same_holder who other (seat_at m s).sitter h k) (sits m));
  digests = λ other m h k. let same : other ≡ digest = sym ((bytes_eq-Decides digest other).0 h) in
      absurd (both_no _ (subst (λ d. is_taken_with d (seat_at m s) ≡ true) same k) (known m));
}

-- where a client gets a seat, and where it comes back
pub record IsFree (who : ClientId) (allowed : List Bool) (digest : List ℕ) (s : SeatsState) (n : ℕ) : Type 0 where
  pub sits : seat_of who s ≡ None
  pub known : found_by digest s ≡ None
  pub first : first_of (can_take s.offered allowed) s.seats ≡ Some n

free_parts : (a b c : Option ℕ) (n : ℕ) → (if is_some a || is_some b then None else c) ≡ Some n → (a ≡ None) × (b ≡ None) × (c ≡ Some n)
free_parts None None c n h = (refl, refl, h)
free_parts None (Some y) c n h = absurd (grind (arith, h))
free_parts (Some x) b c n h = absurd (grind (arith, h))

pub free : (who : ClientId) (allowed : List Bool) (digest : List ℕ) (s : SeatsState) (n : ℕ) → free_for who allowed digest s ≡ Some n →
    IsFree who allowed digest s n
free who allowed digest s n h = let p = free_parts (seat_of who s) (found_by digest s) (first_of (can_take s.offered allowed) s.seats) n h in
    record { sits = p.0; known = p.1; first = p.2 }

same_parts : (m k n : ℕ) (b : Bool) → (m == k) ≡ b → (if b then Some k else None) ≡ Some n → (Some k ≡ Some n) × ((Some m ≡ None) ⊎ (Some m ≡ Some n))
same_parts m k n true same h = let e : m ≡ k = (Decides-eqb m k).0 same in (h, inr (ap (λ x. Some x) e ∙ h))
same_parts m k n false same h = absurd (grind (arith, h))

back_parts : (a b : Option ℕ) (n : ℕ) → goes_back a b ≡ Some n → (b ≡ Some n) × ((a ≡ None) ⊎ (a ≡ Some n))
back_parts a None n h = absurd (grind (arith, h))
back_parts None (Some k) n h = (h, inl refl)
back_parts (Some m) (Some k) n h = same_parts m k n (m == k) refl h

pub holder_none : (who : ClientId) (s : SeatsState) → seat_of who s ≡ None → (m : ℕ) → is_holder who (seat_at m s).sitter ≡ false
holder_none who s h = none_at_all (holds who) s.seats (λ m. refl) h

pub digest_none : (digest : List ℕ) (s : SeatsState) → found_by digest s ≡ None → (m : ℕ) → is_taken_with digest (seat_at m s) ≡ false
digest_none digest s h = none_at_all (has_digest digest) s.seats (λ m. refl) h

alone_by : (who : ClientId) (digest : List ℕ) (s : SeatsState) (n : ℕ) → AreApart s →
    (seat_of who s ≡ None) ⊎ (seat_of who s ≡ Some n) → (m : ℕ) → is_holder who (seat_at m s).sitter ≡ true → m ≡ n
alone_by who digest s n apart (inl none) m h = absurd (both_no _ h (holder_none who s none m))
alone_by who digest s n apart (inr own) m h = apart.clients who m n h (found (holds who) s.seats n own)

apart_any : (o : Option ℕ) (change : Seat → Seat) (s : SeatsState) → AreApart s → ((n : ℕ) → o ≡ Some n → Fits n change s) →
    AreApart (with_any o change s)
apart_any None change s apart h = apart
apart_any (Some n) change s apart h = apart_with n change s apart (h n refl)

apart_if : (b : Bool) (n : ℕ) (s : SeatsState) → AreApart s → AreApart (if b then with_seat n freed s else s)
apart_if true n s apart = apart_with n freed s apart (fits_freed n s)
apart_if false n s apart = apart

fits_joined : (who : ClientId) (allowed : List Bool) (digest : List ℕ) (s : SeatsState) (n : ℕ) → free_for who allowed digest s ≡ Some n →
    Fits n (taken_by who digest) s
fits_joined who allowed digest s n h = let w = free who allowed digest s n h in
    fits_taken who digest n s (holder_none who s w.sits) (digest_none digest s w.known)

fits_back : (who : ClientId) (digest : List ℕ) (s : SeatsState) (n : ℕ) → AreApart s → back_to who digest s ≡ Some n → Fits n (held_by who) s
fits_back who digest s n apart h = let p = back_parts (seat_of who s) (found_by digest s) n h in
    fits_held who n s apart (taken_is digest (seat_at n s) (found (has_digest digest) s.seats n p.0)).0 (alone_by who digest s n apart p.1)

fits_gone : (who : ClientId) (now : ℕ) (s : SeatsState) (n : ℕ) → AreApart s → seat_of who s ≡ Some n → Fits n (left_at now) s
fits_gone who now s n apart h = fits_left now n s apart (held_is_taken who (seat_at n s).sitter (found (holds who) s.seats n h))

step_apart : (step : SeatStep) (s : SeatsState) → AreApart s → AreApart (after_step step s)
step_apart (Joins who allowed digest) s apart =
    apart_any (free_for who allowed digest s) (taken_by who digest) s apart (fits_joined who allowed digest s)
step_apart (Returns who digest) s apart =
    apart_any (back_to who digest s) (held_by who) s apart (λ n h. fits_back who digest s n apart h)
step_apart (Leaves who) s apart = apart_any (seat_of who s) freed s apart (λ n h. fits_freed n s)
step_apart (Goes who now) s apart = apart_any (seat_of who s) (left_at now) s apart (λ n h. fits_gone who now s n apart h)
step_apart (Frees n) s apart = apart_if (is_taken n s) n s apart
step_apart (Expires now timeout) s apart = apart_any (expired now timeout s) freed s apart (λ n h. fits_freed n s)

pub stays_apart : (steps : List SeatStep) (s : SeatsState) → AreApart s → AreApart (after_steps steps s)
stays_apart [] s apart = apart
stays_apart (step ∷ steps) s apart = stays_apart steps (after_step step s) (step_apart step s apart)

pub fresh_apart : (offered : List Bool) → AreApart (fresh offered)
fresh_apart offered = record {
  clients = λ who m n h k. absurd (both_no _ (subst (λ (x : Seat). is_holder who x.sitter ≡ true) (always 64 m) h) refl);
  digests = λ digest m n h k. absurd (both_no _ (subst (λ x. is_taken_with digest x ≡ true) (always 64 m) h) refl);
}

-- who may send
or_true : (a b : Bool) → b ≡ true → (a || b) ≡ true
or_true true b h = refl
or_true false b h = h

sends_at : (who : ClientId) (n : ℕ) (s : SeatsState) → is_holder who (seat_at n s).sitter ≡ true → may_send who n s ≡ true
sends_at who n s h = or_true (not (get_or s.offered n false)) _ h

pub join_sends : (who : ClientId) (allowed : List Bool) (digest : List ℕ) (n : ℕ) (s : SeatsState) → free_for who allowed digest s ≡ Some n →
    may_send who n (with_seat n (taken_by who digest) s) ≡ true
join_sends who allowed digest n s h = let w = free who allowed digest s n h in
    sends_at who n (with_seat n (taken_by who digest) s)
    (subst (λ (x : Seat). is_holder who x.sitter ≡ true)
    (sym (changed_at n (taken_by who digest) s (found_within (can_take s.offered allowed) s.seats n w.first))) (same_self who))

pub back_sends : (who : ClientId) (digest : List ℕ) (n : ℕ) (s : SeatsState) → back_to who digest s ≡ Some n →
    may_send who n (with_seat n (held_by who) s) ≡ true
back_sends who digest n s h = let p = back_parts (seat_of who s) (found_by digest s) n h in
    sends_at who n (with_seat n (held_by who) s)
    (subst (λ (x : Seat). is_holder who x.sitter ≡ true)
    (sym (changed_at n (held_by who) s (found_within (has_digest digest) s.seats n p.0))) (same_self who))

-- the lowest seat
pub free_can : (who : ClientId) (allowed : List Bool) (digest : List ℕ) (n : ℕ) (s : SeatsState) → free_for who allowed digest s ≡ Some n →
    can_take s.offered allowed n (seat_at n s) ≡ true
free_can who allowed digest n s h = found (can_take s.offered allowed) s.seats n (free who allowed digest s n h).first

pub free_lowest : (who : ClientId) (allowed : List Bool) (digest : List ℕ) (m n : ℕ) (s : SeatsState) →
    free_for who allowed digest s ≡ Some n → m < n → can_take s.offered allowed m (seat_at m s) ≡ false
free_lowest who allowed digest m n s h few =
    none_before (can_take s.offered allowed) s.seats n m (free who allowed digest s n h).first few

none_parts : (a b c : Option ℕ) → (if is_some a || is_some b then None else c) ≡ None → a ≡ None → b ≡ None → c ≡ None
none_parts None None c h x y = h
none_parts None (Some k) c h x y = absurd (grind (arith, y))
none_parts (Some k) b c h x y = absurd (grind (arith, x))

pub free_none : (who : ClientId) (allowed : List Bool) (digest : List ℕ) (m : ℕ) (s : SeatsState) →
    free_for who allowed digest s ≡ None → seat_of who s ≡ None → found_by digest s ≡ None → m < length s.seats →
    can_take s.offered allowed m (seat_at m s) ≡ false
free_none who allowed digest m s h sits known few =
    none_within (can_take s.offered allowed) s.seats
    (none_parts (seat_of who s) (found_by digest s) (first_of (can_take s.offered allowed) s.seats) h sits known) m few

-- a secret of a seat that was freed
taken_within : (digest : List ℕ) (n : ℕ) (s : SeatsState) → is_taken_with digest (seat_at n s) ≡ true → n < length s.seats
taken_within digest n s h =
    let which : (n < length s.seats) ⊎ (length s.seats ≤ n) = grind arith in
    elim which [ inl few ↦ few | inr far ↦ absurd (both_no _ h (ap (is_taken_with digest) (get_or-eq_default s.seats no_seat far))) ]

eq_or_not : (m n : ℕ) → (m ≡ n) ⊎ (m ≡ n → ⊥)
eq_or_not m n = elim (cases_Bool (m == n)) [
  | inl h ↦ inl ((Decides-eqb m n).0 h)
  | inr h ↦ inr (λ e. both_no _ ((Decides-eqb m n).1 e) h)
]

freed_at : (digest : List ℕ) (n m : ℕ) (s : SeatsState) → AreApart s → is_taken_with digest (seat_at n s) ≡ true →
    is_taken_with digest (seat_at m (with_seat n freed s)) ≡ true → ⊥
freed_at digest n m s apart taken h =
    let which : (m ≡ n) ⊎ (m ≡ n → ⊥) = eq_or_not m n in
    elim which [
      | inl same ↦ both_no _ (subst (λ k. is_taken_with digest (seat_at k (with_seat n freed s)) ≡ true) same h)
          (ap (is_taken_with digest) (changed_at n freed s (taken_within digest n s taken)))
      | inr other ↦ other (apart.digests digest m n (subst (λ x. is_taken_with digest x ≡ true) (unchanged n m freed s other) h) taken)
    ]

pub freed_none : (digest : List ℕ) (n : ℕ) (s : SeatsState) → AreApart s → is_taken_with digest (seat_at n s) ≡ true →
    found_by digest (with_seat n freed s) ≡ None
freed_none digest n s apart taken = finds_none (has_digest digest) (with_seat n freed s).seats
    (λ m. elim (cases_Bool (is_taken_with digest (seat_at m (with_seat n freed s)))) [
      | inl h ↦ absurd (freed_at digest n m s apart taken h)
      | inr h ↦ h
    ])

-- nobody sits with a secret of this digest
abbrev NoneHas : List ℕ → SeatsState → Type 0
NoneHas digest s = (m : ℕ) → is_taken_with digest (seat_at m s) ≡ false

none_with : (digest : List ℕ) (n : ℕ) (change : Seat → Seat) (s : SeatsState) → NoneHas digest s →
    is_taken_with digest (change (seat_at n s)) ≡ false → NoneHas digest (with_seat n change s)
none_with digest n change s none here m = elim (changed n m change s) [
  | inl a ↦ ap (is_taken_with digest) a.is ∙ here
  | inr a ↦ ap (is_taken_with digest) a ∙ none m
]

none_any : (digest : List ℕ) (o : Option ℕ) (change : Seat → Seat) (s : SeatsState) → NoneHas digest s →
    ((n : ℕ) → o ≡ Some n → is_taken_with digest (change (seat_at n s)) ≡ false) → NoneHas digest (with_any o change s)
none_any digest None change s none h = none
none_any digest (Some n) change s none h = none_with digest n change s none (h n refl)

none_if : (digest : List ℕ) (b : Bool) (n : ℕ) (s : SeatsState) → NoneHas digest s → NoneHas digest (if b then with_seat n freed s else s)
none_if digest true n s none = none_with digest n freed s none refl
none_if digest false n s none = none

back_none : (digest : List ℕ) (who : ClientId) (other : List ℕ) (s : SeatsState) (n : ℕ) → NoneHas digest s → back_to who other s ≡ Some n →
    bytes_eq (seat_at n s).digest digest ≡ false
back_none digest who other s n none h = let p = back_parts (seat_of who s) (found_by other s) n h in
    not_taken digest (seat_at n s) (taken_is other (seat_at n s) (found (has_digest other) s.seats n p.0)).0 (none n)

gone_none : (digest : List ℕ) (who : ClientId) (s : SeatsState) (n : ℕ) → NoneHas digest s → seat_of who s ≡ Some n →
    bytes_eq (seat_at n s).digest digest ≡ false
gone_none digest who s n none h =
    not_taken digest (seat_at n s) (held_is_taken who (seat_at n s).sitter (found (holds who) s.seats n h)) (none n)

none_on : (steps : List SeatStep) (digest : List ℕ) (s : SeatsState) → NobodyJoins digest steps → NoneHas digest s →
    NoneHas digest (after_steps steps s)
none_on [] digest s joins none = none
none_on (Joins who allowed other ∷ steps) digest s joins none = none_on steps digest _ joins.1
    (none_any digest (free_for who allowed other s) (taken_by who other) s none (λ n h. joins.0))
none_on (Returns who other ∷ steps) digest s joins none = none_on steps digest _ joins
    (none_any digest (back_to who other s) (held_by who) s none (λ n h. back_none digest who other s n none h))
none_on (Leaves who ∷ steps) digest s joins none = none_on steps digest _ joins (none_any digest (seat_of who s) freed s none (λ n h. refl))
none_on (Goes who now ∷ steps) digest s joins none = none_on steps digest _ joins
    (none_any digest (seat_of who s) (left_at now) s none (λ n h. gone_none digest who s n none h))
none_on (Frees n ∷ steps) digest s joins none = none_on steps digest _ joins (none_if digest (is_taken n s) n s none)
none_on (Expires now timeout ∷ steps) digest s joins none = none_on steps digest _ joins
    (none_any digest (expired now timeout s) freed s none (λ n h. refl))

pub stays_none : (steps : List SeatStep) (digest : List ℕ) (s : SeatsState) → NobodyJoins digest steps → found_by digest s ≡ None →
    found_by digest (after_steps steps s) ≡ None
stays_none steps digest s joins h = finds_none (has_digest digest) (after_steps steps s).seats
    (none_on steps digest s joins (digest_none digest s h))

-- how often a seat was taken
abbrev Numbered : SeatsState → Type 0
Numbered s = (m : ℕ) → (seat_at m s).generation ≤ last_number

abbrev Raises : SeatsState → SeatsState → Type 0
Raises s after = (m : ℕ) → ((seat_at m s).generation ≤ (seat_at m after).generation) × ((seat_at m after).generation ≤ last_number)

raises_with : (n : ℕ) (change : Seat → Seat) (s : SeatsState) → Numbered s →
    (seat_at n s).generation ≤ (change (seat_at n s)).generation → (change (seat_at n s)).generation ≤ last_number → Raises s (with_seat n change s)
raises_with n change s most grows few m = elim (changed n m change s) [
  | inl a ↦ let e : (seat_at m (with_seat n change s)).generation ≡ (change (seat_at n s)).generation = ap (λ (x : Seat). x.generation) a.is in
      let f : (seat_at m s).generation ≡ (seat_at n s).generation = ap (λ k. (seat_at k s).generation) a.same in
      (omega (arith, e, f, grows), omega (arith, e, few))
  | inr a ↦ let e : (seat_at m (with_seat n change s)).generation ≡ (seat_at m s).generation = ap (λ (x : Seat). x.generation) a in
      (omega (arith, e), omega (arith, e, most m))
]

raises_any : (o : Option ℕ) (change : Seat → Seat) (s : SeatsState) → Numbered s →
    ((x : Seat) → x.generation ≤ last_number → (x.generation ≤ (change x).generation) × ((change x).generation ≤ last_number)) →
    Raises s (with_any o change s)
raises_any None change s most h = λ m. (omega arith, most m)
raises_any (Some n) change s most h = let w = h (seat_at n s) (most n) in raises_with n change s most w.0 w.1

raises_if : (b : Bool) (n : ℕ) (s : SeatsState) → Numbered s → Raises s (if b then with_seat n freed s else s)
raises_if true n s most = raises_with n freed s most (omega arith) (most n)
raises_if false n s most = λ m. (omega arith, most m)

raises : (step : SeatStep) (s : SeatsState) → Numbered s → Raises s (after_step step s)
raises (Joins who allowed digest) s most =
    raises_any (free_for who allowed digest s) (taken_by who digest) s most (λ x h. (omega (arith, h), omega arith))
raises (Returns who digest) s most = raises_any (back_to who digest s) (held_by who) s most (λ x h. (omega arith, h))
raises (Leaves who) s most = raises_any (seat_of who s) freed s most (λ x h. (omega arith, h))
raises (Goes who now) s most = raises_any (seat_of who s) (left_at now) s most (λ x h. (omega arith, h))
raises (Frees n) s most = raises_if (is_taken n s) n s most
raises (Expires now timeout) s most = raises_any (expired now timeout s) freed s most (λ x h. (omega arith, h))

pub grows : (steps : List SeatStep) (n : ℕ) (s : SeatsState) → ((m : ℕ) → (seat_at m s).generation ≤ last_number) →
    (seat_at n s).generation ≤ (seat_at n (after_steps steps s)).generation
grows [] n s most = omega arith
grows (step ∷ steps) n s most = let w = raises step s most in
    omega (arith, (w n).0, grows steps n (after_step step s) (λ m. (w m).1))

-- nobody sits but where a seat is offered
taken_held : (who : ClientId) (n : ℕ) (s : SeatsState) → is_holder who (seat_at n s).sitter ≡ true → is_taken n s ≡ true
taken_held who n s h = ap not (held_is_taken who (seat_at n s).sitter h)

offered_with : (n : ℕ) (change : Seat → Seat) (s : SeatsState) → AreOffered s → get_or s.offered n false ≡ true → AreOffered (with_seat n change s)
offered_with n change s all here m h = elim (changed n m change s) [
  | inl a ↦ ap (λ k. get_or s.offered k false) a.same ∙ here
  | inr a ↦ all m (subst (λ (x : Seat). not (is_empty x.sitter) ≡ true) a h)
]

offered_any : (o : Option ℕ) (change : Seat → Seat) (s : SeatsState) → AreOffered s → ((n : ℕ) → o ≡ Some n → get_or s.offered n false ≡ true) →
    AreOffered (with_any o change s)
offered_any None change s all h = all
offered_any (Some n) change s all h = offered_with n change s all (h n refl)

freed_offered : (n : ℕ) (s : SeatsState) → AreOffered s → AreOffered (with_seat n freed s)
freed_offered n s all m h = elim (changed n m freed s) [
  | inl a ↦ absurd (both_no _ (subst (λ (x : Seat). not (is_empty x.sitter) ≡ true) a.is h) refl)
  | inr a ↦ all m (subst (λ (x : Seat). not (is_empty x.sitter) ≡ true) a h)
]

freed_any : (o : Option ℕ) (s : SeatsState) → AreOffered s → AreOffered (with_any o freed s)
freed_any None s all = all
freed_any (Some n) s all = freed_offered n s all

freed_if : (b : Bool) (n : ℕ) (s : SeatsState) → AreOffered s → AreOffered (if b then with_seat n freed s else s)
freed_if true n s all = freed_offered n s all
freed_if false n s all = all

can_parts : (a b c : Bool) → (a && (b && c)) ≡ true → b ≡ true
can_parts true true c h = refl
can_parts true false c h = h
can_parts false b c h = absurd (both_no _ h refl)

joined_offered : (who : ClientId) (allowed : List Bool) (digest : List ℕ) (s : SeatsState) (n : ℕ) → free_for who allowed digest s ≡ Some n →
    get_or s.offered n false ≡ true
joined_offered who allowed digest s n h =
    can_parts (is_empty (seat_at n s).sitter) (get_or s.offered n false) (get_or allowed n false) (free_can who allowed digest n s h)

step_offered : (step : SeatStep) (s : SeatsState) → AreOffered s → AreOffered (after_step step s)
step_offered (Joins who allowed digest) s all =
    offered_any (free_for who allowed digest s) (taken_by who digest) s all (joined_offered who allowed digest s)
step_offered (Returns who digest) s all = offered_any (back_to who digest s) (held_by who) s all
    (λ n h. all n (ap not (taken_is digest (seat_at n s) (found (has_digest digest) s.seats n (back_parts (seat_of who s) (found_by digest s) n h).0)).0))
step_offered (Leaves who) s all = freed_any (seat_of who s) s all
step_offered (Goes who now) s all =
    offered_any (seat_of who s) (left_at now) s all (λ n h. all n (taken_held who n s (found (holds who) s.seats n h)))
step_offered (Frees n) s all = freed_if (is_taken n s) n s all
step_offered (Expires now timeout) s all = freed_any (expired now timeout s) s all

pub stays_offered : (steps : List SeatStep) (s : SeatsState) → AreOffered s → AreOffered (after_steps steps s)
stays_offered [] s all = all
stays_offered (step ∷ steps) s all = stays_offered steps (after_step step s) (step_offered step s all)
