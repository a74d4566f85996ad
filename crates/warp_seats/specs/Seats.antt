-- Seats of origins: who sits where. Moments and spans are in microseconds.
use Rattle.std.specs.Prelude.{◌≡◌, ℕ, ◌+◌, ◌==◌, ◌&&◌, ◌||◌, Bool, true, false, not, min, nat_le, List, [], ◌∷◌, replicate, Option, Some, None, get_or, is_some, slice_set, if◌then◌else◌}
use Rattle.std.specs.Str.{bytes_eq}
use Rattle.warp_tag.specs.Limits.{last_number}
use Rattle.warp_watch.specs.declared.client_id.ClientId.{ClientId}
use Rattle.warp_seats.specs.declared.seat.Seat.{Seat}
use Rattle.warp_seats.specs.declared.seat.Sitter.{Sitter}
use Rattle.warp_seats.specs.declared.seat.Sitter.TheVariants.{Nobody, Here, Away}
use Rattle.warp_seats.specs.declared.seats.Returned.{Returned}

-- the last moment that there is: what is due then is never due
abbrev pub never : ℕ
never = 18446744073709551615

-- the digest of a seat on which nobody sits
abbrev pub no_digest : List ℕ
no_digest = replicate 32 0

-- the seats of all origins: which may be sat on, and what is known of each
pub record SeatsState : Type 0 where
  pub offered : List Bool
  pub seats : List Seat

-- whether two clients are one
abbrev pub same_client : ClientId → ClientId → Bool
same_client a b = (a.key == b.key) && (a.round == b.round)

-- whether nobody sits on a seat: neither a client that is here nor one that is away
abbrev pub is_empty : Sitter → Bool
is_empty Nobody = true
is_empty sitter = false

-- whether this client holds a seat
abbrev pub is_holder : ClientId → Sitter → Bool
is_holder who (Here other) = same_client other who
is_holder who sitter = false

-- up to which moment a seat is kept for who is away, or never
abbrev pub kept_until : ℕ → Sitter → ℕ
kept_until timeout (Away since) = min never (since + timeout)
kept_until timeout sitter = never

-- whether who is away was so for so long
abbrev pub has_expired : ℕ → ℕ → Sitter → Bool
has_expired now timeout (Away since) = nat_le (min never (since + timeout)) now
has_expired now timeout sitter = false

-- whether somebody sits on a seat whose secret has this digest
abbrev pub is_taken_with : List ℕ → Seat → Bool
is_taken_with digest s = not (is_empty s.sitter) && bytes_eq s.digest digest

-- a seat that nobody took
abbrev pub no_seat : Seat
no_seat = record { generation = 0; digest = no_digest; sitter = Nobody }

-- the seat of an origin
abbrev pub seat_at : ℕ → SeatsState → Seat
seat_at n s = get_or s.seats n no_seat

-- the first origin whose seat passes a test of its number and itself, where the first of these seats has this number
abbrev pub first_from : (ℕ → Seat → Bool) → ℕ → List Seat → Option ℕ
first_from p n [] = None
first_from p n (s ∷ seats) = if p n s then Some n else first_from p (n + 1) seats

-- the same of all seats
abbrev pub first_of : (ℕ → Seat → Bool) → List Seat → Option ℕ
first_of p seats = first_from p 0 seats

-- the tests: this client holds it; somebody sits there with a secret of this digest; it may be taken where these are offered
-- and allowed; who was away is so for long enough
abbrev pub holds : ClientId → ℕ → Seat → Bool
holds who n s = is_holder who s.sitter

abbrev pub has_digest : List ℕ → ℕ → Seat → Bool
has_digest digest n s = is_taken_with digest s

abbrev pub can_take : List Bool → List Bool → ℕ → Seat → Bool
can_take offered allowed n s = is_empty s.sitter && (get_or offered n false && get_or allowed n false)

abbrev pub is_over : ℕ → ℕ → ℕ → Seat → Bool
is_over now timeout n s = has_expired now timeout s.sitter

-- the origin whose seat this client holds
abbrev pub seat_of : ClientId → SeatsState → Option ℕ
seat_of who s = first_of (holds who) s.seats

-- the origin on whose seat somebody sits with a secret of this digest
abbrev pub found_by : List ℕ → SeatsState → Option ℕ
found_by digest s = first_of (has_digest digest) s.seats

-- whether this client may send for an origin: it has no seat, or the client holds it
abbrev pub may_send : ClientId → ℕ → SeatsState → Bool
may_send who n s = not (get_or s.offered n false) || is_holder who (seat_at n s).sitter

-- whether somebody sits on the seat of an origin
abbrev pub is_taken : ℕ → SeatsState → Bool
is_taken n s = not (is_empty (seat_at n s).sitter)

-- the seat of an origin is changed
abbrev pub with_seat : ℕ → (Seat → Seat) → SeatsState → SeatsState
with_seat n change s = record s { seats = slice_set s.seats n (change (seat_at n s)) }

-- the same, if there is one
abbrev pub with_any : Option ℕ → (Seat → Seat) → SeatsState → SeatsState
with_any None change s = s
with_any (Some n) change s = with_seat n change s

-- what happens to a seat: a client takes it anew, comes back to it, its holder is away from now on, nobody has it any more
abbrev pub taken_by : ClientId → List ℕ → Seat → Seat
taken_by who digest s = record { generation = min last_number (s.generation + 1); digest = digest; sitter = Here who }

abbrev pub held_by : ClientId → Seat → Seat
held_by who s = record s { sitter = Here who }

abbrev pub left_at : ℕ → Seat → Seat
left_at now s = record s { sitter = Away now }

abbrev pub freed : Seat → Seat
freed s = record s { digest = no_digest; sitter = Nobody }

-- the seats of all origins, of which these are offered: nobody took one
abbrev pub fresh : List Bool → SeatsState
fresh offered = record { offered = offered; seats = replicate 64 no_seat }

-- The origin that a client gets which joins: the lowest that is offered, allowed and free; none where the client sits already,
-- or somebody sits with a secret of that digest.
abbrev pub free_for : ClientId → List Bool → List ℕ → SeatsState → Option ℕ
free_for who allowed digest s =
    if is_some (seat_of who s) || is_some (found_by digest s) then None else first_of (can_take s.offered allowed) s.seats

-- where a client goes back that holds the first of these seats, or none, and whose secret is that of the second
abbrev pub goes_back : Option ℕ → Option ℕ → Option ℕ
goes_back sits None = None
goes_back None (Some n) = Some n
goes_back (Some m) (Some n) = if m == n then Some n else None

-- the origin to which a client comes back: that of its digest, unless it sits on another one
abbrev pub back_to : ClientId → List ℕ → SeatsState → Option ℕ
back_to who digest s = goes_back (seat_of who s) (found_by digest s)

-- another client that sits there
abbrev pub former_of : ClientId → Sitter → Option ClientId
former_of who (Here other) = if same_client other who then None else Some other
former_of who sitter = None

-- what is told of it
abbrev pub told_of : ClientId → SeatsState → Option ℕ → Option Returned
told_of who s None = None
told_of who s (Some n) = Some (record { origin = n; former = former_of who (seat_at n s).sitter })

-- the first origin whose seat was kept long enough for who is away
abbrev pub expired : ℕ → ℕ → SeatsState → Option ℕ
expired now timeout s = first_of (is_over now timeout) s.seats

-- the first moment up to which one of these seats is kept, or never
abbrev pub soonest : ℕ → List Seat → ℕ
soonest timeout [] = never
soonest timeout (s ∷ seats) = min (kept_until timeout s.sitter) (soonest timeout seats)

-- whether no client has two seats, and no secret
pub record AreApart (s : SeatsState) : Type 0 where
  pub clients : (who : ClientId) (m n : ℕ) → is_holder who (seat_at m s).sitter ≡ true → is_holder who (seat_at n s).sitter ≡ true → m ≡ n
  pub digests : (digest : List ℕ) (m n : ℕ) → is_taken_with digest (seat_at m s) ≡ true → is_taken_with digest (seat_at n s) ≡ true → m ≡ n

-- what happens to seats, by the call that does it
pub data SeatStep : Type 0 where
  Joins : ClientId → List Bool → List ℕ → SeatStep
  Returns : ClientId → List ℕ → SeatStep
  Leaves : ClientId → SeatStep
  Goes : ClientId → ℕ → SeatStep
  Frees : ℕ → SeatStep
  Expires : ℕ → ℕ → SeatStep

-- what a step does
abbrev pub after_step : SeatStep → SeatsState → SeatsState
after_step (Joins who allowed digest) s = with_any (free_for who allowed digest s) (taken_by who digest) s
after_step (Returns who digest) s = with_any (back_to who digest s) (held_by who) s
after_step (Leaves who) s = with_any (seat_of who s) freed s
after_step (Goes who now) s = with_any (seat_of who s) (left_at now) s
after_step (Frees n) s = if is_taken n s then with_seat n freed s else s
after_step (Expires now timeout) s = with_any (expired now timeout s) freed s

-- what steps do, one after another
abbrev pub after_steps : List SeatStep → SeatsState → SeatsState
after_steps [] s = s
after_steps (step ∷ steps) s = after_steps steps (after_step step s)

-- none of these steps is a client that joins with a secret of this digest
abbrev pub NobodyJoins : List ℕ → List SeatStep → Type 0
NobodyJoins digest [] = Unit
NobodyJoins digest (Joins who allowed other ∷ steps) = (bytes_eq other digest ≡ false) × NobodyJoins digest steps
NobodyJoins digest (step ∷ steps) = NobodyJoins digest steps
