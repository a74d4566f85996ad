-- Clients by their seats, the lines of theirs that wait, and whose turn it is.
use Rattle.std.specs.Prelude.{◌≡◌, ◌⊎◌, ℕ, ◌+◌, ◌<◌, ◌≤◌, ◌==◌, ◌&&◌, Bool, true, false, IsTrue, List, [], ◌∷◌, ◌++◌, length}
use Rattle.std.specs.Prelude.{Option, Some, None, slice_get, slice_set, if◌then◌else◌}
use Rattle.warp_record.specs.declared.line.Line.{Line}
use Rattle.warp_record.specs.declared.line.Line.TheVariants.{Put, Ask, Collect, Look}
use Rattle.warp_watch.specs.declared.client_id.ClientId.{ClientId}

-- a seat: the round of the client that has it, or had it last, whether one has it, and that client's lines that wait, the
-- oldest first
pub record SeatState : Type 0 where
  pub round : ℕ
  pub taken : Bool
  pub lines : List Line

-- the seats by their keys, the key from which on the next turn is looked for, and how many clients came
pub record QueuesState : Type 0 where
  pub seats : List SeatState
  pub next : ℕ
  pub came : ℕ

-- the client has this seat
abbrev pub IsSeat : List SeatState → ClientId → SeatState → Type 0
IsSeat seats who seat = (slice_get seats who.key ≡ Some seat) × IsTrue seat.taken × (seat.round ≡ who.round)

-- the lines that wait of the client of this round, in a seat
abbrev pub lines_in : ℕ → Option SeatState → List Line
lines_in round None = []
lines_in round (Some seat) = if seat.taken && (seat.round == round) then seat.lines else []

-- the lines of a client that wait, the oldest first; of one that is not there none do
abbrev pub lines_of : List SeatState → ClientId → List Line
lines_of seats who = lines_in who.round (slice_get seats who.key)

-- whether a line may be answered now: one that needs all to be executed may where all is
abbrev pub may_answer : Bool → Line → Bool
may_answer all (Put said) = true
may_answer all (Ask asked) = all
may_answer all Collect = all
may_answer all (Look look) = true

-- whether the first of these lines may be
abbrev pub first_may : Bool → List Line → Bool
first_may all [] = false
first_may all (said ∷ lines) = may_answer all said

-- whether the client of this seat has a line that may be answered
abbrev pub may_turn : Bool → SeatState → Bool
may_turn all seat = seat.taken && first_may all seat.lines

abbrev pub may_turn_at : Bool → Option SeatState → Bool
may_turn_at all None = false
may_turn_at all (Some seat) = may_turn all seat

-- whether there is a seat of this key whose client has one
abbrev pub has_turn : Bool → List SeatState → ℕ → Bool
has_turn all seats key = may_turn_at all (slice_get seats key)

-- counting from a key on, and after the last one from 0, one key comes before another
abbrev pub ComesBefore : ℕ → ℕ → ℕ → Type 0
ComesBefore next one other = ((next ≤ one) × ((one < other) ⊎ (other < next))) ⊎ ((one < other) × (other < next))

-- whose turn it is: this client's, which has a line that may be answered, and from the key on none before it has one
pub record IsFirst (all : Bool) (seats : List SeatState) (next key : ℕ) : Type 0 where
  pub has : IsTrue (has_turn all seats key)
  pub none : (other : ℕ) → ComesBefore next other key → has_turn all seats other ≡ false

-- For proofs: lines wait of seats between these two alone, the first among them.
abbrev pub WaitWithin : ℕ → ℕ → List SeatState → Type 0
WaitWithin low high seats =
    (key : ℕ) (seat : SeatState) → slice_get seats key ≡ Some seat → (seat.lines ≡ []) ⊎ ((low ≤ key) × (key < high))

-- the seat of a client that has just come
abbrev pub new_seat : ℕ → SeatState
new_seat round = record { round = round; taken = true; lines = [] }

-- the client has a new seat behind the others, or one that was free
abbrev pub GetsSeat : ClientId → List SeatState → List SeatState → Type 0
GetsSeat who seats seats' =
    ((who.key ≡ length seats) × (seats' ≡ seats ++ new_seat who.round ∷ []))
    ⊎ ((free : SeatState) × (slice_get seats who.key ≡ Some free) × (free.taken ≡ false)
    × (seats' ≡ slice_set seats who.key (new_seat who.round)))

-- A client has come. Its round is how many came before, so no two clients are the same.
pub record Comes (who : ClientId) (q q' : QueuesState) : Type 0 where
  pub round : who.round ≡ q.came
  pub came : q'.came ≡ q.came + 1
  pub next : q'.next ≡ q.next
  pub seats : GetsSeat who q.seats q'.seats

-- a client is gone, and the lines of it that waited
abbrev pub LeavesSeat : ClientId → QueuesState → QueuesState → Type 0
LeavesSeat who q q' =
    (seat : SeatState) × IsSeat q.seats who seat
    × (q' ≡ record q { seats = slice_set q.seats who.key (record seat { taken = false; lines = [] }) })

-- a line of a client waits behind its others, of which there were fewer than so many
abbrev pub Hears : ClientId → Line → ℕ → QueuesState → QueuesState → Type 0
Hears who said most q q' =
    (seat : SeatState) × IsSeat q.seats who seat × (length seat.lines < most)
    × (q' ≡ record q { seats = slice_set q.seats who.key (record seat { lines = seat.lines ++ said ∷ [] }) })

-- the oldest line of a client waits no longer, and the next turn is looked for behind its seat
abbrev pub TakesLine : ClientId → SeatState → List Line → QueuesState → QueuesState → Type 0
TakesLine who seat rest q q' =
    q' ≡ record q { seats = slice_set q.seats who.key (record seat { lines = rest }); next = who.key + 1 }
