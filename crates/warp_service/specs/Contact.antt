-- The way to a peer: when it is tried, how long it is waited for, and when it counts as lost. Times are in microseconds.
use Rattle.std.specs.Prelude.{◌≡◌, ◌⊎◌, ℕ, ◌+◌, ◌-◌, ◌*◌, ◌^◌, ◌≤◌, ◌==◌, ◌&&◌, ◌||◌, ◌%◌, Bool, true, false, not, min, nat_le, is_none, IsTrue, List, [], ◌∷◌, Option, Some, None, if◌then◌else◌}
use Rattle.warp_service.specs.declared.contact.Contact.{Contact}
use Rattle.warp_service.specs.declared.contact.Due.{Due}
use Rattle.warp_service.specs.declared.contact.Due.TheVariants.{Nothing, Try, Ask, Question, Over}
use Rattle.warp_service.specs.declared.contact.Way.{Way}
use Rattle.warp_service.specs.declared.contact.Way.TheVariants.{Waits, Sought, Begun, Open}

-- the last moment that there is: what is due then is never due
abbrev pub never : ℕ
never = 18446744073709551615

-- the moment that comes so long after another
abbrev pub later : ℕ → ℕ → ℕ
later moment micros = min never (moment + micros)

-- the pause behind a connection that was lost, where so many were lost before it: a tenth of a second, twice as long each
-- time, and at most five seconds
abbrev pub pause_behind : ℕ → ℕ
pause_behind losses = 1000 * min 5000 (100 * 2 ^ losses)

-- losses are counted up to so many: a further one makes the pause no longer
abbrev pub most_losses : ℕ
most_losses = 6

-- so long a connection lasts, if it brings a record, behind which losses are counted anew
abbrev pub lasting : ℕ
lasting = 60000000

-- so long a connection may take to be made
abbrev pub longest_making : ℕ
longest_making = 5000000

-- so long it is waited before a server that has nothing new is asked again
abbrev pub level_pause : ℕ
level_pause = 50000

-- behind so long a silence a host is asked a question, and behind so long a one the connection is given up
abbrev pub longest_quiet : ℕ
longest_quiet = 5000000

abbrev pub longest_silence : ℕ
longest_silence = 15000000

-- whether it is there since long
abbrev pub is_lasting : ℕ → Way → Bool
is_lasting now (Open since) = nat_le lasting (now - since)
is_lasting now way = false

-- how many connections were lost before this one since one that lasted and brought something, with it
abbrev pub losses_before : ℕ → Contact → ℕ
losses_before now c = if c.has_brought && is_lasting now c.way then 0 else c.losses

-- The connection is lost: it is tried again behind the pause.
abbrev pub lost : ℕ → Contact → Contact
lost now c = record c {
  way = Waits (later now (pause_behind (losses_before now c)));
  losses = min most_losses (losses_before now c + 1);
  has_brought = false;
  asks_at = None;
  is_questioned = false;
  is_host = false;
  is_wanted = false;
}

-- whether it is to be tried now
abbrev pub is_tried : ℕ → Way → Bool
is_tried now (Waits until) = nat_le until now
is_tried now way = false

-- its address is sought, if it is to be tried
abbrev pub tried : ℕ → Contact → Contact
tried now c = record c { way = if is_tried now c.way then Sought else c.way }

abbrev pub is_waiting : Way → Bool
is_waiting (Waits until) = true
is_waiting way = false

abbrev pub is_sought : Way → Bool
is_sought Sought = true
is_sought way = false

abbrev pub is_begun : Way → Bool
is_begun (Begun since) = true
is_begun way = false

abbrev pub is_open : Way → Bool
is_open (Open since) = true
is_open way = false

-- whether this is the number of a connection that is there or is being made
abbrev pub is_number : ℕ → Contact → Bool
is_number number c = (number == c.number) && (is_begun c.way || is_open c.way)

-- an address was sought, and a connection to it is being made, of the next number
abbrev pub begun : ℕ → Contact → Contact
begun now c = record c { number = (c.number + 1) % 2 ^ 64; way = Begun now }

-- the connection is there
abbrev pub opened : ℕ → Contact → Contact
opened now c = record c { way = Open now; heard = now; is_wanted = false }

-- a server that has nothing new is asked again behind a pause, unless that was said
abbrev pub asked_later : ℕ → Contact → Contact
asked_later now c = record c { asks_at = if is_none c.asks_at then Some (later now level_pause) else c.asks_at }

-- it is asked again behind a pause from now on, or not at all
abbrev pub IsAskedLater : ℕ → Option ℕ → Type 0
IsAskedLater now asks = (asks ≡ None) ⊎ (asks ≡ Some (later now level_pause))

-- whether a host is to be asked a question: it has said nothing for long, and none is under way
abbrev pub is_quiet : ℕ → Contact → Bool
is_quiet now c = c.is_wanted && c.is_host && not c.is_questioned && nat_le (later c.heard longest_quiet) now

-- whether it has said nothing for so long that it is given up
abbrev pub is_silent : ℕ → Contact → Bool
is_silent now c = c.is_wanted && nat_le (later c.heard longest_silence) now

-- whether a moment has come
abbrev pub has_come : ℕ → Option ℕ → Bool
has_come now None = false
has_come now (Some moment) = nat_le moment now

-- what is due now of a connection that is there
abbrev pub due_open : ℕ → Contact → Due
due_open now c =
    if is_silent now c then Over else (if has_come now c.asks_at then Ask else (if is_quiet now c then Question else Nothing))

-- what is due now
abbrev pub due_of : ℕ → Contact → Way → Due
due_of now c (Waits until) = if nat_le until now then Try else Nothing
due_of now c Sought = Nothing
due_of now c (Begun since) = if nat_le (later since longest_making) now then Over else Nothing
due_of now c (Open since) = due_open now c

-- the same of the way as it stands
abbrev pub due_now : ℕ → Contact → Due
due_now now c = due_of now c c.way

-- the moment that an Option has, or never
abbrev pub moment_of : Option ℕ → ℕ
moment_of None = never
moment_of (Some moment) = moment

-- the moment at which something is due of a connection that is there
abbrev pub next_open : Contact → ℕ
next_open c = min (moment_of c.asks_at)
    (if c.is_wanted then later c.heard (if c.is_host && not c.is_questioned then longest_quiet else longest_silence) else never)

-- the moment at which something is due
abbrev pub next_of : Contact → Way → ℕ
next_of c (Waits until) = until
next_of c Sought = never
next_of c (Begun since) = later since longest_making
next_of c (Open since) = next_open c

-- the way to a peer stays what it is
pub record Stays (c c' : Contact) : Type 0 where
  pub number : c'.number ≡ c.number
  pub way : c'.way ≡ c.way
  pub losses : c'.losses ≡ c.losses

-- A connection is lost that was there, was being made, or whose address was sought: it is tried again behind the pause for as
-- many losses as came before this one, or for none where it lasted.
pub record Loses (now : ℕ) (c c' : Contact) : Type 0 where
  pub there : is_waiting c.way ≡ false
  pub before : ℕ
  pub counted : (before ≡ c.losses) ⊎ ((before ≡ 0) × IsTrue (is_lasting now c.way))
  pub way : c'.way ≡ Waits (later now (pause_behind before))
  pub losses : c'.losses ≡ min most_losses (before + 1)
  pub number : c'.number ≡ c.number

-- what an event at a moment does to the way to a peer: it stays, the connection is lost, it is tried, a connection is being
-- made, or one is there
abbrev pub MovesOn : ℕ → Contact → Contact → Type 0
MovesOn now c c' =
    Stays c c' ⊎ (Loses now c c'
    ⊎ ((IsTrue (is_tried now c.way) × (c' ≡ tried now c))
    ⊎ ((IsTrue (is_sought c.way) × (c' ≡ begun now c)) ⊎ (IsTrue (is_begun c.way) × (c' ≡ opened now c)))))

-- events at these moments, one after another
abbrev pub MovesThrough : List ℕ → Contact → Contact → Type 0
MovesThrough [] c c' = c' ≡ c
MovesThrough (now ∷ events) c c' = (between : Contact) × MovesOn now c between × MovesThrough events between c'

-- one of these moments is not before this one
abbrev pub IsReached : ℕ → List ℕ → Type 0
IsReached until [] = ⊥
IsReached until (now ∷ events) = (until ≤ now) ⊎ IsReached until events
