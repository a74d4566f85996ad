-- A client: its connection, its rights, what it said that is neither in the room nor answered; and what is done for it.
use Rattle.std.specs.Prelude.{◌≡◌, ◌⊎◌, ◌≤◌, ◌+◌, ◌-◌, ◌<◌, ℕ, Bool, true, false, IsTrue, List, [], ◌∷◌, ◌++◌, Option, Some, None, nat_le, take}
use Rattle.warp_record.specs.Lines.{Piece}
use Rattle.warp_record.specs.declared.line.Line.{Line}
use Rattle.warp_hub.specs.Tokens.{most_wrong}
use Rattle.warp_hub.specs.declared.commons.Facts.{Facts}
use Rattle.warp_hub.specs.declared.rights.Rights.{Rights}
use Rattle.warp_room.specs.Gate.{outcome_line}
use Rattle.warp_room.specs.declared.answers.AnsweredLine.{AnsweredLine}
use Rattle.warp_watch.specs.declared.client_id.ClientId.{ClientId}
use Rattle.warp_web.specs.Lines.{Passed, nothing_passed}
use Rattle.warp_web.specs.Wire.{Passes, output_of, unread_of}
use Rattle.warp_web.specs.declared.wire.Wire.{Wire}
use Rattle.warp_clients.specs.Sayings.{IsOwn, IsSaying, refused_13}
use Rattle.warp_clients.specs.declared.client.Listened.{Listened}
use Rattle.warp_clients.specs.declared.client.Listened.TheVariants as listened
use Rattle.warp_clients.specs.declared.saying.Saying.{Saying}
use Rattle.warp_clients.specs.declared.saying.Saying.TheVariants as saying
use Rattle.warp_clients.specs.declared.sending.ClockTold.{ClockTold}

-- A client: its round, whether it is there, its connection, what it may send, what it said that is neither in the room nor
-- answered, how many of its lines are in the room, the bytes of what it was told that its connection was not told yet, how
-- many wrong tokens it said, whether it is told nothing more, and whether its connection is lost
pub record ClientState : Type 0 where
  pub round : ℕ
  pub here : Bool
  pub wire : Wire
  pub rights : Rights
  pub slot : Option Saying
  pub owed : ℕ
  pub out : List ℕ
  pub wrong : ℕ
  pub over : Bool
  pub gone : Bool

-- what all clients have in common: what the host knows from its start, whether records are refused, of how long a log may be
-- told, and what the host's clock says, if it has one
pub record Common : Type 0 where
  pub facts : Facts
  pub failing : Bool
  pub limit : ℕ
  pub clock : Option ClockTold

-- this is the client
abbrev pub IsMe : ClientId → ClientState → Type 0
IsMe who c = IsTrue c.here × (c.round ≡ who.round)

-- whatever passed over the connection, with this more it passed
abbrev pub Adds : (Passed → Passed) → Wire → Wire → Type 0
Adds more old new = (p : Passed) → Passes p old → Passes (more p) new

-- the connection may be used
abbrev pub IsOpen : ClientState → Type 0
IsOpen c = c.gone ≡ false

-- nothing that is told of passed over the connection
abbrev pub Quiets : ClientState → ClientState → Type 0
Quiets c c' = IsOpen c × Adds (λ p. p) c.wire c'.wire × (c' ≡ record c { wire = c'.wire })

-- it was asked what it says next, and said nothing
abbrev pub SaysNothing : ClientState → ClientState → Type 0
SaysNothing c c' = IsOpen c × Adds (λ p. record p { said = p.said ++ [] }) c.wire c'.wire × (c' ≡ record c { wire = c'.wire })

-- these bytes came
abbrev pub Hears : List ℕ → ClientState → ClientState → Type 0
Hears bytes c c' =
    IsOpen c × Adds (λ p. record p { heard = p.heard ++ bytes }) c.wire c'.wire × (c' ≡ record c { wire = c'.wire })

-- its next line came, and is read with its rights; nothing else that it said waits
abbrev pub Keeps : Facts → Bool → Piece → Saying → ClientState → ClientState → Type 0
Keeps f failing piece said c c' =
    IsOpen c × (c.over ≡ false) × (c.slot ≡ None) × IsSaying f c.rights failing piece said
    × Adds (λ p. record p { said = p.said ++ piece ∷ [] }) c.wire c'.wire × (c' ≡ record c { wire = c'.wire; slot = Some said })

-- at most so many lines of a client are in the room
abbrev pub most_owed : ℕ
most_owed = 256

-- its line may go to the room: it waits in the slot
abbrev pub HasLine : Line → ClientState → Type 0
HasLine said c = (c.over ≡ false) × (c.owed < most_owed) × (c.slot ≡ Some (saying.Line said))

-- its line goes to the room
abbrev pub GoesIn : Line → ClientState → ClientState → Type 0
GoesIn said c c' = HasLine said c × (c' ≡ record c { slot = None; owed = c.owed + 1 })

-- the room's answer to its first line there is told to it
abbrev pub Replies : AnsweredLine → ClientState → ClientState → Type 0
Replies one c c' = (c.over ≡ false) × (c' ≡ record c { owed = c.owed - 1; out = c.out ++ outcome_line one.answer.outcome })

-- it is not: the client is told nothing more
abbrev pub Misses : ClientState → ClientState → Type 0
Misses c c' = c' ≡ record c { owed = c.owed - 1; over = true }

-- it was told this text
abbrev pub with_text : List ℕ → ClientState → ClientState
with_text text c = record c { out = c.out ++ text }

-- all that it said before this is answered
abbrev pub IsNext : Saying → ClientState → Type 0
IsNext said c = (c.over ≡ false) × (c.owed ≡ 0) × (c.slot ≡ Some said)

-- what it said is answered by this text
abbrev pub Speaks : Facts → Option ClockTold → Saying → List ℕ → ClientState → ClientState → Type 0
Speaks f clock said text c c' = IsNext said c × IsOwn f clock said text × (c' ≡ record c { slot = None; out = c.out ++ text })

-- its token is none: it is counted, and behind a few of these the client is told nothing more
abbrev pub Refuses : List ℕ → ClientState → ClientState → Type 0
Refuses text c c' =
    IsNext (saying.Token None) c × (text ≡ refused_13)
    × (c' ≡ record c { slot = None; out = c.out ++ text; wrong = c'.wrong; over = nat_le most_wrong c'.wrong })
    × (c.wrong < most_wrong → c'.wrong ≡ c.wrong + 1)

-- it has the rights of its token from now on, and is told so
abbrev pub Grants : Rights → List ℕ → ClientState → ClientState → Type 0
Grants rights text c c' =
    IsNext (saying.Token (Some rights)) c × (c' ≡ record c { rights = rights; slot = None; out = c.out ++ text })

-- whole lines are pushed to it
abbrev pub Pushes : List ℕ → ClientState → ClientState → Type 0
Pushes text c c' = (c.over ≡ false) × (c' ≡ with_text text c)

-- the first of what it was told, up to a line feed, is told to its connection
abbrev pub Carries : List ℕ → ClientState → ClientState → Type 0
Carries text c c' =
    IsOpen c × (c.out ≡ text ++ 10 ∷ c'.out) × Adds (λ p. record p { told = p.told ++ text ∷ [] }) c.wire c'.wire
    × (c' ≡ record c { wire = c'.wire; out = c'.out })

-- the bytes that are to be written to it
abbrev pub bytes_for : ClientState → List ℕ
bytes_for c = output_of c.wire

-- these bytes went to the socket
abbrev pub Writes : List ℕ → ClientState → ClientState → Type 0
Writes bytes c c' =
    IsOpen c × ((count : ℕ) × (bytes ≡ take count (bytes_for c)))
    × Adds (λ p. record p { written = p.written ++ bytes }) c.wire c'.wire × (c' ≡ record c { wire = c'.wire })

-- it is told nothing more
abbrev pub Ends : ClientState → ClientState → Type 0
Ends c c' = c' ≡ record c { over = true }

-- nor is anything more written to it
abbrev pub Loses : ClientState → ClientState → Type 0
Loses c c' = c' ≡ record c { wire = c'.wire; over = true; gone = true }

-- it speaks WebSocket from now on, with these rights, and these bytes came already; nothing was said or told before
abbrev pub Upgrades : Rights → List ℕ → ClientState → ClientState → Type 0
Upgrades rights unread c c' =
    IsOpen c × (c.over ≡ false) × (c.slot ≡ None) × (c.owed ≡ 0) × (c.out ≡ []) × (unread ≡ unread_of c.wire)
    × Passes (record nothing_passed { heard = unread }) c'.wire × (c' ≡ record c { wire = c'.wire; rights = rights })

-- what is done for a client, step by step
pub data Deed : Type 0 where
  Quieted : Deed
  Silent : Deed
  Heard : List ℕ → Deed
  Kept : Piece → Saying → Deed
  Spoke : Saying → ℕ → List ℕ → Deed
  Refused : List ℕ → Deed
  Granted : Rights → List ℕ → Deed
  Pushed : ℕ → List ℕ → Deed
  Carried : List ℕ → Deed
  Wrote : List ℕ → Deed
  Ended : Deed
  Lost : Deed
  Upgraded : Rights → List ℕ → Deed

-- what it does; nothing is told of a log that is longer than may be
abbrev pub DoesFor : Common → Deed → ClientState → ClientState → Type 0
DoesFor k Quieted c c' = Quiets c c'
DoesFor k Silent c c' = SaysNothing c c'
DoesFor k (Heard bytes) c c' = Hears bytes c c'
DoesFor k (Kept piece said) c c' = Keeps k.facts k.failing piece said c c'
DoesFor k (Spoke said len text) c c' = (len ≤ k.limit) × Speaks k.facts k.clock said text c c'
DoesFor k (Refused text) c c' = Refuses text c c'
DoesFor k (Granted rights text) c c' = Grants rights text c c'
DoesFor k (Pushed len text) c c' = (len ≤ k.limit) × Pushes text c c'
DoesFor k (Carried text) c c' = Carries text c c'
DoesFor k (Wrote bytes) c c' = Writes bytes c c'
DoesFor k Ended c c' = Ends c c'
DoesFor k Lost c c' = Loses c c'
DoesFor k (Upgraded rights unread) c c' = Upgrades rights unread c c'

-- a host may do this of its own accord: all but that bytes are heard, and that some count as written
abbrev pub IsInnerDeed : Deed → Type 0
IsInnerDeed (Heard bytes) = ⊥
IsInnerDeed (Wrote bytes) = ⊥
IsInnerDeed other = Unit {0}

-- What each call for one client does, with what it does where nothing is to be done or there is no memory.

abbrev pub Rests : ClientState → ClientState → Type 0
Rests c c' = (c' ≡ c) ⊎ Quiets c c'

abbrev pub Closes : ClientState → ClientState → Type 0
Closes c c' = (c' ≡ c) ⊎ (Quiets c c' ⊎ Loses c c')

-- what came of asking the connection what it says next
abbrev pub Listens : Facts → Bool → Listened → ClientState → ClientState → Type 0
Listens f failing listened.Kept c c' = (piece : Piece) × (said : Saying) × Keeps f failing piece said c c'
Listens f failing listened.More c c' = SaysNothing c c'
Listens f failing listened.Requests c c' = SaysNothing c c'
Listens f failing listened.Upgrade c c' = SaysNothing c c'
Listens f failing listened.Nothing c c' = (c' ≡ c) ⊎ SaysNothing c c'
Listens f failing listened.Ended c c' = SaysNothing c c'
Listens f failing listened.Lost c c' = Loses c c'

-- it said nothing, and may say more or not
abbrev pub IsRest : Listened → Type 0
IsRest listened.Kept = ⊥
IsRest listened.More = ⊥
IsRest listened.Requests = ⊥
IsRest listened.Upgrade = ⊥
IsRest listened.Nothing = Unit {0}
IsRest listened.Ended = Unit {0}
IsRest listened.Lost = ⊥

abbrev pub MayUpgrade : Rights → ClientState → ClientState → Type 0
MayUpgrade rights c c' = Loses c c' ⊎ ((unread : List ℕ) × Upgrades rights unread c c')

abbrev pub MayCarry : ClientState → ClientState → Type 0
MayCarry c c' = (c' ≡ c) ⊎ (Loses c c' ⊎ ((text : List ℕ) × Carries text c c'))

abbrev pub MayEnd : ClientState → ClientState → Type 0
MayEnd c c' = (c' ≡ c) ⊎ Ends c c'

abbrev pub MaySpeak : Facts → Option ClockTold → Saying → List ℕ → ClientState → ClientState → Type 0
MaySpeak f clock said text c c' = Speaks f clock said text c c' ⊎ Ends c c'

abbrev pub MayRefuse : List ℕ → ClientState → ClientState → Type 0
MayRefuse text c c' = Refuses text c c' ⊎ Ends c c'

abbrev pub MayGrant : Rights → List ℕ → ClientState → ClientState → Type 0
MayGrant rights text c c' = Grants rights text c c' ⊎ Ends c c'

abbrev pub MayWrite : ℕ → ClientState → ClientState → Type 0
MayWrite count c c' = (c' ≡ c) ⊎ Writes (take count (bytes_for c)) c c'
