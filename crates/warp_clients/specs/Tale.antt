-- What steps come to, from the steps alone, client by client: what it said, what it was told, and what passed over its
-- connection.
use Rattle.std.specs.Prelude.{◌≡◌, ℕ, ◌<◌, ◌≤◌, Bool, true, false, IsTrue, List, [], ◌∷◌, ◌++◌, Option, Some, None, length, map, slice_get, if◌then◌else◌}
use Rattle.warp_record.specs.Lines.{Piece}
use Rattle.warp_record.specs.declared.line.Line.{Line}
use Rattle.warp_replica.specs.Answered.{TimelineFacts}
use Rattle.warp_hub.specs.Rights.{may_send}
use Rattle.warp_hub.specs.declared.commons.Facts.{Facts}
use Rattle.warp_hub.specs.declared.rights.Rights.{Rights}
use Rattle.warp_room.specs.Room.{RoomState, is_client, open_lines}
use Rattle.warp_room.specs.Steps.{AreOlder, RoomStep}
use Rattle.warp_room.specs.Steps as room
use Rattle.warp_room.specs.Gate.{outcome_line}
use Rattle.warp_room.specs.declared.answers.AnsweredLine.{AnsweredLine}
use Rattle.warp_watch.specs.declared.client_id.ClientId.{ClientId}
use Rattle.warp_web.specs.Lines.{Passed, nothing_passed, text_of}
use Rattle.warp_web.specs.Wire.{Passes}
use Rattle.warp_clients.specs.Sayings.{first_rights}
use Rattle.warp_clients.specs.declared.saying.Saying.{Saying}
use Rattle.warp_clients.specs.declared.saying.Saying.TheVariants as saying
use Rattle.warp_clients.specs.Client.{ClientState, Deed, IsMe}
use Rattle.warp_clients.specs.Client as deed
use Rattle.warp_clients.specs.Crowd.{IsAway}
use Rattle.warp_clients.specs.Steps.{ClientsState, Step, StepDoes}
use Rattle.warp_clients.specs.Steps as step

-- what a client is told: the room's reply to a line of its; the answer to what it said, given here, with the length of the
-- log of which that tells; its rights; or what is pushed, with that length
pub data Entry : Type 0 where
  Reply : AnsweredLine → Entry
  Own : Saying → ℕ → List ℕ → Entry
  Given : Rights → List ℕ → Entry
  Push : ℕ → List ℕ → Entry

-- of a client, since it speaks what it speaks: its rights at first; the lines that it said, each as it was cut and as it was
-- read; what it was told; and what passed over its connection
pub record ClientTale : Type 0 where
  pub first : Rights
  pub kept : List (Piece × Saying)
  pub told : List Entry
  pub passed : Passed

-- nothing was said and nothing told
abbrev pub silence : Rights → ClientTale
silence first = record { first = first; kept = []; told = []; passed = nothing_passed }

-- it was told this too
abbrev pub and_told : Entry → ClientTale → ClientTale
and_told entry t = record t { told = t.told ++ entry ∷ [] }

-- the tale of a client for whom this was done too
abbrev pub behind_deed : Deed → ClientTale → ClientTale
behind_deed deed.Quieted t = t
behind_deed deed.Silent t = record t { passed = record t.passed { said = t.passed.said ++ [] } }
behind_deed (deed.Heard bytes) t = record t { passed = record t.passed { heard = t.passed.heard ++ bytes } }
behind_deed (deed.Kept piece said) t =
    record t { kept = t.kept ++ (piece, said) ∷ []; passed = record t.passed { said = t.passed.said ++ piece ∷ [] } }
behind_deed (deed.Spoke said len text) t = and_told (Own said len text) t
behind_deed (deed.Refused text) t = and_told (Own (saying.Token None) 0 text) t
behind_deed (deed.Granted rights text) t = and_told (Given rights text) t
behind_deed (deed.Pushed len text) t = and_told (Push len text) t
behind_deed (deed.Carried text) t = record t { passed = record t.passed { told = t.passed.told ++ text ∷ [] } }
behind_deed (deed.Wrote bytes) t = record t { passed = record t.passed { written = t.passed.written ++ bytes } }
behind_deed deed.Ended t = t
behind_deed deed.Lost t = t
behind_deed (deed.Upgraded rights unread) t =
    record { first = rights; kept = []; told = []; passed = record nothing_passed { heard = unread } }

-- The tale of a client behind one step more. What is not done for it changes nothing.
abbrev pub behind_step : Facts → ClientId → Step → ClientTale → ClientTale
behind_step f who (step.Joins w) t = if is_client who w then silence (first_rights f) else t
behind_step f who (step.Enters w rights) t = if is_client who w then silence rights else t
behind_step f who (step.Turned w) t = t
behind_step f who (step.Leaves w) t = t
behind_step f who (step.Does w deed) t = if is_client who w then behind_deed deed t else t
behind_step f who (step.Asks w said) t = t
behind_step f who (step.Tells one) t = if is_client who one.who then and_told (Reply one) t else t
behind_step f who (step.Drops one) t = t
behind_step f who (step.Works work) t = t
behind_step f who (step.Limits len) t = t
behind_step f who (step.Fails is) t = t
behind_step f who (step.Renews entries) t = t
behind_step f who (step.Clocks clock) t = t

abbrev pub behind_steps : Facts → ClientId → List Step → ClientTale → ClientTale
behind_steps f who [] t = t
behind_steps f who (step ∷ steps) t = behind_steps f who steps (behind_step f who step t)

-- what a client was told from the start
abbrev pub tale_of : Facts → List Step → ClientId → ClientTale
tale_of f steps who = behind_steps f who steps (silence (first_rights f))

-- what was answered
abbrev pub answered_in : List Entry → List Saying
answered_in [] = []
answered_in (Reply one ∷ entries) = saying.Line one.said ∷ answered_in entries
answered_in (Own said len text ∷ entries) = said ∷ answered_in entries
answered_in (Given rights text ∷ entries) = saying.Token (Some rights) ∷ answered_in entries
answered_in (Push len text ∷ entries) = answered_in entries

-- the text of an entry, with its line feeds
abbrev pub text_in : Entry → List ℕ
text_in (Reply one) = outcome_line one.answer.outcome
text_in (Own said len text) = text
text_in (Given rights text) = text
text_in (Push len text) = text

abbrev pub texts_in : List Entry → List ℕ
texts_in [] = []
texts_in (entry ∷ entries) = text_in entry ++ texts_in entries

-- the rights of who was told this, and had these before
abbrev pub rights_behind : Rights → List Entry → Rights
rights_behind rights [] = rights
rights_behind rights (Reply one ∷ entries) = rights_behind rights entries
rights_behind rights (Own said len text ∷ entries) = rights_behind rights entries
rights_behind rights (Given given text ∷ entries) = rights_behind given entries
rights_behind rights (Push len text ∷ entries) = rights_behind rights entries

-- what waits in the slot
abbrev pub in_slot : Option Saying → List Saying
in_slot None = []
in_slot (Some said) = said ∷ []

abbrev pub pieces_of : List (Piece × Saying) → List Piece
pieces_of kept = map (λ (k : Piece × Saying). k.0) kept

abbrev pub sayings_of : List (Piece × Saying) → List Saying
sayings_of kept = map (λ (k : Piece × Saying). k.1) kept

-- A client whose lines are in the room, in this order. What it was told has an answer to all that it said, in its order, up to
-- its lines in the room and what waits in its slot, while it is not over: one for one. Its rights are those of the last token of
-- its that it was told of, and what waits for the room may be sent with them. What its connection was told, and what it is to be
-- told, is the text of what the client was told; and the lines that its connection said are those that were read. While the
-- connection is not lost, that passed over it.
pub record IsTold (t : ClientTale) (waits : List Line) (c : ClientState) : Type 0 where
  pub owed : c.owed ≡ length waits
  pub rest : List Saying
  pub order : sayings_of t.kept ≡ answered_in t.told ++ rest
  pub all : c.over ≡ false → rest ≡ map (λ (said : Line). saying.Line said) waits ++ in_slot c.slot
  pub rights : c.rights ≡ rights_behind t.first t.told
  pub allowed : (said : Line) → c.slot ≡ Some (saying.Line said) → IsTrue (may_send c.rights said)
  pub text : text_of t.passed.told ++ c.out ≡ texts_in t.told
  pub said : t.passed.said ≡ pieces_of t.kept
  pub passes : c.gone ≡ false → Passes t.passed c.wire

-- so of each client that is there; who is not there has no line in the room and no answer on its way; and all came before those
-- that come next
pub record AreTold {T : Type 0} (tales : ClientId → ClientTale) (s : ClientsState T) : Type 0 where
  pub each : (who : ClientId) (c : ClientState) → slice_get s.crowd.clients who.key ≡ Some c → IsMe who c →
      IsTold (tales who) (open_lines s.room who) c
  pub away : (who : ClientId) → IsAway who s.crowd.clients → open_lines s.room who ≡ []
  pub rounds : (key : ℕ) (c : ClientState) → slice_get s.crowd.clients key ≡ Some c → c.round < s.room.queues.came
  pub older : AreOlder s.room

-- nobody has come
pub record IsEmpty {T : Type 0} (s : ClientsState T) : Type 0 where
  pub clients : s.crowd.clients ≡ []
  pub seats : s.room.queues.seats ≡ []
  pub made : s.room.made ≡ []

-- a line goes to the room with the rights of the last token that its client said and was told of, or else with those with which it came
abbrev pub IsAllowed : Step → (ClientId → ClientTale) → Type 0
IsAllowed (step.Asks who said) tales = IsTrue (may_send (rights_behind (tales who).first (tales who).told) said)
IsAllowed other tales = Unit {0}

abbrev pub AreAllowed : Facts → List Step → (ClientId → ClientTale) → Type 0
AreAllowed f [] tales = Unit {0}
AreAllowed f (step ∷ steps) tales = IsAllowed step tales × AreAllowed f steps (λ who. behind_step f who step (tales who))

-- the steps of the room in these
abbrev pub room_steps : List Step → List RoomStep
room_steps [] = []
room_steps (step.Joins who ∷ steps) = room.Came who ∷ room_steps steps
room_steps (step.Enters who rights ∷ steps) = room.Came who ∷ room_steps steps
room_steps (step.Turned who ∷ steps) = room.Came who ∷ room.Left who ∷ room_steps steps
room_steps (step.Leaves who ∷ steps) = room.Left who ∷ room_steps steps
room_steps (step.Does who deed ∷ steps) = room_steps steps
room_steps (step.Asks who said ∷ steps) = room.Heard who said ∷ room_steps steps
room_steps (step.Tells one ∷ steps) = room.Handed one ∷ room_steps steps
room_steps (step.Drops one ∷ steps) = room.Handed one ∷ room_steps steps
room_steps (step.Works work ∷ steps) = work ∷ room_steps steps
room_steps (step.Limits len ∷ steps) = room_steps steps
room_steps (step.Fails is ∷ steps) = room_steps steps
room_steps (step.Renews entries ∷ steps) = room_steps steps
room_steps (step.Clocks clock ∷ steps) = room_steps steps
