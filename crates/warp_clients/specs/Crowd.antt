-- All clients of a room, in their places.
use Rattle.std.specs.Prelude.{◌≡◌, ◌⊎◌, ◌≤◌, ℕ, Bool, true, false, List, [], ◌∷◌, ◌++◌, Option, Some, None, length, slice_get, slice_set}
use Rattle.warp_record.specs.declared.line.Line.{Line}
use Rattle.warp_watch.specs.declared.client_id.ClientId.{ClientId}
use Rattle.warp_web.specs.Lines.{nothing_passed}
use Rattle.warp_web.specs.Wire.{IsOutput, Passes}
use Rattle.warp_clients.specs.Client.{ClientState, Common, Deed, DoesFor, IsInnerDeed, IsMe, IsNext, MaySpeak}
use Rattle.warp_clients.specs.Sayings.{first_rights}
use Rattle.warp_hub.specs.declared.words.Word.{Word}
use Rattle.warp_clients.specs.declared.saying.Saying.{Saying}
use Rattle.warp_clients.specs.declared.saying.Saying.TheVariants as saying

-- the clients by their keys, and what they have in common
pub record CrowdState : Type 0 where
  pub clients : List ClientState
  pub common : Common

-- the client has this place and is there, and it becomes another by this; all others stay
abbrev pub Becomes : ClientId → (ClientState → ClientState → Type 0) → List ClientState → List ClientState → Type 0
Becomes who R old new =
    (c : ClientState) × (c' : ClientState) × (slice_get old who.key ≡ Some c) × IsMe who c × R c c' × (new ≡ slice_set old who.key c')

-- the client is not there
abbrev pub IsAway : ClientId → List ClientState → Type 0
IsAway who cs = (c : ClientState) → slice_get cs who.key ≡ Some c → IsMe who c → ⊥

-- the client is there, and of it this is so
abbrev pub IsThere : ClientId → (ClientState → Type 0) → List ClientState → Type 0
IsThere who P cs = (c : ClientState) × (slice_get cs who.key ≡ Some c) × IsMe who c × P c

-- a client that has said nothing
pub record IsFresh (k : Common) (who : ClientId) (c : ClientState) : Type 0 where
  pub is : c ≡ record {
    round = who.round;
    here = true;
    wire = c.wire;
    rights = first_rights k.facts;
    slot = None;
    owed = 0;
    out = [];
    wrong = 0;
    over = false;
    gone = false;
  }
  pub silent : Passes nothing_passed c.wire

-- a client has come: it has a place behind the others, or one where nobody is
abbrev pub GetsPlace : Common → ClientId → List ClientState → List ClientState → Type 0
GetsPlace k who old new =
    (c : ClientState) × IsFresh k who c
    × (((who.key ≡ length old) × (new ≡ old ++ c ∷ []))
    ⊎ ((left : ClientState) × (slice_get old who.key ≡ Some left) × (left.here ≡ false) × (new ≡ slice_set old who.key c)))

-- a client is gone
abbrev pub Goes : ClientState → ClientState → Type 0
Goes c c' = (c'.here ≡ false) × (c'.round ≡ c.round)

-- these are done for a client, one after another
abbrev pub DoEach : Common → List Deed → ClientState → ClientState → Type 0
DoEach k [] c c' = c' ≡ c
DoEach k (deed ∷ deeds) c c' = (next : ClientState) × DoesFor k deed c next × DoEach k deeds next c'

-- each of these a host may do of its own accord
abbrev pub AreInnerDeeds : List Deed → Type 0
AreInnerDeeds [] = Unit {0}
AreInnerDeeds (deed ∷ deeds) = IsInnerDeed deed × AreInnerDeeds deeds

-- nothing is done, or some such things are done for this client alone
abbrev pub MovesAt : Common → ClientId → List ClientState → List ClientState → Type 0
MovesAt k who old new =
    (new ≡ old) ⊎ Becomes who (λ c c'. (deeds : List Deed) × AreInnerDeeds deeds × DoEach k deeds c c') old new

abbrev pub Moves : ClientId → CrowdState → CrowdState → Type 0
Moves who old new = (new.common ≡ old.common) × MovesAt old.common who old.clients new.clients

-- some such things are done for this client alone, or nothing is
abbrev pub MayDo : (ClientState → ClientState → Type 0) → ClientId → List ClientState → List ClientState → Type 0
MayDo R who old new = (new ≡ old) ⊎ Becomes who R old new

-- its word may be answered by this text, which tells of a log of this length, if that may be told; else nothing changes
abbrev pub MayTell : Common → ℕ → List ℕ → ClientId → List ClientState → List ClientState → Type 0
MayTell k len text who old new =
    (new ≡ old)
    ⊎ ((len ≤ k.limit) × Becomes who (λ c c'. (said : Word) × MaySpeak k.facts k.clock (saying.Word said) text c c') old new)

-- these bytes are what is written to it next: nothing where its connection is lost
abbrev pub IsOutputOf : List ℕ → ClientState → Type 0
IsOutputOf bytes c = (c.gone ≡ false → IsOutput bytes c.wire) × (c.gone ≡ true → bytes ≡ [])
