-- A client that comes, and is given rights.
use Rattle.std.proofs.Common.{◌≡◌, ◌⊎◌, ℕ, false, List, [], ◌∷◌, ◌++◌, length, Some, refl, sym, ap, ◌∙◌, subst, inl, inr}
use Rattle.std.specs.Prelude.{slice_get, slice_set}
use Rattle.warp_hub.specs.declared.rights.Rights.{Rights}
use Rattle.warp_replica.specs.Answered.{TimelineFacts}
use Rattle.warp_room.specs.Room.{RoomState}
use Rattle.warp_room.specs.Steps.{Came, RoomDoes}
use Rattle.warp_watch.specs.declared.client_id.ClientId.{ClientId}
use Rattle.warp_clients.specs.Client.{ClientState, Common}
use Rattle.warp_clients.specs.Crowd.{Becomes, GetsPlace, IsAway}
use Rattle.warp_clients.specs.Entering.{GetsPlaceAs, HasRights}
use Rattle.warp_clients.specs.Steps.{ClientsState, StepDoes}
use Rattle.warp_clients.specs.Steps as step
use Rattle.warp_clients.proofs.InPlaces.{get_last, get_same, some_same}
use Rattle.warp_clients.proofs.Moving.{set_twice}

set_last : (cs : List ClientState) (c d : ClientState) → slice_set (cs ++ c ∷ []) (length cs) d ≡ cs ++ d ∷ []
set_last [] c d = refl
set_last (x ∷ cs) c d = ap (λ (l : List ClientState). x ∷ l) (set_last cs c d)

-- where the one stands that has just come
stands : (k : Common) (who : ClientId) (old mid : List ClientState) (g : GetsPlace k who old mid) → slice_get mid who.key ≡ Some g.0
stands k who old mid (c, fresh, inl next) =
    ap (λ (cs : List ClientState). slice_get cs who.key) next.1 ∙ ap (λ (n : ℕ). slice_get (old ++ c ∷ []) n) next.0 ∙ get_last old c
stands k who old mid (c, fresh, inr free) =
    ap (λ (cs : List ClientState). slice_get cs who.key) free.3 ∙ get_same old who.key free.0 c free.1

-- another stands there
exchanged : (k : Common) (who : ClientId) (old mid new : List ClientState) → GetsPlace k who old mid → (d : ClientState)
    → new ≡ slice_set mid who.key d → ((who.key ≡ length old) × (new ≡ old ++ d ∷ []))
    ⊎ ((left : ClientState) × (slice_get old who.key ≡ Some left) × (left.here ≡ false) × (new ≡ slice_set old who.key d))
exchanged k who old mid new (c, fresh, inl next) d is = inl (
  next.0,
  is ∙ ap (λ (cs : List ClientState). slice_set cs who.key d) next.1 ∙ ap (λ (n : ℕ). slice_set (old ++ c ∷ []) n d) next.0
      ∙ set_last old c d,
)
exchanged k who old mid new (c, fresh, inr free) d is = inr (
  free.0,
  free.1,
  free.2,
  is ∙ ap (λ (cs : List ClientState). slice_set cs who.key d) free.3 ∙ set_twice old who.key c d,
)

given_place : (r : Rights) (k : Common) (who : ClientId) (old mid new : List ClientState) → GetsPlace k who old mid
    → Becomes who (HasRights r) mid new ⊎ (IsAway who mid × (new ≡ mid)) → GetsPlaceAs r k who old new
given_place r k who old mid new g (inl b) =
    let same : b.0 ≡ g.0 = some_same b.0 g.0 (sym b.2 ∙ stands k who old mid g) in (
      b.1,
      (g.0, g.1, b.4 ∙ ap (λ (x : ClientState). record x { rights = r }) same),
      exchanged k who old mid new g b.1 b.5,
    )
given_place r k who old mid new g (inr away) = absurd (away.0 g.0 (stands k who old mid g)
    (ap (λ (x : ClientState). x.here) g.1.is, ap (λ (x : ClientState). x.round) g.1.is))

-- a client comes, and is given rights: it comes with these
pub entered : {T : Type 0} (facts : TimelineFacts T) (s mid s' : ClientsState T) (who : ClientId) (r : Rights)
    → StepDoes facts (step.Joins who) s mid → s'.room ≡ mid.room
    → Becomes who (HasRights r) mid.crowd.clients s'.crowd.clients
    ⊎ (IsAway who mid.crowd.clients × (s'.crowd.clients ≡ mid.crowd.clients))
    → s'.crowd.common ≡ mid.crowd.common → StepDoes facts (step.Enters who r) s s'
entered {T} facts s mid s' who r joins room given common = (
  subst (λ (x : RoomState T). RoomDoes facts (Came who) s.room x) (sym room) joins.0,
  (
    given_place r s.crowd.common who s.crowd.clients mid.crowd.clients s'.crowd.clients joins.1.0 given,
    common ∙ joins.1.1,
  ),
)
