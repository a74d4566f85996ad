-- Inputs that clients send, and what is told of them and of the origins that a host keeps.
use Rattle.std.proofs.Common.{◌≡◌, ◌≤◌, ◌+◌, ℕ, Bool, List, [], ◌∷◌, ◌++◌, Some, add-one, ap, append_assoc, decimal}
use Rattle.std.proofs.Common.{if◌then◌else◌, inl, inr, subst, sym, ◌∙◌}
use Rattle.std.specs.Prelude.{slice_get, slice_index_or}
use Rattle.warp_watch.specs.declared.client_id.ClientId.{ClientId}
use Rattle.warp_step.specs.Program.{Program}
use Rattle.warp_keep.specs.Keeping.{keeps}
use Rattle.warp_keep.specs.declared.keeping.Keeping.{Keeping}
use Rattle.warp_hub.specs.declared.rights.Rights.{Rights}
use Rattle.warp_hub.specs.declared.words.Word.{Word}
use Rattle.warp_clients.specs.Client.{ClientState, Common, IsMe, MaySpeak}
use Rattle.warp_clients.specs.Crowd.{Becomes, IsThere, MayTell, MovesAt}
use Rattle.warp_clients.specs.Sending.{TellsKept, kept_text}
use Rattle.warp_clients.specs.Steps.{ClientsState}
use Rattle.warp_clients.specs.declared.saying.Saying.TheVariants as saying
use Rattle.warp_clients.proofs.At.{got}
use Rattle.warp_clients.proofs.Moving.{loses, tells}

-- the kept ones of one origin more
pub kept_more : (kept : ℕ → Bool) (origin : ℕ) (is : Bool) (old mid new : List ℕ) → is ≡ kept origin
    → mid ≡ old ++ kept_text kept origin → new ≡ mid ++ (if is then 32 ∷ decimal origin else [])
    → new ≡ old ++ kept_text kept (origin + 1)
kept_more kept origin is old mid new same before added =
    added ∙ ap (λ (t : List ℕ). t ++ (if is then 32 ∷ decimal origin else [])) before
    ∙ append_assoc old (kept_text kept origin) (if is then 32 ∷ decimal origin else [])
    ∙ ap (λ (b : Bool). old ++ (kept_text kept origin ++ (if b then 32 ∷ decimal origin else []))) same
    ∙ ap (λ (n : ℕ). old ++ kept_text kept n) (sym (add-one origin))

-- who is there has its rights
pub rights_there : (who : ClientId) (items cs : List ClientState) (at : ℕ) (v : ClientState) (rights : Rights) → items ≡ cs
    → (at ≡ who.key) × ((c : ClientState) × (slice_get cs at ≡ Some c) × IsMe who c)
    → v ≡ slice_index_or items at v → rights ≡ v.rights → IsThere who (λ c. c.rights ≡ rights) cs
rights_there who items cs at v rights view there is own =
    let same : v ≡ there.1.0 = got cs at v there.1.0 there.1.1 (subst (λ (l : List ClientState). v ≡ slice_index_or l at v) view is) in (
      there.1.0,
      ap (λ (n : ℕ). slice_get cs n) (sym there.0) ∙ there.1.1,
      there.1.2,
      ap (λ (x : ClientState). x.rights) (sym same) ∙ sym own,
    )

-- its word is answered by a text that may be told
pub tells_word : (k : Common) (len : ℕ) (text : List ℕ) (who : ClientId) (word : Word) (old new : List ClientState)
    → len ≤ k.limit → Becomes who (MaySpeak k.facts k.clock (saying.Word word) text) old new → MayTell k len text who old new
tells_word k len text who word old new most b = inr (most, (b.0, b.1, b.2, b.3, (word, b.4), b.5))

pub kept_moves : (kept : ℕ → Bool) (P : Program) (k : Common) (who : ClientId) (old new : List ClientState)
    → TellsKept kept P k who old new → MovesAt k who old new
kept_moves kept P k who old new (inl lost) = loses k who old new lost
kept_moves kept P k who old new (inr t) = tells k who 0 t.0 old new t.2

-- a call on the room's parts, as one on the clients
pub told_kept : {T : Type 0} (x y : ClientsState T) → x ≡ y → (k : Keeping) (P : Program) → k ≡ x.room.keeping → P ≡ x.room.replica.program
    → (who : ClientId) (new : List ClientState) → TellsKept (keeps k) P x.crowd.common who x.crowd.clients new
    → TellsKept (keeps y.room.keeping) y.room.replica.program y.crowd.common who y.crowd.clients new
told_kept {T} x y same k P is program who new told =
    subst (λ (z : ClientsState T). TellsKept (keeps z.room.keeping) z.room.replica.program z.crowd.common who z.crowd.clients new) same
    (subst (λ (Q : Program). TellsKept (keeps x.room.keeping) Q x.crowd.common who x.crowd.clients new) program
    (subst (λ (j : Keeping). TellsKept (keeps j) P x.crowd.common who x.crowd.clients new) is told))
