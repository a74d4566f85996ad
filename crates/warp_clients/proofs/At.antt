-- A client at its place, and a line of its that is kept.
use Rattle.std.proofs.Common.{◌≡◌, ◌⊎◌, ◌++◌, ◌∷◌, [], ℕ, zero, suc, Bool, false, List, Some, None, sym, ap, ◌∙◌, subst, inl, inr}
use Rattle.std.specs.Prelude.{slice_get, slice_index_or, slice_set}
use Rattle.warp_hub.specs.declared.commons.Facts.{Facts}
use Rattle.warp_record.specs.Lines.{Piece}
use Rattle.warp_watch.specs.declared.client_id.ClientId.{ClientId}
use Rattle.warp_web.specs.Lines.{Passed}
use Rattle.warp_web.specs.Wire.{Passes}
use Rattle.warp_web.specs.declared.wire.Wire.{Wire}
use Rattle.warp_clients.specs.Client.{ClientState, IsMe, IsRest, Keeps, Listens, Loses, SaysNothing}
use Rattle.warp_clients.specs.Crowd.{Becomes, MayDo}
use Rattle.warp_clients.specs.Sayings.{IsSaying}
use Rattle.warp_clients.specs.declared.client.Listened.{Listened}
use Rattle.warp_clients.specs.declared.client.Listened.TheVariants as listened
use Rattle.warp_clients.specs.declared.saying.Saying.{Saying}
use Rattle.warp_clients.proofs.InPlaces.{none_some, some_same}
use Rattle.warp_clients.proofs.Moving.{set_own}

pub got : (xs : List ClientState) (n : ℕ) (v c : ClientState) → slice_get xs n ≡ Some c → v ≡ slice_index_or xs n v → v ≡ c
got [] n v c there is = absurd (none_some c there)
got (x ∷ xs) zero v c there is = is ∙ some_same x c there
got (x ∷ xs) (suc n) v c there is = got xs n v c there is

pub becomes_at : (R : ClientState → ClientState → Type 0) (who : ClientId) (items old : List ClientState) (at : ℕ) (v v' : ClientState) → items ≡ old
    → (at ≡ who.key) × ((c : ClientState) × (slice_get old at ≡ Some c) × IsMe who c) → v ≡ slice_index_or items at v → R v v'
    → Becomes who R old (slice_set items at v')
becomes_at R who items old at v v' view there is r =
    let same : v ≡ there.1.0 = got old at v there.1.0 there.1.1 (subst (λ (l : List ClientState). v ≡ slice_index_or l at v) view is) in (
      v,
      v',
      ap (λ (n : ℕ). slice_get old n) (sym there.0) ∙ there.1.1 ∙ ap (λ (x : ClientState). Some x) (sym same),
      subst (λ (x : ClientState). IsMe who x) (sym same) there.1.2,
      r,
      ap (λ (l : List ClientState). slice_set l at v') view ∙ ap (λ (n : ℕ). slice_set old n v') there.0,
    )

pub loses_at : (who : ClientId) (items old : List ClientState) (at : ℕ) (v v' : ClientState) → items ≡ old
    → (at ≡ who.key) × ((c : ClientState) × (slice_get old at ≡ Some c) × IsMe who c) → v ≡ slice_index_or items at v
    → (v' ≡ v) ⊎ Loses v v' → MayDo Loses who old (slice_set items at v')
loses_at who items old at v v' view there is (inl kept) =
    let same : v ≡ there.1.0 = got old at v there.1.0 there.1.1 (subst (λ (l : List ClientState). v ≡ slice_index_or l at v) view is) in
    inl (ap (λ (l : List ClientState). slice_set l at v') view ∙ ap (λ (x : ClientState). slice_set old at x) (kept ∙ same)
    ∙ set_own old at there.1.0 there.1.1)
loses_at who items old at v v' view there is (inr lost) = inr (becomes_at Loses who items old at v v' view there is lost)

pub keeps_line : (f : Facts) (failing : Bool) (piece : Piece) (said : Saying) (c c' : ClientState) (w : Wire)
    → (c.gone ≡ false) × (c.over ≡ false) × (c.slot ≡ None) → IsSaying f c.rights failing piece said
    → ((p : Passed) → Passes p c.wire → Passes (record p { said = p.said ++ piece ∷ [] }) w) → c' ≡ record c { wire = w; slot = Some said }
    → Keeps f failing piece said c c'
keeps_line f failing piece said c c' w was is passes same =
    let wire : w ≡ c'.wire = sym (ap (λ (x : ClientState). x.wire) same) in (
      was.0,
      was.1,
      was.2,
      is,
      (λ p before. subst (λ (x : Wire). Passes (record p { said = p.said ++ piece ∷ [] }) x) wire (passes p before)),
      same ∙ (λ i. record c { wire = wire i; slot = Some said }),
    )

-- it said nothing, and may say more or not
pub rests_so : (f : Facts) (failing : Bool) (l : Listened) (c c' : ClientState) → IsRest l → SaysNothing c c' → Listens f failing l c c'
rests_so f failing listened.Kept c c' is silent = absurd is
rests_so f failing listened.More c c' is silent = absurd is
rests_so f failing listened.Requests c c' is silent = absurd is
rests_so f failing listened.Upgrade c c' is silent = absurd is
rests_so f failing listened.Nothing c c' is silent = inr silent
rests_so f failing listened.Ended c c' is silent = silent
rests_so f failing listened.Lost c c' is silent = absurd is

pub rests_line : (f : Facts) (failing : Bool) (l : Listened) (c c' : ClientState) (w : Wire) → c.gone ≡ false → IsRest l
    → ((p : Passed) → Passes p c.wire → Passes (record p { said = p.said ++ [] }) w) → c' ≡ record c { wire = w } → Listens f failing l c c'
rests_line f failing l c c' w up is passes same =
    let wire : w ≡ c'.wire = sym (ap (λ (x : ClientState). x.wire) same) in
    rests_so f failing l c c' is (
      up,
      (λ p before. subst (λ (x : Wire). Passes (record p { said = p.said ++ [] }) x) wire (passes p before)),
      same ∙ (λ i. record c { wire = wire i }),
    )
