-- Clients in their places.
use Rattle.std.proofs.Common.{◌≡◌, ◌≢◌, ◌⊎◌, ℕ, zero, suc, ◌==◌, Bool, true, false, List, [], ◌∷◌, ◌++◌, length, Option, Some, None, refl, sym, ap, ◌∙◌, subst, inl, inr, arith}
use Rattle.std.specs.Prelude.{slice_get, slice_set}
use Rattle.std.proofs.lemmas.Bool.{cases_eq}
use Rattle.warp_watch.specs.declared.client_id.ClientId.{ClientId}
use Rattle.warp_room.proofs.Clients.{same_client}
use Rattle.warp_clients.specs.Client.{ClientState, IsMe}
use Rattle.warp_clients.specs.Crowd.{Becomes, IsAway}

pub none_some : {X : Type 0} (x : X) → Option.None ≡ Some x → ⊥
none_some {X} x e = subst (λ (o : Option X). elim o as (λ _. Type 0) [ None ↦ Unit {0} | Some v ↦ ⊥ ]) e tt

pub some_same : {X : Type 0} (x y : X) → Some x ≡ Some y → x ≡ y
some_same {X} x y e = ap (λ (o : Option X). elim o [ Some v ↦ v | None ↦ x ]) e

pub get_same : (cs : List ClientState) (n : ℕ) (c d : ClientState) → slice_get cs n ≡ Some c → slice_get (slice_set cs n d) n ≡ Some d
get_same [] n c d e = absurd (none_some c e)
get_same (x ∷ cs) zero c d e = refl
get_same (x ∷ cs) (suc n) c d e = get_same cs n c d e

pub get_other : (cs : List ClientState) (n m : ℕ) (d : ClientState) → (n ≡ m → ⊥) → slice_get (slice_set cs n d) m ≡ slice_get cs m
get_other [] n m d e = refl
get_other (x ∷ cs) zero zero d e = absurd (e refl)
get_other (x ∷ cs) zero (suc m) d e = refl
get_other (x ∷ cs) (suc n) zero d e = refl
get_other (x ∷ cs) (suc n) (suc m) d e = get_other cs n m d (λ same. e (ap (λ (k : ℕ). suc k) same))

pub get_last : (cs : List ClientState) (d : ClientState) → slice_get (cs ++ d ∷ []) (length cs) ≡ Some d
get_last [] d = refl
get_last (x ∷ cs) d = get_last cs d

-- what is there in a list with one more was there, or is that one
pub get_more : (cs : List ClientState) (n : ℕ) (c d : ClientState) → slice_get (cs ++ d ∷ []) n ≡ Some c
    → (slice_get cs n ≡ Some c) ⊎ ((n ≡ length cs) × (d ≡ c))
get_more [] zero c d e = inr (refl, some_same d c e)
get_more [] (suc n) c d e = absurd (none_some c e)
get_more (x ∷ cs) zero c d e = inl e
get_more (x ∷ cs) (suc n) c d e = elim (get_more cs n c d e) [
  | inl there ↦ inl there
  | inr last ↦ inr (ap (λ (k : ℕ). suc k) last.0, last.1)
]

-- what was there is there in a list with one more
pub get_still : (cs : List ClientState) (n : ℕ) (c d : ClientState) → slice_get cs n ≡ Some c → slice_get (cs ++ d ∷ []) n ≡ Some c
get_still [] n c d e = absurd (none_some c e)
get_still (x ∷ cs) zero c d e = e
get_still (x ∷ cs) (suc n) c d e = get_still cs n c d e

-- nothing is behind the end
pub get_behind : (cs : List ClientState) (c : ClientState) → slice_get cs (length cs) ≡ Some c → ⊥
get_behind [] c e = none_some c e
get_behind (x ∷ cs) c e = get_behind cs c e

-- who is in a list of which one was put in a place: that one, or another who was there before
pub one_changed : (who v : ClientId) (c' d : ClientState) (cs : List ClientState) (c : ClientState) → slice_get cs who.key ≡ Some c → IsMe who c'
    → slice_get (slice_set cs who.key c') v.key ≡ Some d → IsMe v d
    → ((v ≡ who) × (d ≡ c')) ⊎ ((who.key ≡ v.key → ⊥) × (slice_get cs v.key ≡ Some d))
one_changed who v c' d cs c there mine is me = elim (cases_eq who.key v.key) [
  | inl key ↦ (let same : c' ≡ d =
      some_same c' d (sym (get_same cs who.key c c' there) ∙ ap (λ (n : ℕ). slice_get (slice_set cs who.key c') n) key ∙ is) in
      inl (same_client v who (sym key) (sym me.1 ∙ ap (λ (x : ClientState). x.round) (sym same) ∙ mine.1), sym same))
  | inr key ↦ inr (key, sym (get_other cs who.key v.key c' key) ∙ is)
]

-- who has another key is not the client
pub differs_key : (who v : ClientId) → (who.key ≡ v.key → ⊥) → v ≢ who
differs_key who v key same = key (ap (λ (w : ClientId). w.key) (sym same))

-- who is not there now was not there before, and is another
pub away_changed : (who v : ClientId) (c c' : ClientState) (cs : List ClientState) → slice_get cs who.key ≡ Some c → IsMe who c → IsMe who c'
    → IsAway v (slice_set cs who.key c') → (v ≢ who) × IsAway v cs
away_changed who v c c' cs there was mine away =
    let other : v ≢ who = λ same.
    away c' (ap (λ (n : ℕ). slice_get (slice_set cs who.key c') n) (ap (λ (w : ClientId). w.key) same) ∙ get_same cs who.key c c' there)
    (subst (λ (w : ClientId). IsMe w c') (sym same) mine) in (
      other,
      λ d is me. elim (cases_eq who.key v.key) [
        | inl key ↦ (let same : c ≡ d = some_same c d (sym there ∙ ap (λ (n : ℕ). slice_get cs n) key ∙ is) in
            other (same_client v who (sym key) (sym me.1 ∙ ap (λ (x : ClientState). x.round) (sym same) ∙ was.1)))
        | inr key ↦ away d (get_other cs who.key v.key c' key ∙ is) me
      ],
    )
