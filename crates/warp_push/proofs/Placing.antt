-- Places that are made, and one that changes.
use Rattle.std.proofs.Common.{◌≡◌, ℕ, zero, suc, List, [], ◌∷◌, ◌++◌, map, refl, ap, ◌∙◌, append_assoc}
use Rattle.std.specs.Prelude.{replicate, slice_index_or, slice_set}
use Rattle.warp_push.specs.Seats.{Grows, Seat, empty_seat, settled}

replicate_more : (n : ℕ) → replicate n empty_seat ++ empty_seat ∷ [] ≡ empty_seat ∷ replicate n empty_seat
replicate_more zero = refl
replicate_more (suc n) = ap (λ (l : List Seat). empty_seat ∷ l) (replicate_more n)

-- one more was made
pub grows_more : (old new : List Seat) → Grows old new → Grows old (new ++ empty_seat ∷ [])
grows_more old new g = (
  suc g.0,
  ap (λ (l : List Seat). l ++ empty_seat ∷ []) g.1 ∙ append_assoc old (replicate g.0 empty_seat) (empty_seat ∷ [])
      ∙ ap (λ (l : List Seat). old ++ l) (replicate_more g.0),
)

-- what a place has beside what is asked stays
pub only_asked : (seats : List Seat) (k : ℕ) (s s' : Seat) → s ≡ slice_index_or seats k s → settled s' ≡ settled s
    → map settled (slice_set seats k s') ≡ map settled seats
only_asked [] k s s' is same = refl
only_asked (x ∷ seats) zero s s' is same = ap (λ (y : Seat). y ∷ map settled seats) (same ∙ ap settled is)
only_asked (x ∷ seats) (suc k) s s' is same = ap (λ (l : List Seat). settled x ∷ l) (only_asked seats k s s' is same)
