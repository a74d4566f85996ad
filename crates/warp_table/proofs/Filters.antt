-- Lists behind a filter: what it keeps, and that two lists in strict order are one there if they have the same members that pass.
use Rattle.std.proofs.Common.{◌≡◌, ◌↔◌, Bool, true, List, AllPairs, Contains, filter, IsTrue}
use Rattle.std.proofs.lemmas.List.Kept.{AllPairs-filter}
use Rattle.warp_table.proofs.Members.{kept_passes, passes_kept}
use Rattle.warp_table.proofs.Orders.{one_order}

-- two lists in an order in which no two elements come before one another
module _ {X : Type 0} (before : X → X → Bool) (apart : (x y : X) → before x y ≡ true → before y x ≡ true → ⊥) (p : X → Bool) where
  moved : (xs ys : List X) (y : X) → (IsTrue (p y) → Contains xs y → Contains ys y) → Contains (filter p xs) y → Contains (filter p ys) y
  moved xs ys y each has = let h = kept_passes p xs y has in passes_kept p ys y (each h.1 h.0) h.1

  pub one_filtered : (xs ys : List X) → AllPairs (λ x y. IsTrue (before x y)) xs → AllPairs (λ x y. IsTrue (before x y)) ys → ((x : X) → IsTrue (p x) → Contains xs x ↔ Contains ys x) → filter p xs ≡ filter p ys
  one_filtered xs ys ox oy same =
      one_order before apart (filter p xs) (filter p ys) (AllPairs-filter (λ x y. IsTrue (before x y)) p xs ox) (AllPairs-filter (λ x y. IsTrue (before x y)) p ys oy) (λ x. (moved xs ys x (λ pass. (same x pass).0), moved ys xs x (λ pass. (same x pass).1)))
