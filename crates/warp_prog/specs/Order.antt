-- The order that the loader gives the reactions of a program.
use Rattle.std.specs.Prelude.{ℕ, zero, suc, Bool, not, ◌&&◌, ◌==◌, List, [], ◌∷◌, ◌++◌, length, filter, Option}
use Rattle.std.specs.Option.{option_map_or}
use Rattle.std.specs.List.{list_all, list_any, find}
use Rattle.warp_step.specs.Program.{Program}
use Rattle.warp_step.specs.Order.{precedes, is_admissible, file_order}

-- whether a reaction stands in an order
abbrev pub stands_in : List ℕ → ℕ → Bool
stands_in order n = list_any (λ m. m == n) order

-- the reactions that have to stand before this one
abbrev pub predecessors : Program → ℕ → List ℕ
predecessors P n = filter (λ m. precedes P m n) (file_order P)

-- a reaction that does not stand yet, while all its predecessors do
abbrev pub is_ready : Program → List ℕ → ℕ → Bool
is_ready P order n = not (stands_in order n) && list_all (stands_in order) (predecessors P n)

-- the least numbered of these
abbrev pub next_ready : Program → List ℕ → Option ℕ
next_ready P order = find (is_ready P order) (file_order P)

-- an order with so many more behind it, each the least numbered that is ready; with fewer, where none is
abbrev pub continued : Program → ℕ → List ℕ → List ℕ
continued P zero order = order
continued P (suc n) order = option_map_or (λ next. continued P n (order ++ next ∷ [])) (next_ready P order) order

-- the loader's order: again and again the least numbered reaction whose predecessors all stand already
abbrev pub loader_order : Program → List ℕ
loader_order P = continued P (length P.reactions) []

-- no order is admissible: the loader's is not, which is where any is (the law `loader_order` says so)
abbrev pub has_no_order : Program → Bool
has_no_order P = not (is_admissible P (loader_order P))
