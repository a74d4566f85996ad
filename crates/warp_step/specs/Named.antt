-- Numbers and names in the parts of a program.
use Rattle.std.specs.Prelude.{ℕ, Bool, true, false, not, ◌&&◌, ◌==◌, nat_le, List, [], ◌∷◌, slice_get}
use Rattle.std.specs.Option.{option_map_or}
use Rattle.std.specs.List.{list_all, list_any}
use Rattle.warp_body.specs.Presence.{is_target}
use Rattle.warp_body.specs.declared.place.Target.{Target}
use Rattle.warp_step.specs.Program.{Program}

-- no number twice
abbrev pub is_distinct : List ℕ → Bool
is_distinct [] = true
is_distinct (n ∷ ns) = not (list_any (λ m. m == n) ns) && is_distinct ns

-- each number at most the next
abbrev pub is_rising : List ℕ → Bool
is_rising [] = true
is_rising (n ∷ ns) = list_all (λ m. nat_le n m) ns && is_rising ns

-- the element with this number is there, and passes the test
abbrev pub has : {X : Type 0} → List X → ℕ → (X → Bool) → Bool
has {X} xs n test = option_map_or test (slice_get xs n) false

-- the list names the target
abbrev pub names : List Target → Target → Bool
names targets target = list_any (is_target target) targets

-- the number of a port's reactor
abbrev pub reactor_of : Program → ℕ → ℕ
reactor_of P port = option_map_or (λ p. p.reactor) (slice_get P.ports port) 0
