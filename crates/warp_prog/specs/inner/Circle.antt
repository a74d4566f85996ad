-- What a circle of reactions that wait for each other is: for the proof of the search for one alone.
use Rattle.std.specs.Prelude.{ℕ, Bool, true, ◌&&◌, List, [], ◌∷◌, get_or}
use Rattle.warp_step.specs.Program.{Program}
use Rattle.warp_step.specs.Order.{precedes}

-- each of these waits for the next, and the last for this one
abbrev pub wait_in_turn : (ℕ → ℕ → Bool) → List ℕ → ℕ → Bool
wait_in_turn waits [] last = true
wait_in_turn waits (n ∷ ns) last = waits n (get_or ns 0 last) && wait_in_turn waits ns last

-- each of these waits for the next, and the last for the first
abbrev pub turns_back : (ℕ → ℕ → Bool) → List ℕ → Bool
turns_back waits ns = wait_in_turn waits ns (get_or ns 0 0)

-- each of these reactions waits for the next, and the last for the first: that one has to stand before it
abbrev pub is_circle : Program → List ℕ → Bool
is_circle P ns = turns_back (λ n m. precedes P m n) ns
