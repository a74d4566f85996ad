-- A room that things are taken from, one kind after the other.
use Rattle.std.proofs.Common.{◌≡◌, ℕ, ◌+◌, ◌-◌, ◌≤◌, Option, Some, None, SomeIff, arith}

-- what two kinds leave
pub after_two : (r : Option ℕ) (room left a b : ℕ) → (a ≤ room) × (left ≡ room - a) → SomeIff r (b ≤ left) (left - b) → SomeIff r (a + b ≤ room) (room - (a + b))
after_two None room left a b h k = λ e. k (omega arith)
after_two (Some x) room left a b h k = (omega arith, omega arith)

-- what the kinds of a reactor leave of a room for one: `startup`, variables, arrays, then inputs and outputs, then actions and timers
pub room_for_one : (r : Option ℕ) (n s v y i o a t room left behind rest : ℕ) →
    n ≡ s + (v + (y + (i + (o + (a + t))))) → s + room ≡ 1 → (v ≤ room) × (left ≡ room - v) → (y ≤ left) × (behind ≡ left - y) →
    (i + o ≤ behind) × (rest ≡ behind - (i + o)) →
    SomeIff r (a + t ≤ rest) (rest - (a + t)) → SomeIff r (n ≤ 1) (1 - n)
room_for_one None n s v y i o a t room left behind rest e f g m h k = λ fits. k (omega arith)
room_for_one (Some x) n s v y i o a t room left behind rest e f g m h k = (omega arith, omega arith)
