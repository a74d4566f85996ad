-- Telling clients apart.
use Rattle.std.proofs.Common.{◌≡◌, ◌≢◌, ◌⊎◌, ◌==◌, true, false, sym, ap, ◌∙◌, inl, inr, arith, true≢false}
use Rattle.std.proofs.lemmas.Bool.{cases_Bool}
use Rattle.std.proofs.lemmas.Bool.Decides.{nat_tests}
use Rattle.warp_watch.specs.declared.client_id.ClientId.{ClientId}
use Rattle.warp_room.specs.Room.{is_client}

-- clients of one key and one round are the same
pub same_client : (one other : ClientId) → one.key ≡ other.key → one.round ≡ other.round → one ≡ other
same_client one other key round = λ i. record { key = key i; round = round i }

pub client_itself : (who : ClientId) → is_client who who ≡ true
client_itself who = grind (nat_tests, arith)

pub client_keys : (one other : ClientId) → is_client one other ≡ true → (one.key ≡ other.key) × (one.round ≡ other.round)
client_keys one other h = (grind (h, nat_tests, arith), grind (h, nat_tests, arith))

pub client_is : (one other : ClientId) → is_client one other ≡ true → one ≡ other
client_is one other h = (let k = client_keys one other h in same_client one other k.0 k.1)

pub client_differs : (one other : ClientId) → is_client one other ≡ false → one ≢ other
client_differs one other h same = true≢false (sym (client_itself one) ∙ ap (is_client one) same ∙ h)

pub differs_client : (one other : ClientId) → one ≢ other → is_client one other ≡ false
differs_client one other other_one = elim (cases_Bool (is_client one other)) [
  | inl h ↦ absurd (other_one (client_is one other h))
  | inr h ↦ h
]

-- the same round and another key, or another round
pub client_parts : (one other : ClientId) → one ≢ other → (one.key ≢ other.key) ⊎ (one.round ≢ other.round)
client_parts one other differ = elim (cases_Bool (one.key == other.key)) [
  | inl h ↦ inr (λ round. differ (same_client one other (grind (h, nat_tests, arith)) round))
  | inr h ↦ inl (grind (h, nat_tests, arith))
]
