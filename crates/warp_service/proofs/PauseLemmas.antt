-- The pause behind a loss: from the seventh on it is five seconds.
use Rattle.std.proofs.Common.{◌≡◌, ◌∙◌, ℕ, ◌*◌, ◌^◌, ◌%◌, ◌<◌, ◌≤◌, ◌⊎◌, ap, sym, subst, inl, inr, arith}
use Rattle.std.specs.Prelude.{min}
use Rattle.std.proofs.lemmas.Nat.{pow_below}
use Rattle.warp_service.specs.Contact.{most_losses, pause_behind}

doubled : (k : ℕ) → 6 ≤ k → 64 ≤ 2 ^ k
doubled k h = let more : 2 ^ 5 < 2 ^ k = pow_below 5 k (omega (arith, h)) in let most : (k ≡ 6) ⊎ (6 < k) = grind (h, arith) in elim most [
  | inl six ↦ subst (λ n. 64 ≤ 2 ^ n) (sym six) (omega arith)
  | inr far ↦ omega (arith, pow_below 6 k far)
]

pub longest : (losses : ℕ) → 6 ≤ losses → pause_behind losses ≡ 5000000
longest losses h = omega (arith, doubled losses h)

halved : (k : ℕ) → k < 6 → 2 ^ k ≤ 32
halved k h = let most : (k ≡ 5) ⊎ (k < 5) = grind (h, arith) in elim most [
  | inl five ↦ subst (λ n. 2 ^ n ≤ 32) (sym five) (omega arith)
  | inr near ↦ omega (arith, pow_below k 5 near)
]

pub shifted : (losses : ℕ) → losses < 6 → 100000 * 2 ^ losses % 18446744073709551616 ≡ pause_behind losses
shifted losses h = omega (arith, halved losses h)

few : (losses most : ℕ) → losses ≤ most → min most losses ≡ losses
few losses most h = omega (arith, h)

many : (losses most : ℕ) → most ≤ losses → min most losses ≡ most
many losses most h = omega (arith, h)

pub counted : (losses : ℕ) → pause_behind (min most_losses losses) ≡ pause_behind losses
counted losses = let which : (losses ≤ 6) ⊎ (6 < losses) = grind arith in elim which [
  | inl h ↦ ap pause_behind (few losses 6 h)
  | inr h ↦ ap pause_behind (many losses 6 (omega (arith, h))) ∙ sym (longest losses (omega (arith, h)))
]
