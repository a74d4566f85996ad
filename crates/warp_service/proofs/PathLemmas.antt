-- A way that waits is not tried before its moment.
use Rattle.std.proofs.Common.{◌≡◌, ◌∙◌, ◌⊎◌, ℕ, ◌≤◌, Bool, true, false, List, [], ◌∷◌, ap, subst, inl, inr, refl, arith}
use Rattle.std.specs.Prelude.{IsTrue, ◌&&◌, if◌then◌else◌}
use Rattle.warp_service.specs.declared.contact.Contact.{Contact}
use Rattle.warp_service.specs.declared.contact.Way.{Way}
use Rattle.warp_service.specs.declared.contact.Way.TheVariants.{Waits}
use Rattle.warp_service.specs.Contact.{is_begun, is_lasting, is_sought, is_tried, is_waiting, losses_before, lost}
use Rattle.warp_service.specs.Contact.{IsReached, Loses, MovesOn, MovesThrough}

-- what waits is not lost, sought or begun
none : (way : Way) (until : ℕ) (test : Way → Bool) → way ≡ Waits until → test way ≡ true → test (Waits until) ≡ false → ⊥
none way until test is holds fails = grind (ap test is ∙ fails, holds, arith)

reached : (now until : ℕ) (way : Way) → way ≡ Waits until → IsTrue (is_tried now way) → until ≤ now
reached now until way is tried =
    let here : IsTrue (is_tried now (Waits until)) = subst (λ w. IsTrue (is_tried now w)) is tried in grind (here, arith)

moved : (now until : ℕ) (c between : Contact) → MovesOn now c between → c.way ≡ Waits until → (between.way ≡ Waits until) ⊎ (until ≤ now)
moved now until c between (inl stays) is = inl (stays.way ∙ is)
moved now until c between (inr (inl loses)) is = absurd (grind (ap is_waiting is, loses.there, arith))
moved now until c between (inr (inr (inl tries))) is = inr (reached now until c.way is tries.0)
moved now until c between (inr (inr (inr (inl seeks)))) is =
    absurd (none c.way until is_sought is (grind (seeks.0, arith)) refl)
moved now until c between (inr (inr (inr (inr opens)))) is =
    absurd (none c.way until is_begun is (grind (opens.0, arith)) refl)

pub waits_on : (events : List ℕ) (c after : Contact) (until : ℕ) → MovesThrough events c after → c.way ≡ Waits until →
    (after.way ≡ Waits until) ⊎ IsReached until events
waits_on [] c after until same is = inl (ap (λ (x : Contact). x.way) same ∙ is)
waits_on (now ∷ events) c after until through is = elim (moved now until c through.0 through.1 is) [
  | inr come ↦ inr (inl come)
  | inl same ↦ elim (waits_on events through.0 after until through.2 same) [ inl e ↦ inl e | inr later ↦ inr (inr later) ]
]

counted : (brought lasting : Bool) (losses : ℕ) → ((if brought && lasting then 0 else losses) ≡ losses)
    ⊎ (((if brought && lasting then 0 else losses) ≡ 0) × IsTrue lasting)
counted false lasting losses = inl refl
counted true false losses = inl refl
counted true true losses = grind arith

pub loses : (now : ℕ) (c : Contact) → is_waiting c.way ≡ false → Loses now c (lost now c)
loses now c there = record {
  there = there;
  before = losses_before now c;
  counted = counted c.has_brought (is_lasting now c.way) c.losses;
  way = refl;
  losses = refl;
  number = refl;
}
