-- What calls do to the way to a peer.
use Rattle.std.proofs.Common.{◌≡◌, ◌∙◌, ℕ, ◌==◌, ◌&&◌, ◌||◌, Bool, true, false, refl, sym, ap, subst, inl, inr, arith}
use Rattle.std.specs.Prelude.{IsTrue, if◌then◌else◌}
use Rattle.warp_service.specs.declared.contact.Contact.{Contact}
use Rattle.warp_service.specs.declared.contact.Way.{Way}
use Rattle.warp_service.specs.declared.contact.Way.TheVariants.{Waits, Sought, Begun, Open}
use Rattle.warp_service.specs.Contact.{Loses, MovesOn, Stays, begun, is_begun, is_lasting, is_number, is_open, is_sought, is_waiting, lost}
use Rattle.warp_service.specs.Peers.{Hears, Opens, PeerState, forgotten, given_up, with_end, with_found}
use Rattle.warp_service.proofs.PathLemmas.{loses}
use Rattle.warp_service.proofs.PeerSteps.{stays_joined, stays_same}

-- the loss of what stayed is a loss of what it was
lost_through : (now : ℕ) (c between : Contact) → Stays c between → is_waiting between.way ≡ false → Loses now c (lost now between)
lost_through now c between stays there = let l = loses now between there in record {
  there = ap is_waiting (sym stays.way) ∙ there;
  before = l.before;
  counted = elim l.counted [
    | inl same ↦ inl (same ∙ stays.losses)
    | inr none ↦ inr (none.0, subst (λ (way : Way). IsTrue (is_lasting now way)) stays.way none.1)
  ];
  way = l.way;
  losses = l.losses;
  number = l.number ∙ stays.number;
}

pub heard : (now : ℕ) (p after : PeerState) → Hears now p after → MovesOn now p.contact after.contact
heard now p after (between, on, inl over) =
    inr (inl (subst (λ (x : PeerState). Loses now p.contact x.contact) (sym over.1)
    (lost_through now p.contact between.contact on.stays over.0)))
heard now p after (between, on, inr kept) = inl (stays_joined p.contact between.contact after.contact on.stays kept.1)

there_sought : (way : Way) → is_sought way ≡ true → is_waiting way ≡ false
there_sought (Waits until) e = absurd (grind (e, arith))
there_sought Sought e = refl
there_sought (Begun since) e = refl
there_sought (Open since) e = refl

there_begun : (way : Way) → is_begun way ≡ true → is_waiting way ≡ false
there_begun (Waits until) e = absurd (grind (e, arith))
there_begun Sought e = refl
there_begun (Begun since) e = refl
there_begun (Open since) e = refl

there_number : (same : Bool) (way : Way) → (same && (is_begun way || is_open way)) ≡ true → is_waiting way ≡ false
there_number same (Waits until) e = absurd (grind (e, arith))
there_number same Sought e = refl
there_number same (Begun since) e = refl
there_number same (Open since) e = refl

found_by : (now : ℕ) (sought found : Bool) (p : PeerState) → is_sought p.contact.way ≡ sought →
    MovesOn now p.contact (if sought then (if found then record p { contact = begun now p.contact; connects = true } else forgotten now p) else p).contact
found_by now false found p e = inl (stays_same p.contact)
found_by now true true p e = inr (inr (inr (inl (e, refl))))
found_by now true false p e = inr (inl (loses now p.contact (there_sought p.contact.way e)))

pub found_moves : (now : ℕ) (found : Bool) (p : PeerState) → MovesOn now p.contact (with_found now found p).contact
found_moves now found p = found_by now (is_sought p.contact.way) found p refl

ended_by : (now : ℕ) (number : ℕ) (b : Bool) (p : PeerState) → is_number number p.contact ≡ b → MovesOn now p.contact (if b then given_up now p else p).contact
ended_by now number false p e = inl (stays_same p.contact)
ended_by now number true p e = inr (inl (loses now p.contact (there_number (number == p.contact.number) p.contact.way e)))

pub ended_moves : (now number : ℕ) (p : PeerState) → MovesOn now p.contact (with_end now number p).contact
ended_moves now number p = ended_by now number (is_number number p.contact) p refl

pub opened_moves : (now : ℕ) (p after : PeerState) → IsTrue (is_begun p.contact.way) → Opens now p after → MovesOn now p.contact after.contact
opened_moves now p after there (inl opens) = inr (inr (inr (inr (there, ap (λ (x : PeerState). x.contact) opens.2))))
opened_moves now p after there (inr (between, same, follower, over)) =
    inr (inl (subst (λ (x : PeerState). Loses now p.contact x.contact) (sym over)
    (subst (λ (c : Contact). Loses now p.contact (lost now c)) (sym (ap (λ (x : PeerState). x.contact) same))
    (loses now p.contact (there_begun p.contact.way there)))))
