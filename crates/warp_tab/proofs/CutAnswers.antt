-- What a session over bytes in memory answered whose replies could not be kept.
use Rattle.std.proofs.Common.{◌≡◌, ◌⊎◌, ℕ, List, [], ◌++◌, append_assoc, ap, ◌∙◌, inl, inr, Option, Some}
use Rattle.warp_tag.specs.declared.form.Form.{Form}
use Rattle.warp_replica.specs.Desk.{LocalState, LocalGives}
use Rattle.warp_session.specs.Session.{AreWholeLines, TranscribesFront}
use Rattle.warp_tab.specs.Tab.{AnswersFront}

-- what was answered are whole lines, or nothing is left behind it
ends_so : (answered rest left : List ℕ) → AreWholeLines answered ⊎ ((rest ≡ []) × (left ≡ []))
    → AreWholeLines answered ⊎ (rest ++ left ≡ [])
ends_so answered rest left (inl whole) = inl whole
ends_so answered rest left (inr none) = inr (ap (λ (l : List ℕ). l ++ left) none.0 ∙ none.1)

-- what was read and not answered, and what was not read, is the rest
pub cut_of : (f : Form) (s s' : LocalState) (bytes left : List ℕ) (written written' : Option (List ℕ))
    → TranscribesFront f LocalGives s (Some bytes) (Some left) written written' s' → AnswersFront f s bytes s'
cut_of f s s' bytes left written written' t =
    (t.0, t.1 ++ left, t.2 ∙ append_assoc t.0 t.1 left, ends_so t.0 t.1 left t.3, (t.4.0, t.4.1))
