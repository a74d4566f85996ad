-- What lines that were not all answered came to.
use Rattle.std.specs.Prelude.{◌≡◌, ◌⊎◌, ℕ, List, [], ◌++◌}
use Rattle.warp_tag.specs.declared.form.Form.{Form}
use Rattle.warp_replica.specs.Desk.{LocalState, LocalGives}
use Rattle.warp_session.specs.Session.{AreWholeLines, Session}

-- some first lines of the bytes, or all of them, were answered and no other, and that left this state
abbrev pub AnswersFront : Form → LocalState → List ℕ → LocalState → Type 0
AnswersFront f s bytes s' =
    (answered : List ℕ) × (rest : List ℕ) × (bytes ≡ answered ++ rest) × (AreWholeLines answered ⊎ (rest ≡ []))
    × ((text : List ℕ) × Session f LocalGives s answered text s')
