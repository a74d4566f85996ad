-- Lines behind others.
use Rattle.std.proofs.Common.{◌≡◌, ◌∙◌, ◌+◌, ◌-◌, ◌<◌, ◌==◌, ℕ, zero, suc, Bool, true, List, [], ◌∷◌, ap, arith, length, refl, sym}
use Rattle.std.proofs.lemmas.Bool.{eqb-true}
use Rattle.std.specs.List.{after_first}
use Rattle.warp_push.specs.Texts.{behind_lines, is_feed}

-- behind no text there is none
pub none_left : (count : ℕ) → behind_lines count [] ≡ []
none_left zero = refl
none_left (suc count) = none_left count

-- where no text is left, none is behind any of its lines
pub none_behind : (count at : ℕ) (rest text : List ℕ) (b : Bool) → behind_lines (count - at) rest ≡ behind_lines count text
    → b ≡ (length rest == 0) → b ≡ true → rest ≡ behind_lines count text
none_behind count at [] text b so_far is holds = sym (none_left (count - at)) ∙ so_far
none_behind count at (x ∷ rest) text b so_far is holds =
    let zero_long : length (x ∷ rest) ≡ 0 = eqb-true (length (x ∷ rest)) 0 (sym is ∙ holds) in
    absurd (omega (arith, zero_long))

-- a line is behind
one_behind : (count at : ℕ) (rest : List ℕ) → at < count
    → behind_lines (count - (at + 1)) (after_first is_feed rest) ≡ behind_lines (count - at) rest
one_behind count at rest less =
    let is : suc (count - (at + 1)) ≡ count - at = omega (arith, less) in
    ap (λ (n : ℕ). behind_lines n rest) is

-- what is behind so many, with one line more
pub goes_on : (count at : ℕ) (rest next text : List ℕ) → at < count → next ≡ after_first is_feed rest
    → behind_lines (count - at) rest ≡ behind_lines count text → behind_lines (count - (at + 1)) next ≡ behind_lines count text
goes_on count at rest next text less is so_far =
    ap (λ (t : List ℕ). behind_lines (count - (at + 1)) t) is ∙ one_behind count at rest less ∙ so_far
