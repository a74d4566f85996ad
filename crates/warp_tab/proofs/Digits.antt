-- The digits of a text that was borrowed, and what is refused where they could not be kept.
use Rattle.std.proofs.Common.{◌≡◌, ℕ, List, ap, ◌∙◌, subst, sym, Result, Ok, Err, IfOk, IfErr}
use Rattle.warp_step.specs.Program.{Program}
use Rattle.warp_prog.specs.Canonical.{IsCanonical, fingerprint_of}
use Rattle.warp_prog.specs.Load.{IsLoaded, IsRefused}
use Rattle.warp_prog.specs.declared.error.LoadError.{LoadError}
use Rattle.warp_prog.specs.declared.error.LoadError.TheVariants.{Memory}

-- the fingerprint of what was borrowed is that of the canonical text
pub digits_so : {T : Type 0} (bytes_of : T → List ℕ) (text canonical shown : List ℕ) (r : Result T LoadError)
    → IsCanonical text canonical → shown ≡ canonical → IfOk r (λ digits. bytes_of digits ≡ fingerprint_of shown)
    → IfOk r (λ digits. (x : List ℕ) × IsCanonical text x × (bytes_of digits ≡ fingerprint_of x))
digits_so bytes_of text canonical shown (Ok digits) is same h = (canonical, is, h ∙ ap fingerprint_of same)
digits_so bytes_of text canonical shown (Err error) is same h = tt

-- of bytes that spell a program memory may be wanting
pub refused_so : {T : Type 0} (text : List ℕ) (P : Program) (r : Result T LoadError) → IsLoaded text P
    → IfErr r (λ error. error ≡ Memory) → IfErr r (IsRefused text)
refused_so text P (Ok v) loaded h = tt
refused_so text P (Err error) loaded h = subst (λ (x : LoadError). IsRefused text x) (sym h) loaded.0
