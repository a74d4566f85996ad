-- `==` of two lists of flags decides whether they are equal
use Rattle.std.proofs.Common.{◌≡◌, Bool, List, ap}
use Rattle.std.specs.Cmp.{booleans_Decides}
use Rattle.std.proofs.lemmas.Bool.Decides.{Decides-like}
use Rattle.std.proofs.lemmas.Slice.Eq.{slice_eq-Decides}
use Rattle.warp_hub.specs.declared.rights.Rights.TheVariants as rights
use Rattle.warp_hub.proofs.rights.Rights.is_same.Goals as goal

pub returns-in-Origins-Origins : goal.returns-in-Origins-Origins
returns-in-Origins-Origins c =
    rw (c.in-Origins-Origins.is-0, c.in-Origins-Origins.is-1)
    (Decides-like _
    (λ (e : c.in-Origins-Origins.mine ≡ c.in-Origins-Origins.others). ap (λ (flags : List Bool). rights.Origins flags) e) (λ e. cc)
    (slice_eq-Decides booleans_Decides _ _ _ c.eq.ensures))
