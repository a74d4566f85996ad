-- `==` of targets decides whether they are equal
use Rattle.std.proofs.Common.{◌≡◌, ℕ, ap, refl}
use Rattle.std.specs.Bool.{Decides}
use Rattle.std.proofs.lemmas.Bool.Decides.{Decides-eqb, Decides-like}
use Rattle.std.proofs.lemmas.Slice.Eq.{slice_eq-Decides}
use Rattle.warp_body.specs.declared.place.Target.{Target}
use Rattle.warp_body.specs.declared.place.Target.TheVariants as to
use Rattle.warp_body.specs.contracts.place.TargetPartialEq.TheImpl.{eq-value}
use Rattle.warp_step.proofs.reaction.same_targets.Goals as goal

decides : (a b : Target) → Decides (eq-value.it a b) (a ≡ b)
decides to.Startup to.Startup = (λ e. refl, λ e. refl)
decides to.Startup (to.Timer n) = (λ e. cc, λ e. cc)
decides to.Startup (to.Action n) = (λ e. cc, λ e. cc)
decides to.Startup (to.Port n) = (λ e. cc, λ e. cc)
decides (to.Timer m) to.Startup = (λ e. cc, λ e. cc)
decides (to.Timer m) (to.Timer n) = Decides-like _ (λ e. ap (λ (k : ℕ). to.Timer k) e) (λ e. cc) (Decides-eqb m n)
decides (to.Timer m) (to.Action n) = (λ e. cc, λ e. cc)
decides (to.Timer m) (to.Port n) = (λ e. cc, λ e. cc)
decides (to.Action m) to.Startup = (λ e. cc, λ e. cc)
decides (to.Action m) (to.Timer n) = (λ e. cc, λ e. cc)
decides (to.Action m) (to.Action n) = Decides-like _ (λ e. ap (λ (k : ℕ). to.Action k) e) (λ e. cc) (Decides-eqb m n)
decides (to.Action m) (to.Port n) = (λ e. cc, λ e. cc)
decides (to.Port m) to.Startup = (λ e. cc, λ e. cc)
decides (to.Port m) (to.Timer n) = (λ e. cc, λ e. cc)
decides (to.Port m) (to.Action n) = (λ e. cc, λ e. cc)
decides (to.Port m) (to.Port n) = Decides-like _ (λ e. ap (λ (k : ℕ). to.Port k) e) (λ e. cc) (Decides-eqb m n)

pub returns : goal.returns
returns c = slice_eq-Decides decides _ _ _ c.eq.ensures
