-- `==` of pending entries decides whether they are equal.
use Rattle.std.proofs.Common.{◌≡◌, ℕ, ◌&&◌, nat_eq, refl, ap}
use Rattle.std.specs.Bool.{Decides}
use Rattle.std.specs.Ordering.{int_eq}
use Rattle.std.proofs.lemmas.Bool.Decides.{Decides-eqb, Decides-int_eq, Decides-and, Decides-like}
use Rattle.warp_tag.specs.Moment.{Moment}
use Rattle.warp_body.specs.declared.place.Target.{Target}
use Rattle.warp_body.specs.declared.place.Target.TheVariants as to
use Rattle.warp_body.specs.contracts.place.TargetPartialEq.TheImpl.{eq-value}
use Rattle.warp_step.specs.declared.pending.Waiting.{Waiting}

same_moment : (a b : Moment) → Decides (nat_eq a.time b.time && nat_eq a.microstep b.microstep) (a ≡ b)
same_moment a b =
    Decides-like _ (λ p i. record { time = p.0 i; microstep = p.1 i })
    (λ e. (ap (λ (t : Moment). t.time) e, ap (λ (t : Moment). t.microstep) e))
    (Decides-and _ _ (Decides-eqb a.time b.time) (Decides-eqb a.microstep b.microstep))

pub same_target : (a b : Target) → Decides (eq-value.it a b) (a ≡ b)
same_target to.Startup to.Startup = (λ e. refl, λ e. refl)
same_target to.Startup (to.Timer n) = (λ e. cc, λ e. cc)
same_target to.Startup (to.Action n) = (λ e. cc, λ e. cc)
same_target to.Startup (to.Port n) = (λ e. cc, λ e. cc)
same_target (to.Timer m) to.Startup = (λ e. cc, λ e. cc)
same_target (to.Timer m) (to.Timer n) = Decides-like _ (λ e. ap (λ (k : ℕ). to.Timer k) e) (λ e. cc) (Decides-eqb m n)
same_target (to.Timer m) (to.Action n) = (λ e. cc, λ e. cc)
same_target (to.Timer m) (to.Port n) = (λ e. cc, λ e. cc)
same_target (to.Action m) to.Startup = (λ e. cc, λ e. cc)
same_target (to.Action m) (to.Timer n) = (λ e. cc, λ e. cc)
same_target (to.Action m) (to.Action n) = Decides-like _ (λ e. ap (λ (k : ℕ). to.Action k) e) (λ e. cc) (Decides-eqb m n)
same_target (to.Action m) (to.Port n) = (λ e. cc, λ e. cc)
same_target (to.Port m) to.Startup = (λ e. cc, λ e. cc)
same_target (to.Port m) (to.Timer n) = (λ e. cc, λ e. cc)
same_target (to.Port m) (to.Action n) = (λ e. cc, λ e. cc)
same_target (to.Port m) (to.Port n) = Decides-like _ (λ e. ap (λ (k : ℕ). to.Port k) e) (λ e. cc) (Decides-eqb m n)

pub same_entry : (a b : Waiting)
    → Decides ((nat_eq a.tag.time b.tag.time && nat_eq a.tag.microstep b.tag.microstep) && (eq-value.it a.target b.target && int_eq a.value b.value)) (a ≡ b)
same_entry a b =
    Decides-like _ (λ p i. record { tag = p.0 i; target = p.1.0 i; value = p.1.1 i })
    (λ e. (ap (λ (w : Waiting). w.tag) e, (ap (λ (w : Waiting). w.target) e, ap (λ (w : Waiting). w.value) e)))
    (Decides-and _ _ (same_moment a.tag b.tag) (Decides-and _ _ (same_target a.target b.target) (Decides-int_eq a.value b.value)))
