-- The derived `==` of a program's parts decides whether they are equal.
use Rattle.std.proofs.Common.{◌≡◌, ℕ, ◌&&◌, nat_eq, Option, Some, None, refl, ap}
use Rattle.std.specs.Bool.{Decides}
use Rattle.std.specs.Option.{option_eq}
use Rattle.std.specs.Ordering.{int_eq}
use Rattle.std.proofs.Math.Bool.{beq}
use Rattle.std.specs.Cmp.{booleans_Decides}
use Rattle.std.proofs.lemmas.Bool.Decides.{Decides-eqb, Decides-int_eq, Decides-and, Decides-like}
use Rattle.warp_step.specs.declared.parts.Variable.{Variable}
use Rattle.warp_step.specs.declared.parts.Port.{Port}
use Rattle.warp_step.specs.declared.parts.Action.{Action}
use Rattle.warp_step.specs.declared.parts.Timer.{Timer}
use Rattle.warp_step.specs.declared.parts.Link.{Link}
use Rattle.warp_step.specs.declared.parts.ProgramInput.{ProgramInput}

-- numbers that may be missing
pub same_delays : (a b : Option ℕ) → Decides (option_eq nat_eq a b) (a ≡ b)
same_delays None None = (λ e. refl, λ e. refl)
same_delays None (Some n) = (λ e. cc, λ e. cc)
same_delays (Some m) None = (λ e. cc, λ e. cc)
same_delays (Some m) (Some n) = Decides-like (nat_eq m n) (λ e. ap (λ (k : ℕ). Some k) e) (λ e. cc) (Decides-eqb m n)

pub same_variable : (a b : Variable) → Decides (nat_eq a.reactor b.reactor && (beq a.is_told b.is_told && int_eq a.start b.start)) (a ≡ b)
same_variable a b =
    Decides-like _ (λ p i. record { reactor = p.0 i; is_told = p.1.0 i; start = p.1.1 i })
    (λ e. (ap (λ (v : Variable). v.reactor) e, (ap (λ (v : Variable). v.is_told) e, ap (λ (v : Variable). v.start) e)))
    (Decides-and _ _ (Decides-eqb a.reactor b.reactor) (Decides-and _ _ (booleans_Decides a.is_told b.is_told) (Decides-int_eq a.start b.start)))

pub same_port : (a b : Port) → Decides (nat_eq a.reactor b.reactor && beq a.is_input b.is_input) (a ≡ b)
same_port a b =
    Decides-like _ (λ p i. record { reactor = p.0 i; is_input = p.1 i })
    (λ e. (ap (λ (v : Port). v.reactor) e, ap (λ (v : Port). v.is_input) e))
    (Decides-and _ _ (Decides-eqb a.reactor b.reactor) (booleans_Decides a.is_input b.is_input))

pub same_action : (a b : Action) → Decides (nat_eq a.reactor b.reactor && nat_eq a.delay b.delay) (a ≡ b)
same_action a b =
    Decides-like _ (λ p i. record { reactor = p.0 i; delay = p.1 i })
    (λ e. (ap (λ (v : Action). v.reactor) e, ap (λ (v : Action). v.delay) e))
    (Decides-and _ _ (Decides-eqb a.reactor b.reactor) (Decides-eqb a.delay b.delay))

pub same_timer : (a b : Timer) → Decides (nat_eq a.reactor b.reactor && (nat_eq a.offset b.offset && nat_eq a.period b.period)) (a ≡ b)
same_timer a b =
    Decides-like _ (λ p i. record { reactor = p.0 i; offset = p.1.0 i; period = p.1.1 i })
    (λ e. (ap (λ (v : Timer). v.reactor) e, (ap (λ (v : Timer). v.offset) e, ap (λ (v : Timer). v.period) e)))
    (Decides-and _ _ (Decides-eqb a.reactor b.reactor) (Decides-and _ _ (Decides-eqb a.offset b.offset) (Decides-eqb a.period b.period)))

pub same_link : (a b : Link) → Decides (nat_eq a.source b.source && (nat_eq a.target b.target && option_eq nat_eq a.delay b.delay)) (a ≡ b)
same_link a b =
    Decides-like _ (λ p i. record { source = p.0 i; target = p.1.0 i; delay = p.1.1 i })
    (λ e. (ap (λ (v : Link). v.source) e, (ap (λ (v : Link). v.target) e, ap (λ (v : Link). v.delay) e)))
    (Decides-and _ _ (Decides-eqb a.source b.source) (Decides-and _ _ (Decides-eqb a.target b.target) (same_delays a.delay b.delay)))

pub same_input : (a b : ProgramInput) → Decides (nat_eq a.origin b.origin && nat_eq a.port b.port) (a ≡ b)
same_input a b =
    Decides-like _ (λ p i. record { origin = p.0 i; port = p.1 i })
    (λ e. (ap (λ (v : ProgramInput). v.origin) e, ap (λ (v : ProgramInput). v.port) e))
    (Decides-and _ _ (Decides-eqb a.origin b.origin) (Decides-eqb a.port b.port))
