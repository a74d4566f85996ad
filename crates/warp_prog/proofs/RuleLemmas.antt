-- Roles say of a use what its kind says.
use Rattle.std.proofs.Common.{◌≡◌, Bool, not, ◌||◌, refl, ap}
use Rattle.std.specs.List.{list_any}
use Rattle.warp_prog.specs.File.{ReactorPart, ReactionPart}
use Rattle.warp_prog.specs.Names.{is_known, is_written, reaction_unknown}
use Rattle.warp_prog.specs.Undeclared.{is_declared, reaction_undeclared}
use Rattle.warp_prog.specs.Uses.{Use, Reads, Asks, Sets, Puts, Schedules, Indexes, body_uses, is_trigger}
use Rattle.warp_prog.specs.inner.Rule.{fits, declares, in_role, unknown_in_role}

known_use : (r : ReactorPart) (u : Use) → in_role (λ p name. fits p r name) u ≡ is_known r u
known_use r (Reads name) = refl
known_use r (Asks name) = refl
known_use r (Sets name) = refl
known_use r (Puts name) = refl
known_use r (Schedules name) = refl
known_use r (Indexes name) = refl

declared_use : (r : ReactorPart) (n : ReactionPart) (u : Use) → in_role (λ p name. declares p r n name) u ≡ is_declared r n u
declared_use r n (Reads name) = refl
declared_use r n (Asks name) = refl
declared_use r n (Sets name) = refl
declared_use r n (Puts name) = refl
declared_use r n (Schedules name) = refl
declared_use r n (Indexes name) = refl

-- so a reaction is unknown exactly if a name in it has not its role
pub unknown_same : (r : ReactorPart) (n : ReactionPart) → unknown_in_role r n ≡ reaction_unknown r n
unknown_same r n =
    ap (λ (f : Use → Bool). list_any (λ name. not (is_trigger r name)) n.triggers || list_any (λ name. not (is_trigger r name)) n.reads || list_any (λ name. not (is_written r name)) n.writes || list_any (λ u. not (f u)) (body_uses n.body))
    (λ i u. known_use r u i)

-- and undeclared exactly if its body uses a name in a role that it does not declare
pub undeclared_same : (r : ReactorPart) (n : ReactionPart) → list_any (λ u. not (in_role (λ p name. declares p r n name) u)) (body_uses n.body) ≡ reaction_undeclared r n
undeclared_same r n = ap (λ (f : Use → Bool). list_any (λ u. not (f u)) (body_uses n.body)) (λ i u. declared_use r n u i)
