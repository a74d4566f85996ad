use Rattle.std.proofs.Common.{◌∙◌, ap, sym, subst, cond, eqb, None, Some, IfSome, IsSome}
use Rattle.std.proofs.lemmas.Bool.{ne_eqb}
use Rattle.warp_arena.specs.Places.{entry_of}
use Rattle.warp_arena.specs.declared.node.TheConstants.{NO_NODE}
use Rattle.warp_arena.proofs.Reading.{used_found_no_end}
use Rattle.warp_arena.proofs.arena.Arena.cursor_at.Goals as goal

pub returns-in-Some : goal.returns-in-Some
returns-in-Some c =
    let a = c.self.inside in
    let k = c.in-Some.node in
    let there = subst (λ o. IfSome o (λ n. IsSome (entry_of n c.args.self.now.places))) c.in-Some.is c.requires in
    let named = subst (λ v. IsSome (entry_of k v.places)) (sym c.self.view_is) there in
    c.new.ensures
    ∙ ap (λ n. cond (eqb n NO_NODE) None (Some n)) c.index.ensures
    ∙ ap (λ b. cond b None (Some k)) (ne_eqb k NO_NODE (used_found_no_end a c.self.invariant.whole k named))
    ∙ sym c.in-Some.is
