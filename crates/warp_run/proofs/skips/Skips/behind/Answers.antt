use Rattle.std.proofs.Common.{List, IfSome, IsSomeAnd, subst}
use Rattle.warp_arena.specs.Places.{entry_of}
use Rattle.warp_run.specs.Skips.{IsStretch, spanned}
use Rattle.warp_run.specs.declared.skips.Skip.{Skip}
use Rattle.warp_run.proofs.PlacesSkipped.{behind_next, behind_target}
use Rattle.warp_run.proofs.skips.Skips.behind.Goals as goal

pub returns-in-Some-clause-events : goal.returns-in-Some-clause-events
returns-in-Some-clause-events c =
    let ps = c.args.arena.now.places in
    let there = subst (λ (ss : List Skip). IfSome c.target_of.result (λ to. IsSomeAnd (entry_of to ps) (λ e. IsStretch (spanned ss) c.args.tag e.tag)))
    c.deref.ensures.0 c.target_of.ensures in
    let at = subst (λ o. IfSome o (λ to. IsSomeAnd (entry_of to ps) (λ e. IsStretch (spanned c.args.self.now.kept.items) c.args.tag e.tag))) c.in-Some.is there in
    (behind_target (spanned c.args.self.now.kept.items) ps c.next.result c.args.node c.in-Some.to c.args.tag c.ordered.ensures.order.table c.requires.here at
    c.requires.free c.next.ensures).1

pub returns-in-Some-clause-fewer : goal.returns-in-Some-clause-fewer
returns-in-Some-clause-fewer c =
    let ps = c.args.arena.now.places in
    let there = subst (λ (ss : List Skip). IfSome c.target_of.result (λ to. IsSomeAnd (entry_of to ps) (λ e. IsStretch (spanned ss) c.args.tag e.tag)))
    c.deref.ensures.0 c.target_of.ensures in
    let at = subst (λ o. IfSome o (λ to. IsSomeAnd (entry_of to ps) (λ e. IsStretch (spanned c.args.self.now.kept.items) c.args.tag e.tag))) c.in-Some.is there in
    (behind_target (spanned c.args.self.now.kept.items) ps c.next.result c.args.node c.in-Some.to c.args.tag c.ordered.ensures.order.table c.requires.here at
    c.requires.free c.next.ensures).2

pub returns-in-None-clause-events : goal.returns-in-None-clause-events
returns-in-None-clause-events c =
    (behind_next c.args.arena.now.places c.next-in-None.result c.args.node c.args.tag c.requires.here c.next-in-None.ensures).1

pub returns-in-None-clause-fewer : goal.returns-in-None-clause-fewer
returns-in-None-clause-fewer c =
    (behind_next c.args.arena.now.places c.next-in-None.result c.args.node c.args.tag c.requires.here c.next-in-None.ensures).2
