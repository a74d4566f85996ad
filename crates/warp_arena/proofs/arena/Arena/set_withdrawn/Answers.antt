use Rattle.std.proofs.Common.{arith, refl, sym, ap, ◌∙◌, subst, IsSome}
use Rattle.warp_tag.specs.Table.{with_withdrawal}
use Rattle.warp_arena.specs.Places.{Contents, entry_of, with_change}
use Rattle.warp_arena.proofs.Reading.{used_found_below}
use Rattle.warp_arena.proofs.Changed.{changing}
use Rattle.warp_arena.proofs.Handles.{entry_of-with_change_same, entry_of-with_change_other}
use Rattle.warp_arena.proofs.Hinted.{IsHinted-kept, used_with_change}
use Rattle.warp_arena.proofs.Walks.{threads}
use Rattle.warp_arena.proofs.Reading.{places}
use Rattle.warp_arena.proofs.arena.Arena.set_withdrawn.Goals as goal

pub index_mut-requires : goal.index_mut-requires
index_mut-requires c =
    let a = c.self.inside in
    let h = subst (λ v. IsSome (entry_of c.args.node v.places)) (sym c.self.view_is) c.requires in
    omega (arith, a.nodes.ok.0, used_found_below a c.self.invariant.whole c.args.node h, c.index.ensures)

pub invariant_of-self : goal.invariant_of-self
invariant_of-self c =
    let a = c.self.inside in
    let h = subst (λ v. IsSome (entry_of c.args.node v.places)) (sym c.self.view_is) c.requires in
    let r = changing a c.self.invariant.whole c.args.node c.index.result c.index.ensures h c.index_mut.result.now c.index_mut.ensures.value
    with_withdrawal (λ _. refl) (λ _. refl) c.withdraw.new.self c.withdraw.ensures in
    IsHinted-kept (threads a) _ a.used a.used a.hints.items a.own_hints.items (with_change with_withdrawal c.args.node (places a)) c.self.invariant r.whole (ap (λ v. v.places) r.contents) r.size
    (used_with_change (threads a).entry _ with_withdrawal c.args.node (places a) h r.others c.self.invariant.used)

pub returns-clause-places : goal.returns-clause-places
returns-clause-places c =
    let a = c.self.inside in
    let h = subst (λ v. IsSome (entry_of c.args.node v.places)) (sym c.self.view_is) c.requires in
    let r = changing a c.self.invariant.whole c.args.node c.index.result c.index.ensures h c.index_mut.result.now c.index_mut.ensures.value
    with_withdrawal (λ _. refl) (λ _. refl) c.withdraw.new.self c.withdraw.ensures in
    r.contents
    ∙ ap (λ v. let w : Contents = record { origins = v.origins; places = with_change with_withdrawal c.args.node v.places; free = v.free; room = v.room } in w) c.self.view_is

pub returns-clause-entry : goal.returns-clause-entry
returns-clause-entry c =
    ap (λ v. entry_of c.args.node v.places) (returns-clause-places c) ∙ entry_of-with_change_same with_withdrawal c.args.node c.args.self.now.places

pub returns-clause-others : goal.returns-clause-others
returns-clause-others c = λ other n.
    ap (λ v. entry_of other v.places) (returns-clause-places c) ∙ entry_of-with_change_other with_withdrawal c.args.node c.args.self.now.places other n
