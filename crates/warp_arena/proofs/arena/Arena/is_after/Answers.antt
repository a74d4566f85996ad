use Rattle.std.proofs.Common.{ℕ, List, IsTrue, arith, sym, ap, ◌∙◌, subst, IsSomeAnd, get_or, length, true, ◌≡◌}
use Rattle.warp_tag.specs.Moment.{is_before}
use Rattle.warp_arena.specs.Places.{entry_of}
use Rattle.warp_arena.specs.Shape.{no_node}
use Rattle.warp_arena.specs.declared.node.Node.{Node}
use Rattle.warp_arena.proofs.Reading.{places}
use Rattle.warp_arena.proofs.Hinted.{later_node, later_none}
use Rattle.warp_arena.proofs.arena.Arena.is_after.Goals as goal

pub returns-in-Some : goal.returns-in-Some
returns-in-Some c =
    let a = c.self.inside in
    let n = c.in-Some.node.now in
    let read : n ≡ get_or a.nodes.items c.args.node no_node =
    c.in-Some.ensures.lookup.3.1 no_node ∙ ap (λ (xs : List Node). get_or xs c.index.result no_node) c.deref.ensures.value
    ∙ ap (λ (k : ℕ). get_or a.nodes.items k no_node) c.index.ensures in
    let is = c.is_before.ensures ∙ ap (is_before c.args.tag) c.tag.ensures ∙ ap (λ (m : Node). is_before c.args.tag m.entry.tag) read in
    let named : (IsTrue c.is_before.result → IsSomeAnd (entry_of c.args.node (places a)) (λ e. is_before c.args.tag e.tag ≡ true))
    × (IsSomeAnd (entry_of c.args.node (places a)) (λ e. is_before c.args.tag e.tag ≡ true) → IsTrue c.is_before.result) =
    later_node a c.self.invariant c.args.tag c.args.node c.is_before.result is in
    subst (λ v. (IsTrue c.is_before.result → IsSomeAnd (entry_of c.args.node v.places) (λ e. is_before c.args.tag e.tag ≡ true))
    × (IsSomeAnd (entry_of c.args.node v.places) (λ e. is_before c.args.tag e.tag ≡ true) → IsTrue c.is_before.result))
    c.self.view_is named

pub returns-in-None : goal.returns-in-None
returns-in-None c =
    let a = c.self.inside in
    let past = c.in-None.ensures.lookup.3 in (
      λ never. cc,
      λ named. absurd (later_none a c.self.invariant c.args.tag c.args.node
          (omega (arith, past, ap (λ xs. length xs) c.deref.ensures.value, c.index.ensures))
          (subst (λ v. IsSomeAnd (entry_of c.args.node v.places) (λ e. is_before c.args.tag e.tag ≡ true)) (sym c.self.view_is) named)),
    )
