use Rattle.std.proofs.Common.{IsTrue, IsSomeAnd, ◌≡◌, ℕ, ◌<◌, arith, sym, ap, ◌∙◌, subst, length, true, false, cond, Some, None}
use Rattle.warp_tag.specs.Table.{has_name}
use Rattle.warp_arena.specs.Places.{IsOrdered, node_of}
use Rattle.warp_arena.proofs.Walks.{room_of, threads, node_read}
use Rattle.warp_arena.proofs.Reading.{places}
use Rattle.warp_arena.proofs.Finding.{node_of-none, node_of-at}
use Rattle.warp_arena.proofs.Beside.{last_is}
use Rattle.warp_arena.proofs.Wholes.{ordered}
use Rattle.warp_arena.proofs.Handles.{entry_of-node_of}
use Rattle.warp_arena.proofs.arena.Arena.named_at.Goals as goal
use Rattle.warp_arena.proofs.arena.Arena.named_at.Goals.{else-at-ne-NO_NODE-via-then-at-ne-NO_NODE+else-is_of, else-at-ne-NO_NODE-via-else-at-ne-NO_NODE}

pub index-requires : goal.index-requires
index-requires c =
    let a = c.self.inside in
    let declared : c.args.origin < length a.by_origin.items = omega (arith, ap (λ v. v.origins) c.self.view_is) in
    let at : ℕ = c.args.at in
    let s = last_is a c.self.invariant.whole c.args.origin c.args.tag c.args.self.now at c.self.view_is c.requires.at in
    omega (arith, a.nodes.ok.0, (node_of-at a c.self.invariant.whole c.args.origin c.args.tag declared at s c.if-at-ne-NO_NODE.true).0)

pub returns-then-is_of-clause-handle : goal.returns-then-is_of-clause-handle
returns-then-is_of-clause-handle c =
    let a = c.self.inside in
    let declared : c.args.origin < length a.by_origin.items = omega (arith, ap (λ v. v.origins) c.self.view_is) in
    let at : ℕ = c.args.at in
    let s = last_is a c.self.invariant.whole c.args.origin c.args.tag c.args.self.now at c.self.view_is c.requires.at in
    let r = node_of-at a c.self.invariant.whole c.args.origin c.args.tag declared at s c.if-at-ne-NO_NODE.true in
    let read = node_read a.nodes.items at c.index.result.now r.0 c.index.ensures in
    let same : has_name c.args.origin c.args.tag ((threads a).entry at) ≡ true = ap (λ n. has_name c.args.origin c.args.tag n.entry) (sym read) ∙ sym c.is_of.ensures ∙ c.if-is_of.true in
    ap Some c.new.ensures
    ∙ sym (ap (λ v. node_of c.args.origin c.args.tag v.places) (sym c.self.view_is) ∙ r.1 ∙ ap (λ b. cond b (Some at) None) same)

pub returns-else-at-ne-NO_NODE-clause-handle : goal.returns-else-at-ne-NO_NODE-clause-handle
returns-else-at-ne-NO_NODE-clause-handle c =
    let a = c.self.inside in
    let declared : c.args.origin < length a.by_origin.items = omega (arith, ap (λ v. v.origins) c.self.view_is) in
    let at : ℕ = c.args.at in
    let s = last_is a c.self.invariant.whole c.args.origin c.args.tag c.args.self.now at c.self.view_is c.requires.at in
    let none : node_of c.args.origin c.args.tag (places a) ≡ None =
    elim c.else-at-ne-NO_NODE.branch [
      | else-at-ne-NO_NODE-via-then-at-ne-NO_NODE+else-is_of w ↦
          let r = node_of-at a c.self.invariant.whole c.args.origin c.args.tag declared at s w.if-at-ne-NO_NODE.true in
          let read = node_read a.nodes.items at w.index.result.now r.0 w.index.ensures in
          let other : has_name c.args.origin c.args.tag ((threads a).entry at) ≡ false = ap (λ n. has_name c.args.origin c.args.tag n.entry) (sym read) ∙ sym w.is_of.ensures ∙ w.if-is_of.false in
          r.1 ∙ ap (λ b. cond b (Some at) None) other
      | else-at-ne-NO_NODE-via-else-at-ne-NO_NODE w ↦ node_of-none a c.self.invariant.whole c.args.origin c.args.tag declared at s w.if-at-ne-NO_NODE.false
    ] in
    sym (ap (λ v. node_of c.args.origin c.args.tag v.places) (sym c.self.view_is) ∙ none)

pub returns-then-is_of-clause-named : goal.returns-then-is_of-clause-named
returns-then-is_of-clause-named c =
    let o = c.args.origin in
    let g = c.args.tag in
    let order = subst IsOrdered c.self.view_is (ordered c.self.inside c.self.invariant.whole (room_of c.self.inside)) in
    let r = entry_of-node_of o g c.args.self.now.places order.handles c.new.result (returns-then-is_of-clause-handle c) in
    subst (λ x. IsSomeAnd x (λ e. IsTrue (has_name o g e))) (sym r.1) r.2
