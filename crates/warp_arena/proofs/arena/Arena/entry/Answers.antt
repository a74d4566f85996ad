use Rattle.std.proofs.Common.{◌≡◌, ◌∷◌, arith, sym, ap, ◌∙◌, subst, Some, IsSome, get_or}
use Rattle.warp_tag.specs.declared.entry.Entry.{Entry}
use Rattle.warp_arena.specs.Places.{Place, entry_of, places_from, places_after}
use Rattle.warp_arena.proofs.Walks.{node_read}
use Rattle.warp_arena.proofs.Reading.{places, used_found_below, entry_found, head_found}
use Rattle.warp_arena.proofs.arena.Arena.entry.Goals as goal

pub index-requires-2 : goal.index-requires-2
index-requires-2 c =
    let a = c.self.inside in
    let h = subst (λ v. IsSome (entry_of c.args.node v.places)) (sym c.self.view_is) c.requires in
    omega (arith, a.nodes.ok.0, used_found_below a c.self.invariant.whole c.args.node h, c.index.ensures)

pub returns-clause-entry : goal.returns-clause-entry
returns-clause-entry c =
    let a = c.self.inside in
    let h = subst (λ v. IsSome (entry_of c.args.node v.places)) (sym c.self.view_is) c.requires in
    let read = node_read a.nodes.items c.args.node c.index-2.result.now (used_found_below a c.self.invariant.whole c.args.node h) (subst (λ i. c.index-2.result.now ≡ get_or a.nodes.items i c.index-2.result.now) c.index.ensures c.index-2.ensures) in
    ap (λ v. entry_of c.args.node v.places) (sym c.self.view_is)
    ∙ entry_found a c.self.invariant.whole c.args.node h ∙ ap Some (ap (λ n. n.entry) (sym read) ∙ sym c.entry.ensures)

pub returns-clause-head : goal.returns-clause-head
returns-clause-head c =
    let a = c.self.inside in
    let h = subst (λ v. IsSome (entry_of c.args.node v.places)) (sym c.self.view_is) c.requires in
    let read = node_read a.nodes.items c.args.node c.index-2.result.now (used_found_below a c.self.invariant.whole c.args.node h) (subst (λ i. c.index-2.result.now ≡ get_or a.nodes.items i c.index-2.result.now) c.index.ensures c.index-2.ensures) in
    ap (λ v. places_from c.args.node v.places) (sym c.self.view_is)
    ∙ head_found a c.self.invariant.whole c.args.node h
    ∙ ap (λ (e : Entry). let p : Place = record { node = c.args.node; entry = e } in p ∷ places_after c.args.node (places a)) (ap (λ n. n.entry) (sym read) ∙ sym c.entry.ensures)
    ∙ ap (λ v. let p : Place = record { node = c.args.node; entry = c.entry.result } in p ∷ places_after c.args.node v.places) c.self.view_is
