use Rattle.std.proofs.Common.{◌≡◌, map, ℕ, ◌+◌, ◌-◌, ◌<◌, get_or, arith, sym, ap, ◌∙◌, subst, length, List, set, drop}
use Rattle.std.proofs.lemmas.List.{with_items_is}
use Rattle.warp_tag.specs.declared.entry.Entry.{Entry}
use Rattle.warp_arena.specs.declared.node.Node.{Node}
use Rattle.warp_arena.specs.Places.{Place, Contents}
use Rattle.warp_arena.specs.Changes.{Unthreaded, CanUnthread}
use Rattle.warp_arena.specs.Shape.{AreHints, AreUsed, IsHinted, entry_at, place_at, threads_of, contents_of, next_in, by_tag, of_origin}
use Rattle.warp_arena.proofs.Removed.{leaving_of, unthreadable, first_declared, first_read, whole_removed, contents_removed}
use Rattle.warp_arena.proofs.Hinted.{used_left}
use Rattle.warp_arena.proofs.Walks.{room_of, threads}
use Rattle.warp_arena.proofs.arena.Arena.free_first.Goals as goal

pub index-requires : goal.index-requires
index-requires c =
    let a = c.self.inside in
    let l = leaving_of a c.args.self.now c.self.view_is c.self.invariant.whole c.requires in
    omega (arith, a.nodes.ok.0, (unthreadable a l).tags.at_in)

pub index-requires-2 : goal.index-requires-2
index-requires-2 c =
    let a = c.self.inside in
    let l = leaving_of a c.args.self.now c.self.view_is c.self.invariant.whole c.requires in
    omega (arith, a.by_origin.ok.0, first_declared a l c.index.result.now c.index.ensures c.origin-origin.result c.origin-origin.ensures)

pub unthread_node-requires-clause-tags : goal.unthread_node-requires-clause-tags
unthread_node-requires-clause-tags c =
    let a = c.self.inside in
    let l = leaving_of a c.args.self.now c.self.view_is c.self.invariant.whole c.requires in
    subst (λ (ns : List Node). CanUnthread (length ns) (next_in a.ends (by_tag ns)) a.ends.next) (sym c.deref_mut.ensures.value) (unthreadable a l).tags

pub unthread_node-requires-clause-owns : goal.unthread_node-requires-clause-owns
unthread_node-requires-clause-owns c =
    let a = c.self.inside in
    let l = leaving_of a c.args.self.now c.self.view_is c.self.invariant.whole c.requires in
    let r = first_read a l c.index.result.now c.index.ensures c.origin-origin.result c.origin-origin.ensures c.index-2.result.now c.index-2.ensures in
    subst (λ (ns : List Node). CanUnthread (length ns) (next_in c.index-2.result.now.ends (of_origin ns)) a.ends.next) (sym c.deref_mut.ensures.value) r.owns

pub index_mut-requires : goal.index_mut-requires
index_mut-requires c =
    let a = c.self.inside in
    let l = leaving_of a c.args.self.now c.self.view_is c.self.invariant.whole c.requires in
    omega (arith, a.by_origin.ok.0, first_declared a l c.index.result.now c.index.ensures c.origin-origin.result c.origin-origin.ensures)

pub invariant_of-self : goal.invariant_of-self
invariant_of-self c =
    let a = c.self.inside in
    let l = leaving_of a c.args.self.now c.self.view_is c.self.invariant.whole c.requires in
    let r = first_read a l c.index.result.now c.index.ensures c.origin-origin.result c.origin-origin.ensures c.index-2.result.now c.index-2.ensures in
    let o : ℕ = c.origin-origin.result in
    let change = subst (λ ns. Unthreaded ns c.unthread_node.new.nodes a.ends c.unthread_node.new.ends c.index-2.result.now.ends c.unthread_node.new.own_ends a.ends.next a.free)
    c.deref_mut.ensures.value c.unthread_node.ensures in
    let items = with_items_is a.nodes c.unthread_node.new.nodes (omega (arith, change.len, a.nodes.ok.0)) in
    let own = set a.by_origin.items o (record { ends = c.unthread_node.new.own_ends; touched = c.touched_without.result }) in
    let whole = whole_removed a l c.unthread_node.new.nodes c.index-2.result.now c.unthread_node.new.ends c.unthread_node.new.own_ends o c.touched_without.result r.is_own r.own_is c.touched_without.ensures change in
    let contents = contents_removed a l c.unthread_node.new.nodes c.index-2.result.now c.unthread_node.new.ends c.unthread_node.new.own_ends o c.touched_without.result r.is_own r.own_is c.touched_without.ensures change in
    let place : ℕ → Place = place_at (threads a).entry in
    let entry' : ℕ → Entry = entry_at c.unthread_node.new.nodes in
    subst (λ ns. IsHinted (threads_of ns own c.unthread_node.new.ends a.ends.next) (a.used - 1) a.hints.items a.own_hints.items) (sym items) (record {
      whole = whole;
      used =
          subst (AreUsed entry') (sym (ap (λ v. v.places) contents ∙ ap (λ is. drop 1 (map place is)) l.parts))
          (used_left (threads a).entry entry' (place a.ends.next) (map place l.rest) change.here change.entries
          (subst (AreUsed (threads a).entry) (ap (map place) l.parts) c.self.invariant.used));
      hinted = subst (λ n. AreHints n a.hints.items) (sym change.len) c.self.invariant.hinted;
      own_hinted = subst (λ n. AreHints n a.own_hints.items) (sym change.len) c.self.invariant.own_hinted;
    })

pub returns : goal.returns
returns c =
    let a = c.self.inside in
    let l = leaving_of a c.args.self.now c.self.view_is c.self.invariant.whole c.requires in
    let r = first_read a l c.index.result.now c.index.ensures c.origin-origin.result c.origin-origin.ensures c.index-2.result.now c.index-2.ensures in
    let o : ℕ = c.origin-origin.result in
    let change = subst (λ ns. Unthreaded ns c.unthread_node.new.nodes a.ends c.unthread_node.new.ends c.index-2.result.now.ends c.unthread_node.new.own_ends a.ends.next a.free)
    c.deref_mut.ensures.value c.unthread_node.ensures in
    let items = with_items_is a.nodes c.unthread_node.new.nodes (omega (arith, change.len, a.nodes.ok.0)) in
    ap (λ ns. contents_of (threads_of ns (set a.by_origin.items o (record { ends = c.unthread_node.new.own_ends; touched = c.touched_without.result })) c.unthread_node.new.ends a.ends.next) (a.used - 1) (room_of a)) items
    ∙ contents_removed a l c.unthread_node.new.nodes c.index-2.result.now c.unthread_node.new.ends c.unthread_node.new.own_ends o c.touched_without.result r.is_own r.own_is c.touched_without.ensures change
    ∙ ap (λ v. let w : Contents = record { origins = v.origins; places = drop 1 v.places; free = v.free + 1; room = v.room } in w) c.self.view_is
