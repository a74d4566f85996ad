use Rattle.std.proofs.Common.{◌≡◌, ℕ, ℤ, Option, ◌<◌, ◌+◌, ◌-◌, arith, sym, ap, ◌∙◌, subst, None, length, List, get_or, set}
use Rattle.std.proofs.lemmas.List.{with_items_is}
use Rattle.warp_tag.specs.Moment.{Moment}
use Rattle.warp_tag.specs.declared.entry.Entry.{Entry}
use Rattle.warp_arena.specs.declared.arena.Arena.TheInside.{Inside}
use Rattle.warp_arena.specs.declared.node.Links.{Links}
use Rattle.warp_arena.specs.declared.node.Node.{Node}
use Rattle.warp_arena.specs.declared.node.Origin.{Origin}
use Rattle.warp_arena.specs.Places.{Place, Contents, named, places_of, node_of, entry_of, with_place}
use Rattle.warp_arena.specs.Changes.{Threaded, CanThread}
use Rattle.warp_arena.specs.Shape.{last_not_after, IsWhole, threads_of, contents_of, next_in, entry_at, by_tag, of_origin, no_origin}
use Rattle.warp_arena.proofs.Walks.{room_of, threads, node_read, origin_read}
use Rattle.warp_arena.proofs.Wholes.{Ready, Threadable, ready, threadable}
use Rattle.warp_arena.proofs.Gaps.{tag_after, own_after}
use Rattle.warp_arena.proofs.Inserted.{new_handle, whole_inserted, contents_inserted}
use Rattle.warp_arena.proofs.Handles.{entry_of-with_place_same, entry_of-with_place_other}
use Rattle.warp_arena.proofs.Hinted.{IsHinted-kept, used_with_place}
use Rattle.warp_arena.proofs.Reading.{places}
use Rattle.warp_arena.proofs.arena.Arena.thread_in.Goals as goal

-- what is known before the node comes in
record Before (a : Inside) (o : ℕ) (g : Moment) (b c : ℕ) : Type 0 where
  declared : o < length a.by_origin.items
  is_ready : Ready a o g b c
  can_thread : Threadable (length a.nodes.items) (next_in a.ends (by_tag a.nodes.items)) (next_in (get_or a.by_origin.items o no_origin).ends (of_origin a.nodes.items)) b c a.free

before_insert : (a : Inside) (v : Contents) (o : ℕ) (g : Moment) (b c : ℕ) → contents_of (threads a) a.used (room_of a) ≡ v → IsWhole (threads a) a.used → o < v.origins → 0 < v.free → node_of o g v.places ≡ None → b ≡ last_not_after o g v.places → c ≡ last_not_after o g (places_of o v.places) → Before a o g b c
before_insert a v o g b c is w declared room absent s r =
    let h : o < length a.by_origin.items = omega (arith, ap (λ u. u.origins) is) in
    let q = ready a w o g b c
    (omega (arith, ap (λ u. u.free) is))
    (s ∙ ap (λ u. last_not_after o g u.places) (sym is))
    (r ∙ ap (λ u. last_not_after o g (places_of o u.places)) (sym is))
    (ap (λ u. node_of o g u.places) is ∙ absent) in
    record { declared = h; is_ready = q; can_thread = threadable a o g b c q h }

pub index-requires : goal.index-requires
index-requires c =
    let b = before_insert c.self.inside c.args.self.now c.args.origin c.args.tag c.args.gap.now.before c.args.gap.now.own_before
    c.self.view_is c.self.invariant.whole c.requires.origin c.requires.reserved c.requires.absent c.requires.gap.before c.requires.gap.own_before in
    omega (arith, c.self.inside.nodes.ok.0, b.can_thread.tags.at_in)

pub thread_node-requires-clause-tags : goal.thread_node-requires-clause-tags
thread_node-requires-clause-tags c =
    let a = c.self.inside in
    let b = before_insert a c.args.self.now c.args.origin c.args.tag c.args.gap.now.before c.args.gap.now.own_before
    c.self.view_is c.self.invariant.whole c.requires.origin c.requires.reserved c.requires.absent c.requires.gap.before c.requires.gap.own_before in
    subst (λ (ns : List Node). CanThread (length ns) (next_in a.ends (by_tag ns)) c.args.gap.now.before a.free) (sym c.deref_mut.ensures.value) b.can_thread.tags

pub thread_node-requires-clause-owns : goal.thread_node-requires-clause-owns
thread_node-requires-clause-owns c =
    let a = c.self.inside in
    let b = before_insert a c.args.self.now c.args.origin c.args.tag c.args.gap.now.before c.args.gap.now.own_before
    c.self.view_is c.self.invariant.whole c.requires.origin c.requires.reserved c.requires.absent c.requires.gap.before c.requires.gap.own_before in
    let C = λ (ns : List Node) (l : Links). CanThread (length ns) (next_in l (of_origin ns)) c.args.gap.now.own_before a.free in
    let own : c.index_mut-own.result.now ≡ get_or a.by_origin.items c.args.origin no_origin = origin_read a.by_origin.items c.args.origin c.index_mut-own.result.now b.declared c.index_mut-own.ensures.value in
    subst (λ ns. C ns c.index_mut-own.result.now.ends) (sym c.deref_mut.ensures.value) (subst (λ (n : Origin). C a.nodes.items n.ends) (sym own) b.can_thread.owns)

pub thread_node-requires-clause-after : goal.thread_node-requires-clause-after
thread_node-requires-clause-after c =
    let a = c.self.inside in
    let gap = c.requires.gap in
    gap.after ∙ sym (tag_after a c.self.invariant.whole c.args.origin c.args.tag c.args.self.now c.self.view_is c.args.gap.now.before gap.before)
    ∙ ap (λ ns. next_in a.ends (by_tag ns) c.args.gap.now.before) (sym c.deref_mut.ensures.value)

pub thread_node-requires-clause-own_after : goal.thread_node-requires-clause-own_after
thread_node-requires-clause-own_after c =
    let a = c.self.inside in
    let gap = c.requires.gap in
    let h : c.args.origin < length a.by_origin.items = omega (arith, ap (λ v. v.origins) c.self.view_is) in
    let own = ap (λ n. n.ends) (origin_read a.by_origin.items c.args.origin c.index_mut-own.result.now h c.index_mut-own.ensures.value) in
    gap.own_after ∙ sym (own_after a c.self.invariant.whole c.args.origin c.args.tag c.args.self.now c.self.view_is h c.args.gap.now.own_before gap.own_before)
    ∙ ap (λ l. next_in l (of_origin a.nodes.items) c.args.gap.now.own_before) (sym own)
    ∙ ap (λ ns. next_in c.index_mut-own.result.now.ends (of_origin ns) c.args.gap.now.own_before) (sym c.deref_mut.ensures.value)

pub invariant_of-self : goal.invariant_of-self
invariant_of-self c =
    let a = c.self.inside in
    let b = before_insert c.self.inside c.args.self.now c.args.origin c.args.tag c.args.gap.now.before c.args.gap.now.own_before
    c.self.view_is c.self.invariant.whole c.requires.origin c.requires.reserved c.requires.absent c.requires.gap.before c.requires.gap.own_before in
    let own = ap (λ n. n.ends) (origin_read a.by_origin.items c.args.origin c.index_mut-own.result.now b.declared c.index_mut-own.ensures.value) in
    let free = ap (λ n. n.by_tag.next) (node_read a.nodes.items a.free c.index.result.now b.can_thread.tags.at_in c.index.ensures) in
    let threaded = subst (λ (ns : List Node). Threaded ns c.thread_node.new.nodes a.ends c.thread_node.new.ends c.index_mut-own.result.now.ends c.thread_node.new.own_ends
    c.args.gap.now.before c.args.gap.now.own_before a.free c.named-entry.result) c.deref_mut.ensures.value c.thread_node.ensures in
    let change = subst (λ (e : Entry). Threaded a.nodes.items c.thread_node.new.nodes a.ends c.thread_node.new.ends c.index_mut-own.result.now.ends c.thread_node.new.own_ends
    c.args.gap.now.before c.args.gap.now.own_before a.free e) c.named-entry.ensures threaded in
    let items = with_items_is a.nodes c.thread_node.new.nodes (omega (arith, change.len, a.nodes.ok.0)) in
    let whole =
    subst (λ ns. IsWhole (threads_of ns (set a.by_origin.items c.args.origin (record { ends = c.thread_node.new.own_ends; touched = a.free })) c.thread_node.new.ends c.index.result.now.by_tag.next) (a.used + 1)) (sym items)
    (whole_inserted a c.args.origin c.args.tag c.args.gap.now.before c.args.gap.now.own_before b.is_ready b.declared
    c.thread_node.new.nodes c.index_mut-own.result.now.ends c.thread_node.new.ends c.thread_node.new.own_ends c.index.result.now.by_tag.next c.args.event own free change) in
    let contents =
    ap (λ ns. contents_of (threads_of ns (set a.by_origin.items c.args.origin (record { ends = c.thread_node.new.own_ends; touched = a.free })) c.thread_node.new.ends c.index.result.now.by_tag.next) (a.used + 1) (room_of a)) items
    ∙ contents_inserted a c.args.origin c.args.tag c.args.gap.now.before c.args.gap.now.own_before b.is_ready b.declared
    c.thread_node.new.nodes c.index_mut-own.result.now.ends c.thread_node.new.ends c.thread_node.new.own_ends c.index.result.now.by_tag.next c.args.event own free change in
    let p : Place = record { node = a.free; entry = named c.args.origin c.args.tag c.args.event } in
    IsHinted-kept (threads a) _ a.used (a.used + 1) a.hints.items a.own_hints.items (with_place p (places a)) c.self.invariant whole (ap (λ v. v.places) contents)
    (omega (arith, change.len, ap length items))
    (used_with_place (threads a).entry _ p (places a) (new_handle a c.args.origin c.args.tag c.args.gap.now.before c.args.gap.now.own_before b.is_ready b.declared)
    (λ i n. ap (λ ns. entry_at ns i) items ∙ change.entries i n) c.self.invariant.used)

pub returns-clause-places : goal.returns-clause-places
returns-clause-places c =
    let a = c.self.inside in
    let b = before_insert c.self.inside c.args.self.now c.args.origin c.args.tag c.args.gap.now.before c.args.gap.now.own_before
    c.self.view_is c.self.invariant.whole c.requires.origin c.requires.reserved c.requires.absent c.requires.gap.before c.requires.gap.own_before in
    let own = ap (λ n. n.ends) (origin_read a.by_origin.items c.args.origin c.index_mut-own.result.now b.declared c.index_mut-own.ensures.value) in
    let free = ap (λ n. n.by_tag.next) (node_read a.nodes.items a.free c.index.result.now b.can_thread.tags.at_in c.index.ensures) in
    let threaded = subst (λ (ns : List Node). Threaded ns c.thread_node.new.nodes a.ends c.thread_node.new.ends c.index_mut-own.result.now.ends c.thread_node.new.own_ends
    c.args.gap.now.before c.args.gap.now.own_before a.free c.named-entry.result) c.deref_mut.ensures.value c.thread_node.ensures in
    let change = subst (λ (e : Entry). Threaded a.nodes.items c.thread_node.new.nodes a.ends c.thread_node.new.ends c.index_mut-own.result.now.ends c.thread_node.new.own_ends
    c.args.gap.now.before c.args.gap.now.own_before a.free e) c.named-entry.ensures threaded in
    let items = with_items_is a.nodes c.thread_node.new.nodes (omega (arith, change.len, a.nodes.ok.0)) in
    let v = c.args.self.now in
    ap (λ ns. contents_of (threads_of ns (set a.by_origin.items c.args.origin (record { ends = c.thread_node.new.own_ends; touched = a.free })) c.thread_node.new.ends c.index.result.now.by_tag.next) (a.used + 1) (room_of a)) items
    ∙ contents_inserted a c.args.origin c.args.tag c.args.gap.now.before c.args.gap.now.own_before b.is_ready b.declared
    c.thread_node.new.nodes c.index_mut-own.result.now.ends c.thread_node.new.ends c.thread_node.new.own_ends c.index.result.now.by_tag.next c.args.event own free change
    ∙ ap (λ u. let w : Contents = record { origins = u.origins; places = with_place (record { node = a.free; entry = named c.args.origin c.args.tag c.args.event }) u.places; free = u.free - 1; room = u.room } in w) c.self.view_is
    ∙ ap (λ n. let w : Contents = record { origins = v.origins; places = with_place (record { node = n; entry = named c.args.origin c.args.tag c.args.event }) v.places; free = v.free - 1; room = v.room } in w) (sym c.new.ensures)

pub returns-clause-new_handle : goal.returns-clause-new_handle
returns-clause-new_handle c =
    let a = c.self.inside in
    let b = before_insert c.self.inside c.args.self.now c.args.origin c.args.tag c.args.gap.now.before c.args.gap.now.own_before
    c.self.view_is c.self.invariant.whole c.requires.origin c.requires.reserved c.requires.absent c.requires.gap.before c.requires.gap.own_before in
    ap (λ n. entry_of n c.args.self.now.places) c.new.ensures
    ∙ ap (λ u. entry_of a.free u.places) (sym c.self.view_is)
    ∙ new_handle a c.args.origin c.args.tag c.args.gap.now.before c.args.gap.now.own_before b.is_ready b.declared

-- the place that came in
new_place : ℕ → ℕ → Moment → Option (ℕ × ℤ) → Place
new_place n o g v = record { node = n; entry = named o g v }

pub returns-clause-entry : goal.returns-clause-entry
unfolding new_place
returns-clause-entry c =
    ap (λ v. entry_of c.new.result v.places) (returns-clause-places c)
    ∙ entry_of-with_place_same (new_place c.new.result c.args.origin c.args.tag c.args.event) c.args.self.now.places (returns-clause-new_handle c)

pub returns-clause-others : goal.returns-clause-others
unfolding new_place
returns-clause-others c = λ other n.
    ap (λ v. entry_of other v.places) (returns-clause-places c)
    ∙ entry_of-with_place_other (new_place c.new.result c.args.origin c.args.tag c.args.event) c.args.self.now.places other n
