use Rattle.std.proofs.Common.{◌≡◌, ◌≤◌, ◌<◌, ℕ, Result, Ok, Err, arith, refl, sym, ap, ◌∙◌, subst, length, length-append, ◌++◌, ◌∷◌, []}
use Rattle.std.specs.Vec.{vec_capacity}
use Rattle.std.specs.Result.{OnErr}
use Rattle.std.proofs.lemmas.Bool.{false≢true}
use Rattle.warp_arena.specs.declared.arena.Arena.TheInside.{Inside}
use Rattle.warp_tag.specs.Limits.{most_names}
use Rattle.warp_arena.specs.Places.{Contents, GrowsForHints, Room, with_free, room_after}
use Rattle.warp_arena.specs.Shape.{IsHinted, IsWhole, threads_of, contents_of, entry_at, no_node}
use Rattle.warp_arena.proofs.Removed.{length-places}
use Rattle.warp_arena.proofs.Growing.{none_free, entry_pushed, whole_grown, contents_grown}
use Rattle.warp_arena.proofs.Hinted.{IsHinted-kept, used_same}
use Rattle.warp_arena.proofs.Reading.{places}
use Rattle.warp_arena.proofs.Walks.{room_of, threads}
use Rattle.warp_arena.proofs.arena.Arena.reserve_one.Goals as goal

-- where no node is free, one is made
made : (v : Contents) (r : Room) → v.free ≡ 0 → with_free r v ≡ record v { free = 1; room = record r { nodes = room_after (length v.places) v.room.nodes } }
made v r e = rw e refl

on_err : {T E P : Type 0} (r : Result T E) → P → OnErr r P
on_err (Ok x) p = tt
on_err (Err e) p = p

-- where there is room for a node, one more may have a place
room_left : (a : Inside) (v : Contents) → contents_of (threads a) a.used (room_of a) ≡ v → a.used ≡ length a.nodes.items → length v.places < v.room.nodes → length a.nodes.items < vec_capacity a.nodes
room_left a v is full h = omega (arith, h, full, ap (λ u. u.room.nodes) is, length-places a, ap (λ u. length u.places) is)

pub returns-in_err-reserve_hints-clause-spare : goal.returns-in_err-reserve_hints-clause-spare
returns-in_err-reserve_hints-clause-spare c = λ h.
    absurd (omega (arith, h, ap (λ v. v.free) c.self.view_is, none_free c.self.inside c.self.invariant.whole c.if-self.true))

pub returns-in_err-reserve_hints-clause-room : goal.returns-in_err-reserve_hints-clause-room
returns-in_err-reserve_hints-clause-room c = λ h.
    let a = c.self.inside in
    let v = c.self.view_is in
    absurd (false≢true (c.in_err-reserve_hints.ensures.spare
    (room_left a c.args.self.now v (none_free a c.self.invariant.whole c.if-self.true) h)))

pub returns-in_err-add_node-clause-spare : goal.returns-in_err-add_node-clause-spare
returns-in_err-add_node-clause-spare c = λ h.
    absurd (omega (arith, h, ap (λ v. v.free) c.self.view_is, none_free c.self.inside c.self.invariant.whole c.if-self.true))

pub returns-in_err-add_node-clause-room : goal.returns-in_err-add_node-clause-room
returns-in_err-add_node-clause-room c = λ h.
    let a = c.self.inside in
    let v = c.self.view_is in
    absurd (false≢true (c.in_err-add_node.ensures.spare
    (room_left a c.args.self.now v (none_free a c.self.invariant.whole c.if-self.true) h)))

pub invariant_of-self-then-self : goal.invariant_of-self-then-self
invariant_of-self-then-self c =
    let a = c.self.inside in
    let full = none_free a c.self.invariant.whole c.if-self.true in
    let room : length a.nodes.items < most_names = omega (arith, full, length-places a, ap (λ v. length v.places) c.self.view_is, c.requires) in
    let index : c.len-index.result ≡ length a.nodes.items = omega (arith, c.len-index.ensures, a.nodes.ok.0) in
    let whole =
    subst (λ ns. IsWhole (threads_of ns a.by_origin.items a.ends c.len-index.result) a.used) (sym c.in_ok-add_node.ensures.ok)
    (subst (λ i. IsWhole (threads_of (a.nodes.items ++ no_node ∷ []) a.by_origin.items a.ends i) a.used) (sym index)
    (whole_grown a c.self.invariant.whole full room)) in
    let now' : Room = record { nodes = vec_capacity c.add_node.new.nodes; hints = vec_capacity c.reserve_hints.new.hints; own_hints = vec_capacity c.reserve_hints.new.own_hints } in
    let contents =
    ap (λ ns. contents_of (threads_of ns a.by_origin.items a.ends c.len-index.result) a.used now') c.in_ok-add_node.ensures.ok
    ∙ ap (λ i. contents_of (threads_of (a.nodes.items ++ no_node ∷ []) a.by_origin.items a.ends i) a.used now') index
    ∙ contents_grown a c.self.invariant.whole full room now' in
    let t' = threads_of c.add_node.new.nodes.items a.by_origin.items a.ends c.len-index.result in
    subst (λ hs. IsHinted t' a.used hs c.reserve_hints.new.own_hints.items) (sym c.in_ok-reserve_hints.ensures.items)
    (subst (IsHinted t' a.used a.hints.items) (sym c.in_ok-reserve_hints.ensures.own_items)
    (IsHinted-kept (threads a) t' a.used a.used a.hints.items a.own_hints.items (places a) c.self.invariant whole (ap (λ v. v.places) contents)
    (omega (arith, ap length c.in_ok-add_node.ensures.ok, length-append a.nodes.items (no_node ∷ [])))
    (used_same (threads a).entry t'.entry (places a)
    (λ i. ap (λ ns. entry_at ns i) c.in_ok-add_node.ensures.ok ∙ entry_pushed a.nodes.items i) c.self.invariant.used)))

pub returns-in_ok-add_node-clause-ok : goal.returns-in_ok-add_node-clause-ok
returns-in_ok-add_node-clause-ok c =
    let a = c.self.inside in
    let v = c.args.self.now in
    let full = none_free a c.self.invariant.whole c.if-self.true in
    let room : length a.nodes.items < most_names = omega (arith, full, length-places a, ap (λ v. length v.places) c.self.view_is, c.requires) in
    let index : c.len-index.result ≡ length a.nodes.items = omega (arith, c.len-index.ensures, a.nodes.ok.0) in
    let places : length a.nodes.items ≡ length v.places = sym full ∙ sym (length-places a) ∙ ap (λ u. length u.places) c.self.view_is in
    let none : v.free ≡ 0 = omega (arith, full, ap (λ u. u.free) c.self.view_is) in
    let grown : vec_capacity c.add_node.new.nodes ≡ room_after (length v.places) v.room.nodes =
    c.in_ok-add_node.ensures.room ∙ ap (λ n. room_after n (vec_capacity a.nodes)) places ∙ ap (λ u. room_after (length v.places) u.room.nodes) c.self.view_is in
    let hints = vec_capacity c.reserve_hints.new.hints in
    let own = vec_capacity c.reserve_hints.new.own_hints in
    let now' : Room = record { nodes = vec_capacity c.add_node.new.nodes; hints = hints; own_hints = own } in
    ap (λ ns. contents_of (threads_of ns a.by_origin.items a.ends c.len-index.result) a.used now') c.in_ok-add_node.ensures.ok
    ∙ ap (λ i. contents_of (threads_of (a.nodes.items ++ no_node ∷ []) a.by_origin.items a.ends i) a.used now') index
    ∙ contents_grown a c.self.invariant.whole full room now'
    ∙ ap (λ u. let w : Contents = record { origins = u.origins; places = u.places; free = 1; room = now' } in w) c.self.view_is
    ∙ ap (λ r. let w : Contents = record { origins = v.origins; places = v.places; free = 1; room = record { nodes = r; hints = hints; own_hints = own } } in w) grown
    ∙ sym (made v now' none)

-- the room for hints alone differs
but_hints : (a : Inside) (v : Contents) (hints own : ℕ) → contents_of (threads a) a.used (room_of a) ≡ v
    → contents_of (threads a) a.used (record { nodes = vec_capacity a.nodes; hints = hints; own_hints = own })
    ≡ record v { room = record { nodes = v.room.nodes; hints = hints; own_hints = own } }
but_hints a v hints own is =
    ap (λ u. let w : Contents = record { origins = u.origins; places = u.places; free = u.free; room = record { nodes = u.room.nodes; hints = hints; own_hints = own } } in w) is

pub returns-in_err-reserve_hints-clause-err : goal.returns-in_err-reserve_hints-clause-err
returns-in_err-reserve_hints-clause-err c =
    on_err c.from_residual.result
    (but_hints c.self.inside c.args.self.now (vec_capacity c.reserve_hints.new.hints) (vec_capacity c.reserve_hints.new.own_hints) c.self.view_is)

pub returns-in_err-add_node-clause-err : goal.returns-in_err-add_node-clause-err
returns-in_err-add_node-clause-err c =
    let a = c.self.inside in
    let hints = vec_capacity c.reserve_hints.new.hints in
    let own = vec_capacity c.reserve_hints.new.own_hints in
    on_err c.from_residual-in_err-add_node.result
    (ap (λ ns. contents_of (threads_of ns a.by_origin.items a.ends a.free) a.used (record { nodes = vec_capacity c.add_node.new.nodes; hints = hints; own_hints = own })) c.in_err-add_node.ensures.err
    ∙ ap (λ r. contents_of (threads a) a.used (record { nodes = r; hints = hints; own_hints = own })) c.in_err-add_node.ensures.room
    ∙ but_hints a c.args.self.now hints own c.self.view_is)

-- the room for hints grew, or there was no room for a node
grows : (a : Inside) (v w : Contents) (hints own : ℕ) → contents_of (threads a) a.used (room_of a) ≡ v → a.used ≡ length a.nodes.items
    → w.room.hints ≡ hints → w.room.own_hints ≡ own → vec_capacity a.hints ≤ hints → vec_capacity a.own_hints ≤ own
    → (length a.nodes.items < vec_capacity a.nodes → (hints ≡ vec_capacity a.hints) × (own ≡ vec_capacity a.own_hints)) → GrowsForHints v w
grows a v w hints own is full hints_are own_are more own_more kept =
    record {
      hints = omega (arith, hints_are, more, ap (λ u. u.room.hints) is);
      own_hints = omega (arith, own_are, own_more, ap (λ u. u.room.own_hints) is);
      kept = λ h.
          let k = kept (room_left a v is full h) in
          λ i. record {
            nodes = w.room.nodes;
            hints = (hints_are ∙ k.0 ∙ ap (λ u. u.room.hints) is) i;
            own_hints = (own_are ∙ k.1 ∙ ap (λ u. u.room.own_hints) is) i;
          };
    }

pub returns-in_err-reserve_hints-clause-hints : goal.returns-in_err-reserve_hints-clause-hints
returns-in_err-reserve_hints-clause-hints c =
    let r = c.reserve_hints.ensures in
    grows c.self.inside c.args.self.now _ (vec_capacity c.reserve_hints.new.hints) (vec_capacity c.reserve_hints.new.own_hints) c.self.view_is
    (none_free c.self.inside c.self.invariant.whole c.if-self.true) refl refl r.grown r.own_grown r.kept

pub returns-in_err-add_node-clause-hints : goal.returns-in_err-add_node-clause-hints
returns-in_err-add_node-clause-hints c =
    let r = c.reserve_hints.ensures in
    grows c.self.inside c.args.self.now _ (vec_capacity c.reserve_hints.new.hints) (vec_capacity c.reserve_hints.new.own_hints) c.self.view_is
    (none_free c.self.inside c.self.invariant.whole c.if-self.true) refl refl r.grown r.own_grown r.kept

pub returns-in_ok-add_node-clause-hints : goal.returns-in_ok-add_node-clause-hints
returns-in_ok-add_node-clause-hints c =
    let r = c.reserve_hints.ensures in
    grows c.self.inside c.args.self.now _ (vec_capacity c.reserve_hints.new.hints) (vec_capacity c.reserve_hints.new.own_hints) c.self.view_is
    (none_free c.self.inside c.self.invariant.whole c.if-self.true) refl refl r.grown r.own_grown r.kept
