use Rattle.std.proofs.Common.{ap, subst, map, nat_eq, ◌≡◌, ℕ, ◌-◌, arith, sym, ◌∙◌, length, true, Some, IsSome}
use Rattle.warp_arena.proofs.Freeing.{Stops, Freed-more, stops_at, stops_empty}
use Rattle.std.specs.List.{IsDistinct}
use Rattle.warp_tag.specs.Moment.{is_before}
use Rattle.warp_tag.specs.declared.entry.Entry.{Entry}
use Rattle.warp_arena.specs.Places.{Contents, Place, entry_of}
use Rattle.warp_arena.proofs.Handles.{entry_of-back, entry_of-later}
use Rattle.warp_arena.proofs.arena.Arena.free_through.Goals as goal
use Rattle.warp_arena.proofs.arena.Arena.free_through.Goals.{in-Some+then-is_before, in_default}

pub loop-first-preserved : goal.loop-first-preserved
loop-first-preserved c =
    Freed-more c.args.tag c.args.self.now c.loop-first.self c.loop-first.invariant c.entry.result c.in-Some.first
    (sym c.in-Some.is ∙ c.first.ensures.handle) c.entry.ensures.entry (sym c.is_before.ensures ∙ c.if-is_before.false) c.free_first.new.self c.free_first.ensures

pub returns-clause-places : goal.returns-clause-places
returns-clause-places c =
    let n : ℕ = c.len-before.result - c.len.result in
    let e : n ≡ length c.args.self.now.places - length c.loop-first.self.places = omega (arith, c.len-before.ensures, c.len.ensures) in
    let stops : Stops c.args.tag c.args.self.now c.loop-first.self n =
    elim c.match-first.branch [
      | in-Some+then-is_before w ↦
          stops_at c.args.tag c.args.self.now c.loop-first.self c.loop-first.invariant c.ordered.ensures.order.table w.in-Some.first w.entry.result
          (sym w.in-Some.is ∙ c.first.ensures.handle) w.entry.ensures.entry (sym w.is_before.ensures ∙ w.if-is_before.true) n e
      | in_default w ↦ stops_empty c.args.tag c.args.self.now c.loop-first.self c.loop-first.invariant (sym w.in_default.is ∙ c.first.ensures.handle) n e
    ] in
    c.forget_hints_through.ensures ∙ stops.places

pub returns-clause-count : goal.returns-clause-count
returns-clause-count c =
    let n : ℕ = c.len-before.result - c.len.result in
    let e : n ≡ length c.args.self.now.places - length c.loop-first.self.places = omega (arith, c.len-before.ensures, c.len.ensures) in
    let stops : Stops c.args.tag c.args.self.now c.loop-first.self n =
    elim c.match-first.branch [
      | in-Some+then-is_before w ↦
          stops_at c.args.tag c.args.self.now c.loop-first.self c.loop-first.invariant c.ordered.ensures.order.table w.in-Some.first w.entry.result
          (sym w.in-Some.is ∙ c.first.ensures.handle) w.entry.ensures.entry (sym w.is_before.ensures ∙ w.if-is_before.true) n e
      | in_default w ↦ stops_empty c.args.tag c.args.self.now c.loop-first.self c.loop-first.invariant (sym w.in_default.is ∙ c.first.ensures.handle) n e
    ] in
    stops.count

pub returns-clause-handles : goal.returns-clause-handles
returns-clause-handles c =
    let f = c.loop-first.invariant in
    let d = c.ordered.ensures.order.handles in
    subst (λ (v : Contents). (node : ℕ) → IsSome (entry_of node v.places) → entry_of node v.places ≡ entry_of node c.args.self.now.places)
    (sym c.forget_hints_through.ensures)
    (λ node h. entry_of-back f.front c.loop-first.self.places (subst (λ ps. IsDistinct nat_eq (map (λ (p : Place). p.node) ps)) f.parts d) node h
    ∙ ap (entry_of node) (sym f.parts))

pub returns-clause-later : goal.returns-clause-later
returns-clause-later c =
    let f = c.loop-first.invariant in
    subst (λ (v : Contents). (node : ℕ) (e : Entry) → entry_of node c.args.self.now.places ≡ Some e → is_before c.args.tag e.tag ≡ true
    → entry_of node v.places ≡ Some e)
    (sym c.forget_hints_through.ensures)
    (λ node e h later. entry_of-later c.args.tag f.front c.loop-first.self.places f.through node e (ap (entry_of node) (sym f.parts) ∙ h) later)
