-- what the newest wrote over is given back
use Rattle.std.proofs.Common.{◌≡◌, ◌-◌, ℕ, ℤ, List, length, take, drop, ap, sym, ◌∙◌, arith, vec_capacity}
use Rattle.std.proofs.lemmas.List.{with_items_is}
use Rattle.std.specs.Vec.{with_items}
use Rattle.warp_run.specs.Stack.{Changed, free_for, given_back, values_of}
use Rattle.warp_run.specs.declared.changes.Cell.{Cell}
use Rattle.warp_run.proofs.Replaced.{HasTop, has_top, length-given_back, others_first}
use Rattle.warp_run.proofs.changes.Changes.pop.Goals as goal

pub give_back-requires : goal.give_back-requires
give_back-requires c =
    let h = c.self.inside in
    let top = has_top h.image.items h.cells.items h.steps.items c.pop.new.self.items c.in-Some.count c.in-Some.ensures.items c.self.invariant in
    omega (arith, top.enough, h.cells.ok.0)

top : (c : goal.After-self-1) → HasTop c.self.inside.image.items c.self.inside.cells.items c.self.inside.steps.items c.pop.new.self.items c.in-Some.count
top c =
    let h = c.self.inside in
    has_top h.image.items h.cells.items h.steps.items c.pop.new.self.items c.in-Some.count c.in-Some.ensures.items c.self.invariant

-- the cells that are left
left : (c : goal.After-self-1) → c.give_back.new.cells.items ≡ take (length c.self.inside.cells.items - c.in-Some.count) c.self.inside.cells.items
left c = c.give_back.ensures.cells ∙ ap (λ (n : ℕ). take (n - c.in-Some.count) c.self.inside.cells.items) c.self.inside.cells.ok.0

-- the image
older : (c : goal.After-self-1) → (with_items c.self.inside.image c.give_back.new.image).items
    ≡ given_back (drop (length c.self.inside.cells.items - c.in-Some.count) c.self.inside.cells.items) c.self.inside.image.items
older c =
    let h = c.self.inside in
    with_items_is h.image c.give_back.new.image (c.give_back.ensures.len ∙ c.deref_mut.ensures.len) ∙ c.give_back.ensures.image
    ∙ (λ i. given_back (drop (h.cells.ok.0 i - c.in-Some.count) h.cells.items) (c.deref_mut.ensures.value i))

pub invariant_of-self : goal.invariant_of-self
invariant_of-self c = (top c).count ∙ ap (λ (cs : List Cell). length cs) (sym (left c))

pub returns-in-Some : goal.returns-in-Some
returns-in-Some c =
    let h = c.self.inside in
    let cells : List Cell = drop (length h.cells.items - c.in-Some.count) h.cells.items in
    λ i. record {
      width = (ap (λ (xs : List ℤ). length xs) (older c) ∙ length-given_back cells h.image.items ∙ ap (λ (s : Changed). s.width) c.self.view_is) i;
      values = ((λ j. values_of (older c j) (left c j) c.pop.new.self.items)
          ∙ sym (others_first h.image.items h.cells.items h.steps.items c.pop.new.self.items c.in-Some.count (top c))
          ∙ ap (λ (s : Changed). take (length s.values - s.width) s.values) c.self.view_is) i;
      cells = (c.give_back.ensures.capacity ∙ ap (λ (s : Changed). s.cells) c.self.view_is) i;
      steps = (c.pop.ensures.capacity ∙ ap (λ (s : Changed). s.steps) c.self.view_is) i;
      free = free_for (length c.pop.new.self.items) (vec_capacity c.pop.new.self) (vec_capacity c.give_back.new.cells - length c.give_back.new.cells.items);
    }
