-- the cells of the first steps go
use Rattle.std.proofs.Common.{◌≡◌, ◌≤◌, ◌<◌, ◌+◌, ◌-◌, ◌*◌, ℕ, List, length, take, drop, ap, sym, subst, ◌∙◌, arith, vec_capacity}
use Rattle.std.proofs.lemmas.List.{length-drop, take_all}
use Rattle.warp_run.specs.Stack.{Changed, cells_in, free_for, values_of}
use Rattle.warp_run.specs.declared.changes.Cell.{Cell}
use Rattle.warp_run.proofs.Replaced.{cells_gone, steps_within, values_behind}
use Rattle.warp_run.proofs.changes.Changes.drop_front.Goals as goal

pub cells_of-gone-requires-clause-within : goal.cells_of-gone-requires-clause-within
cells_of-gone-requires-clause-within c =
    let h = c.self.inside in
    subst (λ (xs : List ℕ). c.args.count ≤ length xs) (sym c.deref.ensures.value)
    (steps_within h.image.items h.cells.items h.steps.items c.args.count (subst (λ (s : Changed). 0 < s.width) (sym c.self.view_is) c.requires.some)
    (subst (λ (s : Changed). c.args.count * s.width ≤ length s.values) (sym c.self.view_is) c.requires.within))

pub move_front-requires-clause-order : goal.move_front-requires-clause-order
move_front-requires-clause-order c =
    let h = c.self.inside in
    let gone = cells_gone h.steps.items c.deref.result.now h.cells.items c.args.count c.cells_of-gone.result c.deref.ensures.value c.cells_of-gone.ensures
    c.self.invariant in
    omega (arith, gone.1, h.cells.ok.0, c.len-cells.ensures)

pub overflow_sub-cells : goal.overflow_sub-cells
overflow_sub-cells c =
    let h = c.self.inside in
    let gone = cells_gone h.steps.items c.deref.result.now h.cells.items c.args.count c.cells_of-gone.result c.deref.ensures.value c.cells_of-gone.ensures
    c.self.invariant in
    omega (arith, gone.1, h.cells.ok.0, c.len-cells.ensures)

pub move_front-requires-2-clause-order : goal.move_front-requires-2-clause-order
move_front-requires-2-clause-order c =
    let h = c.self.inside in
    let within = steps_within h.image.items h.cells.items h.steps.items c.args.count
    (subst (λ (s : Changed). 0 < s.width) (sym c.self.view_is) c.requires.some)
    (subst (λ (s : Changed). c.args.count * s.width ≤ length s.values) (sym c.self.view_is) c.requires.within) in
    omega (arith, within, h.steps.ok.0, c.len-steps.ensures)

pub overflow_sub-steps : goal.overflow_sub-steps
overflow_sub-steps c =
    let h = c.self.inside in
    let within = steps_within h.image.items h.cells.items h.steps.items c.args.count
    (subst (λ (s : Changed). 0 < s.width) (sym c.self.view_is) c.requires.some)
    (subst (λ (s : Changed). c.args.count * s.width ≤ length s.values) (sym c.self.view_is) c.requires.within) in
    omega (arith, within, h.steps.ok.0, c.len-steps.ensures)

-- how many steps there are, and the cells that go with the first ones
within : (c : goal.After-truncate-2) → c.args.count ≤ length c.self.inside.steps.items
within c =
    let h = c.self.inside in
    steps_within h.image.items h.cells.items h.steps.items c.args.count (subst (λ (s : Changed). 0 < s.width) (sym c.self.view_is) c.requires.some)
    (subst (λ (s : Changed). c.args.count * s.width ≤ length s.values) (sym c.self.view_is) c.requires.within)

gone : (c : goal.After-truncate-2) → (c.cells_of-gone.result ≡ cells_in (take c.args.count c.self.inside.steps.items))
    × (cells_in (drop c.args.count c.self.inside.steps.items) + c.cells_of-gone.result ≡ length c.self.inside.cells.items)
gone c =
    let h = c.self.inside in
    cells_gone h.steps.items c.deref.result.now h.cells.items c.args.count c.cells_of-gone.result c.deref.ensures.value c.cells_of-gone.ensures
    c.self.invariant

-- the lists that are left
cells_left : (c : goal.After-truncate-2) → c.truncate.new.self.items ≡ drop (cells_in (take c.args.count c.self.inside.steps.items)) c.self.inside.cells.items
cells_left c =
    let h = c.self.inside in
    let all : take c.len-cells.result h.cells.items ≡ h.cells.items = take_all c.len-cells.result h.cells.items (omega (arith, c.len-cells.ensures, h.cells.ok.0)) in
    c.truncate.ensures.items ∙ c.move_front.ensures.items ∙ (λ i. drop ((gone c).0 i) (all i))

steps_left : (c : goal.After-truncate-2) → c.truncate-2.new.self.items ≡ drop c.args.count c.self.inside.steps.items
steps_left c =
    let h = c.self.inside in
    let all : take c.len-steps.result h.steps.items ≡ h.steps.items = take_all c.len-steps.result h.steps.items (omega (arith, c.len-steps.ensures, h.steps.ok.0)) in
    c.truncate-2.ensures.items ∙ c.move_front-2.ensures.items ∙ ap (drop c.args.count) all

pub invariant_of-self : goal.invariant_of-self
invariant_of-self c =
    let h = c.self.inside in
    let front : ℕ = cells_in (take c.args.count h.steps.items) in
    let sum : cells_in (drop c.args.count h.steps.items) ≡ length (drop front h.cells.items) =
    omega (arith, (gone c).0, (gone c).1, length-drop front h.cells.items) in
    ap cells_in (steps_left c) ∙ sum ∙ ap (λ (cs : List Cell). length cs) (sym (cells_left c))

pub returns : goal.returns
returns c =
    let h = c.self.inside in
    λ i. record {
      width = ap (λ (s : Changed). s.width) c.self.view_is i;
      values = ((λ j. values_of h.image.items (cells_left c j) (steps_left c j))
          ∙ values_behind c.args.count h.image.items h.cells.items h.steps.items (within c)
          ∙ ap (λ (s : Changed). drop (c.args.count * s.width) s.values) c.self.view_is) i;
      cells = (c.truncate.ensures.capacity ∙ c.move_front.ensures.capacity ∙ ap (λ (s : Changed). s.cells) c.self.view_is) i;
      steps = (c.truncate-2.ensures.capacity ∙ c.move_front-2.ensures.capacity ∙ ap (λ (s : Changed). s.steps) c.self.view_is) i;
      free = free_for (length c.truncate-2.new.self.items) (vec_capacity c.truncate-2.new.self)
          (vec_capacity c.truncate.new.self - length c.truncate.new.self.items);
    }
