-- what the new one writes over is kept
use Rattle.std.proofs.Common.{◌≡◌, ◌+◌, ◌-◌, ◌∷◌, ◌++◌, [], ℕ, ℤ, List, length, length-append, ap, sym, ◌∙◌, arith, vec_capacity}
use Rattle.std.proofs.lemmas.List.{with_items_is}
use Rattle.std.specs.Vec.{with_items}
use Rattle.warp_run.specs.Stack.{Changed, cells_in, free_for, given_back, values_of}
use Rattle.warp_run.specs.declared.changes.Cell.{Cell}
use Rattle.warp_run.proofs.Replaced.{cells_in-more, values_more}
use Rattle.warp_run.proofs.changes.Changes.push.Goals as goal

-- how many cells it wrote over
step : (c : goal.After-push_reserved-2) → c.len.result - c.len-before.result ≡ length c.replace.ensures.cells.0
step c =
    let h = c.self.inside in
    let more = c.replace.ensures.cells in
    let lengths : length c.replace.new.cells.items ≡ length h.cells.items + length more.0 =
    ap (λ (cs : List Cell). length cs) more.1 ∙ length-append h.cells.items more.0 in
    omega (arith, lengths, c.len.ensures, c.len-before.ensures, c.replace.new.cells.ok.0, h.cells.ok.0)

steps : (c : goal.After-push_reserved-2) → c.push_reserved-2.new.self.items ≡ c.self.inside.steps.items ++ length c.replace.ensures.cells.0 ∷ []
steps c = c.push_reserved-2.ensures.items ∙ ap (λ (n : ℕ). c.self.inside.steps.items ++ n ∷ []) (step c)

image : (c : goal.After-push_reserved-2) → (with_items c.self.inside.image c.replace.new.image).items ≡ c.args.values.now
image c =
    let h = c.self.inside in
    let wide = ap (λ (s : Changed). s.width) c.self.view_is in
    with_items_is h.image c.replace.new.image
    (ap (λ (xs : List ℤ). length xs) c.replace.ensures.image ∙ c.requires.len ∙ sym wide ∙ sym h.image.ok.0) ∙ c.replace.ensures.image

pub invariant_of-self-2 : goal.invariant_of-self-2
invariant_of-self-2 c =
    let h = c.self.inside in
    let more = c.replace.ensures.cells in
    ap cells_in (steps c) ∙ cells_in-more h.steps.items (length more.0) ∙ ap (λ (n : ℕ). n + length more.0) c.self.invariant
    ∙ sym (ap (λ (cs : List Cell). length cs) more.1 ∙ length-append h.cells.items more.0)

pub returns : goal.returns
returns c =
    let h = c.self.inside in
    let more = c.replace.ensures.cells in
    let wide = ap (λ (s : Changed). s.width) c.self.view_is in
    let back : given_back more.0 c.args.values.now ≡ h.image.items =
    ap (given_back more.0) (sym c.replace.ensures.image) ∙ more.2 ∙ c.deref_mut.ensures.value in
    λ i. record {
      width = (ap (λ (xs : List ℤ). length xs) (image c) ∙ c.requires.len) i;
      values = ((λ j. values_of (image c j) (more.1 j) (steps c j))
          ∙ values_more c.args.values.now h.image.items h.cells.items more.0 h.steps.items c.self.invariant back
          ∙ ap (λ (s : Changed). s.values ++ c.args.values.now) c.self.view_is) i;
      cells = (c.replace.ensures.capacity ∙ ap (λ (s : Changed). s.cells) c.self.view_is) i;
      steps = (c.push_reserved-2.ensures.capacity ∙ ap (λ (s : Changed). s.steps) c.self.view_is) i;
      free = free_for (length c.push_reserved-2.new.self.items) (vec_capacity c.push_reserved-2.new.self) (vec_capacity c.replace.new.cells - length c.replace.new.cells.items);
    }
