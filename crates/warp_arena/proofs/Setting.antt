-- What two writes of links do together.
use Rattle.std.proofs.Common.{◌≡◌, ℕ, sym, ap, ◌∙◌}
use Rattle.warp_arena.specs.declared.node.Links.{Links}
use Rattle.warp_arena.specs.declared.node.TheConstants.{NO_NODE}
use Rattle.warp_arena.specs.Shape.{next_in, prev_in}
use Rattle.warp_arena.specs.Changes.{SetsNext, SetsPrev, Skips}

-- the end leads on to what comes after a place, and that leads back to the end
pub Skips-from : (e0 e1 e2 : Links) (l0 l1 l2 : ℕ → Links) (at after : ℕ) → after ≡ next_in e0 l0 at → SetsNext e0 e1 l0 l1 NO_NODE after → SetsPrev e1 e2 l1 l2 after NO_NODE → Skips (next_in e0 l0) (prev_in e0 l0) (next_in e2 l2) (prev_in e2 l2) NO_NODE at
Skips-from e0 e1 e2 l0 l1 l2 at after e s r =
    record {
      into = r.nexts NO_NODE ∙ s.here ∙ e;
      back_into = ap (prev_in e2 l2) (sym e) ∙ r.here;
      nexts = λ i n _. r.nexts i ∙ s.nexts i n;
      prevs = λ i n _. r.prevs i (λ h. n (h ∙ e)) ∙ s.prevs i;
    }
