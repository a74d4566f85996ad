use Rattle.std.proofs.Common.{List, [], ◌∷◌, IsTrue, None, refl, rules}
use Rattle.std.specs.List.{list_all}
use Rattle.warp_step.specs.Run.{is_after}
use Rattle.warp_step.specs.declared.pending.Waiting.{Waiting}
use Rattle.warp_run.proofs.tip.Tip.start.Goals as goal

all_after_none : (ws : List Waiting) → IsTrue (list_all (λ w. is_after None w.tag) ws)
all_after_none [] = refl
all_after_none (w ∷ ws) = all_after_none ws

pub returns : goal.returns
returns c = λ E. record {
  begin = tt;
  rows = refl;
  last = refl;
  state = c.in_ok-start.ensures.state;
  outputs = c.new.ensures.items;
  ready = record { of_program = c.in_ok-start.ensures.of_program; later = all_after_none c.in_ok-start.field-0.pending };
  width = search rules;
  base = search rules;
  floor = refl;
  from = search rules;
  saved = search rules;
  near = search rules;
  due = search rules;
  aside_width = search rules;
  aside = search rules;
  scratch = c.in_ok-new-3.ensures;
}
