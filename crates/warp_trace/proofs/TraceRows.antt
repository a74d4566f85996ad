-- The line of a row, from what was written before its step and after it.
use Rattle.std.proofs.Common.{◌≡◌, ◌∙◌, ℕ, ℤ, ◌+◌, Bool, List, ◌++◌, length, sym, ap, append_assoc}
use Rattle.warp_tag.specs.Moment.{Moment, is_before}
use Rattle.warp_tag.specs.Table.{Event}
use Rattle.warp_tag.specs.declared.out.Out.{Out}
use Rattle.warp_step.specs.Program.{Program}
use Rattle.warp_step.specs.Snapshot.{Snapshot}
use Rattle.warp_step.specs.Step.{state_after, outputs_after}
use Rattle.warp_step.specs.declared.given_input.Given.{Given}
use Rattle.warp_trace.specs.Labels.{Names}
use Rattle.warp_trace.specs.Trace.{came, changed, changed_part, due, due_part, events_part, outputs_part, pending_part, put, released_part, tag_part}
use Rattle.warp_trace.specs.inner.Tracing.{TellsRow}

-- three pieces behind a text, the last one of two parts
pub three_pieces : (t0 a b c d t1 t2 t3 : List ℕ) → t1 ≡ t0 ++ a → t2 ≡ t1 ++ b → t3 ≡ t2 ++ (c ++ d) → t3 ≡ t0 ++ (((a ++ b) ++ c) ++ d)
three_pieces t0 a b c d t1 t2 t3 e f g =
    g ∙ ap (λ l. l ++ (c ++ d)) f ∙ ap (λ l. (l ++ b) ++ (c ++ d)) e ∙ ap (λ l. l ++ (c ++ d)) (append_assoc t0 a b)
    ∙ append_assoc t0 (a ++ b) (c ++ d) ∙ ap (λ l. t0 ++ l) (sym (append_assoc (a ++ b) c d))

-- a piece of three parts, and one of four
pub both_halves : (told mid end a b c d e f g : List ℕ) → mid ≡ told ++ ((a ++ b) ++ c) → end ≡ mid ++ (((d ++ e) ++ f) ++ g)
    → end ≡ told ++ ((((((a ++ b) ++ c) ++ d) ++ e) ++ f) ++ g)
both_halves told mid end a b c d e f g is then =
    let front = (a ++ b) ++ c in
    let rest = ((d ++ e) ++ f) ++ g in
    then ∙ ap (λ l. l ++ rest) is ∙ append_assoc told front rest
    ∙ ap (λ l. told ++ l) (sym (append_assoc front ((d ++ e) ++ f) g) ∙ ap (λ l. l ++ g) (sym (append_assoc front (d ++ e) f)) ∙ ap (λ l. (l ++ f) ++ g) (sym (append_assoc front d e)))

-- what is written after the step
abbrev after_step : Names → List ℤ → Snapshot → List Out → Bool → List ℕ
after_step names vars s outs flag =
    ((changed_part names (changed vars s.vars) ++ outputs_part names (put outs)) ++ pending_part (length s.pending)) ++ released_part flag

pub tells_row : (names : Names) (P : Program) (h t : Moment) (events : List Event) (X : List Given) (s s' : Snapshot) (told mid end : List ℕ) (ticks ticks' : ℕ)
    (vars : List ℤ) (outs : List Out) (flag : Bool)
    → s' ≡ state_after P s t X → vars ≡ s.vars → outs ≡ outputs_after P s t X → flag ≡ is_before t h
    → mid ≡ told ++ ((tag_part t ++ events_part names (came P events)) ++ due_part names (due t s))
    → end ≡ mid ++ (((changed_part names (changed vars s'.vars) ++ outputs_part names (put outs)) ++ pending_part (length s'.pending)) ++ released_part flag)
    → ticks' ≡ ticks + 1 → TellsRow names P h t events X s s' told end ticks ticks'
tells_row names P h t events X s s' told mid end ticks ticks' vars outs flag state was put_is before first second tick =
    let new = state_after P s t X in
    let made = outputs_after P s t X in
    let then : end ≡ mid ++ after_step names s.vars new made (is_before t h) = second
    ∙ ap (λ v. mid ++ after_step names v s' outs flag) was ∙ ap (λ x. mid ++ after_step names s.vars x outs flag) state
    ∙ ap (λ o. mid ++ after_step names s.vars new o flag) put_is ∙ ap (λ b. mid ++ after_step names s.vars new made b) before in
    record {
      state = state;
      text = both_halves told mid end (tag_part t) (events_part names (came P events)) (due_part names (due t s)) (changed_part names (changed s.vars new.vars))
          (outputs_part names (put made)) (pending_part (length new.pending)) (released_part (is_before t h)) first then;
      ticked = tick;
    }
