-- Where the parts of a reactor stand in its program, and that its names stand for them.
use Rattle.std.proofs.Common.{◌≡◌, ℕ, ◌+◌, Bool, true, false, not, ◌&&◌, ◌||◌, ◌==◌, List, ◌∷◌, ◌++◌, length, drop, ap, sym, ◌∙◌, refl, append_assoc, unsigned_abs, eq-eqb, lt-ltb, nat_lt, length-append, arith}
use Rattle.std.specs.List.{list_any, list_all}
use Rattle.std.proofs.lemmas.Bool.{and_parts, cond_both, not-true}
use Rattle.std.proofs.lemmas.List.{length-map}
use Rattle.warp_body.specs.declared.place.Target.TheVariants as to
use Rattle.warp_step.specs.Program.{Program}
use Rattle.warp_step.specs.Valid.{has, owns_cells, owns_variable, is_readable, is_writable}
use Rattle.warp_step.specs.declared.parts.Variable.{Variable}
use Rattle.warp_step.specs.declared.parts.Port.{Port}
use Rattle.warp_step.specs.declared.parts.Action.{Action}
use Rattle.warp_step.specs.declared.parts.Timer.{Timer}
use Rattle.warp_prog.specs.File.{Word, ReactorPart}
use Rattle.warp_prog.specs.Limits.{array_exceeds, cells_of}
use Rattle.warp_prog.specs.Uses.{is_among, variable_names, array_names, action_names, timer_names}
use Rattle.warp_prog.specs.Numbered.{past, in_each, its_variables, its_cells, its_ports, its_actions, its_timers, variable_number, first_cell, cell_count, input_number, output_number, action_number, timer_number, readable, writable, place_among}
use Rattle.warp_prog.specs.declared.file.VariablePart.{VariablePart}
use Rattle.warp_prog.specs.declared.file.ActionPart.{ActionPart}
use Rattle.warp_prog.specs.declared.file.TimerPart.{TimerPart}
use Rattle.warp_prog.specs.declared.scope.Before.{Before}
use Rattle.warp_prog.proofs.ArrayLemmas.{arrays_fit, length-cells, owned}
use Rattle.warp_prog.proofs.Has.{drop-past, has-drop, has-found, has-first, has-second}

-- After so much of the program there stand the parts of these reactors, which are its last; behind their variables stand cells. Their
-- arrays are within the limits.
pub record Stands (P : Program) (b : Before) (rs : List ReactorPart) : Type 0 where
  pub reactors : b.reactors + length rs ≡ P.reactors
  pub rest : List Variable
  pub variables : drop b.variables P.variables ≡ in_each its_variables b rs ++ rest
  pub cells : drop b.cells P.variables ≡ in_each its_cells b rs
  pub right : list_all arrays_fit rs ≡ true
  pub ports : drop b.ports P.ports ≡ in_each its_ports b rs
  pub actions : drop b.actions P.actions ≡ in_each its_actions b rs
  pub timers : drop b.timers P.timers ≡ in_each its_timers b rs

length-ports : (b : Before) (r : ReactorPart) → length (its_ports b r) ≡ length r.inputs + length r.outputs
length-ports b r = simp (length-append, length-map)

-- and so do those after the first reactor
pub stand_past : (P : Program) (b : Before) (r : ReactorPart) (rs : List ReactorPart) → Stands P b (r ∷ rs) → Stands P (past b r) rs
stand_past P b r rs s = record {
  reactors = (let h = s.reactors in omega arith);
  rest = s.rest;
  variables = drop-past P.variables (its_variables b r) (in_each its_variables (past b r) rs ++ s.rest) b.variables (length r.variables)
      (s.variables ∙ append_assoc (its_variables b r) (in_each its_variables (past b r) rs) s.rest) (simp length-map);
  cells = drop-past P.variables (its_cells b r) (in_each its_cells (past b r) rs) b.cells (cells_of r.arrays) s.cells
      (length-cells b r.arrays (not-true (list_any array_exceeds r.arrays) (and_parts (arrays_fit r) (list_all arrays_fit rs) s.right).0));
  right = (and_parts (arrays_fit r) (list_all arrays_fit rs) s.right).1;
  ports = drop-past P.ports (its_ports b r) (in_each its_ports (past b r) rs) b.ports (length r.inputs + length r.outputs) s.ports (length-ports b r);
  actions = drop-past P.actions (its_actions b r) (in_each its_actions (past b r) rs) b.actions (length r.actions) s.actions (simp length-map);
  timers = drop-past P.timers (its_timers b r) (in_each its_timers (past b r) rs) b.timers (length r.timers) s.timers (simp length-map);
}

-- an element of what is left
pub has-left : {X : Type 0} (all rest : List X) (k n : ℕ) (q : X → Bool) → drop k all ≡ rest → has rest n q ≡ true → has all (k + n) q ≡ true
has-left all rest k n q e h = has-drop all k n q ∙ ap (λ xs. has xs n q) e ∙ h

same : (n : ℕ) → (n == n) ≡ true
same n = eq-eqb n n refl

module _ (P : Program) (b : Before) (r : ReactorPart) (rs : List ReactorPart) (s : Stands P b (r ∷ rs)) where
  -- the reactor is one of the program's
  pub reactor-there : nat_lt b.reactors P.reactors ≡ true
  reactor-there = let h : b.reactors + length (r ∷ rs) ≡ P.reactors = s.reactors in lt-ltb b.reactors P.reactors (omega arith)

  -- the number of a variable's name is one of the reactor's variables
  pub has_variable : (name : Word) → is_among (variable_names r) name ≡ true → owns_variable P b.reactors (variable_number b r name) ≡ true
  has_variable name h =
      has-left P.variables (its_variables b r ++ (in_each its_variables (past b r) rs ++ s.rest)) b.variables (place_among (variable_names r) name)
      (λ (v : Variable). v.reactor == b.reactors) (s.variables ∙ append_assoc (its_variables b r) (in_each its_variables (past b r) rs) s.rest)
      (has-found (λ (v : VariablePart). v.name)
      (λ (v : VariablePart). record { reactor = b.reactors; is_told = not (is_among r.hidden v.name); start = v.start })
      (λ (v : Variable). v.reactor == b.reactors) name (λ x e. same b.reactors) r.variables (in_each its_variables (past b r) rs ++ s.rest) h)

  -- and the cells of an array's name are all the reactor's
  pub has_cells : (name : Word) → is_among (array_names r) name ≡ true → owns_cells P b.reactors (first_cell b r name) (cell_count r name) ≡ true
  has_cells name h =
      owned P.variables b r.arrays (in_each its_cells (past b r) rs) b.cells name
      (not-true (list_any array_exceeds r.arrays) (and_parts (arrays_fit r) (list_all arrays_fit rs) s.right).0) s.cells h

  -- that of an action's name is one of its actions, and of a timer's one of its timers
  pub has_action : (name : Word) → is_among (action_names r) name ≡ true →
      has P.actions (action_number b r name) (λ a. a.reactor == b.reactors) ≡ true
  has_action name h =
      has-left P.actions (its_actions b r ++ in_each its_actions (past b r) rs) b.actions (place_among (action_names r) name)
      (λ (a : Action). a.reactor == b.reactors) s.actions
      (has-found (λ (a : ActionPart). a.name) (λ (a : ActionPart). record { reactor = b.reactors; delay = unsigned_abs a.delay })
      (λ (a : Action). a.reactor == b.reactors) name (λ x e. same b.reactors) r.actions (in_each its_actions (past b r) rs) h)

  pub has_timer : (name : Word) → is_among (timer_names r) name ≡ true →
      has P.timers (timer_number b r name) (λ t. t.reactor == b.reactors) ≡ true
  has_timer name h =
      has-left P.timers (its_timers b r ++ in_each its_timers (past b r) rs) b.timers (place_among (timer_names r) name)
      (λ (t : Timer). t.reactor == b.reactors) s.timers
      (has-found (λ (t : TimerPart). t.name)
      (λ (t : TimerPart). record { reactor = b.reactors; offset = unsigned_abs t.offset; period = unsigned_abs t.period })
      (λ (t : Timer). t.reactor == b.reactors) name (λ x e. same b.reactors) r.timers (in_each its_timers (past b r) rs) h)

  has_port : (n : ℕ) (q : Port → Bool) → has (its_ports b r ++ in_each its_ports (past b r) rs) n q ≡ true → has P.ports (b.ports + n) q ≡ true
  has_port n q h = has-left P.ports (its_ports b r ++ in_each its_ports (past b r) rs) b.ports n q s.ports h

  -- that of an input's name is one of its input ports, and of an output's one of its output ports
  pub has_input : (name : Word) → is_among r.inputs name ≡ true →
      has P.ports (input_number b r name) (λ p. p.is_input && p.reactor == b.reactors) ≡ true
  has_input name h =
      has_port (place_among r.inputs name) (λ p. p.is_input && p.reactor == b.reactors)
      (has-first (λ (n : Word). record { reactor = b.reactors; is_input = true }) (λ (n : Word). record { reactor = b.reactors; is_input = false })
      (λ (p : Port). p.is_input && p.reactor == b.reactors) r.inputs r.outputs (in_each its_ports (past b r) rs) name (λ n e. same b.reactors) h)

  pub has_output : (name : Word) → is_among r.outputs name ≡ true →
      has P.ports (output_number b r name) (λ p. not p.is_input && p.reactor == b.reactors) ≡ true
  has_output name h =
      has_port (length r.inputs + place_among r.outputs name) (λ p. not p.is_input && p.reactor == b.reactors)
      (has-second (λ (n : Word). record { reactor = b.reactors; is_input = true }) (λ (n : Word). record { reactor = b.reactors; is_input = false })
      (λ (p : Port). not p.is_input && p.reactor == b.reactors) r.inputs r.outputs (in_each its_ports (past b r) rs) name (λ n e. same b.reactors) h)

  -- what a name stands for may be read by the reactor
  pub is_read : (name : Word) → is_readable P b.reactors (readable b r name) ≡ true
  is_read name =
      cond_both (is_among r.inputs name) (to.Port (input_number b r name)) _ (λ t. is_readable P b.reactors t ≡ true) (λ h. has_input name h)
      (λ e. cond_both (is_among (action_names r) name) (to.Action (action_number b r name)) _ (λ t. is_readable P b.reactors t ≡ true) (λ h. has_action name h)
      (λ e. cond_both (is_among (timer_names r) name) (to.Timer (timer_number b r name)) to.Startup (λ t. is_readable P b.reactors t ≡ true) (λ h. has_timer name h)
      (λ e. refl)))

  -- and written, if it is the name of an output or an action
  pub is_written : (name : Word) → (is_among r.outputs name || is_among (action_names r) name) ≡ true → is_writable P b.reactors (writable b r name) ≡ true
  is_written name h =
      cond_both (is_among r.outputs name) (to.Port (output_number b r name)) (to.Action (action_number b r name)) (λ t. is_writable P b.reactors t ≡ true)
      (λ so. has_output name so) (λ not_so. has_action name (sym (ap (λ o. o || is_among (action_names r) name) not_so) ∙ h))
