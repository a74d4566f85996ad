-- For the proofs of the numbers: what stands before a reactor, with what stands in it, is within the limits of a program.
use Rattle.std.specs.Prelude.{◌≡◌, ◌+◌, ◌<◌, ◌≤◌, Bool, false, List, length}
use Rattle.std.specs.List.{list_any}
use Rattle.warp_tag.specs.Limits.{widest, most_reactors, most_variables, most_ports, most_actions, most_timers}
use Rattle.warp_prog.specs.File.{NamedStatement, NamedBody, ReactionPart, ReactorPart}
use Rattle.warp_prog.specs.Limits.{body_mosts, cells_of, most_exceeds, statement_mosts, total}
use Rattle.warp_prog.specs.declared.scope.Before.{Before}

-- a loop that may turn too often, or never, in a statement, in a list of statements, and in the reactions of a reactor
abbrev pub loop_exceeds : NamedStatement → Bool
loop_exceeds s = list_any most_exceeds (statement_mosts s)

abbrev pub loops_exceed : NamedBody → Bool
loops_exceed b = list_any most_exceeds (body_mosts b)

abbrev pub its_loops_exceed : ReactorPart → Bool
its_loops_exceed r = list_any (λ (n : ReactionPart). loops_exceed n.body) r.reactions

-- for the numbers of a reactor
pub record HasRoom (b : Before) (r : ReactorPart) : Type 0 where
  pub reactors : b.reactors < most_reactors widest
  pub variables : b.variables + length r.variables ≤ most_variables widest
  pub cells : b.cells + cells_of r.arrays ≤ most_variables widest
  pub ports : b.ports + (length r.inputs + length r.outputs) ≤ most_ports widest
  pub actions : b.actions + length r.actions ≤ most_actions widest
  pub timers : b.timers + length r.timers ≤ most_timers widest
  pub loops : its_loops_exceed r ≡ false

-- for the numbers of these reactors, one after another
pub record HaveRoom (b : Before) (rs : List ReactorPart) : Type 0 where
  pub reactors : b.reactors + length rs ≤ most_reactors widest
  pub variables : b.variables + total (λ r. length r.variables) rs ≤ most_variables widest
  pub cells : b.cells + total (λ r. cells_of r.arrays) rs ≤ most_variables widest
  pub ports : b.ports + total (λ r. length r.inputs + length r.outputs) rs ≤ most_ports widest
  pub actions : b.actions + total (λ r. length r.actions) rs ≤ most_actions widest
  pub timers : b.timers + total (λ r. length r.timers) rs ≤ most_timers widest
  pub loops : list_any its_loops_exceed rs ≡ false
