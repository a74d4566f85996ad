-- One count of a reactor serves seven limits: for the proof of that count alone.
use Rattle.std.specs.Prelude.{ℕ, ◌+◌, length}
use Rattle.warp_tag.specs.Limits.{most_ports, most_reactions, most_actions, most_timers}
use Rattle.warp_tag.specs.declared.form.Form.{Form}
use Rattle.warp_prog.specs.File.{ReactorPart}
use Rattle.warp_prog.specs.Limits.{cells_of, most_arrays, most_cells, most_scalars}
use Rattle.warp_prog.specs.declared.limits.LimitedThings.{LimitedThings}
use Rattle.warp_prog.specs.declared.limits.LimitedThings.TheVariants.{Variables, Arrays, Cells, Ports, Actions, Timers, Reactions}

-- how many things of a kind a reactor has
abbrev pub count_of : LimitedThings → ReactorPart → ℕ
count_of Variables r = length r.variables
count_of Arrays r = length r.arrays
count_of Cells r = cells_of r.arrays
count_of Ports r = length r.inputs + length r.outputs
count_of Actions r = length r.actions
count_of Timers r = length r.timers
count_of Reactions r = length r.reactions

-- how many of a kind all reactors of a file of this form may have together
abbrev pub most_of : LimitedThings → Form → ℕ
most_of Variables form = most_scalars form
most_of Arrays form = most_arrays form
most_of Cells form = most_cells form
most_of Ports form = most_ports form
most_of Actions form = most_actions form
most_of Timers form = most_timers form
most_of Reactions form = most_reactions form
