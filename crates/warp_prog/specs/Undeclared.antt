-- A file in which a body uses what its reaction does not declare.
use Rattle.std.specs.Prelude.{Bool, true, not, ◌||◌}
use Rattle.std.specs.List.{list_any}
use Rattle.warp_prog.specs.File.{Word, File, ReactorPart, ReactionPart}
use Rattle.warp_prog.specs.Uses.{Use, Reads, Asks, Sets, Puts, Schedules, Indexes, body_uses, is_among, variable_names}

-- whether a reaction is on a name or reads it
abbrev pub may_read : ReactionPart → Word → Bool
may_read n name = is_among n.triggers name || is_among n.reads name

-- whether a reaction declares a use; a variable and an array need none, also where an input or an action shares its name
abbrev pub is_declared : ReactorPart → ReactionPart → Use → Bool
is_declared r n (Reads name) = is_among (variable_names r) name || may_read n name
is_declared r n (Asks name) = may_read n name
is_declared r n (Sets name) = true
is_declared r n (Puts name) = is_among n.writes name
is_declared r n (Schedules name) = is_among n.writes name
is_declared r n (Indexes name) = true

-- a reaction whose body uses what it does not declare
abbrev pub reaction_undeclared : ReactorPart → ReactionPart → Bool
reaction_undeclared r n = list_any (λ u. not (is_declared r n u)) (body_uses n.body)

-- a file in which such a reaction stands
abbrev pub is_undeclared : File → Bool
is_undeclared f = list_any (λ (r : ReactorPart). list_any (reaction_undeclared r) r.reactions) f.reactors
