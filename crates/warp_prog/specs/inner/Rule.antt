-- One walk over a body serves two tests of its uses, and one test of names each role: for the proofs of these alone.
use Rattle.std.specs.Prelude.{Bool, true, false, not, ◌&&◌, ◌||◌, List, map, bytes_eq}
use Rattle.std.specs.List.{list_any}
use Rattle.warp_prog.specs.File.{Word, ReactorPart, ReactionPart, NamedBody}
use Rattle.warp_prog.specs.View.{reactor_tree, reaction_tree, body_tree, statement_tree}
use Rattle.warp_prog.specs.Names.{is_thing, is_written, reaction_unknown}
use Rattle.warp_prog.specs.Undeclared.{may_read, reaction_undeclared}
use Rattle.warp_prog.specs.Uses.{Use, Reads, Asks, Sets, Puts, Schedules, Indexes, body_uses, is_among, variable_names, array_names, action_names, carries_value, is_trigger}
use Rattle.warp_prog.specs.declared.file.PortName.{PortName}
use Rattle.warp_prog.specs.declared.file.Statement.{Statement}
use Rattle.warp_prog.specs.declared.role.Role.{Role}
use Rattle.warp_prog.specs.declared.role.Role.TheVariants as role
use Rattle.warp_prog.specs.declared.uses.Rule.{Rule}
use Rattle.warp_prog.specs.declared.uses.Rule.TheVariants.{Known, Declared}

-- whether a name stands for a thing of the reactor that its role asks
abbrev pub fits : Role → ReactorPart → Word → Bool
fits role.Value r name = is_among (variable_names r) name || carries_value r name
fits role.Cause r name = is_trigger r name
fits role.Variable r name = is_among (variable_names r) name
fits role.Output r name = is_among r.outputs name
fits role.Action r name = is_among (action_names r) name
fits role.Written r name = is_written r name
fits role.Input r name = is_among r.inputs name
fits role.Array r name = is_among (array_names r) name
fits role.Thing r name = is_thing r name

-- whether a reaction declares what a body does with a name in this role; true of a variable that is read or set, and in
-- the roles that no body uses
abbrev pub declares : Role → ReactorPart → ReactionPart → Word → Bool
declares role.Value r n name = is_among (variable_names r) name || may_read n name
declares role.Cause r n name = may_read n name
declares role.Variable r n name = true
declares role.Output r n name = is_among n.writes name
declares role.Action r n name = is_among n.writes name
declares role.Written r n name = true
declares role.Input r n name = true
declares role.Array r n name = true
declares role.Thing r n name = true

-- whether a name in this role is as a rule asks
abbrev pub meets : Rule → Role → Word → Bool
meets (Known r) p name = fits p (reactor_tree r.now) name
meets (Declared r n) p name = declares p (reactor_tree r.now) (reaction_tree n.now) name

-- whether a use passes a test of names in roles: each kind of use has a role
abbrev pub in_role : (Role → Word → Bool) → Use → Bool
in_role test (Reads name) = test role.Value name
in_role test (Asks name) = test role.Cause name
in_role test (Sets name) = test role.Variable name
in_role test (Puts name) = test role.Output name
in_role test (Schedules name) = test role.Action name
in_role test (Indexes name) = test role.Array name

-- whether some use is not as a rule asks
abbrev pub breaks : Rule → List Use → Bool
breaks rule us = list_any (λ u. not (in_role (λ p name. meets rule p name) u)) us

-- whether a name in a reaction has not its role
abbrev pub unknown_in_role : ReactorPart → ReactionPart → Bool
unknown_in_role r n =
    list_any (λ name. not (fits role.Cause r name)) n.triggers
    || list_any (λ name. not (fits role.Cause r name)) n.reads
    || list_any (λ name. not (fits role.Written r name)) n.writes
    || list_any (λ u. not (in_role (λ p name. fits p r name) u)) (body_uses n.body)

-- of a reaction whose names are known, whether its body uses what it does not declare; of another, whether one is not known
abbrev pub reaction_breaks : Bool → ReactorPart → ReactionPart → Bool
reaction_breaks true = reaction_undeclared
reaction_breaks false = reaction_unknown

-- whether some reactor of the port's name has it in this role
abbrev pub has_port : Role → List ReactorPart → PortName → Bool
has_port p rs port = list_any (λ (r : ReactorPart). bytes_eq port.reactor r.name && fits p r port.port) rs

-- the body that statements of the code stand for
abbrev pub statements_tree : List Statement → NamedBody
statements_tree ss = body_tree (map statement_tree ss)
