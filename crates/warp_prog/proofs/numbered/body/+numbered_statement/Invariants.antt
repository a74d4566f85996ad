-- the statements so far are numbered
use Rattle.std.proofs.Common.{◌≡◌, map, take}
use Rattle.warp_body.specs.Effect.{statement_of}
use Rattle.warp_prog.specs.Numbered.{numbered_statement}
use Rattle.warp_prog.specs.View.{reactor_tree, statement_tree}
use Rattle.warp_prog.proofs.numbered.body.+numbered_statement.Given as goal

abbrev pub invariant-numbered_body-loop-statement : goal.invariant-numbered_body-loop-statement
invariant-numbered_body-loop-statement l =
    map statement_of l.numbered.items ≡ map (λ s. numbered_statement l.before (reactor_tree l.reactor) (statement_tree s)) (take l.statement-index l.body)
