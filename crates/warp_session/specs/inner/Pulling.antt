-- How a pull goes on or ends behind one call: for its loop and the calls inside it alone. No contract of a public call cites this.
use Rattle.std.specs.Prelude.{◌≡◌, ℕ, ◌≤◌}
use Rattle.warp_exchange.specs.declared.puller.Pulled.{Pulled}
use Rattle.warp_exchange.specs.declared.puller.Pulled.TheVariants as pulled
use Rattle.warp_session.specs.declared.pulling.PullEnd.{PullEnd}
use Rattle.warp_session.specs.declared.pulling.PullEnd.TheVariants as end
use Rattle.warp_exchange.specs.Pulls.{passes}

-- what an outcome, of which so many of the last were level, ends with
abbrev pub EndsBehind : ℕ → ℕ → Pulled → PullEnd → Type 0
EndsBehind quiet levels pulled.Level ended = (ended ≡ end.Quiet) × (quiet ≤ levels)
EndsBehind quiet levels pulled.Strange ended = ended ≡ end.Strange
EndsBehind quiet levels (pulled.Held refusal) ended = (ended ≡ end.Held refusal) × (passes refusal → ⊥)
EndsBehind quiet levels pulled.Got ended = ⊥

-- the connection ended it: a read or a write failed, or the bytes ended
abbrev pub IsCut : PullEnd → Type 0
IsCut end.Fault = Unit {0}
IsCut end.End = Unit {0}
IsCut other = ⊥

-- the same question is asked again behind this outcome, and so after a pause: all is there for now, or a refusal passes
abbrev pub Rests : Pulled → Type 0
Rests pulled.Level = Unit {0}
Rests (pulled.Held refusal) = passes refusal
Rests other = ⊥
