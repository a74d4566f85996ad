use Rattle.warp_clients.specs.Tale.{room_steps}
use Rattle.warp_machine.proofs.law.kept_at_host.Goals as goal

pub returns-clause-same : goal.returns-clause-same
returns-clause-same g c = λ s s' life.
    c.kept_stays.ensures.same (room_steps life.steps) s.room s'.room (c.what_is_told.ensures.room life.steps s s' life.runs)

pub returns-clause-unbroken : goal.returns-clause-unbroken
returns-clause-unbroken g c = λ s s' origin life is whole.
    c.kept_stays.ensures.unbroken (room_steps life.steps) s.room s'.room origin
    (c.what_is_told.ensures.room life.steps s s' life.runs) is whole

pub returns-clause-released : goal.returns-clause-released
returns-clause-released g c = λ s s' S U a b life kept all allowed inner outer first second.
    c.kept_stays.ensures.released (room_steps life.steps) s.room s'.room S U a b
    (c.what_is_told.ensures.room life.steps s s' life.runs) kept all allowed inner outer first second
