use Rattle.warp_line.proofs.Rooms.{takes_none}
use Rattle.warp_line.specs.Plain.{room_in}
use Rattle.warp_line.specs.Timeline.{rows_behind}
use Rattle.std.proofs.Common.{None}
use Rattle.warp_line.proofs.PlainLemmas.{few_done}
use Rattle.warp_line.proofs.plain.PlainTimeline.collect.Goals as goal

pub returns-clause-room : goal.returns-clause-room
returns-clause-room c = takes_none (room_in c.args.self.now)

pub returns-clause-behind : goal.returns-clause-behind
returns-clause-behind c = λ m h. few_done c.args.self.now m c.args._below (rows_behind None m.done) c.requires h
