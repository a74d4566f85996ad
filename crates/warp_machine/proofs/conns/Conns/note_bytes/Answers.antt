use Rattle.warp_machine.proofs.Keepings.{same_place}
use Rattle.warp_machine.proofs.conns.Conns.note_bytes.Goals as goal

pub returns : goal.returns
returns c = same_place c.args.self.now.all.items c.in-Some.at c.index_mut.result.now c.note_bytes.new.self c.index_mut.ensures.value c.note_bytes.ensures
