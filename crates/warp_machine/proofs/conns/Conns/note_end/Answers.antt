use Rattle.std.proofs.Common.{◌∙◌}
use Rattle.warp_machine.proofs.Keepings.{same_place}
use Rattle.warp_machine.proofs.conns.Conns.note_end.Goals as goal

pub returns-then-note_end : goal.returns-then-note_end
returns-then-note_end c = same_place c.args.self.now.all.items c.in-Some.at c.index_mut.result.now c.note_end.new.self c.index_mut.ensures.value c.note_end.ensures

pub returns : goal.returns
returns c = c.want.ensures ∙ same_place c.args.self.now.all.items c.in-Some.at c.index_mut.result.now c.note_end.new.self c.index_mut.ensures.value c.note_end.ensures
