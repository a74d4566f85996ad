-- The withdrawal is noted at the place of the name.
use Rattle.warp_tag.specs.Table.{with_withdrawal}
use Rattle.warp_tag.proofs.Tables.{with_withdrawal_names}
use Rattle.warp_line.proofs.TableLemmas.{noted}
use Rattle.warp_line.proofs.sorted_names.note_withdrawal.Goals as goal

pub returns : goal.returns
returns c =
    let n = noted with_withdrawal with_withdrawal_names c.args.origin c.args.tag c.args.entries.now.items c.enter_name-at.new.entries.items c.enter_name-at.result
    c.index_mut.result.now c.withdraw.new.self c.requires.table c.enter_name-at.ensures.entry c.enter_name-at.ensures.change c.index_mut.ensures.value c.withdraw.ensures.entry in
    record {
      table = n.table;
      ordered = n.ordered;
      same = λ r. n.stays (c.withdraw.ensures.same r);
      changes = λ r h. c.withdraw.ensures.changes r (n.shows h);
      capacity = c.enter_name-at.ensures.capacity;
    }
