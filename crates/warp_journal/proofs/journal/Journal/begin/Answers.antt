-- the first line alone is a journal
use Rattle.std.proofs.Common.{[], refl}
use Rattle.warp_journal.specs.Journal.IsJournal.{Begun}
use Rattle.warp_journal.proofs.journal.Journal.begin.Goals as goal

pub returns : goal.returns
returns c = record {
  is_journal = Begun;
  sum = c.update-2.ensures c.args.first.now (c.update.ensures [] c.new-sum.ensures);
  count = refl;
  seconds = c.starts_with.ensures.value;
}
