-- whether the entry at the place is at the key says how the new one comes in
use Rattle.std.proofs.Common.{◌<◌, ◌≤◌, length, arith}
use Rattle.warp_step.proofs.PendingLemmas.{comes_in, comes_last}
use Rattle.warp_step.proofs.pending.is_there.Goals as goal

pub returns-then-at-entries-clause-answer : goal.returns-then-at-entries-clause-answer
returns-then-at-entries-clause-answer c =
    let within : c.args.at < length c.args.entries.now = omega arith in
    (comes_in c.args.tag c.args.target c.args.entries.now c.args.at c.index-entries-at.result c.is_at.result c.requires.order c.requires.place within c.index-entries-at.is c.is_at.ensures).answer

pub returns-then-at-entries-clause-entries : goal.returns-then-at-entries-clause-entries
returns-then-at-entries-clause-entries c =
    let within : c.args.at < length c.args.entries.now = omega arith in
    (comes_in c.args.tag c.args.target c.args.entries.now c.args.at c.index-entries-at.result c.is_at.result c.requires.order c.requires.place within c.index-entries-at.is c.is_at.ensures).entries

pub returns-else-at-entries-clause-answer : goal.returns-else-at-entries-clause-answer
returns-else-at-entries-clause-answer c =
    let past : length c.args.entries.now ≤ c.args.at = omega arith in
    (comes_last c.args.tag c.args.target c.args.entries.now c.args.at c.requires.order c.requires.place past).answer

pub returns-else-at-entries-clause-entries : goal.returns-else-at-entries-clause-entries
returns-else-at-entries-clause-entries c =
    let past : length c.args.entries.now ≤ c.args.at = omega arith in
    (comes_last c.args.tag c.args.target c.args.entries.now c.args.at c.requires.order c.requires.place past).entries
