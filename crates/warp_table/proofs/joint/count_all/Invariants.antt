use Rattle.std.proofs.Common.{◌≡◌, ◌+◌, drop}
use Rattle.warp_table.specs.inner.Heard.{count_before}
use Rattle.warp_table.specs.inner.Joint.{all_tags}
use Rattle.warp_table.proofs.joint.count_all.Given as goal

-- the origins stay, and what is counted and what is left to count is all
abbrev pub invariant-loop-announcer : goal.invariant-loop-announcer
invariant-loop-announcer l = record {
  same : l.announcers ≡ l.initial.announcers;
  counted : l.count + count_before l.tag (all_tags l.kind (drop l.announcer-index l.initial.announcers)) ≡ count_before l.tag (all_tags l.kind l.initial.announcers);
}
