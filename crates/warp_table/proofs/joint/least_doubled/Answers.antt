-- one origin more has two payloads of a name, or none
use Rattle.std.proofs.Common.{◌+◌, Option, List, take, subst, sym, arith}
use Rattle.std.proofs.lemmas.List.{take_all}
use Rattle.warp_tag.specs.Moment.{Moment}
use Rattle.warp_table.specs.inner.Heard.{Heard}
use Rattle.warp_table.specs.inner.Joint.{IsLeastOf}
use Rattle.warp_table.proofs.JointLeast.{least_more, least_none}
use Rattle.warp_table.proofs.joint.least_doubled.Goals as goal

pub loop-announcer-init : goal.loop-announcer-init
loop-announcer-init c = least_none

pub loop-announcer-preserved : goal.loop-announcer-preserved
loop-announcer-preserved c =
    let l = c.loop-announcer in
    subst (λ (d : Option Moment). IsLeastOf (take (l.announcer-index + 1) c.args.announcers.now) d) (sym c.with_doubled-least.ensures)
    (least_more c.args.announcers.now l.least l.announcer-index c.announcer-item.result (omega arith) c.announcer-item.is l.invariant)

pub returns : goal.returns
returns c =
    let l = c.loop-announcer in
    subst (λ (hs : List Heard). IsLeastOf hs l.least) (take_all l.announcer-index c.args.announcers.now (omega arith)) l.invariant
