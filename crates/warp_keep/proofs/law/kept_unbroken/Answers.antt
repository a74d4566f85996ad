use Rattle.warp_table.specs.Records.{set_of}
use Rattle.warp_keep.proofs.Unbroken.{none_broken, part_whole}
use Rattle.warp_keep.proofs.UnbrokenJointly.{none_broken_jointly}
use Rattle.warp_keep.proofs.law.kept_unbroken.Goals as goal

pub returns-clause-own : goal.returns-clause-own
returns-clause-own c = none_broken

pub returns-clause-jointly : goal.returns-clause-jointly
returns-clause-jointly c = none_broken_jointly

pub returns-clause-part : goal.returns-clause-part
returns-clause-part c = λ S log origin whole has. part_whole S (set_of log) origin whole has
