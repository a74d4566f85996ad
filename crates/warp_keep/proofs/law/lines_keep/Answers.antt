use Rattle.warp_keep.proofs.Steps.{closes_jointly_keep, closes_keep, closes_reached, closes_reached_jointly, sends_keep, sends_new, takes_keep}
use Rattle.warp_keep.proofs.law.lines_keep.Goals as goal

pub returns-clause-takes : goal.returns-clause-takes
returns-clause-takes c = takes_keep

pub returns-clause-closes : goal.returns-clause-closes
returns-clause-closes c = closes_keep

pub returns-clause-closes_jointly : goal.returns-clause-closes_jointly
returns-clause-closes_jointly c = closes_jointly_keep

pub returns-clause-sends : goal.returns-clause-sends
returns-clause-sends c = sends_keep

pub returns-clause-reached : goal.returns-clause-reached
returns-clause-reached c = closes_reached

pub returns-clause-reached_jointly : goal.returns-clause-reached_jointly
returns-clause-reached_jointly c = closes_reached_jointly

pub returns-clause-new : goal.returns-clause-new
returns-clause-new c = sends_new
