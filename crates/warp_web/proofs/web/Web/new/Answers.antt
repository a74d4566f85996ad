use Rattle.warp_web.proofs.WebLemmas.{speaks_new}
use Rattle.warp_web.proofs.web.Web.new.Goals as goal

pub returns : goal.returns
returns c = speaks_new _ c.new.ensures c.new-2.ensures c.new-3.ensures c.new-4.ensures c.new-5.ensures
