use Rattle.std.proofs.Common.{◌∙◌, length, ap, sym}
use Rattle.std.specs.Prelude.{nat_lt}
use Rattle.warp_service.proofs.NewsLemmas.{waiting}
use Rattle.warp_service.proofs.news.RefusedRecords.has_room.Goals as goal

pub returns : goal.returns
returns c =
    ap (λ n. nat_lt n 16) (sym (waiting c.self.inside.events c.self.inside.count c.self.invariant.0 c.self.invariant.1)
    ∙ ap length c.self.view_is)
