-- The front and the rest decide.
use Rattle.std.proofs.Common.{◌++◌, codes}
use Rattle.warp_pages.proofs.JoinedTexts.{else_is, then_is}
use Rattle.warp_pages.proofs.names.is_page_joined.Goals as goal

pub returns-then-eq : goal.returns-then-eq
returns-then-eq c =
    then_is c.args.text.now (codes "http://") (c.args.name.now ++ c.args.behind.now) c.split_at.result.0.now c.split_at.result.1.now
    c.min.result c.eq.result c.is_joined.result c.min.ensures c.split_at.ensures.front c.split_at.ensures.back c.eq.ensures c.if-eq.true
    c.is_joined.ensures

pub returns-else-eq : goal.returns-else-eq
returns-else-eq c =
    else_is c.args.text.now (codes "http://") (c.args.name.now ++ c.args.behind.now) c.split_at.result.0.now c.split_at.result.1.now
    c.min.result c.eq.result c.min.ensures c.split_at.ensures.front c.split_at.ensures.back c.eq.ensures c.if-eq.false
