-- A text that was cut is heard as it is.
use Rattle.std.proofs.Common.{subst, sym}
use Rattle.warp_record.specs.Lines.{piece_of}
use Rattle.warp_hub.specs.Follow.{Hears, HearsPiece}
use Rattle.warp_hub.proofs.follow.Follower.hear_piece.Goals as goal

pub returns-in-Text-clause-hears : goal.returns-in-Text-clause-hears
returns-in-Text-clause-hears c =
    subst (λ fed. HearsPiece c.args.self.now (piece_of fed) c.args.handed.now.items c.hear.result c.hear.new.self c.hear.new.handed.items)
    (sym c.in-Text.is)
    (subst (λ line. Hears c.args.self.now line c.args.handed.now.items c.hear.result c.hear.new.self c.hear.new.handed.items) c.deref.ensures.0
    c.hear.ensures.hears)
