-- What a desk's port has fetched of lines that were sent together: for the desk's private functions alone. No contract of a
-- public call cites this.
use Rattle.std.specs.Prelude.{◌≡◌, Bool, true, false, List, ◌++◌, All, length, map}
use Rattle.warp_record.specs.declared.line.Line.{Line}
use Rattle.warp_record.specs.declared.line.Line.TheVariants.{Put, Ask, Collect, Look}
use Rattle.warp_record.specs.declared.reply.Reply.{Reply}
use Rattle.warp_replica.specs.declared.answer.Answer.{Answer}
use Rattle.warp_lanes.specs.Lanes.{PortState, IsAnswer}

-- the line is a look at the board
abbrev pub is_look : Line → Bool
is_look (Look look) = true
is_look (Put said) = false
is_look (Ask asked) = false
is_look Collect = false

-- the port fetched some answers more, of which the last have these replies, and none is missing
abbrev pub FetchesLast : PortState → List Reply → PortState → Type 0
FetchesLast p replies p' =
    (front : List Answer) × (last : List Answer) × (p' ≡ record p { fetched = (p.fetched ++ front) ++ last })
    × (length p'.fetched ≡ length p'.sent) × (replies ≡ map (λ answer. answer.reply) last) × All IsAnswer last
