-- What a look sees.
use Rattle.std.specs.Prelude.{ℕ, Option, Some, None, List, length, min, slice_get, nat_lt, if◌then◌else◌}
use Rattle.warp_record.specs.declared.line.Look.{Look}
use Rattle.warp_record.specs.declared.line.Look.TheVariants.{Board, Row}
use Rattle.warp_record.specs.declared.reply.Reply.{Reply}
use Rattle.warp_record.specs.declared.reply.Reply.TheVariants as reply
use Rattle.warp_tag.specs.declared.out.Out.{Out}
use Rattle.warp_watch.specs.Shown.{ShownState}

-- the row, if there is one
abbrev pub row_reply : Option Out → Reply
row_reply None = reply.NoRow
row_reply (Some row) = reply.Row row

-- What is answered to a look at what is shown, over a board of so many rows: how many of these there are, and whether they are
-- frozen; or one of them.
abbrev pub look_reply : ℕ → ShownState → Look → Reply
look_reply rows shown Board = reply.Board (min (length shown.rows) rows) shown.frozen
look_reply rows shown (Row number) = row_reply (if nat_lt number rows then slice_get shown.rows number else None)
