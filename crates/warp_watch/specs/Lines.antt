-- The lines of what is told, and where pages end.
use Rattle.std.specs.Prelude.{ℕ, ℤ, zero, suc, ◌+◌, ◌-◌, Bool, List, [], ◌∷◌, ◌++◌, map, length, take, drop, min, max, codes}
use Rattle.std.specs.Prelude.{decimal, Option, Some, None, ◌==◌, if◌then◌else◌}
use Rattle.std.specs.Fmt.{signed_decimal}
use Rattle.std.specs.List.{join_with_byte}
use Rattle.warp_tag.specs.Moment.{Moment}
use Rattle.warp_tag.specs.declared.out.Out.{Out}
use Rattle.warp_record.specs.declared.record.Record.{Record}
use Rattle.warp_record.specs.Record.{record_words, tag_words}
use Rattle.warp_record.specs.Reply.{out_words, reply_line}
use Rattle.warp_record.specs.declared.reply.Refusal.TheVariants.{NoOrigin, NoVar}
use Rattle.warp_record.specs.declared.reply.Reply.TheVariants.{Refused}
use Rattle.warp_step.specs.Program.{Program}
use Rattle.warp_step.specs.Events.{is_declared}
use Rattle.warp_table.specs.declared.table.NameCounts.{NameCounts}

-- a line: its words, with one space between two, and a line feed
abbrev pub line_of : List (List ℕ) → List ℕ
line_of words = join_with_byte 32 words ++ 10 ∷ []

-- how many lines a page has at most
abbrev pub page : ℕ
page = 256

-- where a page ends at the latest: behind what is there, and where it is limited at its limit
abbrev pub page_limit : ℕ → ℕ → ℕ
page_limit end until = if until == 0 then end else min end until

-- how many lines a page has that begins at this place
abbrev pub page_count : ℕ → ℕ → ℕ → ℕ
page_count end from until = min page (page_limit end until - from)

-- the first place of a page of the log: places count from 1
abbrev pub first_place : ℕ → ℕ
first_place from = max 1 from

-- the origins below this number that are broken, in rising order
abbrev pub broken_below : (ℕ → Bool) → ℕ → List ℕ
broken_below broken zero = []
broken_below broken (suc origin) =
    broken_below broken origin ++ (if broken origin then origin ∷ [] else [])

-- the lines of records of the log, the first of which is at this place
abbrev pub record_lines : ℕ → List Record → List ℕ
record_lines place [] = []
record_lines place (said ∷ records) =
    line_of (codes "log" ∷ decimal place ∷ record_words said) ++ record_lines (suc place) records

-- the lines of shown outputs, the first of which has this number
abbrev pub output_lines : ℕ → List Out → List ℕ
output_lines number [] = []
output_lines number (out ∷ outs) =
    line_of (codes "released" ∷ decimal number ∷ out_words out) ++ output_lines (suc number) outs

-- the page of the log from here on
abbrev pub log_page : List Record → ℕ → ℕ → List ℕ
log_page records from until =
    record_lines (first_place from)
    (take (page_count (length records + 1) (first_place from) until) (drop (first_place from - 1) records))

-- the line of the variables that are told, at a log of this length
abbrev pub vars_line : ℕ → List ℤ → List ℕ
vars_line len values = line_of (codes "vars" ∷ decimal len ∷ map signed_decimal values)

-- the line of these variables, of which the first has this number, at a log of this length; refusal 6 where there are none
abbrev pub cells_text : ℕ → ℕ → List ℤ → List ℕ
cells_text len first [] = reply_line (Refused NoVar)
cells_text len first (value ∷ values) =
    line_of (codes "cells" ∷ decimal len ∷ decimal first ∷ map signed_decimal (value ∷ values))

-- a word more where a joint announcement is broken
abbrev pub joint_words : Bool → List (List ℕ)
joint_words jointly = if jointly then codes "*" ∷ [] else []

-- the line of the broken origins, and of whether a joint announcement is broken, at a log of this length
abbrev pub breach_line : ℕ → List ℕ → Bool → List ℕ
breach_line len origins jointly = line_of (codes "breach" ∷ decimal len ∷ map decimal origins ++ joint_words jointly)

-- the line of an origin's counts, at a log of this length
abbrev pub counts_line : ℕ → ℕ → NameCounts → List ℕ
counts_line len origin counts = line_of (codes "counts" ∷ decimal len ∷ decimal origin ∷ decimal counts.events
    ∷ decimal counts.withdrawn ∷ tag_words counts.last)

-- the text that tells them: refusal 2 where the program has no such origin
abbrev pub counts_text : Program → ℕ → ℕ → NameCounts → List ℕ
counts_text P len origin counts =
    if is_declared P origin then counts_line len origin counts else reply_line (Refused NoOrigin)

-- the line of how far an origin's announcements are reached, at a log of this length
abbrev pub reached_line : ℕ → ℕ → Moment → List ℕ
reached_line len origin end = line_of (codes "reached" ∷ decimal len ∷ decimal origin ∷ tag_words end)

-- the text that tells it: refusal 2 where the program has no such origin
abbrev pub reached_text : Program → ℕ → ℕ → Moment → List ℕ
reached_text P len origin end = if is_declared P origin then reached_line len origin end else reply_line (Refused NoOrigin)

-- the line that stands behind the last shown output where none comes any more
abbrev pub frozen_line : List ℕ
frozen_line = line_of (codes "frozen" ∷ [])

-- the line of an output of this number, if there is one, at a log of this length
abbrev pub release_line : ℕ → Option Out → List ℕ
release_line len (Some out) = line_of (codes "release" ∷ decimal len ∷ out_words out)
release_line len None = line_of (codes "none" ∷ decimal len ∷ [])
