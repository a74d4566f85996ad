-- What is told to a question.
use Rattle.std.specs.Prelude.{◌≡◌, ℕ, ◌+◌, Bool, false, List, [], ◌∷◌, ◌++◌, length, take, drop, codes, decimal}
use Rattle.std.specs.Prelude.{slice_get, nat_le, ◌&&◌, if◌then◌else◌}
use Rattle.warp_tag.specs.Limits.{has_joint}
use Rattle.warp_tag.specs.Moment.{Moment}
use Rattle.warp_step.specs.Program.{Program, told_of}
use Rattle.warp_record.specs.declared.record.Record.{Record}
use Rattle.warp_record.specs.Record.{tag_words}
use Rattle.warp_record.specs.Reply.{flag_word}
use Rattle.warp_table.specs.Announced.{ReachesTo}
use Rattle.warp_table.specs.NameCounts.{AreCounts}
use Rattle.warp_table.specs.Records.{Records, set_of}
use Rattle.warp_table.specs.declared.table.NameCounts.{NameCounts}
use Rattle.warp_replica.specs.Answers.{Answers, AreAnswers}
use Rattle.warp_watch.specs.Lines.{breach_line, broken_below, cells_text, counts_text, first_place, frozen_line, line_of, log_page}
use Rattle.warp_watch.specs.Lines.{output_lines, page_count, reached_text, release_line, vars_line}
use Rattle.warp_watch.specs.Shown.{ShownState}
use Rattle.warp_watch.specs.declared.question.Question.{Question}
use Rattle.warp_watch.specs.declared.question.Question.TheVariants.{Vars, Cells, Releases, Release, Horizon, Breaches}
use Rattle.warp_watch.specs.declared.question.Question.TheVariants.{Counts, Reached, Log, Released}
use Rattle.warp_watch.specs.declared.question.Told.{Told}

-- the page of the shown outputs from here on, without `frozen`
abbrev pub released_page : ShownState → ℕ → ℕ → List ℕ
released_page s from until = output_lines from (take (page_count (length s.rows) from until) (drop from s.rows))

-- the page leaves no shown output, and none comes any more
abbrev pub ends_frozen : ShownState → ℕ → ℕ → Bool
ends_frozen s from until = s.frozen && nat_le (length s.rows) (from + page_count (length s.rows) from until)

-- the line of how many outputs were shown, at a log of this length
abbrev pub releases_line : ℕ → ShownState → List ℕ
releases_line len s = line_of (codes "releases" ∷ decimal len ∷ decimal (length s.rows) ∷ flag_word s.frozen ∷ [])

-- what a question may ask of one origin: how many names it has, and how far its announcements are reached
pub record OfOrigin : Type 0 where
  pub counts : NameCounts
  pub reached : Moment

-- this is what the question asks of its origin, by the set; of no other question anything is asked here
abbrev pub IsOfAsked : Records → Question → OfOrigin → Type 0
IsOfAsked S (Counts origin) o = AreCounts S origin o.counts
IsOfAsked S (Reached origin) o = ReachesTo S origin o.reached
IsOfAsked S other o = Unit {0}

-- the text that answers a question, by a log, what was shown, what the program answers over the set of the log, and what
-- is asked of an origin
abbrev pub text_of : Program → List Record → ShownState → Answers → OfOrigin → Question → List ℕ
text_of P records s a o Vars = vars_line (length records) (told_of P.variables a.state.vars)
text_of P records s a o (Cells first count) = cells_text (length records) first (take count (drop first a.state.vars))
text_of P records s a o Releases = releases_line (length records) s
text_of P records s a o (Release number) = release_line (length records) (slice_get s.rows number)
text_of P records s a o Horizon = line_of (codes "horizon" ∷ decimal (length records) ∷ tag_words a.horizon)
text_of P records s a o Breaches = breach_line (length records) (broken_below a.broken P.origins) (has_joint P.form && a.broken_jointly)
text_of P records s a o (Counts origin) = counts_text P (length records) origin o.counts
text_of P records s a o (Reached origin) = reached_text P (length records) origin o.reached
text_of P records s a o (Log from until) = log_page records from until
text_of P records s a o (Released from until) =
    released_page s from until ++ (if ends_frozen s from until then frozen_line else [])

-- the first place or number that a page does not tell, of a log of this length
abbrev pub next_of : ℕ → ShownState → Question → ℕ
next_of len s (Log from until) = first_place from + page_count (len + 1) (first_place from) until
next_of len s (Released from until) = from + page_count (length s.rows) from until
next_of len s other = 0

-- the last line is `frozen`
abbrev pub tells_frozen : ShownState → Question → Bool
tells_frozen s (Released from until) = ends_frozen s from until
tells_frozen s other = false

-- This is told to the question, over the log of a program and what was shown.
pub record Tells (P : Program) (records : List Record) (s : ShownState) (question : Question) (told : Told) : Type 0 where
  pub asked : told.question ≡ question
  pub len : told.len ≡ length records
  pub next : told.next ≡ next_of (length records) s question
  pub frozen : told.frozen ≡ tells_frozen s question
  pub text : (a : Answers) × AreAnswers P (set_of records) a
      × ((o : OfOrigin) × IsOfAsked (set_of records) question o
      × (told.text.items ≡ text_of P records s a o question))
