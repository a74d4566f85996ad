-- What is pushed of what was told.
use Rattle.std.specs.Prelude.{◌≡◌, ℕ, Bool, true, false, List, Option, None, Some}
use Rattle.warp_hub.specs.declared.words.Subject.{Subject}
use Rattle.warp_hub.specs.declared.words.Subject.TheVariants as subject
use Rattle.warp_watch.specs.declared.client_id.ClientId.{ClientId}
use Rattle.warp_watch.specs.declared.question.Question.{Question}
use Rattle.warp_watch.specs.declared.question.Question.TheVariants as question
use Rattle.warp_push.specs.Texts.{SaysValue, marked, page_lines, pushed_mark}
use Rattle.warp_push.specs.Watching.{KeepsLine, Kept, TellsCells, Watched, Watching}
use Rattle.warp_push.specs.declared.marks.News.TheVariants as news
use Rattle.warp_push.specs.declared.watchers.Answered.{Answered}
use Rattle.warp_push.specs.declared.watchers.Pushing.{Pushing}

-- what was told is a watcher's own
abbrev pub is_own : Option ClientId → Bool
is_own None = false
is_own (Some who) = true

-- a page of what was told, with its places, to whom it was asked for
abbrev pub IsPage : Subject → ℕ → Answered → Pushing → Type 0
IsPage what from a p =
    (p.subject ≡ what) × (p.news ≡ news.Page from a.told.next a.told.frozen (is_own a.asked.who)) × (p.who ≡ a.asked.who)
    × (p.len ≡ a.told.len) × (p.text.items ≡ marked pushed_mark (page_lines a.told.frozen a.told.text.items))

-- a newest value, to all: the one that was told, by its number; it is kept where it is another one than the one before
abbrev pub IsValue : Subject → Answered → Pushing → Kept → Kept → Type 0
IsValue what a p old new =
    (p.subject ≡ what) × (p.who ≡ None) × (p.len ≡ a.told.len) × (p.news ≡ news.Value new.number)
    × SaysValue p.text.items a.told.text.items
    × ((is_new : Bool) × KeepsLine is_new old.number old.line new.number new.line a.told.text.items)

-- newest values of a range of variables, to all: those that were told, or a stretch of them
abbrev pub IsCells : ℕ → ℕ → Answered → Pushing → List Watched → List Watched → Type 0
IsCells first count a p old new =
    (p.subject ≡ subject.Cells) × (p.who ≡ None) × (p.len ≡ a.told.len)
    × ((version : ℕ) × (whole : Bool) × (p.news ≡ news.Cells (record { first = first; count = count }) version whole)
    × TellsCells (record { first = first; count = count }) version whole p.text.items a.told.text.items old new)

-- this is pushed of what was told to that question; of values by what was kept of them, which may change
abbrev pub IsPushedOf : Question → Answered → Pushing → Watching → Watching → Type 0
IsPushedOf (question.Log from until) a p old new = IsPage subject.Log from a p
IsPushedOf (question.Released from until) a p old new = IsPage subject.Released from a p
IsPushedOf question.Vars a p old new = IsValue subject.Vars a p old.vars new.vars
IsPushedOf (question.Cells first count) a p old new = IsCells first count a p old.cells new.cells
IsPushedOf question.Horizon a p old new = IsValue subject.Horizon a p old.horizon new.horizon
IsPushedOf question.Breaches a p old new = IsValue subject.Breach a p old.breach new.breach
IsPushedOf question.Releases a p old new = ⊥
IsPushedOf (question.Release number) a p old new = ⊥
IsPushedOf (question.Counts origin) a p old new = ⊥
IsPushedOf (question.Reached origin) a p old new = ⊥
