-- Steps that were noted, and wait until they may be told.
use Rattle.std.specs.Prelude.{◌≡◌, ◌⊎◌, ◌-◌, ◌<◌, ℕ, Bool, false, List, [], ◌∷◌, ◌++◌, None, if◌then◌else◌, length, nat_le}
use Rattle.warp_hub.specs.declared.words.Subject.TheVariants as subject
use Rattle.warp_push.specs.Marks.{sum_64}
use Rattle.warp_push.specs.Texts.{lines_in, marked, step_mark}
use Rattle.warp_push.specs.declared.marks.News.TheVariants as news
use Rattle.warp_push.specs.declared.watchers.Pushing.{Pushing}

-- lines of steps: the length that the log had, how many were left out before them, and the lines
pub record Noted : Type 0 where
  pub len : ℕ
  pub left_out : ℕ
  pub text : List ℕ

-- what waits, the first first; how many bytes these are; how many lines were left out since the last; and whether steps are
-- noted
pub record StepsState : Type 0 where
  pub waiting : List Noted
  pub bytes : ℕ
  pub left_out : ℕ
  pub noting : Bool

-- nothing was noted
abbrev pub no_steps : StepsState
no_steps = record { waiting = []; bytes = 0; left_out = 0; noting = false }

-- so many lines more are left out
abbrev pub LeavesOut : ℕ → StepsState → StepsState → Type 0
LeavesOut lines old new = new ≡ record old { left_out = sum_64 old.left_out lines }

-- these lines of so long a log wait behind what waits, with how many were left out before them; so many were left out since
abbrev pub put_on : ℕ → List ℕ → ℕ → StepsState → StepsState
put_on len text behind s =
    record {
      waiting = s.waiting ++ (record { len = len; left_out = s.left_out; text = text }) ∷ [];
      bytes = sum_64 s.bytes (length text);
      left_out = behind;
      noting = s.noting;
    }

-- lines are kept, or they are left out, with those behind them
abbrev pub Keeps : ℕ → List ℕ → ℕ → StepsState → StepsState → Type 0
Keeps len text behind old new = (new ≡ put_on len text behind old) ⊎ LeavesOut (sum_64 (lines_in text) behind) old new

-- how many lines were left out waits by itself, or nothing changes
abbrev pub PutsLeftOut : ℕ → StepsState → StepsState → Type 0
PutsLeftOut len old new = (new ≡ put_on len [] 0 old) ⊎ (new ≡ old)

-- so many bytes more may wait: up to 256 KiB, in up to 1,024 pieces
abbrev pub room_of : StepsState → ℕ
room_of s = if nat_le 1024 (length s.waiting) then 0 else 262144 - s.bytes

-- this is the first that waits, and waits no more
abbrev pub TakesNext : Noted → StepsState → StepsState → Type 0
TakesNext one old new =
    (old.waiting ≡ one ∷ new.waiting) × (new ≡ record old { waiting = new.waiting; bytes = old.bytes - length one.text })

-- what waits first, if anything does, is of a longer log
abbrev pub AreLater : ℕ → List Noted → Type 0
AreLater limit [] = Unit {0}
AreLater limit (one ∷ behind) = limit < one.len

-- this is pushed of it: its lines, each with the mark in front, how many they are, and how many were left out before them, to all
abbrev pub IsStepsOf : Noted → Pushing → Type 0
IsStepsOf one p =
    (p.who ≡ None) × (p.subject ≡ subject.Steps) × (p.len ≡ one.len) × (p.news ≡ news.Steps one.left_out (lines_in one.text))
    × (p.text.items ≡ marked step_mark one.text)
