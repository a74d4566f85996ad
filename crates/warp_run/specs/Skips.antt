-- Stretches of tags at which no event counts.
use Rattle.std.specs.Prelude.{◌≡◌, ℕ, Bool, true, false, not, ◌&&◌, Option, Some, List, if◌then◌else◌, IsTrue}
use Rattle.std.specs.List.{list_all, list_any}
use Rattle.warp_tag.specs.Moment.{Moment, is_before}
use Rattle.warp_tag.specs.Table.{Event}
use Rattle.warp_step.specs.Run.{is_after}
use Rattle.warp_run.specs.declared.skips.Skip.{Skip}
use Rattle.warp_run.specs.declared.skips.Skips.{Skips}

-- the stretch has the tag
abbrev pub spans : Skip → Moment → Bool
spans s t = is_after s.after t && is_before t s.to

-- one of the stretches has the tag
abbrev pub spanned : List Skip → Moment → Bool
spanned skips t = list_any (λ s. spans s t) skips

-- one of those that are kept has the tag
abbrev pub covers : Skips → Moment → Bool
covers s t = spanned s.kept.items t

-- none of these events is at a tag of a stretch
abbrev pub AreFree : Skips → List Event → Type 0
AreFree s E = IsTrue (list_all (λ e. not (covers s e.tag)) E)

-- the first tag is before the other, and all from the one to the other pass the test
abbrev pub IsStretch : (Moment → Bool) → Moment → Moment → Type 0
IsStretch has from to =
    (is_before from to ≡ true) × ((t : Moment) → is_before t from ≡ false → is_before to t ≡ false → has t ≡ true)

-- a stretch that has the tag without it: what is behind the tag where the walk began there, else what is before it
abbrev pub cut_at : Moment → Option ℕ → Skip → Skip
cut_at tag place s =
    if spans s tag
    then (if is_before tag s.from then record s { after = Some tag } else record s { to = tag; last = place })
    else s

-- no stretch has the tag, and at no other tag is one where none was
pub record IsCut (tag : Moment) (old new : Skips) : Type 0 where
  pub apart : covers new tag ≡ false
  pub narrow : (t : Moment) → covers new t ≡ true → covers old t ≡ true
