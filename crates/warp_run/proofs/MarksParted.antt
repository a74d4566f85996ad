-- Checkpoints in order of their tags: the marks of those before a tag are a front, and where it ends is the newest.
use Rattle.std.proofs.Common.{◌≡◌, ℕ, ℤ, zero, suc, ◌+◌, ◌-◌, ◌<◌, ◌≤◌, true, false, List, [], ◌∷◌, length, take, drop, Some, None, ap, sym, subst, ◌∙◌, arith, get_or}
use Rattle.std.specs.List.{AllByRecursion}
use Rattle.std.specs.List.Sorted.{IsPartitionedBy, IsPartitionPoint}
use Rattle.std.proofs.lemmas.Option.{get_or_from_slice_get, slice_get-get_or}
use Rattle.warp_tag.specs.Moment.{Moment}
use Rattle.warp_step.specs.Run.{is_after}
use Rattle.warp_step.specs.declared.pending.Waiting.{Waiting}
use Rattle.warp_run.specs.declared.history.Mark.{Mark}
use Rattle.warp_run.specs.History.{ArePartedBy, Saved, before, down_to, newest, saves_of}
use Rattle.warp_run.proofs.Marks.{length-saves_of, save_of}
use Rattle.warp_run.proofs.MarksCut.{IsPassed, down_whole, find, pass, passed_all, passed_none}

-- those in front of which others stand are parted too
parted_back : (tag : Moment) (width : ℕ) (saves : List Saved) (ms : List Mark) (values : List ℤ) (entries : List Waiting)
    → ArePartedBy tag (saves_of width saves ms values entries) → ArePartedBy tag saves
parted_back tag width saves [] values entries h = h
parted_back tag width saves (m ∷ ms) values entries h =
    (parted_back tag width (save_of m (take width values) (take m.pending entries) ∷ saves) ms (drop width values) (drop m.pending entries) h).1

-- where a mark is before the tag, so is each checkpoint behind those of the marks
early_behind : (tag : Moment) (width : ℕ) (saves : List Saved) (ms : List Mark) (values : List ℤ) (entries : List Waiting) (j : ℕ) (d : Mark)
    → ArePartedBy tag (saves_of width saves ms values entries) → j < length ms → is_after (get_or ms j d).done.last tag ≡ true
    → AllByRecursion (λ c. is_after c.done.last tag ≡ true) saves
early_behind tag width saves [] values entries j d h within early = absurd (omega (arith, within))
early_behind tag width saves (m ∷ ms) values entries zero d h within early =
    (parted_back tag width (save_of m (take width values) (take m.pending entries) ∷ saves) ms (drop width values) (drop m.pending entries) h).0 early
early_behind tag width saves (m ∷ ms) values entries (suc j) d h within early =
    (early_behind tag width (save_of m (take width values) (take m.pending entries) ∷ saves) ms (drop width values) (drop m.pending entries) j d h
    (omega (arith, within)) early).1

-- so no mark that is before the tag comes after one that is not
pub marks_parted : (tag : Moment) (width : ℕ) (saves : List Saved) (ms : List Mark) (values : List ℤ) (entries : List Waiting)
    → ArePartedBy tag (saves_of width saves ms values entries) → IsPartitionedBy (λ m. is_after m.done.last tag) ms
marks_parted tag width saves [] values entries h i j d order within early = absurd (omega (arith, within))
marks_parted tag width saves (m ∷ ms) values entries h zero zero d order within early = early
marks_parted tag width saves (m ∷ ms) values entries h zero (suc j) d order within early =
    (early_behind tag width (save_of m (take width values) (take m.pending entries) ∷ saves) ms (drop width values) (drop m.pending entries) j d h
    (omega (arith, within)) early).0
marks_parted tag width saves (m ∷ ms) values entries h (suc i) zero d order within early = absurd (omega (arith, order))
marks_parted tag width saves (m ∷ ms) values entries h (suc i) (suc j) d order within early =
    marks_parted tag width (save_of m (take width values) (take m.pending entries) ∷ saves) ms (drop width values) (drop m.pending entries) h i j d
    (omega (arith, order)) (omega (arith, within)) early

module _ (width : ℕ) (ms : List Mark) (values : List ℤ) (entries : List Waiting) (tag : Moment) (all : List Saved)
    (same : saves_of width [] ms values entries ≡ all) (count : ℕ) (within : count ≤ length ms) (d : Mark)
    (point : IsPartitionPoint (λ m. is_after m.done.last tag ≡ true) (λ m. is_after m.done.last tag ≡ false) ms count) where
  -- those from the point on are passed, one after another from the newest
  passed_down : (more : ℕ) → count + more ≤ length ms → IsPassed tag all (count + more) → IsPassed tag all count
  passed_down zero few h = let none : count + zero ≡ count = omega arith in subst (IsPassed tag all) none h
  passed_down (suc more) few h =
      let at : count + suc more - 1 ≡ count + more = omega arith in
      let here : count + suc more - 1 < length ms = omega (arith, few) in
      let m : Mark = get_or ms (count + suc more - 1) d in
      let read : m ≡ get_or ms (count + suc more - 1) m =
      sym (get_or_from_slice_get ms (count + suc more - 1) m m (slice_get-get_or ms (count + suc more - 1) d here)) in
      let late : is_after m.done.last tag ≡ false = point.1 (count + suc more - 1) d (omega arith) here in
      passed_down more (omega (arith, few))
      (subst (IsPassed tag all) at (pass width ms values entries tag all (count + suc more) m same (omega arith) read h late))

  -- so all behind it
  passed_there : IsPassed tag all count
  passed_there =
      let lengths : length (saves_of width [] ms values entries) ≡ length all = ap (λ (cs : List Saved). length cs) same in
      let marks = length-saves_of width [] ms values entries in
      let whole : count + (length ms - count) ≡ length ms = omega (arith, within) in
      passed_down (length ms - count) (omega arith) (passed_none tag all (count + (length ms - count)) (omega arith))

  -- where the point is at the front, none is before the tag
  pub none_there : count ≡ 0 → (newest (before tag all) ≡ None) × (down_to tag all ≡ all)
  none_there none =
      let all_passed : IsPassed tag all 0 = subst (IsPassed tag all) none passed_there in
      (passed_all tag all all_passed, down_whole tag all all_passed)

  -- and else the mark in front of it is the newest that is
  pub newest_there : (m : Mark) → 0 < count → m ≡ get_or ms (count - 1) m
      → (count - 1 ≤ length all) × (newest (before tag all) ≡ Some m.done) × (down_to tag all ≡ take (length all - (count - 1)) all)
  newest_there m some read =
      let early : is_after m.done.last tag ≡ true =
      ap (λ (n : Mark). is_after n.done.last tag) read ∙ point.0 (count - 1) m (omega arith) (omega (arith, some)) in
      find width ms values entries tag all count m same some read passed_there early
