-- Checkpoints in lists that they share: the oldest are cut off in front, and the newest before a tag is sought from the end.
use Rattle.std.proofs.Common.{◌≡◌, ℕ, ℤ, zero, suc, ◌+◌, ◌-◌, ◌<◌, ◌≤◌, true, false, cond, List, [], ◌∷◌, ◌++◌, length, take, drop, Some, None, ap, sym, subst, ◌∙◌, refl, arith}
use Rattle.std.proofs.Common.{append_assoc, take-append-drop, length-append, length-drop}
use Rattle.std.specs.Prelude.{slice_get}
use Rattle.std.proofs.lemmas.List.{append-nil, take_at, drop_at, take_all, drop_all, take-take, drop-drop, length-take-le}
use Rattle.std.proofs.Common.{get_or}
use Rattle.std.proofs.lemmas.Option.{slice_get_read, slice_get_within}
use Rattle.warp_tag.specs.Moment.{Moment}
use Rattle.warp_tag.proofs.Lists.{same_some}
use Rattle.warp_step.specs.Run.{is_after}
use Rattle.warp_step.specs.declared.pending.Waiting.{Waiting}
use Rattle.warp_run.specs.declared.history.Done.{Done}
use Rattle.warp_run.specs.declared.history.Mark.{Mark}
use Rattle.warp_run.specs.History.{Saved, AreKept, before, down_to, newest, saves_of}
use Rattle.warp_run.proofs.Marks.{length-saves_of, save_of}

-- behind others
saves_on : (width : ℕ) (saves : List Saved) (ms : List Mark) (values : List ℤ) (entries : List Waiting)
    → saves_of width saves ms values entries ≡ saves_of width [] ms values entries ++ saves
saves_on width saves [] values entries = refl
saves_on width saves (m ∷ ms) values entries =
    let first : Saved = save_of m (take width values) (take m.pending entries) in
    let rest : List Saved = saves_of width [] ms (drop width values) (drop m.pending entries) in
    saves_on width (first ∷ saves) ms (drop width values) (drop m.pending entries)
    ∙ sym (append_assoc rest (first ∷ []) saves)
    ∙ ap (λ (cs : List Saved). cs ++ saves) (sym (saves_on width (first ∷ []) ms (drop width values) (drop m.pending entries)))

-- ---- the oldest are cut off

-- behind so many marks, values and entries stand just those of the others
pub record IsCutOff (width : ℕ) (ms : List Mark) (values : List ℤ) (entries : List Waiting) (n v e : ℕ) : Type 0 where
  pub values_within : v ≤ length values
  pub entries_within : e ≤ length entries
  pub kept : AreKept width (drop n ms) (drop v values) (drop e entries)
  pub saves : saves_of width [] (drop n ms) (drop v values) (drop e entries) ≡ take (length ms - n) (saves_of width [] ms values entries)

pub cut_none : (width : ℕ) (ms : List Mark) (values : List ℤ) (entries : List Waiting) → AreKept width ms values entries
    → IsCutOff width ms values entries 0 0 0
cut_none width ms values entries h =
    let count = length-saves_of width [] ms values entries in
    record {
      values_within = omega arith;
      entries_within = omega arith;
      kept = h;
      saves = sym (take_all (length ms - 0) (saves_of width [] ms values entries) (omega arith));
    }

drop_there : {X : Type 0} (xs : List X) (n : ℕ) (x : X) → slice_get xs n ≡ Some x → drop n xs ≡ x ∷ drop (n + 1) xs
drop_there [] n x h = absurd (omega (arith, slice_get_within [] n x h))
drop_there (y ∷ ys) zero x h = ap (λ z. z ∷ ys) (same_some y x h)
drop_there (y ∷ ys) (suc n) x h =
    let next : suc n + 1 ≡ suc (n + 1) = omega arith in
    drop_there ys n x h ∙ ap (λ (k : ℕ). x ∷ drop k (y ∷ ys)) (sym next)

module _ (width : ℕ) (ms : List Mark) (values : List ℤ) (entries : List Waiting) (n v e : ℕ) (m : Mark) (there : slice_get ms n ≡ Some m)
    (h : IsCutOff width ms values entries n v e) where
  next_kept : AreKept width (m ∷ drop (n + 1) ms) (drop v values) (drop e entries)
  next_kept = subst (λ (xs : List Mark). AreKept width xs (drop v values) (drop e entries)) (drop_there ms n m there) h.kept

  -- there are values and entries for one more
  pub more_values : v + width ≤ length values
  more_values = let enough = next_kept.0 in let left = length-drop v values in let within = h.values_within in omega arith

  pub more_entries : e + m.pending ≤ length entries
  more_entries = let enough = next_kept.1 in let left = length-drop e entries in let within = h.entries_within in omega arith

  -- so one more is cut off
  pub cut_more : IsCutOff width ms values entries (n + 1) (v + width) (e + m.pending)
  cut_more =
      let all : List Saved = saves_of width [] ms values entries in
      let first : Saved = save_of m (take width (drop v values)) (take m.pending (drop e entries)) in
      let left_values : drop width (drop v values) ≡ drop (v + width) values = drop-drop width v values in
      let left_entries : drop m.pending (drop e entries) ≡ drop (e + m.pending) entries = drop-drop m.pending e entries in
      let rest : List Saved = saves_of width [] (drop (n + 1) ms) (drop (v + width) values) (drop (e + m.pending) entries) in
      let moved : saves_of width [] (drop (n + 1) ms) (drop width (drop v values)) (drop m.pending (drop e entries)) ≡ rest =
      λ i. saves_of width [] (drop (n + 1) ms) (left_values i) (left_entries i) in
      let parts : rest ++ first ∷ [] ≡ take (length ms - n) all =
      ap (λ (cs : List Saved). cs ++ first ∷ []) (sym moved)
      ∙ sym (saves_on width (first ∷ []) (drop (n + 1) ms) (drop width (drop v values)) (drop m.pending (drop e entries)))
      ∙ ap (λ (xs : List Mark). saves_of width [] xs (drop v values) (drop e entries)) (sym (drop_there ms n m there)) ∙ h.saves in
      let within = slice_get_within ms n m there in
      let count : length rest ≡ length ms - (n + 1) =
      omega (arith, length-saves_of width [] (drop (n + 1) ms) (drop (v + width) values) (drop (e + m.pending) entries), length-drop (n + 1) ms) in
      let fewer : length ms - (n + 1) ≤ length ms - n = omega arith in
      record {
        values_within = more_values;
        entries_within = more_entries;
        kept = subst (λ (xs : List ℤ). AreKept width (drop (n + 1) ms) xs (drop (e + m.pending) entries)) left_values
            (subst (λ (xs : List Waiting). AreKept width (drop (n + 1) ms) (drop width (drop v values)) xs) left_entries next_kept.4);
        saves = sym (take_at rest (first ∷ []) (length ms - (n + 1)) count) ∙ ap (take (length ms - (n + 1))) parts
            ∙ take-take (length ms - (n + 1)) (length ms - n) all fewer;
      }

-- the lists that are left
pub record AreLeft (width : ℕ) (ms : List Mark) (values : List ℤ) (entries : List Waiting) (n : ℕ) (all : List Saved) : Type 0 where
  pub kept : AreKept width ms values entries
  pub saves : saves_of width [] ms values entries ≡ take (length all - n) all

pub cut_off : (width : ℕ) (ms new_ms : List Mark) (values new_values : List ℤ) (entries new_entries : List Waiting) (n v e : ℕ)
    → IsCutOff width ms values entries n v e → new_ms ≡ drop n ms → new_values ≡ drop v values → new_entries ≡ drop e entries
    → AreLeft width new_ms new_values new_entries n (saves_of width [] ms values entries)
cut_off width ms new_ms values new_values entries new_entries n v e h marks_are values_are entries_are =
    let count = length-saves_of width [] ms values entries in
    let same : length ms - n ≡ length (saves_of width [] ms values entries) - n = omega arith in
    rw (marks_are, values_are, entries_are)
    (record { kept = h.kept; saves = h.saves ∙ ap (λ (k : ℕ). take k (saves_of width [] ms values entries)) same })

-- ---- the newest that is before a tag

-- behind all marks nothing is left
saves_behind : (width : ℕ) (saves : List Saved) (ms : List Mark) (values : List ℤ) (entries : List Waiting)
    → drop (length ms) (saves_of width saves ms values entries) ≡ saves
saves_behind width saves ms values entries =
    let count = length-saves_of width [] ms values entries in
    ap (drop (length ms)) (saves_on width saves ms values entries)
    ∙ drop_at (saves_of width [] ms values entries) saves (length ms) (omega arith)

-- the checkpoint of a mark
pub mark_there : (width : ℕ) (saves : List Saved) (ms : List Mark) (values : List ℤ) (entries : List Waiting) (i : ℕ) (m : Mark)
    → slice_get ms i ≡ Some m
    → (c : Saved) × (rest : List Saved) × (drop (length ms - (i + 1)) (saves_of width saves ms values entries) ≡ c ∷ rest) × (c.done ≡ m.done)
mark_there width saves [] values entries i m h = absurd (omega (arith, slice_get_within [] i m h))
mark_there width saves (n ∷ ms) values entries zero m h =
    let first : Saved = save_of n (take width values) (take n.pending entries) in
    let count : length (n ∷ ms) - (0 + 1) ≡ length ms = omega arith in (
      first,
      saves,
      ap (λ (k : ℕ). drop k (saves_of width saves (n ∷ ms) values entries)) count
          ∙ saves_behind width (first ∷ saves) ms (drop width values) (drop n.pending entries),
      ap (λ (x : Mark). x.done) (same_some n m h),
    )
mark_there width saves (n ∷ ms) values entries (suc i) m h =
    let first : Saved = save_of n (take width values) (take n.pending entries) in
    let back = mark_there width (first ∷ saves) ms (drop width values) (drop n.pending entries) i m h in
    let count : length (n ∷ ms) - (suc i + 1) ≡ length ms - (i + 1) = omega arith in (
      back.0,
      back.1,
      ap (λ (k : ℕ). drop k (saves_of width saves (n ∷ ms) values entries)) count ∙ back.2,
      back.3,
    )

-- so many of the oldest are left to look at: none of the others is before the tag
pub record IsPassed (tag : Moment) (all : List Saved) (at : ℕ) : Type 0 where
  pub within : at ≤ length all
  pub early : before tag all ≡ before tag (drop (length all - at) all)
  pub down : down_to tag all ≡ take (length all - at) all ++ down_to tag (drop (length all - at) all)

pub passed_none : (tag : Moment) (all : List Saved) (at : ℕ) → at ≡ length all → IsPassed tag all at
passed_none tag all at is =
    let none : length all - at ≡ 0 = omega arith in
    record {
      within = omega arith;
      early = ap (λ (k : ℕ). before tag (drop k all)) (sym none);
      down = ap (λ (k : ℕ). take k all ++ down_to tag (drop k all)) (sym none);
    }

module _ (tag : Moment) (all : List Saved) (at : ℕ) (some : 0 < at) (h : IsPassed tag all at) (c : Saved) (rest : List Saved)
    (there : drop (length all - at) all ≡ c ∷ rest) where
  one_more : take (length all - (at - 1)) all ≡ take (length all - at) all ++ c ∷ []
  one_more =
      let within = h.within in
      let front : List Saved = take (length all - at) all in
      let whole : (front ++ c ∷ []) ++ rest ≡ all =
      append_assoc front (c ∷ []) rest ∙ ap (λ (cs : List Saved). front ++ cs) (sym there) ∙ take-append-drop (length all - at) all in
      let long = length-take-le (length all - at) all (omega arith) in
      let one = length-append front (c ∷ []) in
      let count : length (front ++ c ∷ []) ≡ length all - (at - 1) = omega arith in
      ap (take (length all - (at - 1))) (sym whole) ∙ take_at (front ++ c ∷ []) rest (length all - (at - 1)) count

  left_of : drop (length all - (at - 1)) all ≡ rest
  left_of =
      let within = h.within in
      let next : length all - at + 1 ≡ length all - (at - 1) = omega arith in
      ap (λ (k : ℕ). drop k all) (sym next) ∙ sym (drop-drop 1 (length all - at) all) ∙ ap (drop 1) there

  -- one that is not before the tag is passed
  pub passed_more : is_after c.done.last tag ≡ false → IsPassed tag all (at - 1)
  passed_more late =
      let within = h.within in
      record {
        within = omega arith;
        early = h.early ∙ ap (before tag) there ∙ ap (λ b. cond b (c ∷ rest) (before tag rest)) late ∙ ap (before tag) (sym left_of);
        down = h.down ∙ ap (λ (cs : List Saved). take (length all - at) all ++ down_to tag cs) there
            ∙ ap (λ b. take (length all - at) all ++ cond b (c ∷ []) (c ∷ down_to tag rest)) late
            ∙ sym (append_assoc (take (length all - at) all) (c ∷ []) (down_to tag rest))
            ∙ (λ i. sym one_more i ++ down_to tag (sym left_of i));
      }

  -- and one that is before it is the newest
  pub found_newest : is_after c.done.last tag ≡ true → newest (before tag all) ≡ Some c.done
  found_newest early = ap newest (h.early ∙ ap (before tag) there ∙ ap (λ b. cond b (c ∷ rest) (before tag rest)) early)

  pub found_down : is_after c.done.last tag ≡ true → down_to tag all ≡ take (length all - (at - 1)) all
  found_down early =
      h.down ∙ ap (λ (cs : List Saved). take (length all - at) all ++ down_to tag cs) there
      ∙ ap (λ b. take (length all - at) all ++ cond b (c ∷ []) (c ∷ down_to tag rest)) early ∙ sym one_more

-- where all are passed none is before the tag
module _ (tag : Moment) (all : List Saved) (h : IsPassed tag all 0) where
  nothing_left : drop (length all - 0) all ≡ []
  nothing_left = drop_all (length all - 0) all (omega arith)

  pub passed_all : newest (before tag all) ≡ None
  passed_all = ap newest (h.early ∙ ap (before tag) nothing_left)

  pub down_whole : down_to tag all ≡ all
  down_whole =
      h.down ∙ (λ i. take_all (length all - 0) all (omega arith) i ++ down_to tag (nothing_left i)) ∙ append-nil all

-- what is looked at next
record LooksAt (all : List Saved) (at : ℕ) (done : Done) : Type 0 where
  saved : Saved
  rest : List Saved
  there : drop (length all - at) all ≡ saved ∷ rest
  is : saved.done ≡ done

looks_at : (width : ℕ) (ms : List Mark) (values : List ℤ) (entries : List Waiting) (all : List Saved) (at : ℕ) (m : Mark)
    → saves_of width [] ms values entries ≡ all → 0 < at → at ≤ length all → m ≡ get_or ms (at - 1) m → LooksAt all at m.done
looks_at width ms values entries all at m same some within read =
    let count = length-saves_of width [] ms values entries in
    let lengths : length (saves_of width [] ms values entries) ≡ length all = ap (λ (cs : List Saved). length cs) same in
    let found = mark_there width [] ms values entries (at - 1) m (slice_get_read ms (length ms) (at - 1) m refl (omega arith) read) in
    let back : length all - at ≡ length ms - (at - 1 + 1) = omega arith in
    record {
      saved = found.0;
      rest = found.1;
      there = ap (λ (k : ℕ). drop k all) back ∙ ap (drop (length ms - (at - 1 + 1))) (sym same) ∙ found.2;
      is = found.3;
    }

module _ (width : ℕ) (ms : List Mark) (values : List ℤ) (entries : List Waiting) (tag : Moment) (all : List Saved) (at : ℕ) (m : Mark)
    (same : saves_of width [] ms values entries ≡ all) (some : 0 < at) (read : m ≡ get_or ms (at - 1) m) (h : IsPassed tag all at) where
  -- it is passed, where it is not before the tag
  pub pass : is_after m.done.last tag ≡ false → IsPassed tag all (at - 1)
  pass late =
      let next = looks_at width ms values entries all at m same some h.within read in
      passed_more tag all at some h next.saved next.rest next.there (ap (λ (d : Done). is_after d.last tag) next.is ∙ late)

  -- and else it is the newest that is
  pub find : is_after m.done.last tag ≡ true
      → (at - 1 ≤ length all) × (newest (before tag all) ≡ Some m.done) × (down_to tag all ≡ take (length all - (at - 1)) all)
  find early =
      let next = looks_at width ms values entries all at m same some h.within read in
      let there : is_after next.saved.done.last tag ≡ true = ap (λ (d : Done). is_after d.last tag) next.is ∙ early in
      let within = h.within in (
        omega arith,
        found_newest tag all at some h next.saved next.rest next.there there ∙ ap (λ (d : Done). Some d) next.is,
        found_down tag all at some h next.saved next.rest next.there there,
      )
