-- Checkpoints in lists that they share: one more, and the newest.
use Rattle.std.proofs.Common.{◌≡◌, ℕ, ℤ, ◌+◌, ◌-◌, ◌<◌, ◌≤◌, List, [], ◌∷◌, ◌++◌, length, take, drop, Some, ap, sym, subst, ◌∙◌, refl, arith}
use Rattle.std.proofs.Common.{append_assoc, take-append-drop, length-append, length-drop}
use Rattle.std.specs.Prelude.{slice_get}
use Rattle.std.proofs.lemmas.List.{take_at, drop_at, take_all, take_more, take-take, drop-take, length-take-le, take-append-le, drop-append-le, nil_from_length}
use Rattle.std.proofs.lemmas.Option.{slice_get_within, get_or_from_slice_get}
use Rattle.warp_tag.specs.Limits.{most_pending}
use Rattle.warp_step.specs.Snapshot.{AreInOrder, Snapshot}
use Rattle.warp_step.specs.declared.pending.Waiting.{Waiting}
use Rattle.warp_run.specs.declared.history.Mark.{Mark}
use Rattle.warp_run.specs.History.{Saved, Saves, Room, AreKept, HasRoomFor, entries_in, saved_at, saves_of}

-- the checkpoint of a mark, with these values and entries
abbrev pub save_of : Mark → List ℤ → List Waiting → Saved
save_of m values entries = saved_at m.done (record { vars = values; pending = entries; lost = m.lost })

-- these values and entries are just those of the mark
pub record IsOf (width : ℕ) (m : Mark) (values : List ℤ) (entries : List Waiting) : Type 0 where
  pub vars : length values ≡ width
  pub pending : length entries ≡ m.pending
  pub few : m.pending ≤ most_pending
  pub order : AreInOrder entries

kept-cons : (width : ℕ) (m : Mark) (ms : List Mark) (a values : List ℤ) (b entries : List Waiting)
    → IsOf width m a b → AreKept width ms values entries
    → AreKept width (m ∷ ms) (a ++ values) (b ++ entries)
kept-cons width m ms a values b entries f h =
    let vars = f.vars in
    let pending = f.pending in (
      simp length-append (omega arith),
      simp length-append (omega arith),
      f.few,
      rw (take_at b entries m.pending pending) f.order,
      rw (drop_at a values width vars, drop_at b entries m.pending pending) h,
    )

kept_more : (width : ℕ) (ms : List Mark) (m : Mark) (values a : List ℤ) (entries b : List Waiting)
    → AreKept width ms values entries → IsOf width m a b
    → AreKept width (ms ++ m ∷ []) (values ++ a) (entries ++ b)
kept_more width [] m values a entries b h f =
    let vars = f.vars in
    let pending = f.pending in
    rw (h.0, h.1) (
      omega arith,
      omega arith,
      f.few,
      rw (take_all m.pending b (omega arith)) f.order,
      (nil_from_length _ (rw length-drop (omega arith)), nil_from_length _ (rw length-drop (omega arith))),
    )
kept_more width (n ∷ ms) m values a entries b h f = (
  (let more = length-append values a in let left = h.0 in omega arith),
  (let more = length-append entries b in let left = h.1 in omega arith),
  h.2,
  rw (take-append-le n.pending entries b h.1) h.3,
  rw (drop-append-le width values a h.0, drop-append-le n.pending entries b h.1)
      (kept_more width ms m (drop width values) a (drop n.pending entries) b h.4 f),
)

saves_more : (width : ℕ) (saves : List Saved) (ms : List Mark) (m : Mark) (values a : List ℤ)
    (entries b : List Waiting) → AreKept width ms values entries → IsOf width m a b
    → saves_of width saves (ms ++ m ∷ []) (values ++ a) (entries ++ b) ≡ save_of m a b ∷ saves_of width saves ms values entries
saves_more width saves [] m values a entries b h f =
    let vars = f.vars in
    let pending = f.pending in
    rw (h.0, h.1) (rw (take_all width a (omega arith), take_all m.pending b (omega arith)) refl)
saves_more width saves (n ∷ ms) m values a entries b h f =
    let first = save_of n (take width values) (take n.pending entries) in
    let step : saves_of width saves (n ∷ (ms ++ m ∷ [])) (values ++ a) (entries ++ b)
    ≡ saves_of width (first ∷ saves) (ms ++ m ∷ []) (drop width values ++ a) (drop n.pending entries ++ b) =
    λ i. saves_of width
    (save_of n (take-append-le width values a h.0 i) (take-append-le n.pending entries b h.1 i) ∷ saves)
    (ms ++ m ∷ []) (drop-append-le width values a h.0 i) (drop-append-le n.pending entries b h.1 i) in
    step ∙ saves_more width (first ∷ saves) ms m (drop width values) a (drop n.pending entries) b h.4 f

-- with one more mark, and what is its
pub record HasMore (width : ℕ) (marks new_marks : List Mark) (values new_values : List ℤ)
    (entries new_entries : List Waiting) (more : Saved) : Type 0 where
  pub kept : AreKept width new_marks new_values new_entries
  pub saves : saves_of width [] new_marks new_values new_entries ≡ more ∷ saves_of width [] marks values entries

-- so it is with lists that have these behind the others
pub has_more : (width : ℕ) (marks new_marks : List Mark) (m : Mark) (values a new_values : List ℤ) (entries b new_entries : List Waiting)
    → AreKept width marks values entries → IsOf width m a b
    → new_marks ≡ marks ++ m ∷ [] → new_values ≡ values ++ a → new_entries ≡ entries ++ b
    → HasMore width marks new_marks values new_values entries new_entries (save_of m a b)
has_more width marks new_marks m values a new_values entries b new_entries h f more_marks more_values more_entries =
    let more : HasMore width marks (marks ++ m ∷ []) values (values ++ a) entries (entries ++ b) (save_of m a b) =
    record { kept = kept_more width marks m values a entries b h f; saves = saves_more width [] marks m values a entries b h f } in
    rw (more_marks, more_values, more_entries) more

-- the lists in two parts: those of the other marks, and those of the last
record Parts (width : ℕ) (ms : List Mark) (m : Mark) (values : List ℤ) (entries : List Waiting) : Type 0 where
  other_values : List ℤ
  last_values : List ℤ
  other_entries : List Waiting
  last_entries : List Waiting
  all_values : values ≡ other_values ++ last_values
  all_entries : entries ≡ other_entries ++ last_entries
  kept : AreKept width ms other_values other_entries
  last : IsOf width m last_values last_entries

parts : (width : ℕ) (ms : List Mark) (m : Mark) (values : List ℤ) (entries : List Waiting)
    → AreKept width (ms ++ m ∷ []) values entries → Parts width ms m values entries
parts width [] m values entries h =
    let enough_values = h.0 in
    let enough_entries = h.1 in
    let vars : length values ≡ width = omega (arith, ap length h.4.0, length-drop width values) in
    let pending : length entries ≡ m.pending = omega (arith, ap length h.4.1, length-drop m.pending entries) in
    record {
      other_values = [];
      last_values = values;
      other_entries = [];
      last_entries = entries;
      all_values = refl;
      all_entries = refl;
      kept = (refl, refl);
      last = record { vars = vars; pending = pending; few = h.2; order = subst AreInOrder (take_all m.pending entries (omega arith)) h.3 };
    }
parts width (n ∷ ms) m values entries h =
    let p = parts width ms m (drop width values) (drop n.pending entries) h.4 in
    let first : IsOf width n (take width values) (take n.pending entries) = record {
      vars = length-take-le width values h.0;
      pending = length-take-le n.pending entries h.1;
      few = h.2;
      order = h.3;
    } in
    record {
      other_values = take width values ++ p.other_values;
      last_values = p.last_values;
      other_entries = take n.pending entries ++ p.other_entries;
      last_entries = p.last_entries;
      all_values = sym (take-append-drop width values) ∙ ap (λ (x : List ℤ). take width values ++ x) p.all_values
          ∙ sym (append_assoc (take width values) p.other_values p.last_values);
      all_entries = sym (take-append-drop n.pending entries) ∙ ap (λ (x : List Waiting). take n.pending entries ++ x) p.all_entries
          ∙ sym (append_assoc (take n.pending entries) p.other_entries p.last_entries);
      kept = kept-cons width n ms (take width values) p.other_values (take n.pending entries) p.other_entries first p.kept;
      last = p.last;
    }

-- the newest is at the end of the lists, and what is in front of it is what stays without it
pub record HasNewest (width : ℕ) (marks ms : List Mark) (m : Mark) (values : List ℤ) (entries : List Waiting) : Type 0 where
  pub vars : width ≤ length values
  pub pending : m.pending ≤ length entries
  pub kept : AreKept width ms (take (length values - width) values) (take (length entries - m.pending) entries)
  pub last : IsOf width m (drop (length values - width) values) (drop (length entries - m.pending) entries)
  pub saves : saves_of width [] marks values entries
      ≡ save_of m (drop (length values - width) values) (drop (length entries - m.pending) entries)
      ∷ saves_of width [] ms (take (length values - width) values) (take (length entries - m.pending) entries)

has_both : (width : ℕ) (ms : List Mark) (m : Mark) (values a : List ℤ) (entries b : List Waiting)
    → AreKept width ms values entries → IsOf width m a b
    → HasNewest width (ms ++ m ∷ []) ms m (values ++ a) (entries ++ b)
has_both width ms m values a entries b h f =
    let vars = f.vars in
    let pending = f.pending in
    let all_values = length-append values a in
    let all_entries = length-append entries b in
    let front_values : take (length (values ++ a) - width) (values ++ a) ≡ values = take_at values a _ (omega arith) in
    let front_entries : take (length (entries ++ b) - m.pending) (entries ++ b) ≡ entries = take_at entries b _ (omega arith) in
    let last_values : drop (length (values ++ a) - width) (values ++ a) ≡ a = drop_at values a _ (omega arith) in
    let last_entries : drop (length (entries ++ b) - m.pending) (entries ++ b) ≡ b = drop_at entries b _ (omega arith) in
    record {
      vars = omega arith;
      pending = omega arith;
      kept = rw (front_values, front_entries) h;
      last = rw (last_values, last_entries) f;
      saves = rw (front_values, front_entries, last_values, last_entries) (saves_more width [] ms m values a entries b h f);
    }

-- so it is where the lists hold just what the marks say
pub has_newest : (width : ℕ) (marks ms : List Mark) (m : Mark) (values : List ℤ) (entries : List Waiting)
    → marks ≡ ms ++ m ∷ [] → AreKept width marks values entries → HasNewest width marks ms m values entries
has_newest width marks ms m values entries is h =
    let p = parts width ms m values entries (subst (λ (all : List Mark). AreKept width all values entries) is h) in
    subst (λ (all : List Mark). HasNewest width all ms m values entries) (sym is)
    (subst (λ (v : List ℤ). HasNewest width (ms ++ m ∷ []) ms m v entries) (sym p.all_values)
    (subst (λ (e : List Waiting). HasNewest width (ms ++ m ∷ []) ms m (p.other_values ++ p.last_values) e) (sym p.all_entries)
    (has_both width ms m p.other_values p.last_values p.other_entries p.last_entries p.kept p.last)))

-- what stays without it
pub record IsRest (width : ℕ) (marks ms : List Mark) (values new_values : List ℤ) (entries new_entries : List Waiting) : Type 0 where
  pub kept : AreKept width ms new_values new_entries
  pub saves : saves_of width [] ms new_values new_entries ≡ drop 1 (saves_of width [] marks values entries)

-- so it is with lists that are cut by what the newest has
pub without_newest : (width : ℕ) (marks ms : List Mark) (m : Mark) (values new_values : List ℤ)
    (entries new_entries : List Waiting) (k : ℕ) → HasNewest width marks ms m values entries → k ≡ length entries
    → new_values ≡ take (length values - width) values → new_entries ≡ take (k - m.pending) entries
    → IsRest width marks ms values new_values entries new_entries
without_newest width marks ms m values new_values entries new_entries k h all_entries cut_values cut_entries =
    let rest : IsRest width marks ms values (take (length values - width) values) entries (take (length entries - m.pending) entries) =
    record { kept = h.kept; saves = sym (ap (drop 1) h.saves) } in
    let second : new_entries ≡ take (length entries - m.pending) entries = cut_entries ∙ ap (λ (i : ℕ). take (i - m.pending) entries) all_entries in
    rw (cut_values, second) rest

last_is : {X : Type 0} (xs : List X) (x : X) → slice_get xs (length xs - 1) ≡ Some x → xs ≡ take (length xs - 1) xs ++ x ∷ []
last_is {X = X} xs x h =
    let within = slice_get_within xs (length xs - 1) x h in
    let is = get_or_from_slice_get xs (length xs - 1) x x h in
    sym (take_all (length xs - 1 + 1) xs (omega arith)) ∙ take_more xs (length xs - 1) x within
    ∙ ap (λ (y : X). take (length xs - 1) xs ++ y ∷ []) is

-- the same of the mark that a look at the end of the marks gives
pub has_last : (width : ℕ) (list marks : List Mark) (m : Mark) (values : List ℤ) (entries : List Waiting)
    → list ≡ marks → Some m ≡ slice_get list (length list - 1) → AreKept width marks values entries
    → HasNewest width marks (take (length marks - 1) marks) m values entries
has_last width list marks m values entries same got h =
    has_newest width marks (take (length marks - 1) marks) m values entries
    (last_is marks m (subst (λ (all : List Mark). slice_get all (length all - 1) ≡ Some m) same (sym got))) h

-- of the items in use the last so many
pub end_part : {X : Type 0} (list : List X) (used count : ℕ) → used ≤ length list → count ≤ used
    → take (used - (used - count)) (drop (used - count) list) ≡ drop (length (take used list) - count) (take used list)
end_part {X = X} list used count within most =
    let all = length-take-le used list within in
    let both : used - count + (used - (used - count)) ≡ used = omega arith in
    sym (drop-take (used - count) (used - (used - count)) list) ∙ ap (λ (n : ℕ). drop (used - count) (take n list)) both
    ∙ ap (λ (n : ℕ). drop (n - count) (take used list)) (sym all)

-- so it is of a list that is the same
pub in_use : {X : Type 0} {list items : List X} (count used : ℕ) → list ≡ items
    → drop (length (take used list) - count) (take used list) ≡ drop (length (take used items) - count) (take used items)
in_use {X = X} count used same = ap (λ (xs : List X). drop (length (take used xs) - count) (take used xs)) same

-- what is in front of the last so many of those in use
pub in_front : {X : Type 0} (items : List X) (used count : ℕ) → take (used - count) items ≡ take (used - count) (take used items)
in_front items used count = let less : used - count ≤ used = omega arith in sym (take-take (used - count) used items less)

-- where a list got longer, what is in use stays
pub stays_in_use : {X : Type 0} (old new : List X) (len used : ℕ) → len ≡ length old → used ≤ length old → take len new ≡ old
    → take used new ≡ take used old
stays_in_use old new len used all within same =
    let less : used ≤ len = omega arith in
    sym (take-take used len new less) ∙ ap (take used) same

-- as many as there are marks
pub length-saves_of : (width : ℕ) (saves : List Saved) (ms : List Mark) (values : List ℤ) (entries : List Waiting)
    → length (saves_of width saves ms values entries) ≡ length ms + length saves
length-saves_of width saves [] values entries = omega arith
length-saves_of width saves (m ∷ ms) values entries =
    let rest = length-saves_of width (save_of m (take width values) (take m.pending entries) ∷ saves) ms
    (drop width values) (drop m.pending entries) in
    omega arith

-- ---- room

-- they have as many entries as the list holds
entries_kept : (width : ℕ) (saves : List Saved) (ms : List Mark) (values : List ℤ) (entries : List Waiting) → AreKept width ms values entries
    → entries_in (saves_of width saves ms values entries) ≡ length entries + entries_in saves
entries_kept width saves [] values entries h = let none = ap length h.1 in omega arith
entries_kept width saves (m ∷ ms) values entries h =
    let rest = entries_kept width (save_of m (take width values) (take m.pending entries) ∷ saves) ms
    (drop width values) (drop m.pending entries) h.4 in
    let first = length-take-le m.pending entries h.1 in
    let left = length-drop m.pending entries in
    let within = h.1 in
    omega arith

-- so there is room for one more where each list has it, and only there
module _ (width : ℕ) (marks : List Mark) (values : List ℤ) (entries : List Waiting) (room : Room) (free : ℕ) (s : Snapshot)
    (h : AreKept width marks values entries)
    {all : Saves} (is : record { width = width; saves = saves_of width [] marks values entries; room = room; free = free } ≡ all) where
  pub room_for : length marks < room.marks → length s.vars ≤ free → length entries + length s.pending ≤ room.entries → HasRoomFor all s
  room_for more_marks more_values more_entries =
      let all_marks = length-saves_of width [] marks values entries in
      let all_entries = entries_kept width [] marks values entries h in
      subst (λ (z : Saves). HasRoomFor z s) is (record { marks = omega arith; values = more_values; entries = omega arith })

  pub room_of : HasRoomFor all s → (length marks < room.marks) × (length s.vars ≤ free) × (length entries + length s.pending ≤ room.entries)
  room_of has =
      let r = subst (λ (z : Saves). HasRoomFor z s) (sym is) has in
      let few_marks = r.marks in
      let few_entries = r.entries in
      let all_marks = length-saves_of width [] marks values entries in
      let all_entries = entries_kept width [] marks values entries h in
      (omega arith, r.values, omega arith)
