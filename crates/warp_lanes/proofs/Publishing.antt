-- Rows of a board that began what was released still begin it after one more record, up to the record's tag; and all of them do while
-- no origin broke an announcement.
use Rattle.std.proofs.Common.{◌≡◌, ◌⊎◌, inl, inr, ℕ, zero, suc, ◌<◌, ◌≤◌, Bool, true, false, ◌&&◌, List, [], ◌∷◌, ◌++◌, filter, take, drop, length, refl, sym, ap, subst, ◌∙◌, arith}
use Rattle.std.specs.Prelude.{IfNone, IfSome, IsTrue, None, Option, Some, Result, Ok, Err}
use Rattle.std.specs.List.Sorted.{IsPartitionPoint, IsPartitionedBy}
use Rattle.std.specs.List.{AllByRecursion}
use Rattle.std.proofs.lemmas.Bool.{both_ways, cases_Bool}
use Rattle.std.proofs.lemmas.Bool.Decides.{nat_tests}
use Rattle.std.proofs.lemmas.List.{append_assoc, length-take-le, take-append-drop}
use Rattle.std.proofs.lemmas.List.Elements.{All-contains, All-push, filter-append}
use Rattle.warp_tag.specs.Lists.{StartsWith}
use Rattle.warp_tag.specs.Moment.{Moment, is_before}
use Rattle.warp_tag.specs.declared.out.Out.{Out}
use Rattle.warp_tag.proofs.Lists.{filter-here, filter-past, All-left}
use Rattle.warp_step.specs.Program.{Program}
use Rattle.warp_step.specs.Run.{outputs_of, outputs_until}
use Rattle.warp_step.proofs.OutputsBefore.{early_outputs, later_begins, outputs_parted, whole_begins}
use Rattle.warp_step.proofs.PartedLists.{IsParted, all_behind, is_partitioned, more_in_front, take_point}
use Rattle.warp_step.proofs.RowsBefore.{early_rows}
use Rattle.warp_record.specs.declared.record.Record.{Record}
use Rattle.warp_record.specs.declared.record.Record.TheVariants.{Event, Withdraw}
use Rattle.warp_record.specs.declared.line.Line.{Line}
use Rattle.warp_record.specs.declared.line.Line.TheVariants as line
use Rattle.warp_record.specs.declared.reply.Refusal.{Refusal}
use Rattle.warp_record.specs.declared.reply.Reply.{Reply}
use Rattle.warp_table.specs.Announced.{IsWithin}
use Rattle.warp_table.specs.Check.{refusal_of}
use Rattle.warp_table.specs.Log.{EachOnce}
use Rattle.warp_table.specs.Records.{IsIn, set_of}
use Rattle.warp_table.proofs.Announcements.{honest_stays}
use Rattle.warp_table.proofs.BelowHorizon.{TellsSame, live_same}
use Rattle.warp_table.proofs.Heard.{with_one}
use Rattle.warp_table.proofs.Horizons.{later_horizon}
use Rattle.warp_table.proofs.Sets.{in_set}
use Rattle.warp_line.specs.Timeline.{lesser}
use Rattle.warp_replica.specs.Answers.{Answers, AreAnswers, IsReleased}
use Rattle.warp_replica.specs.Gives.{Gives, Takes, tag_of, told}
use Rattle.warp_replica.specs.declared.taking.Took.{Took}
use Rattle.warp_replica.specs.declared.taking.Took.TheVariants.{New, Known}
use Rattle.warp_replica.specs.Release.{AreTaken}
use Rattle.warp_replica.specs.Replica.{AreAllowed}
use Rattle.warp_replica.proofs.ReleasedLists.{released_stays}
use Rattle.warp_replica.proofs.Replies.{one_answer, some_answer}
use Rattle.warp_replica.proofs.SomeHorizon.{announces}
use Rattle.warp_board.specs.Board.{WriterState}
use Rattle.warp_lanes.specs.Publish.{AreReleased, BeginReleased, HasNews, KeepsBoard, Publishes, news_of}
use Rattle.warp_lanes.specs.declared.publish.Published.{Published}
use Rattle.warp_lanes.specs.declared.publish.Published.TheVariants.{Rows, Frozen}
use Rattle.warp_replica.proofs.Histories.{take_all}

-- a list begins with another where a front of that begins it, and what is behind the one begins what is behind the other
pub joined : {X : Type 0} (xs ys : List X) (n : ℕ) → StartsWith xs (take n ys) → StartsWith (drop n xs) (drop n ys) → StartsWith xs ys
joined xs ys zero s d = d
joined xs [] (suc n) s d = (xs, refl)
joined [] (y ∷ ys) (suc n) s d = absurd (cc (s.1))
joined (x ∷ xs) (y ∷ ys) (suc n) s d =
    let head : x ≡ y = cc (s.1) in
    let tail : xs ≡ take n ys ++ s.0 = cc (s.1) in
    let rest = joined xs ys n (s.0, tail) d in
    (rest.0, λ i. head i ∷ rest.1 i)

-- and so it does where it begins with it
pub behind : {X : Type 0} (xs ys : List X) (n : ℕ) → StartsWith xs ys → StartsWith (drop n xs) (drop n ys)
behind xs ys zero s = s
behind xs [] (suc n) s = (drop (suc n) xs, refl)
behind [] (y ∷ ys) (suc n) s = absurd (cc (s.1))
behind (x ∷ xs) (y ∷ ys) (suc n) s = behind xs ys n (s.0, cc (s.1))

-- fronts of fronts
pub front_of_front : {X : Type 0} (xs ys zs : List X) → StartsWith xs ys → StartsWith ys zs → StartsWith xs zs
front_of_front xs ys zs p q = (q.0 ++ p.0, p.1 ∙ ap (λ l. l ++ p.0) q.1 ∙ append_assoc zs q.0 p.0)

-- two filters, one after the other, are one
pub filter_both : {X : Type 0} (p q r : X → Bool) → ((x : X) → r x ≡ (p x && q x)) → (xs : List X) → filter p (filter q xs) ≡ filter r xs
filter_both p q r h [] = refl
filter_both p q r h (x ∷ xs) = elim (cases_Bool (q x)) [
  | inl there ↦ elim (cases_Bool (p x)) [
    | inl here ↦
        ap (filter p) (filter-here q x xs there) ∙ filter-here p x (filter q xs) here ∙ ap (λ l. x ∷ l) (filter_both p q r h xs)
        ∙ sym (filter-here r x xs (h x ∙ ap (λ b. b && q x) here ∙ there))
    | inr past ↦
        ap (filter p) (filter-here q x xs there) ∙ filter-past p x (filter q xs) past ∙ filter_both p q r h xs
        ∙ sym (filter-past r x xs (h x ∙ ap (λ b. b && q x) past))
  ]
  | inr gone ↦
      ap (filter p) (filter-past q x xs gone) ∙ filter_both p q r h xs ∙ sym (filter-past r x xs (h x ∙ and_false (p x) (q x) gone))
]
  where
    and_false : (a b : Bool) → b ≡ false → (a && b) ≡ false
    and_false true b e = e
    and_false false b e = refl

-- a front of a list that a test parts is parted too
module _ {X : Type 0} (p : X → Bool) where
  front_parted_at : (front xs back : List X) → AllByRecursion (λ x. p x ≡ true) front → AllByRecursion (λ x. p x ≡ false) back
      → StartsWith (front ++ back) xs → IsParted p xs
  front_parted_at [] xs back passes fails s = all_behind p xs (All-left (λ x. p x ≡ false) xs s.0 (subst (AllByRecursion (λ x. p x ≡ false)) s.1 fails))
  front_parted_at (x ∷ front) [] back passes fails s = all_behind p [] tt
  front_parted_at (x ∷ front) (y ∷ xs) back passes fails s =
      let head : x ≡ y = cc (s.1) in
      let tail : front ++ back ≡ xs ++ s.0 = cc (s.1) in
      more_in_front p (y ∷ []) xs (sym (ap p head) ∙ passes.0, tt) (front_parted_at front xs back passes.1 fails (s.0, tail))

  front_parted : (all xs : List X) → IsParted p all → StartsWith all xs → IsParted p xs
  front_parted all xs parted s = front_parted_at parted.front xs parted.back parted.passes parted.fails (s.0, sym parted.whole ∙ s.1)

-- what is before the lesser of two tags is before both
before_both : (x t u : Moment) → is_before x (lesser t u) ≡ (is_before x t && is_before x u)
before_both x t u = elim (cases_Bool (is_before u t)) [
  | inl h ↦ grind (h, arith, nat_tests)
  | inr h ↦ grind (h, arith, nat_tests)
]

not_before_lesser : (t u : Moment) → is_before t (lesser t u) ≡ false
not_before_lesser t u = before_both t t u ∙ ap (λ b. b && is_before t u) (not_itself t)
  where
    not_itself : (v : Moment) → is_before v v ≡ false
    not_itself v = grind (arith, nat_tests)

later_than_lesser : (t u v : Moment) → is_before v u ≡ false → is_before v (lesser t u) ≡ false
later_than_lesser t u v h = before_both v t u ∙ both (is_before v t) (is_before v u) h
  where
    both : (a b : Bool) → b ≡ false → (a && b) ≡ false
    both true b e = e
    both false b e = refl

-- a set, and one with one record more
module _ (P : Program) (records : List Record) (said : Record) where
  within_more : IsWithin (set_of records) (set_of (records ++ said ∷ []))
  within_more r has = ((with_one records said).each r).1 (inl has)

  -- what is before the record's tag was there
  was_there : (end : Moment) → is_before (tag_of said) end ≡ false → (r : Record) → IsTrue (is_before (tag_of r) end)
      → IsIn (set_of (records ++ said ∷ [])) r → IsIn (set_of records) r
  was_there end order r before has = elim (((with_one records said).each r).0 has) [
    | inl old ↦ old
    | inr e ↦ absurd (both_ways (is_before (tag_of r) end) (ap (λ x. is_before (tag_of x) end) e ∙ order) before)
  ]

  tells_same : (end : Moment) → is_before (tag_of said) end ≡ false → TellsSame (set_of records) (set_of (records ++ said ∷ [])) end
  tells_same end order = record {
    events = λ origin tag payload before. (
      within_more (Event origin tag payload.0 payload.1),
      was_there end order (Event origin tag payload.0 payload.1) before,
    );
    withdrawals = λ origin tag before. (within_more (Withdraw origin tag), was_there end order (Withdraw origin tag) before);
  }

  -- rows before the record's tag that began what was released begin what is
  module _ (a b : Answers) (h : AreAnswers P (set_of records) a) (k : AreAnswers P (set_of (records ++ said ∷ [])) b) where
    still_begins : (front : List Out) → StartsWith a.released front → StartsWith b.released (outputs_until (tag_of said) front)
    still_begins front s =
        let tag = tag_of said in
        let end = lesser tag a.horizon in
        let before = outputs_of h.trace in
        let after = outputs_of k.trace in
        let first : a.released ≡ outputs_until a.horizon before = h.released ∙ ap (outputs_until a.horizon) h.outputs in
        let second : b.released ≡ outputs_until b.horizon after = k.released ∙ ap (outputs_until b.horizon) k.outputs in
        let cut : outputs_until tag (outputs_until a.horizon before) ≡ outputs_until end before =
        filter_both (λ out. is_before out.tag tag) (λ out. is_before out.tag a.horizon) (λ out. is_before out.tag end)
        (λ out. before_both out.tag tag a.horizon) before in
        let here : outputs_until end before ≡ outputs_until tag front ++ outputs_until tag s.0 =
        sym cut ∙ ap (outputs_until tag) (sym first ∙ s.1) ∙ filter-append (λ out. is_before out.tag tag) front s.0 in
        let same = live_same (set_of records) (set_of (records ++ said ∷ [])) end h.events k.events (tells_same end (not_before_lesser tag a.horizon)) h.live k.live in
        let rows = early_rows P h.events k.events h.trace k.trace end h.run k.run same in
        let one : outputs_until end after ≡ outputs_until end before =
        early_outputs P k.events k.trace end k.run ∙ ap outputs_of (sym rows) ∙ sym (early_outputs P h.events h.trace end h.run) in
        let order = later_horizon P (set_of records) (set_of (records ++ said ∷ [])) a.horizon b.horizon within_more h.horizon k.horizon in
        let later = later_begins P k.events k.trace end b.horizon k.run (later_than_lesser tag a.horizon b.horizon order) in (
          outputs_until tag s.0 ++ later.0,
          second ∙ later.1 ∙ ap (λ l. l ++ later.0) (one ∙ here) ∙ append_assoc (outputs_until tag front) (outputs_until tag s.0) later.0,
        )

  -- each list that begins what is released over a set is parted by a tag
  module _ (some : 0 < P.origins) (once : EachOnce records) where
    pub rows_parted : (rows : List Out) (tag : Moment) → BeginReleased P (set_of records) rows → IsParted (λ out. is_before out.tag tag) rows
    rows_parted rows tag begun =
        let a = some_answer P records once (announces P records some) in
        let s = begun a.0 a.1 in
        let outs = outputs_of a.1.trace in
        let whole = whole_begins P a.1.events a.1.trace a.0.horizon a.1.run in
        let first : a.0.released ≡ outputs_until a.0.horizon outs = a.1.released ∙ ap (outputs_until a.0.horizon) a.1.outputs in
        let released : StartsWith outs a.0.released = (whole.0, whole.1 ∙ ap (λ l. l ++ whole.0) (sym first)) in
        front_parted (λ out. is_before out.tag tag) outs rows (outputs_parted tag P a.1.events a.1.trace a.1.run)
        (front_of_front outs a.0.released rows released s)

    pub rows_still_begin : (rows : List Out) → BeginReleased P (set_of records) rows
        → BeginReleased P (set_of (records ++ said ∷ [])) (outputs_until (tag_of said) rows)
    rows_still_begin rows begun =
        let a = some_answer P records once (announces P records some) in
        λ b k. still_begins a.0 b a.1 k rows (begun a.0 a.1)

    -- while no origin broke an announcement, all of them do
    pub still_released : (w : WriterState) → AreAllowed P (records ++ said ∷ []) → AreReleased P records w → AreReleased P (records ++ said ∷ []) w
    still_released w allowed before honest =
        let all = set_of (records ++ said ∷ []) in
        let was = before (honest_stays (set_of records) all within_more honest) in
        let a = some_answer P records once (announces P records some) in
        let taken : AreTaken P all =
        λ r has. All-contains (λ x. refusal_of P x ≡ None) (records ++ said ∷ []) r allowed ((in_set (records ++ said ∷ []) r).1 has) in (
          was.0,
          λ b k. front_of_front b.released a.0.released w.rows
              (released_stays P (set_of records) all all a.0 b honest taken within_more (λ r has. has) a.1 k) (was.1 a.0 a.1),
        )

-- what a line that was answered brought
pub has_news : (P : Program) (records : List Record) (said : Line) (answer : Reply) (after : List Record) → Gives P records said answer after
    → HasNews P records (news_of said answer) after
has_news P records (line.Put said) answer after g = subst (λ a. HasNews P records (news_of (line.Put said) a) after) (sym g.2) (brought g.0 g.1)
  where
    brought : (result : Result Took Refusal) → Takes P records said result after → HasNews P records (news_of (line.Put said) (told result)) after
    brought (Ok (New place)) t = (said, refl, t.0.0, t.3)
    brought (Ok (Known place)) t = t.2
    brought (Err refusal) t = t.1
has_news P records (line.Ask asked) answer after g = g.1
has_news P records line.Collect answer after g = g.1
has_news P records (line.Look look) answer after g = g.1

take-take : {X : Type 0} (m n : ℕ) (xs : List X) → m ≤ n → take m (take n xs) ≡ take m xs
take-take zero n xs le = refl
take-take (suc m) zero xs le = absurd (omega arith)
take-take (suc m) (suc n) [] le = refl
take-take (suc m) (suc n) (x ∷ xs) le = ap (λ l. x ∷ l) (take-take m n xs (omega arith))

-- what an engine keeps of its board it keeps through a turn
module _ (P : Program) (records records' : List Record) (w : WriterState) (count count' : ℕ) (some : 0 < P.origins) (once : EachOnce records)
    (allowed : AreAllowed P records) (kept : KeepsBoard P records w count) (fewer : count' ≤ count) where
  pub board_kept : (news : Option Moment) → HasNews P records news records' → IfNone news (count' ≡ count)
      → IfSome news (λ tag. IsPartitionedBy (λ (row : Out). is_before row.tag tag) (take count w.rows) →
      IsPartitionPoint (λ (row : Out). is_before row.tag tag ≡ true) (λ (row : Out). is_before row.tag tag ≡ false) (take count w.rows) count')
      → KeepsBoard P records' w count'
  board_kept None same still point =
      subst (λ (l : List Record). KeepsBoard P l w count') (sym same) (subst (λ (n : ℕ). KeepsBoard P records w n) (sym still) kept)
  board_kept (Some tag) (said, at, fits, more) still point = subst (λ (l : List Record). KeepsBoard P l w count') (sym more) (record {
    within = omega (arith, kept.within, fewer);
    begun = λ live.
        let known = take count w.rows in
        let test : Out → Bool = λ row. is_before row.tag tag in
        let parted = rows_parted P records said some once known tag (kept.begun live) in
        let long : length known ≡ count = length-take-le count w.rows kept.within in
        let early : take count' known ≡ outputs_until tag known =
        take_point test known count' parted (omega (arith, long, fewer)) (point (is_partitioned test known parted)) in
        let cut : take count' known ≡ take count' w.rows = take-take count' count w.rows fewer in
        subst (BeginReleased P (set_of (records ++ said ∷ []))) (ap (λ (t : Moment). outputs_until t known) (sym at) ∙ sym early ∙ cut)
        (rows_still_begin P records said some once known (kept.begun live));
    honest = still_released P records said some once w (All-push (λ r. refusal_of P r ≡ None) records said allowed fits) kept.honest;
  })

-- a new board
pub board_new : (P : Program) (records : List Record) (w : WriterState) → w.rows ≡ [] → w.frozen ≡ false → KeepsBoard P records w 0
board_new P records w none live = record {
  within = omega arith;
  begun = λ now a h. (a.released, refl);
  honest = λ honest. (live, λ a h. subst (StartsWith a.released) (sym none) (a.released, refl));
}

-- what an engine keeps of its board it keeps where it is published
module _ (P : Program) (records : List Record) (w : WriterState) (front : ℕ) (released : List Out) (kept : KeepsBoard P records w front)
    (rel : IsReleased P (set_of records) released) where
  first_begin : (count : ℕ) → BeginReleased P (set_of records) (take count released)
  first_begin count b k =
      let same : released ≡ b.released = rel.2 ∙ ap (λ x. x.released) (one_answer P (set_of records) rel.0 b rel.1 k) in
      (drop count released, sym same ∙ sym (take-append-drop count released))

  rows_kept : (count n : ℕ) → w.frozen ≡ false → n ≡ length (take count released) → KeepsBoard P records (record w { rows = take count released }) n
  rows_kept count n live long = record {
    within = omega (arith, long);
    begun = λ now. subst (BeginReleased P (set_of records)) (sym (ap (λ k. take k (take count released)) long ∙ take_all (take count released))) (first_begin count);
    honest = λ honest. (live, first_begin count);
  }

  frozen_kept : (n : ℕ) → n ≡ length w.rows → (w.frozen ≡ true) ⊎ (StartsWith released w.rows → ⊥) → KeepsBoard P records (record w { frozen = true }) n
  frozen_kept n long why = record {
    within = omega (arith, long);
    begun = λ now. absurd (cc (now));
    honest = λ honest.
        let was = kept.honest honest in
        elim why [
          | inl up ↦ absurd (both_ways w.frozen was.0 up)
          | inr other ↦ absurd (other (subst (λ l. StartsWith l w.rows) (sym rel.2) (was.1 rel.0 rel.1)))
        ];
  }

  pub published_kept : (p : Published) (w' : WriterState) (n : ℕ) → Publishes released w p w' → n ≡ length w'.rows → KeepsBoard P records w' n
  published_kept (Rows count) w' n p long =
      subst (λ v. KeepsBoard P records v n) (sym p.3) (rows_kept count n p.0 (long ∙ ap (λ v. length v.rows) p.3))
  published_kept Frozen w' n p long =
      subst (λ v. KeepsBoard P records v n) (sym p.1) (frozen_kept n (long ∙ ap (λ v. length v.rows) p.1) p.0)
