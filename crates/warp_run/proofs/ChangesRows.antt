-- What a change leaves done where the run goes back.
use Rattle.std.proofs.Common.{◌≡◌, ◌⊎◌, inl, inr, ◌+◌, ◌≤◌, Bool, true, false, List, [], ◌∷◌, None, length, ap, arith, filter}
use Rattle.std.proofs.lemmas.Bool.{cases_Bool}
use Rattle.std.proofs.lemmas.Bool.Decides.{nat_tests}
use Rattle.std.proofs.lemmas.List.Sums.{length-filter}
use Rattle.warp_tag.specs.Lists.{StartsWith}
use Rattle.warp_tag.specs.Moment.{Moment, is_before}
use Rattle.warp_tag.specs.Table.{live}
use Rattle.warp_tag.specs.declared.entry.Entry.{Entry}
use Rattle.warp_tag.proofs.Lists.{filter-here, filter-past}
use Rattle.warp_tag.proofs.Tags.{before_trans, not_before_self}
use Rattle.warp_step.specs.Run.{Row, Run, events_until, is_after, rows_until}
use Rattle.warp_step.proofs.RowsBefore.{early_rows}
use Rattle.warp_line.specs.Begin.{last_after}
use Rattle.warp_line.specs.Timeline.{Standing, KeepsDone, lesser, rows_before}
use Rattle.warp_run.specs.History.{spacing}

-- what passes a test is no more than what passes a weaker one
fewer_pass : (p q : Row → Bool) → ((r : Row) → p r ≡ true → q r ≡ true) → (rows : List Row) → length (filter p rows) ≤ length (filter q rows)
fewer_pass p q weaker [] = omega arith
fewer_pass p q weaker (r ∷ rows) =
    let rest : length (filter p rows) ≤ length (filter q rows) = fewer_pass p q weaker rows in
    elim (cases_Bool (p r)) [
      | inl h ↦ rw (filter-here p r rows h, filter-here q r rows (weaker r h)) (omega arith)
      | inr h ↦ elim (cases_Bool (q r)) [
        | inl k ↦ rw (filter-past p r rows h, filter-here q r rows k) (omega arith)
        | inr k ↦ rw (filter-past p r rows h, filter-past q r rows k) rest
      ]
    ]

-- what is before the one tag is before the other
fewer_before : (t u : Moment) → ((s : Moment) → is_before s t ≡ true → is_before s u ≡ true) → (rows : List Row)
    → rows_before t rows ≤ rows_before u rows
fewer_before t u weaker rows =
    let some = fewer_pass (λ r. is_before r.tag t) (λ r. is_before r.tag u) (λ r h. weaker r.tag h) rows in
    let here = length-filter (λ (r : Row). is_before r.tag t) rows in
    let there = length-filter (λ (r : Row). is_before r.tag u) rows in
    omega arith

-- the lesser of two tags is not after the first
lesser_first : (t u : Moment) → is_before t (lesser t u) ≡ false
lesser_first t u = elim (cases_Bool (is_before u t)) [
  | inl h ↦ rw h (grind (arith, nat_tests))
  | inr h ↦ rw h (not_before_self t)
]

-- and what is before it is before both
before_first : (t u s : Moment) → is_before s (lesser t u) ≡ true → is_before s t ≡ true
before_first t u s k = elim (cases_Bool (is_before u t)) [
  | inl h ↦ before_trans s u t (rw h at k) h
  | inr h ↦ rw h at k
]

before_second : (t u s : Moment) → is_before s (lesser t u) ≡ true → is_before s u ≡ true
before_second t u s k = elim (cases_Bool (is_before u t)) [
  | inl h ↦ rw h at k
  | inr h ↦ let early : is_before s t ≡ true = rw h at k in grind (arith, nat_tests)
]

-- what a change at a tag leaves done, where all rows stay done, or few more of the run were before the tag
pub keeps_done : (m : Standing) (tag : Moment) (table : List Entry) (done : List Row)
    → ((end : Moment) → is_before tag end ≡ false → events_until end (live m.table) ≡ events_until end (live table))
    → StartsWith m.done done
    → (is_after (last_after None m.done) tag ≡ true → length done ≡ length m.done)
    → (length done ≡ length m.done) ⊎ ((trace : List Row) → Run m.program (live m.table) trace → rows_before tag trace ≤ length done + spacing)
    → (live table ≡ live m.table → done ≡ m.done)
    → KeepsDone spacing 0 tag m (record m { table = table; done = done })
keeps_done m tag table done early begins ahead near unchanged =
    record {
      front = λ before after rb ra u enough.
          let end : Moment = lesser tag u in
          let same : rows_until end before ≡ rows_until end after =
          early_rows m.program (live m.table) (live table) before after end rb ra (early end (lesser_first tag u)) in
          let lengths : length (rows_until end before) ≡ length (rows_until end after) = ap length same in
          let here = length-filter (λ (r : Row). is_before r.tag end) before in
          let there = length-filter (λ (r : Row). is_before r.tag end) after in
          elim near [
            | inl all ↦
                let some : rows_before end before ≤ rows_before u before = fewer_before end u (before_second tag u) before in
                omega arith
            | inr few ↦
                let some : rows_before end before ≤ rows_before tag before = fewer_before end tag (before_first tag u) before in
                let most : rows_before tag before ≤ length done + spacing = few before rb in
                omega arith
          ];
      ahead = λ later. let all = ahead later in omega arith;
      unchanged = unchanged;
      idle = begins;
    }
