-- Going on over what is aside.
use Rattle.std.specs.List.{AllByRecursion}
use Rattle.std.proofs.Common.{◌≡◌, inl, true, ℕ, ◌+◌, ◌-◌, ◌≤◌, List, [], ◌∷◌, ◌++◌, length, take, drop, ap, sym, subst, ◌∙◌, refl, arith, IsSomeAnd, Option, Some, None, length-append}
use Rattle.std.proofs.lemmas.Grind.{flat_map-append}
use Rattle.std.proofs.lemmas.List.{append-nil, append_assoc, take_all}
use Rattle.warp_tag.specs.Moment.{Moment}
use Rattle.warp_tag.proofs.Lists.{same_some}
use Rattle.warp_tag.specs.Table.{Event}
use Rattle.warp_step.specs.Program.{Program}
use Rattle.warp_step.specs.Snapshot.{Snapshot, start_state}
use Rattle.warp_step.specs.Run.{Row, is_after, state_at_end, outputs_of}
use Rattle.warp_tag.specs.declared.out.Out.{Out}
use Rattle.warp_line.specs.Begin.{BeginFrom, last_after}
use Rattle.warp_run.specs.Aside.{AreAside, IsFrom, IsMet, IsSameAside, Leads, SetAside, outputs_between, since}
use Rattle.warp_run.specs.Tip.{AreSaved, GoesBack, ExecutesMore, HasExecuted}
use Rattle.warp_run.specs.History.{IsOfState, IsReady, Saved, Saves, newest, reach}
use Rattle.warp_run.specs.declared.tip.Tip.{Tip}
use Rattle.warp_run.specs.declared.history.Done.{Done}
use Rattle.warp_run.proofs.RowsAside.{aside_since, from_since}
use Rattle.warp_run.proofs.RowsBegun.{begin_append}
use Rattle.warp_run.proofs.RowsFloor.{few_more, still_floor, still_from, still_near}
use Rattle.warp_run.proofs.RowsSaved.{last_append, saved_more, state_append}

-- the newest is the first
pub begins_with : (saves : List Saved) (here : Done) → Some here ≡ newest saves
    → (c : Saved) × (cs : List Saved) × (saves ≡ c ∷ cs) × (c.done ≡ here)
begins_with [] here is = cc
begins_with (c ∷ cs) here is = (c, cs, refl, sym (same_some here c.done is))

-- it leads to the next, of which a step can be made
pub leads_next : (P : Program) (E : List Event) (first : ℕ) (outputs : List Out) (saves : List Saved) (c d : Saved) (cs ds : List Saved)
    → AreAside P E first outputs saves → saves ≡ c ∷ cs → drop 1 saves ≡ d ∷ ds
    → Leads P E first outputs c d × IsReady P d.done.last d.state
leads_next P E first outputs saves c d cs ds h is next =
    let two : saves ≡ c ∷ d ∷ ds = is ∙ ap (λ (rest : List Saved). c ∷ rest) (sym (ap (drop 1) is) ∙ next) in
    let all : AreAside P E first outputs (c ∷ d ∷ ds) = subst (AreAside P E first outputs) two h in
    (all.1, all.2.0)

-- all but what is aside stays
module _ (P : Program) (E : List Event) (x : Tip) (done : List Row) (h : HasExecuted P E x done) (a : SetAside) where
  with_aside : a.history.width ≡ x.aside.history.width → AreAside P E a.first a.outputs a.history.saves → HasExecuted P E (record x { aside = a }) done
  with_aside width aside = record {
    begin = h.begin;
    rows = h.rows;
    last = h.last;
    state = h.state;
    outputs = h.outputs;
    ready = h.ready;
    width = h.width;
    base = h.base;
    floor = h.floor;
    from = h.from;
    saved = h.saved;
    near = h.near;
    due = h.due;
    aside_width = width ∙ h.aside_width;
    aside = aside;
    scratch = h.scratch;
  }

  -- where the earliest is let go
  pub without_earliest : a ≡ record x.aside { history = record x.aside.history { saves = drop 1 x.aside.history.saves; free = a.history.free } }
      → HasExecuted P E (record x { aside = a }) done
  without_earliest is =
      with_aside (ap (λ (b : SetAside). b.history.width) is)
      (subst (λ (b : SetAside). AreAside P E b.first b.outputs b.history.saves) (sym is) (rest x.aside.history.saves h.aside))
    where
      rest : (saves : List Saved) → AreAside P E x.aside.first x.aside.outputs saves → AreAside P E x.aside.first x.aside.outputs (drop 1 saves)
      rest [] k = tt
      rest (c ∷ cs) k = k.2

  -- where those before a tag are
  pub without_past : (tag : Moment) → a ≡ record x.aside { history = record x.aside.history { saves = since tag x.aside.history.saves; free = a.history.free } }
      → HasExecuted P E (record x { aside = a }) done
  without_past tag is =
      with_aside (ap (λ (b : SetAside). b.history.width) is)
      (subst (λ (b : SetAside). AreAside P E b.first b.outputs b.history.saves) (sym is)
      (aside_since P E x.aside.first x.aside.outputs tag x.aside.history.saves h.aside))

-- the run is at the earliest, where that is after the last row, in its state
pub is_met : (t : Moment) (s : Snapshot) (saves : List Saved) → IsSomeAnd (newest saves) (λ done. done.last ≡ Some t) → IsOfState saves s
    → IsMet (Some t) s saves
is_met t s [] last state = absurd state
is_met t s (c ∷ cs) last state = record { earliest = c; others = cs; aside = refl; last = sym last; state = state }

-- so no row is gone over
pub past_none : (x : Tip) (a : SetAside) (tag : Moment)
    → a ≡ record x.aside { history = record x.aside.history { saves = since tag x.aside.history.saves; free = a.history.free } } → ExecutesMore x (record x { aside = a })
past_none x a tag is = record {
  floor = refl;
  rows = λ P E done at. ([], subst (HasExecuted P E (record x { aside = a })) (sym (append-nil done)) (without_past P E x done at a tag is));
}

-- and what is executed is all kept at a tag after the last row
pub lets_go : (P : Program) (E : List Event) (x : Tip) (done : List Row) (a : SetAside) (tag : Moment) → is_after x.last tag ≡ true
    → a ≡ record x.aside { history = record x.aside.history { saves = since tag x.aside.history.saves; free = a.history.free } } → HasExecuted P E x done
    → GoesBack P E tag done (record x { aside = a })
lets_go P E x done a tag after is h = record {
  left = length done;
  within = omega arith;
  at = subst (HasExecuted P E (record x { aside = a })) (sym (take_all (length done) done (omega arith))) (without_past P E x done h a tag is);
  before = after;
  aside = subst (λ (b : SetAside). IsFrom tag b.history.saves) (sym is) (from_since tag x.aside.history.saves);
  ahead = λ later. refl;
  near = inl refl;
}

-- rows are gone over, and then more
pub goes_further : (x y z : Tip) → ExecutesMore x y → ExecutesMore y z → ExecutesMore x z
goes_further x y z h k = record {
  floor = k.floor ∙ h.floor;
  rows = λ P E done at.
      let first = h.rows P E done at in
      let second = k.rows P E (done ++ first.0) first.1 in
      (first.0 ++ second.0, subst (HasExecuted P E z) (append_assoc done first.0 second.0) second.1);
}

-- a front that differs in room, and in what of it is free, is of the same rows
pub same_rows : (P : Program) (E : List Event) (x y : Tip) (done : List Row)
    → y ≡ record x { outputs = y.outputs; history = y.history; aside = y.aside } → y.outputs.items ≡ x.outputs.items
    → y.history ≡ record x.history { room = y.history.room; free = y.history.free } → IsSameAside x.aside y.aside → HasExecuted P E x done → HasExecuted P E y done
same_rows P E x y done is same history aside h = record {
  begin = h.begin;
  rows = ap (λ (f : Tip). f.rows) is ∙ h.rows;
  last = ap (λ (f : Tip). f.last) is ∙ h.last;
  state = ap (λ (f : Tip). f.state) is ∙ h.state;
  outputs = same ∙ h.outputs;
  ready = subst (λ (f : Tip). IsReady P f.last f.state) (sym is) h.ready;
  width = ap (λ (z : Saves). z.width) history ∙ h.width;
  base = subst (λ (f : Tip). f.base ≤ length done) (sym is) h.base;
  floor = subst (λ (f : Tip). f.floor ≡ last_after None (take f.base done)) (sym is) h.floor;
  from = subst (λ (z : Saves). AllByRecursion (λ c. y.base ≤ c.done.rows) z.saves) (sym history)
      (subst (λ (f : Tip). AllByRecursion (λ c. f.base ≤ c.done.rows) x.history.saves) (sym is) h.from);
  saved = subst (λ (z : Saves). AreSaved y.base P done z.saves) (sym history)
      (subst (λ (f : Tip). AreSaved f.base P done x.history.saves) (sym is) h.saved);
  near = subst (λ (z : Saves). y.rows ≤ reach y.base z.saves) (sym history)
      (subst (λ (f : Tip). f.rows ≤ reach f.base x.history.saves) (sym is) h.near);
  due = subst (λ (z : Saves). y.due ≤ reach y.base z.saves) (sym history)
      (subst (λ (f : Tip). f.due ≤ reach f.base x.history.saves) (sym is) h.due);
  aside_width = ap (λ (a : SetAside). a.history.width) aside ∙ h.aside_width;
  aside = subst (λ (a : SetAside). AreAside P E a.first a.outputs a.history.saves) (sym aside) h.aside;
  scratch = ap (λ (f : Tip). f.scratch) is ∙ h.scratch;
}

-- so by it no row is gone over
pub goes_none : (P : Program) (E : List Event) (x y : Tip) (done : List Row)
    → y ≡ record x { outputs = y.outputs; history = y.history; aside = y.aside } → y.outputs.items ≡ x.outputs.items
    → y.history ≡ record x.history { room = y.history.room; free = y.history.free } → IsSameAside x.aside y.aside → HasExecuted P E x done
    → (rows : List Row) × HasExecuted P E y (done ++ rows)
goes_none P E x y done is same history aside h =
    ([], subst (HasExecuted P E y) (sym (append-nil done)) (same_rows P E x y done is same history aside h))

-- from a front that is at one checkpoint to one at the next
pub record Jumps (x y : Tip) (c d : Saved) : Type 0 where
  pub last : x.last ≡ c.done.last
  pub state : x.state ≡ c.state
  pub room : x.rows + (d.done.rows - c.done.rows) ≤ reach x.base x.history.saves
  pub new_rows : y.rows ≡ x.rows + (d.done.rows - c.done.rows)
  pub new_last : y.last ≡ d.done.last
  pub new_state : y.state ≡ d.state
  pub new_outputs : y.outputs.items ≡ x.outputs.items ++ outputs_between x.aside.first x.aside.outputs c.done.outputs d.done.outputs
  pub new_aside : IsSameAside x.aside y.aside
  pub due : y.due ≡ x.due
  pub base : y.base ≡ x.base
  pub floor : y.floor ≡ x.floor
  pub history : y.history ≡ x.history
  pub scratch : y.scratch ≡ x.scratch

-- then the rows between are executed
pub jumps : (P : Program) (E : List Event) (x y : Tip) (done : List Row) (c d : Saved) → Jumps x y c d → Leads P E x.aside.first x.aside.outputs c d
    → IsReady P d.done.last d.state → HasExecuted P E x done → (rows : List Row) × HasExecuted P E y (done ++ rows)
jumps P E x y done c d j on ready h =
    let s : Snapshot = start_state P in
    let rows : List Row = on.rows in
    let last : c.done.last ≡ last_after None done = sym j.last ∙ h.last in
    let state : c.state ≡ state_at_end s done = sym j.state ∙ h.state in
    let at_last : BeginFrom P E (last_after None done) c.state rows = subst (λ (o : Option Moment). BeginFrom P E o c.state rows) last on.begin in
    let at_state : BeginFrom P E (last_after None done) (state_at_end s done) rows =
    subst (λ (t : Snapshot). BeginFrom P E (last_after None done) t rows) state at_last in
    let lengths = length-append done rows in
    let count = on.count in
    let room = j.room in
    let more = j.new_rows in
    let counted = h.rows in (
      rows,
      record {
        begin = begin_append P E None s done rows h.begin at_state;
        rows = omega arith;
        last = j.new_last ∙ on.last ∙ ap (λ (o : Option Moment). last_after o rows) last ∙ sym (last_append None done rows);
        state = j.new_state ∙ on.state ∙ ap (λ (t : Snapshot). state_at_end t rows) state ∙ sym (state_append s done rows);
        outputs = j.new_outputs ∙ ap (λ (os : List Out). os ++ outputs_between x.aside.first x.aside.outputs c.done.outputs d.done.outputs) h.outputs
            ∙ ap (λ (os : List Out). outputs_of done ++ os) (sym on.gives)
            ∙ sym (flat_map-append (λ (r : Row). r.outputs) done rows);
        ready = subst (λ (o : Option Moment). IsReady P o y.state) (sym j.new_last) (subst (IsReady P d.done.last) (sym j.new_state) ready);
        width = ap (λ (z : _). z.width) j.history ∙ h.width;
        base = few_more y x done rows j.base h.base;
        floor = still_floor y x done rows j.base j.floor h.base h.floor;
        from = still_from y x j.base j.history h.from;
        saved = subst (λ (n : ℕ). AreSaved n P (done ++ rows) y.history.saves) (sym j.base)
            (subst (λ (z : _). AreSaved x.base P (done ++ rows) z.saves) (sym j.history) (saved_more x.base P done rows x.history.saves h.saved));
        near = still_near y x y.rows j.base j.history (omega arith);
        due = still_near y x y.due j.base j.history (subst (λ (n : ℕ). n ≤ reach x.base x.history.saves) (sym j.due) h.due);
        aside_width = ap (λ (a : SetAside). a.history.width) j.new_aside ∙ h.aside_width;
        aside = subst (λ (a : SetAside). AreAside P E a.first a.outputs a.history.saves) (sym j.new_aside) h.aside;
        scratch = j.scratch ∙ h.scratch;
      },
    )
