-- What a `Warp` stands for after a change of one name.
use Rattle.std.proofs.Common.{◌≡◌, inl, inr, ℕ, true, false, IsTrue, IsSomeAnd, List, [], ◌∷◌, length, take, drop, ap, sym, subst, ◌∙◌, refl, arith, Some, unwrap_or}
use Rattle.std.specs.List.{list_all}
use Rattle.std.specs.Prelude.{vec_capacity}
use Rattle.std.specs.Option.{option_map}
use Rattle.std.proofs.lemmas.List.{append-nil, length-take-le, take-append-drop}
use Rattle.warp_tag.specs.Moment.{Moment}
use Rattle.warp_tag.specs.Table.{Event, IsTable, changed, fresh, known, live, live_event}
use Rattle.warp_tag.specs.declared.entry.Entry.{Entry}
use Rattle.warp_tag.proofs.Known.{before_change_known}
use Rattle.warp_tag.proofs.Lists.{same_some}
use Rattle.warp_tag.proofs.Tables.{KeepsNames, before_change, live_shows_at, live_stays_at, table_changed}
use Rattle.warp_tag.proofs.Tags.{not_before_self}
use Rattle.warp_step.specs.Program.{Program}
use Rattle.warp_step.specs.Run.{Row, Run, is_after}
use Rattle.warp_step.specs.Events.{event_fits}
use Rattle.warp_arena.specs.Places.{Contents, Reaches, entries_of, entry_of, with_change}
use Rattle.warp_arena.proofs.Handles.{entry_of-with_change_same}
use Rattle.warp_line.specs.Timeline.{Standing, NowStands}
use Rattle.warp_run.specs.Tip.{GoesBack, HasExecuted, KeepsRoom}
use Rattle.warp_run.specs.History.{spacing}
use Rattle.warp_run.specs.Skips.{AreFree}
use Rattle.warp_run.specs.Walk.{AreThrough, ahead}
use Rattle.warp_run.specs.Warp.{ChangedFrom, NamesAt, StandsFor, ahead_of, latest_with, room_in}
use Rattle.warp_run.specs.declared.tip.Tip.{Tip}
use Rattle.warp_run.specs.declared.warp.Warp.{Warp}
use Rattle.warp_run.proofs.ChangesEvents.{early_stay, known_tag, late_stay}
use Rattle.warp_run.proofs.ChangesFloor.{changed_ahead, known_ahead}
use Rattle.warp_run.proofs.ChangesPlaces.{ahead_stays}
use Rattle.warp_run.proofs.ChangesRows.{keeps_done}
use Rattle.warp_run.proofs.RowsMoved.{moved}

-- what is known of a name changed
module _ (f : Entry → Entry) (names : KeepsNames f) {was : Entry} {origin : ℕ} {tag : Moment} {old new : Warp} (is : ChangedFrom was f old new origin tag)
    (later : is_after old.tip.floor tag ≡ true) {m : Standing} (h : StandsFor old m)
  where
    table_is : entries_of new.arena.places ≡ ahead_of old.tip.floor (changed f origin tag m.table)
    table_is = is.table ∙ ap (changed f origin tag) h.table ∙ changed_ahead old.tip.floor origin tag later f names m.table

    ordered_is : IsTable (changed f origin tag m.table)
    ordered_is = table_changed f names origin tag m.table h.ordered

    front_at : HasExecuted m.program (live m.table) new.tip m.done
    front_at = subst (λ x. HasExecuted m.program (live m.table) x m.done) (sym (ap (λ w. w.tip) is.others)) h.tip

    change_from : before_change origin tag m.table ≡ was
    change_from =
        before_change_known origin tag m.table h.ordered
        ∙ ap (λ k. unwrap_or k (fresh origin tag)) (sym (known_ahead old.tip.floor origin tag later m.table) ∙ ap (known origin tag) (sym h.table))
        ∙ is.before

    -- where what counts of it changed, what a `Warp` that went back has left is done
    pub undone_from : (live_event (f was) ≡ live_event was → ⊥) → IsTrue (list_all (event_fits m.program) (live (changed f origin tag m.table)))
        → AreThrough (latest_with tag old.latest) (live (changed f origin tag m.table))
        → (w : Warp) → w.arena ≡ new.arena → w.tip.floor ≡ new.tip.floor → w.latest ≡ latest_with tag new.latest → w.settled ≡ false
        → ((P : Program) (E : List Event) (done : List Row) → HasExecuted P E new.tip done → GoesBack P E tag done w.tip)
        → (Reaches new.arena.places (ahead new.tip.last new.arena.places) new.cursor → Reaches w.arena.places (ahead w.tip.last w.arena.places) w.cursor)
        → AreFree w.skips (live (changed f origin tag m.table))
        → NowStands StandsFor spacing 0 tag w m (changed f origin tag m.table)
    undone_from differs fits through w kept floor latest unsettled back cursor free =
        let E : List Event = live (changed f origin tag m.table) in
        let goes = back m.program (live m.table) m.done front_at in
        let early = early_stay f names origin tag m.table in
        let lengths : length (take goes.left m.done) ≡ goes.left = length-take-le goes.left m.done goes.within in (
          take goes.left m.done,
          record {
            program = h.program;
            origins = ap (λ a. a.origins) kept ∙ is.origins ∙ h.origins;
            table = ap (λ a. entries_of a.places) kept ∙ table_is
                ∙ ap (λ o. ahead_of o (changed f origin tag m.table)) (sym (floor ∙ ap (λ v. v.tip.floor) is.others));
            ordered = ordered_is;
            events = fits;
            tip = moved m.program (live m.table) E tag w.tip (take goes.left m.done) (early tag (not_before_self tag))
                (late_stay f names origin tag m.table) goes.before goes.aside goes.at;
            cursor = cursor is.cursor;
            latest = subst (λ l. AreThrough l E) (sym (latest ∙ ap (λ v. latest_with tag v.latest) is.others)) through;
            settled = λ yes. let no : true ≡ false = sym yes ∙ unsettled in cc;
            skips = free;
          },
          keeps_done m tag (changed f origin tag m.table) (take goes.left m.done) early
              (drop goes.left m.done, sym (take-append-drop goes.left m.done)) (λ later. lengths ∙ goes.ahead later)
              (elim goes.near [ inl all ↦ inl (lengths ∙ all) | inr few ↦ inr (λ trace run. let most = few trace run in omega arith) ])
              (λ same. absurd (differs (live_shows_at f origin tag m.table was change_from same))),
        )

    -- where what counts of it changed, the live events are not those that they were
    pub never_from : (live_event (f was) ≡ live_event was → ⊥) → live (changed f origin tag m.table) ≡ live m.table → ⊥
    never_from differs same = differs (live_shows_at f origin tag m.table was change_from same)

    -- where it stayed, what was done stays done
    pub same_from : live_event (f was) ≡ live_event was → NowStands StandsFor spacing 0 tag new m (changed f origin tag m.table)
    same_from same =
        let lives : live m.table ≡ live (changed f origin tag m.table) =
        sym (live_stays_at f origin tag m.table was change_from same) in (
          m.done,
          record {
            program = h.program;
            origins = is.origins ∙ h.origins;
            table = table_is ∙ ap (λ o. ahead_of o (changed f origin tag m.table)) (sym (ap (λ v. v.tip.floor) is.others));
            ordered = ordered_is;
            events = subst (λ E. IsTrue (list_all (event_fits m.program) E)) lives h.events;
            tip = subst (λ E. HasExecuted m.program E new.tip m.done) lives front_at;
            cursor = is.cursor;
            latest = subst (AreThrough new.latest) lives (subst (λ l. AreThrough l (live m.table)) (sym (ap (λ w. w.latest) is.others)) h.latest);
            settled = λ yes. subst (λ E. Run m.program E m.done) lives (h.settled (sym (ap (λ w. w.settled) is.others) ∙ yes));
            skips = subst (AreFree new.skips) lives (subst (λ s. AreFree s (live m.table)) (sym (ap (λ w. w.skips) is.others)) h.skips);
          },
          keeps_done m tag (changed f origin tag m.table) m.done (early_stay f names origin tag m.table) ([], sym (append-nil m.done))
              (λ later. refl) (inl refl) (λ kept. refl),
        )

-- a handle that names a name, and the arena with a change of its entry
module _ (f : Entry → Entry) (names : KeepsNames f) {origin : ℕ} {tag : Moment} {old new : Warp} {node : ℕ} (is : NamesAt old new origin tag node)
    {arena : Contents} (made : arena ≡ record new.arena { places = with_change f node new.arena.places }) where
  -- the handle's entry is of the tag
  pub named_after : IsSomeAnd (entry_of node arena.places) (λ e. e.tag ≡ tag)
  named_after =
      let e : Entry = unwrap_or (known origin tag (entries_of old.arena.places)) (fresh origin tag) in
      let there : entry_of node arena.places ≡ Some (f e) =
      ap (λ a. entry_of node a.places) made ∙ entry_of-with_change_same f node new.arena.places ∙ ap (option_map f) is.entry in
      subst (λ o. IsSomeAnd o (λ d. d.tag ≡ tag)) (sym there) ((names e).1 ∙ known_tag origin tag (entries_of old.arena.places))

  -- of what the handle names before and after the change
  module _ (later : is_after old.tip.floor tag ≡ true) {e d : Entry} (found : entry_of node new.arena.places ≡ Some e) (after : d ≡ f e)
      {m : Standing} (h : StandsFor old m) where
    changed_from : ChangedFrom e f old (record new { arena = arena }) origin tag
    changed_from =
        record {
          others = ap (λ (w : Warp). record w { arena = arena }) is.others;
          origins = ap (λ a. a.origins) made ∙ is.origins;
          before = same_some _ _ (sym is.entry ∙ found);
          table = ap (λ a. entries_of a.places) made ∙ is.change f;
          cursor =
              subst (λ ps. Reaches ps (ahead new.tip.last ps) new.cursor) (sym (ap (λ a. a.places) made))
              (ahead_stays f node names new.tip.last new.arena.places new.cursor is.cursor);
        }

    pub undone_stands : (live_event d ≡ live_event e → ⊥) → IsTrue (list_all (event_fits m.program) (live (changed f origin tag m.table)))
        → AreThrough (latest_with tag old.latest) (live (changed f origin tag m.table))
        → (w : Warp) → w.arena ≡ arena → w.tip.floor ≡ new.tip.floor → w.latest ≡ latest_with tag new.latest → w.settled ≡ false
        → ((P : Program) (E : List Event) (done : List Row) → HasExecuted P E new.tip done → GoesBack P E tag done w.tip)
        → (Reaches arena.places (ahead new.tip.last arena.places) new.cursor → Reaches w.arena.places (ahead w.tip.last w.arena.places) w.cursor)
        → AreFree w.skips (live (changed f origin tag m.table))
        → NowStands StandsFor spacing 0 tag w m (changed f origin tag m.table)
    undone_stands differs = undone_from f names changed_from later h (λ same. differs (ap live_event after ∙ same))

    pub never_same : (live_event d ≡ live_event e → ⊥) → live (changed f origin tag m.table) ≡ live m.table → ⊥
    never_same differs = never_from f names changed_from later h (λ same. differs (ap live_event after ∙ same))

    pub same_stands : live_event d ≡ live_event e → NowStands StandsFor spacing 0 tag (record new { arena = arena }) m (changed f origin tag m.table)
    same_stands same = same_from f names changed_from later h (ap live_event (sym after) ∙ same)

-- ---- room

-- nothing has other room than itself
pub keeps_room : (x : Tip) → KeepsRoom x x
keeps_room x = record { history = refl; outputs = refl; aside = refl; aside_outputs = refl }

-- what has the same room in each part
pub same_room : (w v : Warp) → v.arena.room ≡ w.arena.room → KeepsRoom w.tip v.tip → v.given ≡ w.given → room_in v ≡ room_in w
same_room w v arena tip given = λ i.
    (arena i).nodes ∷ (arena i).hints ∷ (arena i).own_hints
    ∷ (tip.history i).marks ∷ (tip.history i).entries
    ∷ (tip.history i).values.values ∷ (tip.history i).values.cells ∷ (tip.history i).values.steps ∷ tip.outputs i
    ∷ (tip.aside i).marks ∷ (tip.aside i).entries
    ∷ (tip.aside i).values.values ∷ (tip.aside i).values.cells ∷ (tip.aside i).values.steps ∷ tip.aside_outputs i
    ∷ vec_capacity (given i) ∷ []
