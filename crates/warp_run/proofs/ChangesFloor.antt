-- The entries and places that are not behind a floor: what is known of a name there, a change of it, and a walk along them.
use Rattle.std.proofs.Common.{◌≡◌, ◌<◌, ℕ, Bool, true, false, not, cond, ◌&&◌, ◌==◌, List, [], ◌∷◌, length, ap, sym, subst, ◌∙◌, refl, arith, filter, inl, inr, IsSome, Option, Some, None, Result, Ok, Err, OnOk, OnErr}
use Rattle.std.proofs.lemmas.Bool.{cases_Bool}
use Rattle.std.proofs.lemmas.Bool.Decides.{nat_tests}
use Rattle.std.proofs.lemmas.List.Sums.{count_by-le-length, length-filter}
use Rattle.std.proofs.lemmas.List.{length-map}
use Rattle.warp_tag.specs.Limits.{most_names}
use Rattle.warp_tag.specs.Moment.{Moment, is_before}
use Rattle.warp_tag.specs.Table.{changed, fresh, has_name, known, live, name_before}
use Rattle.warp_tag.specs.declared.entry.Entry.{Entry}
use Rattle.warp_tag.proofs.Known.{known_past}
use Rattle.warp_tag.proofs.Lists.{filter-here, filter-past, same_some}
use Rattle.warp_tag.proofs.Names.{named_is}
use Rattle.warp_tag.proofs.Tables.{KeepsNames}
use Rattle.warp_step.specs.Run.{is_after}
use Rattle.warp_arena.specs.Places.{Contents, Place, Reaches, entries_of, entry_of, first_node, places_from, with_free}
use Rattle.warp_arena.proofs.Tables.{filter-map_at}
use Rattle.warp_line.specs.Timeline.{MovesFloor, Standing, is_behind}
use Rattle.warp_run.specs.Tip.{HasExecuted}
use Rattle.warp_run.specs.Walk.{ahead}
use Rattle.warp_run.specs.Warp.{StandsFor, ahead_of}
use Rattle.warp_run.specs.declared.tip.Tip.{Tip}
use Rattle.warp_run.specs.declared.warp.Warp.{Warp}
use Rattle.warp_run.proofs.RowsFloor.{after_floor}
use Rattle.warp_run.proofs.TurnsLive.{both_filters}

-- what is not behind is ahead
pub not_behind : (floor : Option Moment) (t : Moment) → is_behind floor t ≡ false → is_after floor t ≡ true
not_behind floor t h = elim (cases_Bool (is_after floor t)) [
  | inl so ↦ so
  | inr not_so ↦ let never : true ≡ false = sym (ap not not_so) ∙ h in cc
]

-- ---- a name that is ahead

earlier : (last : Option Moment) (u v : Moment) → is_after last v ≡ true → is_after last u ≡ false → is_before u v ≡ true
earlier None u v after early = let never : true ≡ false = early in cc
earlier (Some l) u v after early = grind (arith, nat_tests)

module _ (floor : Option Moment) (o : ℕ) (t : Moment) (later : is_after floor t ≡ true) where
  -- an entry that is behind is of another name
  other_name : (e : Entry) → is_after floor e.tag ≡ false → has_name o t e ≡ false
  other_name e behind = elim (cases_Bool (has_name o t e)) [
    | inl n ↦ let never : true ≡ false = sym later ∙ ap (is_after floor) (named_is o t e n).1 ∙ behind in cc
    | inr so ↦ so
  ]

  -- that comes before it
  earlier_name : (e : Entry) → is_after floor e.tag ≡ false → name_before o t e ≡ false
  earlier_name e behind =
      let less : is_before e.tag t ≡ true = earlier floor e.tag t later behind in
      grind (arith, nat_tests)

  -- so what is known of it is known ahead
  pub known_ahead : (es : List Entry) → known o t (ahead_of floor es) ≡ known o t es
  known_ahead [] = refl
  known_ahead (e ∷ es) = elim (cases_Bool (is_after floor e.tag)) [
    | inl here ↦
        ap (known o t) (filter-here (λ (d : Entry). is_after floor d.tag) e es here)
        ∙ ap (λ k. cond (has_name o t e) (Some e) k) (known_ahead es)
    | inr past ↦
        ap (known o t) (filter-past (λ (d : Entry). is_after floor d.tag) e es past) ∙ known_ahead es
        ∙ sym (known_past o t e es (other_name e past))
  ]

  -- and a change of it is one ahead
  module _ (f : Entry → Entry) (names : KeepsNames f) where
    new_ahead : (es : List Entry) → ahead_of floor (f (fresh o t) ∷ es) ≡ f (fresh o t) ∷ ahead_of floor es
    new_ahead es = filter-here (λ (d : Entry). is_after floor d.tag) (f (fresh o t)) es (ap (is_after floor) (names (fresh o t)).1 ∙ later)

    -- where the first entry is ahead
    change_here : (e : Entry) (es ds : List Entry) → is_after floor e.tag ≡ true → ahead_of floor es ≡ ds
        → changed f o t ds ≡ ahead_of floor (changed f o t es) → changed f o t (e ∷ ds) ≡ ahead_of floor (changed f o t (e ∷ es))
    change_here e es ds here kept rest = elim (cases_Bool (name_before o t e)) [
      | inl b ↦
          rw b
          (ap (λ cs. f (fresh o t) ∷ cs) (ap (λ cs. e ∷ cs) (sym kept) ∙ sym (filter-here (λ (d : Entry). is_after floor d.tag) e es here))
          ∙ sym (new_ahead (e ∷ es)))
      | inr b ↦ elim (cases_Bool (has_name o t e)) [
        | inl n ↦
            rw (b, n)
            (ap (λ cs. f e ∷ cs) (sym kept)
            ∙ sym (filter-here (λ (d : Entry). is_after floor d.tag) (f e) es (ap (is_after floor) (names e).1 ∙ here)))
        | inr n ↦
            rw (b, n)
            (ap (λ cs. e ∷ cs) rest ∙ sym (filter-here (λ (d : Entry). is_after floor d.tag) e (changed f o t es) here))
      ]
    ]

    -- and where it is behind
    change_past : (e : Entry) (es : List Entry) → is_after floor e.tag ≡ false
        → changed f o t (ahead_of floor es) ≡ ahead_of floor (changed f o t es) → changed f o t (ahead_of floor es) ≡ ahead_of floor (changed f o t (e ∷ es))
    change_past e es past rest =
        let whole : changed f o t (e ∷ es) ≡ e ∷ changed f o t es = rw (earlier_name e past, other_name e past) refl in
        rest ∙ sym (filter-past (λ (d : Entry). is_after floor d.tag) e (changed f o t es) past) ∙ ap (ahead_of floor) (sym whole)

    pub changed_ahead : (es : List Entry) → changed f o t (ahead_of floor es) ≡ ahead_of floor (changed f o t es)
    changed_ahead [] = sym (new_ahead [])
    changed_ahead (e ∷ es) = elim (cases_Bool (is_after floor e.tag)) [
      | inl here ↦
          ap (changed f o t) (filter-here (λ (d : Entry). is_after floor d.tag) e es here)
          ∙ change_here e es (ahead_of floor es) here refl (changed_ahead es)
      | inr past ↦
          ap (changed f o t) (filter-past (λ (d : Entry). is_after floor d.tag) e es past)
          ∙ change_past e es past (changed_ahead es)
    ]

-- ---- one floor after another

-- where what is after the one is after the other, both are one test
pub both_after : (floor last : Option Moment) → ((t : Moment) → is_after last t ≡ true → is_after floor t ≡ true) → (u : Moment)
    → (is_after floor u && is_after last u) ≡ is_after last u
both_after floor last narrow u = elim (cases_Bool (is_after last u)) [
  | inl later ↦ let first = narrow u later in grind (arith, nat_tests)
  | inr early ↦ grind (arith, nat_tests)
]

-- what is after a floor that moved up is after the one that was
pub after_moved : (below : Moment) (old new : Option Moment) → MovesFloor below old new → (t : Moment) → is_after new t ≡ true → is_after old t ≡ true
after_moved below old new moves t after = elim (cases_Bool (is_after old t)) [
  | inl so ↦ so
  | inr past ↦ let never : true ≡ false = sym (moves.kept t (ap not past)) ∙ ap not after in cc
]

and_swap : (a b : Bool) → (a && b) ≡ (b && a)
and_swap true true = refl
and_swap true false = refl
and_swap false true = refl
and_swap false false = refl

not_equal : (a b : ℕ) → (a == b) ≡ false → a ≡ b → ⊥
not_equal a b other same = let never : true ≡ false = sym (eq_self b) ∙ ap (λ (n : ℕ). n == b) (sym same) ∙ other in cc
  where
    eq_self : (n : ℕ) → (n == n) ≡ true
    eq_self n = grind (arith, nat_tests)

-- a handle from which places go on names one
used_from : (n : ℕ) (qs : List Place) → first_node (places_from n qs) ≡ Some n → IsSome (entry_of n qs)
used_from n [] first = let never : None ≡ Some n = first in cc
used_from n (q ∷ qs) first = elim (cases_Bool (q.node == n)) [
  | inl is ↦ rw is refl
  | inr other ↦ rw other (used_from n qs (rw other at first))
]

module _ (floor last : Option Moment) (narrow : (t : Moment) → is_after last t ≡ true → is_after floor t ≡ true) where
  pub ahead_entries : (es : List Entry) → ahead_of last (ahead_of floor es) ≡ ahead_of last es
  ahead_entries es =
      both_filters (λ (e : Entry). is_after floor e.tag) (λ e. is_after last e.tag) es
      ∙ ap (λ (test : Entry → Bool). filter test es) (λ i e. both_after floor last narrow e.tag i)

  ahead_places : (ps : List Place) → ahead last (ahead floor ps) ≡ ahead last ps
  ahead_places ps =
      both_filters (λ (p : Place). is_after floor p.entry.tag) (λ p. is_after last p.entry.tag) ps
      ∙ ap (λ (test : Place → Bool). filter test ps) (λ i p. both_after floor last narrow p.entry.tag i)

  ahead_of_later : (ps : List Place) → ahead floor (ahead last ps) ≡ ahead last ps
  ahead_of_later ps =
      both_filters (λ (p : Place). is_after last p.entry.tag) (λ p. is_after floor p.entry.tag) ps
      ∙ ap (λ (test : Place → Bool). filter test ps)
      (λ i p. (and_swap (is_after last p.entry.tag) (is_after floor p.entry.tag) ∙ both_after floor last narrow p.entry.tag) i)

  not_later : (t : Moment) → is_after floor t ≡ false → is_after last t ≡ false
  not_later t past = elim (cases_Bool (is_after last t)) [
    | inl later ↦ let never : true ≡ false = sym (narrow t later) ∙ past in cc
    | inr so ↦ so
  ]

  -- from a place that is the first after the last row all is ahead
  from_kept : (n : ℕ) (ps : List Place) → first_node (ahead last ps) ≡ Some n → places_from n ps ≡ ahead last ps
      → places_from n (ahead floor ps) ≡ ahead last ps
  from_kept n [] first from = refl
  from_kept n (p ∷ ps) first from = elim (cases_Bool (is_after floor p.entry.tag)) [
    | inl here ↦
        let kept : ahead floor (p ∷ ps) ≡ p ∷ ahead floor ps = filter-here (λ (q : Place). is_after floor q.entry.tag) p ps here in
        elim (cases_Bool (p.node == n)) [
          | inl is ↦
              let all : p ∷ ps ≡ ahead last (p ∷ ps) = sym (ap (λ b. cond b (p ∷ ps) (places_from n ps)) is) ∙ from in
              ap (places_from n) kept ∙ ap (λ b. cond b (p ∷ ahead floor ps) (places_from n (ahead floor ps))) is ∙ sym kept
              ∙ ap (ahead floor) all ∙ ahead_of_later (p ∷ ps)
          | inr other ↦
              let back : places_from n ps ≡ ahead last (p ∷ ps) = sym (ap (λ b. cond b (p ∷ ps) (places_from n ps)) other) ∙ from in
              elim (cases_Bool (is_after last p.entry.tag)) [
                | inl later ↦
                    let head : first_node (ahead last (p ∷ ps)) ≡ Some p.node =
                    ap first_node (filter-here (λ (q : Place). is_after last q.entry.tag) p ps later) in
                    absurd (not_equal p.node n other (same_some p.node n (sym head ∙ first)))
                | inr early ↦
                    let left : ahead last (p ∷ ps) ≡ ahead last ps = filter-past (λ (q : Place). is_after last q.entry.tag) p ps early in
                    ap (places_from n) kept ∙ ap (λ b. cond b (p ∷ ahead floor ps) (places_from n (ahead floor ps))) other
                    ∙ from_kept n ps (ap first_node (sym left) ∙ first) (back ∙ left) ∙ sym left
              ]
        ]
    | inr past ↦
        let kept : ahead floor (p ∷ ps) ≡ ahead floor ps = filter-past (λ (q : Place). is_after floor q.entry.tag) p ps past in
        let left : ahead last (p ∷ ps) ≡ ahead last ps = filter-past (λ (q : Place). is_after last q.entry.tag) p ps (not_later p.entry.tag past) in
        elim (cases_Bool (p.node == n)) [
          | inl is ↦
              let all : p ∷ ps ≡ ahead last ps = sym (ap (λ b. cond b (p ∷ ps) (places_from n ps)) is) ∙ from ∙ left in
              let lengths = ap (λ (qs : List Place). length qs) all in
              let count = length-filter (λ (q : Place). is_after last q.entry.tag) ps in
              let most = count_by-le-length (λ (q : Place). is_after last q.entry.tag) ps in
              absurd (omega arith)
          | inr other ↦
              let back : places_from n ps ≡ ahead last (p ∷ ps) = sym (ap (λ b. cond b (p ∷ ps) (places_from n ps)) other) ∙ from in
              ap (places_from n) kept ∙ from_kept n ps (ap first_node (sym left) ∙ first) (back ∙ left) ∙ sym left
        ]
  ]

  -- so a walk that stands at the first place after the last row stands there still
  pub still_reaches : (ps : List Place) (at : Option ℕ) → Reaches ps (ahead last ps) at → Reaches (ahead floor ps) (ahead last (ahead floor ps)) at
  still_reaches ps None r = record {
    handle = r.handle ∙ ap first_node (sym (ahead_places ps));
    used = tt;
    left = r.left ∙ sym (ahead_places ps);
  }
  still_reaches ps (Some n) r =
      let from : places_from n (ahead floor ps) ≡ ahead last ps = from_kept n ps (sym r.handle) r.left in
      record {
        handle = r.handle ∙ ap first_node (sym (ahead_places ps));
        used = used_from n (ahead floor ps) (ap first_node from ∙ sym r.handle);
        left = from ∙ sym (ahead_places ps);
      }

-- ---- a `Warp` that collects

-- the nodes behind the floor are free, and what is executed is the same
pub collected : (w : Warp) (a : Contents) (x : Tip) (m : Standing) (below : Moment) → StandsFor w m
    → a ≡ record w.arena { places = ahead x.floor w.arena.places; free = a.free } → HasExecuted m.program (live m.table) x m.done
    → MovesFloor below w.tip.floor x.floor → x.last ≡ w.tip.last → StandsFor (record w { arena = a; tip = x }) m
collected w a x m below h is at moves same =
    let places : a.places ≡ ahead x.floor w.arena.places = ap (λ (b : Contents). b.places) is in
    let narrow = after_floor m.program (live m.table) x m.done at in
    let cursor : Reaches w.arena.places (ahead x.last w.arena.places) w.cursor =
    subst (λ (o : Option Moment). Reaches w.arena.places (ahead o w.arena.places) w.cursor) (sym same) h.cursor in
    record {
      program = h.program;
      origins = ap (λ (b : Contents). b.origins) is ∙ h.origins;
      table = ap entries_of places ∙ sym (filter-map_at (λ (d : Entry). is_after x.floor d.tag) (λ (q : Place). q.entry) w.arena.places)
          ∙ ap (ahead_of x.floor) h.table ∙ ahead_entries w.tip.floor x.floor (after_moved below w.tip.floor x.floor moves) m.table;
      ordered = h.ordered;
      events = h.events;
      tip = at;
      cursor = subst (λ (ps : List Place). Reaches ps (ahead x.last ps) w.cursor) (sym places)
          (still_reaches x.floor x.last narrow w.arena.places w.cursor cursor);
      latest = h.latest;
      settled = h.settled;
      skips = h.skips;
    }

-- ---- a `Warp` whose arena has more room

-- where its arena has the same origins and places, it stands for the same
pub still_stands : (w : Warp) (a : Contents) (m : Standing) → StandsFor w m → (a.origins ≡ w.arena.origins) × (a.places ≡ w.arena.places)
    → StandsFor (record w { arena = a }) m
still_stands w a m h same = record {
  program = h.program;
  origins = same.0 ∙ h.origins;
  table = ap entries_of same.1 ∙ h.table;
  ordered = h.ordered;
  events = h.events;
  tip = h.tip;
  cursor = subst (λ (ps : List Place). Reaches ps (ahead w.tip.last ps) w.cursor) (sym same.1) h.cursor;
  latest = h.latest;
  settled = h.settled;
  skips = h.skips;
}

-- room for one more changes neither, whether it was to be had
pub room_alone : {X E : Type 0} (result : Result X E) (a b : Contents) → OnOk result (b ≡ with_free b.room a)
    → OnErr result (b ≡ record a { room = record b.room { nodes = a.room.nodes } }) → (b.origins ≡ a.origins) × (b.places ≡ a.places)
room_alone (Ok _) a b ok err = (ap (λ (c : Contents). c.origins) ok, ap (λ (c : Contents). c.places) ok)
room_alone (Err _) a b ok err = (ap (λ (c : Contents). c.origins) err, ap (λ (c : Contents). c.places) err)

-- ---- how many it holds

-- it holds no more than the table has
pub few_held : (w : Warp) (m : Standing) → StandsFor w m → length m.table < most_names → length w.arena.places < most_names
few_held w m h few =
    let lengths : length (entries_of w.arena.places) ≡ length (ahead_of w.tip.floor m.table) = ap (λ (es : List Entry). length es) h.table in
    let held = length-map w.arena.places (λ (p : Place). p.entry) in
    let count = length-filter (λ (e : Entry). is_after w.tip.floor e.tag) m.table in
    let most = count_by-le-length (λ (e : Entry). is_after w.tip.floor e.tag) m.table in
    omega arith
