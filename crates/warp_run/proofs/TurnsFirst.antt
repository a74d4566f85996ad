-- The first live event after the last row: what is given at its tag, and what is after it.
use Rattle.std.proofs.Common.{◌≡◌, ℕ, Bool, true, false, not, List, [], ◌∷◌, ◌++◌, map, filter, refl, ap, sym, subst, ◌∙◌, arith, append_assoc, IsTrue, Option, Some, None}
use Rattle.std.specs.List.{AllByRecursion, cons_option}
use Rattle.std.specs.Option.{is_some}
use Rattle.std.proofs.lemmas.Bool.Decides.{nat_tests}
use Rattle.std.proofs.lemmas.List.Elements.{filter-append}
use Rattle.warp_tag.specs.Moment.{Moment, is_before}
use Rattle.warp_tag.specs.Table.{Event, IsTable, live}
use Rattle.warp_tag.specs.declared.entry.Entry.{Entry}
use Rattle.warp_tag.proofs.Lists.{All-append, filter-here}
use Rattle.warp_step.specs.Run.{is_after, given_of}
use Rattle.warp_step.proofs.PartedLists.{filter_none}
use Rattle.warp_arena.specs.Places.{Place, IsOrdered, entries_of, places_after, places_before}
use Rattle.warp_line.specs.Timeline.{Standing}
use Rattle.warp_line.proofs.ReplayLemmas.{live_name}
use Rattle.warp_line.proofs.RunLemmas.{past}
use Rattle.warp_run.specs.Walk.{AreNotBefore, FindsBefore, FindsFirst, IsAhead, IsFound, ahead, first_tag, given_by, live_of, through}
use Rattle.warp_run.specs.Warp.{StandsFor}
use Rattle.warp_run.specs.declared.walk.Live.{Live}
use Rattle.warp_run.specs.declared.warp.Warp.{Warp}
use Rattle.warp_run.proofs.PlacesBack.{first_there, heads_at, not_later, split_at}
use Rattle.warp_run.proofs.PlacesWalks.{HasBefore, HasFound, Heads, place}
use Rattle.warp_run.proofs.TurnsLive.{ahead_twice, live_places}
use Rattle.warp_run.proofs.TurnsNext.{IsFirst}
use Rattle.warp_run.proofs.TurnsWarp.{ahead_events, ahead_through, first_event, no_event}

-- no tag is before itself
not_itself : (t u : Moment) → t ≡ u → is_before t u ≡ false
not_itself t u same = ap (is_before t) (sym same) ∙ self t
  where
    self : (v : Moment) → is_before v v ≡ false
    self v = grind (arith, nat_tests)

-- after the tag of a place is what is after it behind the place
ahead_behind : (ps : List Place) (node : ℕ) (e : Entry) (t : Moment) → IsTable (entries_of ps) → Heads ps node e → is_before t e.tag ≡ false
    → ahead (Some t) ps ≡ ahead (Some t) (places_after node ps)
ahead_behind ps node e t table head not_so =
    let q : Place → Bool = λ p. is_before t p.entry.tag in
    let front : List Place = places_before node ps in
    let back : List Place = places_after node ps in
    let parts : ps ≡ front ++ place node e ∷ back = split_at node ps ∙ ap (λ qs. front ++ qs) head in
    let past : AllByRecursion (λ p. q p ≡ false) (front ++ place node e ∷ []) =
    All-append (λ p. q p ≡ false) front (place node e ∷ []) (not_later t e front (first_there ps node e back table parts) not_so) (not_so, tt) in
    ap (filter q) (parts ∙ sym (append_assoc front (place node e ∷ []) back))
    ∙ filter-append q (front ++ place node e ∷ []) back
    ∙ ap (λ qs. qs ++ filter q back) (filter_none q (front ++ place node e ∷ []) past)

-- what is found is the first of the live events
first_found : (ps rest : List Place) (l : Live) → (f : IsFound ps rest l) → live_of rest ≡ f.event ∷ live_of (places_after l.node ps)
first_found ps rest l f =
    sym f.events ∙ ap live_of (heads_at l.node f.entry ps f.there) ∙ ap (λ o. cons_option o (live_of (places_after l.node ps))) f.counts

-- at the tag of the first live event its own is given, and what the places behind it give
pub is_ahead : (ps : List Place) (last : Option Moment) (l : Live) → IsTable (entries_of ps) → is_after last l.tag ≡ true
    → IsFound ps (ahead last ps) l → IsAhead ps (ahead last ps) l
is_ahead ps last l table after f =
    let q : Moment → Bool = λ u. not (is_before l.tag u) in
    let back : List Place = places_after l.node ps in
    let head : Heads ps l.node f.entry = heads_at l.node f.entry ps f.there in
    let is_tag : l.tag ≡ f.event.tag = ap (λ (x : Live). x.tag) f.is in
    let gives : l.given ≡ given_of f.event = ap (λ (x : Live). x.given) f.is in
    let events : live_of (ahead last ps) ≡ f.event ∷ live_of back = first_found ps (ahead last ps) l f in
    record {
      used = ap is_some f.there;
      given =
          ap (map given_of) (live_places q (ahead last ps))
          ∙ ap (λ (E : List Event). map given_of (filter (λ (e : Event). q e.tag) E)) events
          ∙ ap (map given_of) (filter-here (λ (e : Event). q e.tag) f.event (live_of back) (ap not (not_itself l.tag f.event.tag is_tag)))
          ∙ ap (λ xs. given_of f.event ∷ xs) (sym (ap (map given_of) (live_places q back)))
          ∙ ap (λ g. g ∷ given_by (through l.tag back)) (sym gives);
      past =
          ahead_twice last l.tag ps after
          ∙ ahead_behind ps l.node f.entry l.tag table head
          (not_itself l.tag f.entry.tag (is_tag ∙ (live_name f.entry f.event f.counts).1));
    }

-- what a walk from the cursor finds
module _ (w : Warp) (m : Standing) (h : StandsFor w m) (l : Live) (f : IsFound w.arena.places (ahead w.tip.last w.arena.places) l) where
  -- the tag of the first event after the last row
  pub first_live : IsOrdered w.arena → IsFirst w.tip.last (live m.table) l.tag
  first_live ordered =
      first_event w m h (Some l.tag) l.tag ordered
      (ap (λ (x : Live). Some x.tag) f.is
      ∙ sym (ap first_tag (first_found w.arena.places (ahead w.tip.last w.arena.places) l f))) refl

  -- its event is given first at its tag
  pub live_ahead : IsOrdered w.arena → IsAhead w.arena.places (ahead w.tip.last w.arena.places) l
  live_ahead ordered = is_ahead w.arena.places w.tip.last l ordered.table (first_live ordered).after f

-- what a walk along all of them finds
module _ (w : Warp) (m : Standing) (h : StandsFor w m) (o : Option Live) (has : HasFound w.arena.places w.cursor w.latest o) where
  found : FindsFirst w.arena.places (ahead w.tip.last w.arena.places) o
  found = has (ahead w.tip.last w.arena.places) h.cursor (ahead_through w m h)

  pub found_at : (l : Live) → o ≡ Some l → IsFound w.arena.places (ahead w.tip.last w.arena.places) l
  found_at l is = subst (FindsFirst w.arena.places (ahead w.tip.last w.arena.places)) is found

  -- all are past, where there is none
  pub no_live : o ≡ None → IsTrue (past w.tip.last (live m.table))
  no_live none =
      no_event w m h None
      (sym (ap first_tag (subst (FindsFirst w.arena.places (ahead w.tip.last w.arena.places)) none found))) refl

-- what a walk along those before a tag finds
module _ (w : Warp) (m : Standing) (h : StandsFor w m) (tag : Moment) (o : Option Live) (has : HasBefore w.arena.places w.cursor tag o) where
  before : FindsBefore w.arena.places (ahead w.tip.last w.arena.places) tag o
  before = has (ahead w.tip.last w.arena.places) h.cursor

  pub before_at : (l : Live) → o ≡ Some l → IsFound w.arena.places (ahead w.tip.last w.arena.places) l × (is_before l.tag tag ≡ true)
  before_at l is = subst (FindsBefore w.arena.places (ahead w.tip.last w.arena.places) tag) is before

  -- where there is none, no event after the last row is before it
  pub none_before_tag : o ≡ None → AreNotBefore tag (filter (λ e. is_after w.tip.last e.tag) (live m.table))
  none_before_tag none =
      subst (AreNotBefore tag) (ahead_events w m h)
      (subst (FindsBefore w.arena.places (ahead w.tip.last w.arena.places) tag) none before)
