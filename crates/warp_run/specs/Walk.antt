-- Walks along an arena's places: what is after a tag, and what is not.
use Rattle.std.specs.Prelude.{◌≡◌, ℕ, true, not, Option, Some, None, MatchOption, List, [], ◌∷◌, filter, map, IsTrue, IsSome}
use Rattle.std.specs.List.{list_all}
use Rattle.warp_tag.specs.Moment.{Moment, is_before}
use Rattle.warp_tag.specs.Table.{Event, live, live_event}
use Rattle.warp_tag.specs.declared.entry.Entry.{Entry}
use Rattle.warp_step.specs.Run.{is_after, given_of}
use Rattle.warp_step.specs.declared.given_input.Given.{Given}
use Rattle.warp_arena.specs.Places.{Place, entries_of, entry_of, places_from, places_after}
use Rattle.warp_run.specs.declared.walk.Live.{Live}
use Rattle.warp_run.specs.declared.walk.Next.{Next}
use Rattle.warp_run.specs.declared.walk.Next.TheVariants.{AtEvent, AtEntry}

-- the places after the last row
abbrev pub ahead : Option Moment → List Place → List Place
ahead last places = filter (λ p. is_after last p.entry.tag) places

-- the places whose tag is not after this one
abbrev pub through : Moment → List Place → List Place
through tag places = filter (λ p. not (is_before tag p.entry.tag)) places

-- the live events of these places
abbrev pub live_of : List Place → List Event
live_of places = live (entries_of places)

-- what the live events of these places give
abbrev pub given_by : List Place → List Given
given_by places = map given_of (live_of places)

-- the tag of the first event, if there is one
abbrev pub first_tag : List Event → Option Moment
first_tag [] = None
first_tag (e ∷ E) = Some e.tag

-- no event is after this tag; where there is no tag, there is no event
abbrev pub AreThrough : Option Moment → List Event → Type 0
AreThrough latest E = IsTrue (list_all (λ e. not (is_after latest e.tag)) E)

-- a live event at a place
abbrev pub event_at : ℕ → Event → Live
event_at node e = record { node = node; tag = e.tag; given = given_of e }

-- the event is live at its place, and the live events from there on are all of these places
pub record IsFound (places rest : List Place) (l : Live) : Type 0 where
  pub entry : Entry
  pub event : Event
  pub there : entry_of l.node places ≡ Some entry
  pub counts : live_event entry ≡ Some event
  pub is : l ≡ event_at l.node event
  pub events : live_of (places_from l.node places) ≡ live_of rest

-- it is the first live event of these places; where there is none, they have none
abbrev pub FindsFirst : List Place → List Place → Option Live → Type 0
FindsFirst places rest found = MatchOption found (live_of rest ≡ []) (IsFound places rest)

-- it is the place of the first live event of these places; where there is none, they have none
abbrev pub FindsPlace : List Place → List Place → Option ℕ → Type 0
FindsPlace places rest found =
    MatchOption found (live_of rest ≡ []) (λ node. (l : Live) × IsFound places rest l × (l.node ≡ node))

-- no event is before this tag
abbrev pub AreNotBefore : Moment → List Event → Type 0
AreNotBefore tag E = IsTrue (list_all (λ e. not (is_before e.tag tag)) E)

-- it is the first live event of these places, and before the tag; where there is none, none of theirs is before it
abbrev pub FindsBefore : List Place → List Place → Moment → Option Live → Type 0
FindsBefore places rest tag found =
    MatchOption found (AreNotBefore tag (live_of rest)) (λ l. IsFound places rest l × (is_before l.tag tag ≡ true))

-- it is the place of the first live event of these places, and that is before the tag; where there is none, none of
-- theirs is before it
abbrev pub FindsPlaceBefore : List Place → List Place → Moment → Option ℕ → Type 0
FindsPlaceBefore places rest tag found =
    MatchOption found (AreNotBefore tag (live_of rest))
    (λ node. (l : Live) × IsFound places rest l × (is_before l.tag tag ≡ true) × (l.node ≡ node))

-- what these places give up to the event's tag is what it gives, and then what the places after its own give up to it;
-- and behind that tag both have the same places
pub record IsAhead (places rest : List Place) (l : Live) : Type 0 where
  pub used : IsSome (entry_of l.node places)
  pub given : given_by (through l.tag rest) ≡ l.given ∷ given_by (through l.tag (places_after l.node places))
  pub past : ahead (Some l.tag) rest ≡ ahead (Some l.tag) (places_after l.node places)

-- the tag of a row that is next
abbrev pub tag_of_next : Next → Moment
tag_of_next (AtEvent l) = l.tag
tag_of_next (AtEntry tag) = tag

-- where the row is of an event, what these places give up to its tag begins with what it gives
abbrev pub IsAtFirst : List Place → List Place → Next → Type 0
IsAtFirst places rest (AtEvent l) = IsAhead places rest l
IsAtFirst places rest (AtEntry tag) = Unit {0}
