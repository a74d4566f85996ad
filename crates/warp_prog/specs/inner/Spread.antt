-- How the code marks to what a timer leads: for the proofs of that alone.
use Rattle.std.specs.Prelude.{ℕ, zero, suc, Bool, true, false, List, [], ◌∷◌, replicate, slice_get, slice_set, if◌then◌else◌}
use Rattle.std.specs.List.{list_any}
use Rattle.std.specs.Option.{option_map_or}
use Rattle.warp_body.specs.declared.place.Target.{Target}
use Rattle.warp_prog.specs.Waits.{Passage, Reach, target_places, target_place}
use Rattle.warp_prog.specs.declared.explain.routes.Way.{Way}
use Rattle.warp_prog.specs.declared.explain.waits.Wave.{Wave}

-- a place has a mark
abbrev pub has_mark : List Bool → ℕ → Bool
has_mark marks place = option_map_or (λ (b : Bool). b) (slice_get marks place) false

-- the place of a target has one
abbrev pub is_marked : List Bool → Target → Bool
is_marked marks x = has_mark marks (target_place x)

-- with a mark where these ways lead
abbrev pub with_ends : List Way → List Bool → List Bool
with_ends [] marks = marks
with_ends (w ∷ ws) marks = with_ends ws (slice_set marks (target_place w.target) true)

-- with a mark where a passage leads from what was marked before
abbrev pub followed : Passage → List Bool → List Bool → List Bool
followed p before marks = if list_any (is_marked before) p.from then with_ends p.to marks else marks

-- with a mark where these lead from what was marked before
abbrev pub led : List Passage → List Bool → List Bool → List Bool
led [] before marks = marks
led (p ∷ ps) before marks = led ps before (followed p before marks)

-- what is marked, and where that leads in so many steps
abbrev pub further : List Passage → ℕ → List Bool → List Bool
further ps zero marks = marks
further ps (suc n) marks = further ps n (led ps marks marks)

-- one mark, and where it leads
abbrev pub one_mark : ℕ → List Bool
one_mark start = slice_set (replicate target_places false) start true

abbrev pub spread : List Passage → ℕ → List Bool
spread ps start = further ps target_places (one_mark start)

-- what a wave tells of its timer
abbrev pub reach_of : Wave → Reach
reach_of w = record { timer = w.timer; leads_to = is_marked w.reached.items }
