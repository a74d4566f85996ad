-- The widest form is the widest.
use Rattle.std.proofs.Common.{◌≡◌, ℕ, ◌≤◌, true, refl, arith}
use Rattle.warp_tag.specs.Limits.{widest, longest_stop, last_time, last_microstep, longest_period, most_origins, most_records, most_rows, wider, has_joint, most_reactors, most_variables, most_ports, most_actions, most_timers, most_reactions, most_links, most_inputs, most_outputs}
use Rattle.warp_tag.specs.Moment.{Moment, IsTagOf, IsInRange}
use Rattle.warp_tag.specs.declared.form.Form.{Form}
use Rattle.warp_tag.specs.declared.form.Form.TheVariants.{One, Two, Three, Four}

pub stop_widens : (f : Form) → longest_stop f ≤ longest_stop widest
stop_widens One = omega arith
stop_widens Two = omega arith
stop_widens Three = omega arith
stop_widens Four = omega arith

pub time_widens : (f : Form) → last_time f ≤ last_time widest
time_widens One = omega arith
time_widens Two = omega arith
time_widens Three = omega arith
time_widens Four = omega arith

pub microstep_widens : (f : Form) → last_microstep f ≤ last_microstep widest
microstep_widens One = omega arith
microstep_widens Two = omega arith
microstep_widens Three = omega arith
microstep_widens Four = omega arith

pub period_widens : (f : Form) → longest_period f ≤ longest_period widest
period_widens One = omega arith
period_widens Two = omega arith
period_widens Three = omega arith
period_widens Four = omega arith

pub origins_widen : (f : Form) → most_origins f ≤ most_origins widest
origins_widen One = omega arith
origins_widen Two = omega arith
origins_widen Three = omega arith
origins_widen Four = omega arith

pub records_widen : (f : Form) → most_records f ≤ most_records widest
records_widen One = omega arith
records_widen Two = omega arith
records_widen Three = omega arith
records_widen Four = omega arith

pub rows_widen : (f : Form) → most_rows f ≤ most_rows widest
rows_widen One = omega arith
rows_widen Two = omega arith
rows_widen Three = omega arith
rows_widen Four = omega arith

-- what is in range in a form is in range
pub tag_widens : (f : Form) (t : Moment) → IsTagOf f t → IsInRange t
tag_widens f t h =
    let times = time_widens f in
    let microsteps = microstep_widens f in
    record { time = omega (h.time, times, arith); microstep = omega (h.microstep, microsteps, arith) }

-- the wider of two forms is at least as wide as the second
pub stop_kept : (f g : Form) → longest_stop g ≤ longest_stop (wider f g)
stop_kept One g = omega arith
stop_kept Two One = omega arith
stop_kept Two Two = omega arith
stop_kept Two Three = omega arith
stop_kept Two Four = omega arith
stop_kept Three One = omega arith
stop_kept Three Two = omega arith
stop_kept Three Three = omega arith
stop_kept Three Four = omega arith
stop_kept Four One = omega arith
stop_kept Four Two = omega arith
stop_kept Four Three = omega arith
stop_kept Four Four = omega arith

pub microstep_kept : (f g : Form) → last_microstep g ≤ last_microstep (wider f g)
microstep_kept One g = omega arith
microstep_kept Two One = omega arith
microstep_kept Two Two = omega arith
microstep_kept Two Three = omega arith
microstep_kept Two Four = omega arith
microstep_kept Three One = omega arith
microstep_kept Three Two = omega arith
microstep_kept Three Three = omega arith
microstep_kept Three Four = omega arith
microstep_kept Four One = omega arith
microstep_kept Four Two = omega arith
microstep_kept Four Three = omega arith
microstep_kept Four Four = omega arith

pub period_kept : (f g : Form) → longest_period g ≤ longest_period (wider f g)
period_kept One g = omega arith
period_kept Two One = omega arith
period_kept Two Two = omega arith
period_kept Two Three = omega arith
period_kept Two Four = omega arith
period_kept Three One = omega arith
period_kept Three Two = omega arith
period_kept Three Three = omega arith
period_kept Three Four = omega arith
period_kept Four One = omega arith
period_kept Four Two = omega arith
period_kept Four Three = omega arith
period_kept Four Four = omega arith

pub origins_kept : (f g : Form) → most_origins g ≤ most_origins (wider f g)
origins_kept One g = omega arith
origins_kept Two One = omega arith
origins_kept Two Two = omega arith
origins_kept Two Three = omega arith
origins_kept Two Four = omega arith
origins_kept Three One = omega arith
origins_kept Three Two = omega arith
origins_kept Three Three = omega arith
origins_kept Three Four = omega arith
origins_kept Four One = omega arith
origins_kept Four Two = omega arith
origins_kept Four Three = omega arith
origins_kept Four Four = omega arith

pub records_kept : (f g : Form) → most_records g ≤ most_records (wider f g)
records_kept One g = omega arith
records_kept Two One = omega arith
records_kept Two Two = omega arith
records_kept Two Three = omega arith
records_kept Two Four = omega arith
records_kept Three One = omega arith
records_kept Three Two = omega arith
records_kept Three Three = omega arith
records_kept Three Four = omega arith
records_kept Four One = omega arith
records_kept Four Two = omega arith
records_kept Four Three = omega arith
records_kept Four Four = omega arith

-- where all origins together can announce in a form, they can in each wider one
pub joint_widens : (f : Form) → has_joint f ≡ true → has_joint widest ≡ true
joint_widens f h = refl

pub joint_kept : (f g : Form) → has_joint g ≡ true → has_joint (wider f g) ≡ true
joint_kept One g h = h
joint_kept Two One h = cc
joint_kept Two Two h = cc
joint_kept Two Three h = cc
joint_kept Two Four h = refl
joint_kept Three One h = cc
joint_kept Three Two h = cc
joint_kept Three Three h = cc
joint_kept Three Four h = refl
joint_kept Four g h = refl

-- A limit that no version narrows.
record Grows (limit : Form → ℕ) : Type 0 where
  pub two : limit One ≤ limit Two
  pub three : limit Two ≤ limit Three
  pub four : limit Three ≤ limit Four

-- what a form allows, each wider one allows, and so does the widest
widens : (limit : Form → ℕ) → Grows limit → (f : Form) → limit f ≤ limit widest
widens limit g One = let two = g.two in let three = g.three in let four = g.four in omega (two, three, four, arith)
widens limit g Two = let three = g.three in let four = g.four in omega (three, four, arith)
widens limit g Three = g.four
widens limit g Four = omega arith

kept : (limit : Form → ℕ) → Grows limit → (f g : Form) → limit g ≤ limit (wider f g)
kept limit grows One g = omega arith
kept limit grows Two One = grows.two
kept limit grows Two Two = omega arith
kept limit grows Two Three = omega arith
kept limit grows Two Four = omega arith
kept limit grows Three One = let two = grows.two in let three = grows.three in omega (two, three, arith)
kept limit grows Three Two = grows.three
kept limit grows Three Three = omega arith
kept limit grows Three Four = omega arith
kept limit grows Four g = widens limit grows g

-- each thing that a program has so many of

reactors_grow : Grows most_reactors
reactors_grow = record { two = omega arith; three = omega arith; four = omega arith }

pub reactors_widen : (f : Form) → most_reactors f ≤ most_reactors widest
reactors_widen = widens most_reactors reactors_grow

pub reactors_kept : (f g : Form) → most_reactors g ≤ most_reactors (wider f g)
reactors_kept = kept most_reactors reactors_grow

variables_grow : Grows most_variables
variables_grow = record { two = omega arith; three = omega arith; four = omega arith }

pub variables_widen : (f : Form) → most_variables f ≤ most_variables widest
variables_widen = widens most_variables variables_grow

pub variables_kept : (f g : Form) → most_variables g ≤ most_variables (wider f g)
variables_kept = kept most_variables variables_grow

ports_grow : Grows most_ports
ports_grow = record { two = omega arith; three = omega arith; four = omega arith }

pub ports_widen : (f : Form) → most_ports f ≤ most_ports widest
ports_widen = widens most_ports ports_grow

pub ports_kept : (f g : Form) → most_ports g ≤ most_ports (wider f g)
ports_kept = kept most_ports ports_grow

actions_grow : Grows most_actions
actions_grow = record { two = omega arith; three = omega arith; four = omega arith }

pub actions_widen : (f : Form) → most_actions f ≤ most_actions widest
actions_widen = widens most_actions actions_grow

pub actions_kept : (f g : Form) → most_actions g ≤ most_actions (wider f g)
actions_kept = kept most_actions actions_grow

timers_grow : Grows most_timers
timers_grow = record { two = omega arith; three = omega arith; four = omega arith }

pub timers_widen : (f : Form) → most_timers f ≤ most_timers widest
timers_widen = widens most_timers timers_grow

pub timers_kept : (f g : Form) → most_timers g ≤ most_timers (wider f g)
timers_kept = kept most_timers timers_grow

reactions_grow : Grows most_reactions
reactions_grow = record { two = omega arith; three = omega arith; four = omega arith }

pub reactions_widen : (f : Form) → most_reactions f ≤ most_reactions widest
reactions_widen = widens most_reactions reactions_grow

pub reactions_kept : (f g : Form) → most_reactions g ≤ most_reactions (wider f g)
reactions_kept = kept most_reactions reactions_grow

links_grow : Grows most_links
links_grow = record { two = omega arith; three = omega arith; four = omega arith }

pub links_widen : (f : Form) → most_links f ≤ most_links widest
links_widen = widens most_links links_grow

pub links_kept : (f g : Form) → most_links g ≤ most_links (wider f g)
links_kept = kept most_links links_grow

inputs_grow : Grows most_inputs
inputs_grow = record { two = omega arith; three = omega arith; four = omega arith }

pub inputs_widen : (f : Form) → most_inputs f ≤ most_inputs widest
inputs_widen = widens most_inputs inputs_grow

pub inputs_kept : (f g : Form) → most_inputs g ≤ most_inputs (wider f g)
inputs_kept = kept most_inputs inputs_grow

outputs_grow : Grows most_outputs
outputs_grow = record { two = omega arith; three = omega arith; four = omega arith }

pub outputs_widen : (f : Form) → most_outputs f ≤ most_outputs widest
outputs_widen = widens most_outputs outputs_grow

pub outputs_kept : (f g : Form) → most_outputs g ≤ most_outputs (wider f g)
outputs_kept = kept most_outputs outputs_grow
