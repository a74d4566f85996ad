-- Whom a step may have to look at where a place becomes present: the reactions that it may trigger, and the links and the
-- program outputs whose port it is. Each has its triggers.
use Rattle.std.specs.Prelude.{ℕ, ◌+◌, ◌-◌, ◌==◌, ◌&&◌, not, Bool, true, false, nat_lt, nat_le, nat_eq, List, [], ◌∷◌, length, map, Option, None, Some, slice_index_or, if◌then◌else◌, refl}
use Rattle.std.specs.Coded.{Coded, code_by, coded×, coded_ℕ, coded_bool, coded_list}
use Rattle.std.specs.Int.RustNames.{bit_or}
use Rattle.std.specs.List.{list_all, list_any, range_with_len}
use Rattle.warp_body.specs.Codes.{body_code, target_code}
use Rattle.warp_body.specs.Effect.{Body, Done, body_fits, schedules_of}
use Rattle.warp_body.specs.Presence.{is_target}
use Rattle.warp_body.specs.declared.place.Target.{Target}
use Rattle.warp_body.specs.declared.place.Target.TheVariants as to
use Rattle.warp_step.specs.inner.Marks.{first_link, first_output, first_reaction, marks_from, no_marks, with_mark}
use Rattle.warp_step.specs.Program.{Rule, Program}
use Rattle.warp_step.specs.Step.{sources_of}
use Rattle.warp_step.specs.Valid.{program_sizes}
use Rattle.warp_step.specs.declared.parts.Link.{Link}
use Rattle.warp_step.specs.declared.parts.Timer.{Timer}
use Rattle.warp_step.specs.declared.plan.ReadyReaction.{ReadyReaction}

-- the place by whose presence a target is present: of a port its source, else itself
abbrev pub place_of : List ℕ → Target → Target
place_of sources to.Startup = to.Startup
place_of sources (to.Timer n) = to.Timer n
place_of sources (to.Action n) = to.Action n
place_of sources (to.Port n) = to.Port (slice_index_or sources n n)

-- the place is that of one of the triggers
abbrev pub heeds : List ℕ → List Target → Target → Bool
heeds sources triggers place = list_any (λ trigger. is_target place (place_of sources trigger)) triggers

-- one of the places is (no code asks it: a body makes several places present)
abbrev pub heeds_any : List ℕ → List Target → List Target → Bool
heeds_any sources triggers places = list_any (heeds sources triggers) places

-- what a reaction, a link and the program output of a port heed, each with its number, of a reaction its turn; a link without a delay nothing, since its
-- target has the presence of its source
abbrev pub reaction_heeds : ℕ → Rule → List Target
reaction_heeds number rule = rule.triggers

abbrev pub source_if_delayed : Option ℕ → ℕ → List Target
source_if_delayed None source = []
source_if_delayed (Some delay) source = to.Port source ∷ []

abbrev pub link_heeds : ℕ → Link → List Target
link_heeds number link = source_if_delayed link.delay link.source

abbrev pub output_heeds : ℕ → ℕ → List Target
output_heeds number port = to.Port port ∷ []

-- the rule with this number; where there is none, one that nothing triggers
abbrev pub rule_numbered : List Rule → ℕ → Rule
rule_numbered rules n = slice_index_or rules n (record { reactor = 0; triggers = []; reads = []; writes = []; body = Done })

-- the program's reactions, in the order in which a step runs them
abbrev pub in_turn : Program → List Rule
in_turn P = map (rule_numbered P.reactions) P.order

-- with a mark for each element of a list that heeds the place; the first mark is at this number, and the elements count from the
-- next one on
abbrev pub with_watchers : {X : Type 0} → (ℕ → X → List Target) → ℕ → List ℕ → Target → ℕ → List X → ℕ → ℕ
with_watchers {X} triggers first sources place n [] word = word
with_watchers {X} triggers first sources place n (x ∷ xs) word =
    with_watchers triggers first sources place (n + 1) xs (if heeds sources (triggers n x) place then with_mark (first + n) word else word)

-- the turn of the first reaction that heeds the place, where turns count from this one on; where none does, the one behind them
abbrev pub first_heeding : List ℕ → Target → ℕ → List Rule → ℕ
first_heeding sources place n [] = n
first_heeding sources place n (rule ∷ rules) = if heeds sources rule.triggers place then n else first_heeding sources place (n + 1) rules

-- the ports among targets: what a body writes there is present at the same tag
abbrev pub is_port : Target → Bool
is_port to.Startup = false
is_port (to.Timer n) = false
is_port (to.Action n) = false
is_port (to.Port n) = true

-- All places have a number: startup, then the timers, then the actions, then the ports.
abbrev pub place_number : Target → ℕ
place_number to.Startup = 0
place_number (to.Timer n) = 1 + n
place_number (to.Action n) = 65 + n
place_number (to.Port n) = 321 + n

abbrev pub numbered_place : ℕ → Target
numbered_place n =
    if nat_eq n 0 then to.Startup else if nat_lt n 65 then to.Timer (n - 1) else if nat_lt n 321 then to.Action (n - 65) else to.Port (n - 321)

-- the most places of a program
abbrev pub most_places : ℕ
most_places = 1345

-- the numbers of all places. It is opened only where it is asked for, since a tactic would write all of them out.
unfoldable pub place_numbers : List ℕ
place_numbers = range_with_len 0 most_places

-- the place is that of its number
abbrev pub is_numbered : Target → Bool
is_numbered place = nat_lt (place_number place) most_places && is_target (numbered_place (place_number place)) place

-- which places are those of triggers, by the place's number; and those of each reaction's, in the order in which a step runs them
abbrev pub heeded : List ℕ → List Target → List Bool
heeded sources triggers = map (λ n. heeds sources triggers (numbered_place n)) place_numbers

abbrev pub heeded_in_turn : Program → List (List Bool)
heeded_in_turn P = map (λ n. heeded (sources_of P) (rule_numbered P.reactions n).triggers) P.order

-- with a mark for each list of flags in which the place with this number is heeded, where turns count from the next one on; and the first such turn
abbrev pub with_heeding : ℕ → ℕ → List (List Bool) → ℕ → ℕ
with_heeding number n [] word = word
with_heeding number n (flags ∷ flag_lists) word =
    with_heeding number (n + 1) flag_lists (if slice_index_or flags number false then with_mark n word else word)

abbrev pub first_flagged : ℕ → ℕ → List (List Bool) → ℕ
first_flagged number n [] = n
first_flagged number n (flags ∷ flag_lists) = if slice_index_or flags number false then n else first_flagged number (n + 1) flag_lists

-- What is kept for a turn: the number of the reaction that has it, what triggers it, its body, the marks of those whom what it
-- writes concerns, and whether it may have wishes.
pub record TurnPlan : Type 0 where
  pub number : ℕ
  pub triggers : List Target
  pub body : Body
  pub after : ℕ
  pub may_wish : Bool

-- what a reaction that is ready to run keeps for its turn
abbrev pub ready_turn : ReadyReaction → TurnPlan
ready_turn r = record { number = r.number; triggers = r.triggers.items; body = r.code; after = r.after.word; may_wish = r.may_wish }

-- a rule that is triggered and does as the reaction that has the turn
abbrev pub turn_rule : TurnPlan → Rule
turn_rule turn = record { reactor = 0; triggers = turn.triggers; reads = []; writes = []; body = turn.body }

-- the period that all these timers have, 0 where they have not all the same
abbrev pub shared_period : List Timer → ℕ
shared_period [] = 0
shared_period (t ∷ ts) = if list_all (λ x. x.period == t.period) ts then t.period else 0

-- Whom each place concerns, by the place's number, as marks. The turn of the first reaction that each place triggers, by the place's
-- number. What is kept for each turn. The marks of all program outputs, and of all links. And the period that all timers share.
pub record Plan : Type 0 where
  pub places : List ℕ
  pub firsts : List ℕ
  pub turns : List TurnPlan
  pub outputs : ℕ
  pub links : ℕ
  pub period : ℕ

-- the marks of those whom the presence of a place concerns, and those of all places by their numbers
abbrev pub marks_of : Program → Target → ℕ
marks_of P place =
    let sources = sources_of P in
    with_watchers output_heeds (first_output P) sources place 0 P.outputs
    (with_watchers link_heeds (first_link P) sources place 0 P.links
    (with_watchers reaction_heeds first_reaction sources place 0 (in_turn P) no_marks))

abbrev pub marks_of_places : Program → List ℕ
marks_of_places P = map (λ n. marks_of P (numbered_place n)) place_numbers

-- with the marks of those whom the ports among targets concern, given the marks of all places
abbrev pub with_ports : List ℕ → List Target → ℕ → ℕ
with_ports places [] word = word
with_ports places (target ∷ targets) word =
    with_ports places targets (if is_port target then bit_or word (slice_index_or places (place_number target) 0) else word)

-- the rule may have wishes: its body schedules something, or does not fit the program
abbrev pub may_wish : Program → Rule → Bool
may_wish P rule = not (body_fits (program_sizes P) rule.body && nat_le (schedules_of rule.body) 0)

-- what is kept for the turn of the reaction with this number
abbrev pub turn_plan : Program → ℕ → TurnPlan
turn_plan P n =
    let rule = rule_numbered P.reactions n in
    record {
      number = n;
      triggers = rule.triggers;
      body = rule.body;
      after = with_ports (marks_of_places P) rule.writes no_marks;
      may_wish = may_wish P rule;
    }

-- whom each place of the program concerns, which reaction first, what is kept for the turns of its order, all its outputs and links,
-- and the period of its timers
abbrev pub plan_of : Program → Plan
plan_of P = record {
  places = marks_of_places P;
  firsts = map (λ n. first_heeding (sources_of P) (numbered_place n) 0 (in_turn P)) place_numbers;
  turns = map (turn_plan P) P.order;
  outputs = marks_from (first_output P) (length P.outputs);
  links = marks_from (first_link P) (length P.links);
  period = shared_period P.timers;
}

-- number, triggers, body and marks of a turn, and whether it may have wishes
abbrev pub TurnParts : Type 0
TurnParts = ℕ × (List Target × (Body × (ℕ × Bool)))

abbrev pub turn_code : Coded TurnPlan
turn_code =
    code_by TurnParts (coded× coded_ℕ (coded× (coded_list target_code) (coded× body_code (coded× coded_ℕ coded_bool))))
    (λ t. (t.number, (t.triggers, (t.body, (t.after, t.may_wish)))))
    (λ q. record { number = q.0; triggers = q.1.0; body = q.1.1.0; after = q.1.1.1.0; may_wish = q.1.1.1.1 })
    (λ _. refl)

-- whom each place concerns, and which reaction first; the turns; all outputs, all links, and the period
abbrev pub PlanParts : Type 0
PlanParts = List ℕ × (List ℕ × (List TurnPlan × (ℕ × (ℕ × ℕ))))

abbrev pub plan_code : Coded Plan
plan_code =
    code_by PlanParts
    (coded× (coded_list coded_ℕ) (coded× (coded_list coded_ℕ) (coded× (coded_list turn_code) (coded× coded_ℕ (coded× coded_ℕ coded_ℕ)))))
    (λ p. (p.places, (p.firsts, (p.turns, (p.outputs, (p.links, p.period))))))
    (λ q. record {
      places = q.0;
      firsts = q.1.0;
      turns = q.1.1.0;
      outputs = q.1.1.1.0;
      links = q.1.1.1.1.0;
      period = q.1.1.1.1.1;
    })
    (λ _. refl)
