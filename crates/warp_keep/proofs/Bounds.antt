-- A log has no more names than records, and so announcements can count them.
use Rattle.std.proofs.Common.{◌≢◌, ℕ, ◌≤◌, Bool, List, [], ◌∷◌, length, filter, map, Contains, refl, ap, subst, arith}
use Rattle.std.specs.List.{AllPairs}
use Rattle.std.proofs.lemmas.List.{length-map}
use Rattle.std.proofs.lemmas.List.Sums.{count_by-le-length, length-filter}
use Rattle.std.proofs.lemmas.List.Elements.{All-map, All-weaker}
use Rattle.std.proofs.lemmas.List.Kept.{AllPairs-cons}
use Rattle.warp_tag.specs.Moment.{Moment}
use Rattle.warp_record.specs.declared.record.Record.{Record}
use Rattle.warp_record.specs.declared.record.Record.TheVariants.{Event, Withdraw, Announce, Joint}
use Rattle.warp_table.specs.Announced.{events_below, withdrawals_below}
use Rattle.warp_table.specs.Closed.{AreCountsBefore, AreJointCountsBefore, AreSoManyNames}
use Rattle.warp_table.specs.Joint.{all_events_below, all_withdrawals_below}
use Rattle.warp_table.specs.LogNames.{is_other, names_of}
use Rattle.warp_table.specs.NameCounts.{AreSoMany}
use Rattle.warp_table.specs.Records.{set_of}
use Rattle.warp_table.proofs.JointCounts.{is_one_name, one_name}
use Rattle.warp_table.proofs.ListedNames.{names_each}
use Rattle.warp_table.proofs.Members.{AllPairs-first, AllPairs-tail, Contains-from_map}
use Rattle.warp_keep.proofs.Counted.{at_most}

fewer : (p : ℕ × Moment → Bool) (names : List (ℕ × Moment)) → length (filter p names) ≤ length names
fewer p names = omega (arith, length-filter p names, count_by-le-length p names)

few_names : (log : List Record) → length (names_of log) ≤ length log
few_names [] = omega arith
few_names (Event o t input value ∷ log) = omega (arith, fewer (is_other (o, t)) (names_of log), few_names log)
few_names (Withdraw o t ∷ log) = omega (arith, fewer (is_other (o, t)) (names_of log), few_names log)
few_names (Announce o h e w ∷ log) = omega (arith, few_names log)
few_names (Joint h e w ∷ log) = omega (arith, few_names log)

few_listed : (log : List Record) (names : List (ℕ × Moment)) → AllPairs (λ m n. m ≢ n) names → ((name : ℕ × Moment) → Contains names name → Contains (names_of log) name) → length names ≤ length log
few_listed log names differ within = omega (arith, at_most is_one_name one_name names (names_of log) differ within, few_names log)

few_of_all : (log : List Record) (are : ℕ × Moment → Type 0) (count : ℕ) → ((name : ℕ × Moment) → are name → Contains (names_of log) name) → AreSoManyNames count are → count ≤ length log
few_of_all log are count named h = omega (arith, few_listed log h.0 h.1 (λ name has. named name ((h.2 name).0 has)), h.3)

-- distinct tags make distinct names
abbrev name_at : ℕ → Moment → ℕ × Moment
name_at origin tag = (origin, tag)

named_apart : (origin : ℕ) (tags : List Moment) → AllPairs (λ t u. t ≢ u) tags → AllPairs (λ m n. m ≢ n) (map (name_at origin) tags)
named_apart origin [] differ = λ i j d lt l. absurd (omega arith)
named_apart origin (t ∷ tags) differ =
    AllPairs-cons (λ (m n : ℕ × Moment). m ≢ n) (origin, t) (map (name_at origin) tags)
    (All-map (λ (n : ℕ × Moment). name_at origin t ≢ n) (name_at origin) tags
    (All-weaker (λ u. t ≢ u) (λ u. name_at origin t ≢ name_at origin u) (λ u other e. other (ap (λ (n : ℕ × Moment). n.1) e)) tags
    (AllPairs-first (λ u v. u ≢ v) t tags differ)))
    (named_apart origin tags (AllPairs-tail (λ u v. u ≢ v) t tags differ))

-- the tags of one origin's names are as many as the names
few_of_one : (log : List Record) (origin : ℕ) (are : Moment → Type 0) (count : ℕ) → ((tag : Moment) → are tag → Contains (names_of log) (origin, tag)) → AreSoMany count are → count ≤ length log
few_of_one log origin are count named h =
    let few : length (map (name_at origin) h.0) ≤ length log = few_listed log (map (name_at origin) h.0) (named_apart origin h.0 h.1) (λ n has.
    let own = Contains-from_map (name_at origin) h.0 n has in
    subst (λ (m : ℕ × Moment). Contains (names_of log) m) own.2 (named own.0 ((h.2 own.0).0 own.1))) in
    omega (arith, few, length-map h.0 (name_at origin), h.3)

-- so an announcement with a log's counts says no more than the log has records
pub own_bounds : (log : List Record) (origin : ℕ) (end : Moment) (events withdrawn : ℕ) → AreCountsBefore (set_of log) origin end events withdrawn → (events ≤ length log) × (withdrawn ≤ length log)
own_bounds log origin end events withdrawn counts = (
  few_of_one log origin (events_below (set_of log) origin end) events (λ tag h. (names_each log origin tag).1 (Event origin tag h.1.0.0 h.1.0.1, h.1.1, (refl, refl))) counts.events,
  few_of_one log origin (withdrawals_below (set_of log) origin end) withdrawn (λ tag h. (names_each log origin tag).1 (Withdraw origin tag, h.1, (refl, refl))) counts.withdrawn,
)

pub joint_bounds : (log : List Record) (end : Moment) (events withdrawn : ℕ) → AreJointCountsBefore (set_of log) end events withdrawn → (events ≤ length log) × (withdrawn ≤ length log)
joint_bounds log end events withdrawn counts = (
  few_of_all log (all_events_below (set_of log) end) events (λ name h. (names_each log name.0 name.1).1 (Event name.0 name.1 h.1.0.0 h.1.0.1, h.1.1, (refl, refl))) counts.events,
  few_of_all log (all_withdrawals_below (set_of log) end) withdrawn (λ name h. (names_each log name.0 name.1).1 (Withdraw name.0 name.1, h.1, (refl, refl))) counts.withdrawn,
)
