-- The record at a place of a replica's log is the one at that place of the world's.
use Rattle.std.proofs.Common.{◌≡◌, ℕ, zero, suc, ◌-◌, ◌≤◌, List, length, map, slice_get, Option, Some, None, IfSome, IfNone, refl, sym, ap, ◌∙◌, arith}
use Rattle.std.specs.Option.{option_map, option_and_then}
use Rattle.std.proofs.lemmas.Option.{slice_get-map, slice_get_past}
use Rattle.warp_record.specs.declared.record.Record.{Record}
use Rattle.warp_table.specs.Log.{IsAt}
use Rattle.warp_table.specs.Records.{Records}
use Rattle.warp_replica.specs.Gives.{record_at}
use Rattle.warp_replica.specs.Replica.{ReplicaState}
use Rattle.warp_world.specs.Replicas.{world_of}
use Rattle.warp_world.specs.World.{log_entry}

-- the place behind an index
at_index : (log : List Record) (index : ℕ) → slice_get log (suc index - 1) ≡ slice_get log index
at_index log index =
    let less : suc index - 1 ≡ index = omega arith in
    ap (slice_get log) less

-- where no record stands at a place, there is none
none_at : (log : List Record) (index : ℕ) (found : Option Record) → slice_get log index ≡ found
    → ((said : Record) → ¬ IsAt log (suc index) said) → None ≡ found
none_at log index None is none = refl
none_at log index (Some said) is none = absurd (none said (omega arith, at_index log index ∙ is))

-- the record that stands at a place, if there is one
at_place : (log : List Record) (place : ℕ) (said : Option Record) → IfSome said (λ one. IsAt log place one)
    → IfNone said ((one : Record) → ¬ IsAt log place one) → said ≡ record_at log place
at_place log zero None found none = refl
at_place log zero (Some one) found none = absurd (omega (arith, found.0))
at_place log (suc index) (Some one) found none = sym found.1 ∙ at_index log index
at_place log (suc index) None found none = none_at log index (slice_get log index) refl none

-- what is behind a look at a replica, if there is one
behind_look : {T : Type 0} (xs : List (ReplicaState T)) (i place : ℕ) (found : Option (ReplicaState T)) → slice_get xs i ≡ found
    → option_and_then (λ log. record_at log place) (option_map (λ r. r.records) found)
    ≡ option_and_then (λ log. record_at log place) (slice_get (map (λ r. r.records) xs) i)
behind_look xs i place found is =
    ap (λ o. option_and_then (λ log. record_at log place) (option_map (λ r. r.records) o)) (sym is)
    ∙ ap (λ o. option_and_then (λ log. record_at log place) o) (sym (slice_get-map (λ r. r.records) xs i))

-- an entry of a replica that is there
pub entry_is : {T : Type 0} (made : Records) (xs : List (ReplicaState T)) (i place : ℕ) (r : ReplicaState T) (said : Option Record) → slice_get xs i ≡ Some r
    → IfSome said (λ one. IsAt r.records place one) → IfNone said ((one : Record) → ¬ IsAt r.records place one)
    → said ≡ log_entry (world_of made xs) i place
entry_is made xs i place r said is found none = at_place r.records place said found none ∙ behind_look xs i place (Some r) is

-- and of one that is not
pub no_entry : {T : Type 0} (made : Records) (xs : List (ReplicaState T)) (i place : ℕ) → length xs ≤ i → None ≡ log_entry (world_of made xs) i place
no_entry made xs i place past = behind_look xs i place None (slice_get_past xs i past)
