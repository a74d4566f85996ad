-- What a puller does with a replica as its desk: its log grows by the record that was replied, or not at all.
use Rattle.std.proofs.Common.{◌≡◌, ◌⊎◌, inl, inr, ℕ, Bool, true, false, MatchBool, List, [], ◌∷◌, ◌++◌, Option, Some}
use Rattle.std.proofs.Common.{Result, Ok, Err, nat_lt, refl, ap}
use Rattle.warp_record.specs.declared.line.Line.TheVariants.{Put}
use Rattle.warp_record.specs.declared.record.Record.{Record}
use Rattle.warp_record.specs.declared.reply.Refusal.{Refusal}
use Rattle.warp_record.specs.declared.reply.Refusal.TheVariants.{NoMemory, Busy}
use Rattle.warp_record.specs.declared.reply.Reply.{Reply}
use Rattle.warp_record.specs.declared.reply.Reply.TheVariants as reply
use Rattle.warp_exchange.specs.Pulls.{Pulls, Turned}
use Rattle.warp_step.specs.Program.{Program}
use Rattle.warp_replica.specs.Desk.{LocalState, LocalGives}
use Rattle.warp_replica.specs.Gives.{Takes}
use Rattle.warp_replica.specs.declared.taking.Took.{Took}
use Rattle.warp_replica.specs.declared.taking.Took.TheVariants.{New, Known}

-- the log grew by the record that was replied, or not at all
abbrev HasPulled : LocalState → Option Reply → LocalState → Type 0
HasPulled s said s' =
    (s'.program ≡ s.program) × ((s'.records ≡ s.records)
    ⊎ ((log : ℕ) × (new : Record) × (said ≡ Some (reply.Log log new)) × (s'.records ≡ s.records ++ new ∷ [])))

-- nothing was asked of the replica
same_state : (s s' : LocalState) (said : Option Reply) → s' ≡ s → HasPulled s said s'
same_state s s' said same = (ap (λ (t : LocalState). t.program) same, inl (ap (λ (t : LocalState). t.records) same))

-- a record that is taken stands last in the log, which stays in every other case
taken : (P : Program) (records records' : List Record) (said : Record) (result : Result Took Refusal) → Takes P records said result records'
    → (records' ≡ records) ⊎ (records' ≡ records ++ said ∷ [])
taken P records records' said (Ok (New place)) h = inr h.3
taken P records records' said (Ok (Known place)) h = inl h.2
taken P records records' said (Err refusal) h = inl h.1

-- the replica was asked to take the record
put : (s s' : LocalState) (log : ℕ) (new : Record) (answer : Reply) → LocalGives s (Put new) answer s' → HasPulled s (Some (reply.Log log new)) s'
put s s' log new answer h = (
  h.0,
  elim (taken s.program s.records s'.records new h.1.0 h.1.1) [
    | inl same ↦ inl same
    | inr grown ↦ inr (log, new, refl, grown)
  ],
)

-- a log has the place that was asked for, or is too short for it
from_log : (s s' : LocalState) (log : ℕ) (new : Record) (turned stays : Turned) (after : Reply → Turned) (short : Bool)
    → MatchBool short ((turned ≡ stays) × (s' ≡ s)) ((answer : Reply) × LocalGives s (Put new) answer s' × (turned ≡ after answer))
    → HasPulled s (Some (reply.Log log new)) s'
from_log s s' log new turned stays after true h = same_state s s' (Some (reply.Log log new)) h.1
from_log s s' log new turned stays after false h = put s s' log new h.0 h.1

pub pulled_record : (s s' : LocalState) (place : ℕ) (said : Option Reply) (turned : Turned) → Pulls LocalGives s place said turned s' → HasPulled s said s'
pulled_record s s' place (Some (reply.Log log new)) turned h = from_log s s' log new turned _ _ (nat_lt log place) h
pulled_record s s' place (Some (reply.Refused NoMemory)) turned h = same_state s s' (Some (reply.Refused NoMemory)) h.1
pulled_record s s' place (Some (reply.Refused Busy)) turned h = same_state s s' (Some (reply.Refused Busy)) h.1
pulled_record s s' place (Some (reply.Nothing log)) turned h = same_state s s' (Some (reply.Nothing log)) h.1
pulled_record s s' place other turned h = same_state s s' other h.1
