-- The world of some replicas of one program: which records were made, and the log of each replica. No replica of the code, no
-- run and no rollback plays a part in it.
use Rattle.std.specs.Prelude.{ℕ, Bool, ◌&&◌, not, nat_lt, List, [], ◌∷◌, ◌++◌, length, fold, replicate, slice_get, slice_set, Option, Some, None, is_none, if◌then◌else◌}
use Rattle.std.specs.Option.{option_and_then}
use Rattle.warp_tag.specs.Limits.{most_records}
use Rattle.warp_step.specs.Program.{Program}
use Rattle.warp_record.specs.declared.record.Record.{Record}
use Rattle.warp_table.specs.Records.{Records, set_of, union}
use Rattle.warp_table.specs.Check.{refusal_of}
use Rattle.warp_replica.specs.Gives.{record_at}
use Rattle.warp_world.specs.declared.moves.Move.{Move}
use Rattle.warp_world.specs.declared.moves.Move.TheVariants.{Make, Carry, Collect, Settle, Restart}

-- the set of all records made so far, and the log of each replica, in the order of taking
pub record World : Type 0 where
  pub made : Records
  pub logs : List (List Record)

-- so many replicas before the first move: no record was made, and each log is empty
abbrev pub new_world : ℕ → World
new_world count = record { made = set_of []; logs = replicate count [] }

-- the log of the replica with this number, from 0, if there is such a replica
abbrev pub log_of : World → ℕ → Option (List Record)
log_of w replica = slice_get w.logs replica

-- the world, with another log of this replica; where there is no such replica it stays as it is
abbrev pub with_log : ℕ → List Record → World → World
with_log replica log w = record w { logs = slice_set w.logs replica log }

-- A log takes the record: the program has no reason against it, the log has no such record yet, and it is not full.
abbrev pub takes_in : Program → List Record → Record → Bool
takes_in P log said = is_none (refusal_of P said) && (not (set_of log said) && nat_lt (length log) (most_records P.form))

-- A record made at a replica is one of all that were made, and the last of the replica's log. Where there is no such replica,
-- or its log does not take the record, nothing happens.
abbrev pub after_make : Program → ℕ → Record → World → Option (List Record) → World
after_make P replica said w None = w
after_make P replica said w (Some log) =
    if takes_in P log said
    then with_log replica (log ++ said ∷ []) (record w { made = union w.made (set_of (said ∷ [])) })
    else w

-- A record carried to a replica is the last of its log. Where there is no such record or no such replica, or its log does not
-- take the record, nothing happens.
abbrev pub after_carry : Program → ℕ → World → Option Record → Option (List Record) → World
after_carry P to w None log = w
after_carry P to w (Some said) None = w
after_carry P to w (Some said) (Some log) = if takes_in P log said then with_log to (log ++ said ∷ []) w else w

-- the record at this place of a replica's log, from 1, if there is such a replica and such a place
abbrev pub log_entry : World → ℕ → ℕ → Option Record
log_entry w replica place = option_and_then (λ log. record_at log place) (log_of w replica)

-- What a move does to the world. Collecting and settling change no log; a replica that is restarted has an empty log.
abbrev pub happens : Program → World → Move → World
happens P w (Make replica said) = after_make P replica said w (log_of w replica)
happens P w (Carry from place to) = after_carry P to w (log_entry w from place) (log_of w to)
happens P w (Collect replica) = w
happens P w (Settle replica) = w
happens P w (Restart replica) = with_log replica [] w

-- the world of so many replicas after these moves
abbrev pub world_after : Program → ℕ → List Move → World
world_after P count moves = fold (happens P) (new_world count) moves
