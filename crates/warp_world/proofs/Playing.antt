-- That replicas of code do what the moves of a world say.
use Rattle.std.proofs.Common.{◌≡◌, ℕ, ◌+◌, ◌<◌, Bool, true, false, List, [], ◌∷◌, ◌++◌, length, get_or, set, slice_get, take, Option, Some, None, if◌then◌else◌, refl, sym, ap, subst, ◌∙◌}
use Rattle.std.proofs.lemmas.List.{get_or-map, length-map, map-set, set-get_or}
use Rattle.std.proofs.lemmas.List.Sums.{fold_more}
use Rattle.std.proofs.lemmas.Option.{slice_get-get_or}
use Rattle.warp_step.specs.Program.{Program}
use Rattle.warp_record.specs.declared.record.Record.{Record}
use Rattle.warp_table.specs.Records.{Records, set_of, union}
use Rattle.warp_replica.specs.Replica.{ReplicaState}
use Rattle.warp_world.specs.Replicas.{RunAll, logs_of, world_of}
use Rattle.warp_world.specs.World.{World, after_carry, after_make, log_entry, happens, log_of, new_world, takes_in, with_log, world_after}
use Rattle.warp_world.specs.declared.moves.Move.{Move}
use Rattle.warp_world.specs.declared.moves.Move.TheVariants.{Make, Carry}
use Rattle.warp_world.proofs.Takings.{log_with}

-- the logs of the one or the other of two worlds, which are as many
chosen : (w : World) (i : ℕ) (log longer : List Record) (taken : Bool) → set w.logs i log ≡ w.logs
    → set w.logs i (if taken then longer else log) ≡ (if taken then with_log i longer w else w).logs
chosen w i log longer true same = refl
chosen w i log longer false same = same

-- the log of a replica is there
logged : {T : Type 0} (xs : List (ReplicaState T)) (i : ℕ) (d : ReplicaState T) → i < length xs → slice_get (logs_of xs) i ≡ Some (get_or xs i d).records
logged {T} xs i d within =
    let records_of : ReplicaState T → List Record = λ r. r.records in
    let there : i < length (logs_of xs) = subst (λ n. i < n) (sym (length-map xs records_of)) within in
    slice_get-get_or (logs_of xs) i [] there ∙ ap Some (get_or-map records_of xs i d [] within)

-- a replica that took a record as its log takes it in, in its place
pub brought : {T : Type 0} (P : Program) (made : Records) (xs : List (ReplicaState T)) (i : ℕ) (said : Record) (old new : ReplicaState T) → RunAll P xs
    → i < length xs → old ≡ get_or xs i old → new.records ≡ log_with old.program old.records said
    → logs_of (set xs i new) ≡ (after_carry P i (world_of made xs) (Some said) (log_of (world_of made xs) i)).logs
brought {T} P made xs i said old new runs within is took =
    let w = world_of made xs in
    let log = old.records in
    let at : log_of w i ≡ Some log = logged xs i old within ∙ ap (λ (r : ReplicaState T). Some r.records) (sym is) in
    let runs_it : old.program ≡ P = ap (λ r. r.program) is ∙ runs i old within in
    let same : set w.logs i log ≡ w.logs =
    ap (set w.logs i) (ap (λ (r : ReplicaState T). r.records) is ∙ sym (get_or-map (λ (r : ReplicaState T). r.records) xs i old [] within)) ∙ set-get_or w.logs i [] in
    map-set (λ r. r.records) xs i new
    ∙ ap (set w.logs i) (took ∙ ap (λ (Q : Program). log_with Q log said) runs_it)
    ∙ chosen w i log (log ++ said ∷ []) (takes_in P log said) same
    ∙ ap (λ (o : Option (List Record)). (after_carry P i w (Some said) o).logs) (sym at)

-- a record that is made comes into its log as one that is carried does
either_made : (i : ℕ) (longer : List Record) (more : Records) (w : World) (taken : Bool)
    → (if taken then with_log i longer w else w).logs ≡ (if taken then with_log i longer (record w { made = more }) else w).logs
either_made i longer more w true = refl
either_made i longer more w false = refl

module _ (P : Program) (w : World) (m : Move) (logs : List (List Record)) where
  as_carried : (i : ℕ) (said : Record) (log : Option (List Record)) → (after_carry P i w (Some said) log).logs ≡ (after_make P i said w log).logs
  as_carried i said None = refl
  as_carried i said (Some log) = either_made i (log ++ said ∷ []) (union w.made (set_of (said ∷ []))) w (takes_in P log said)

  -- what is brought is made
  pub made_in : (i : ℕ) (said : Record) → m ≡ Make i said → logs ≡ (after_carry P i w (Some said) (log_of w i)).logs → logs ≡ (happens P w m).logs
  made_in i said is brought = brought ∙ as_carried i said (log_of w i) ∙ ap (λ (n : Move). (happens P w n).logs) (sym is)

  -- or is carried, if it was found
  pub carried_in : (from place to : ℕ) (said : Option Record) → m ≡ Carry from place to → said ≡ log_entry w from place
      → logs ≡ (after_carry P to w said (log_of w to)).logs → logs ≡ (happens P w m).logs
  carried_in from place to said is found brought =
      brought ∙ ap (λ (s : Option Record). (after_carry P to w s (log_of w to)).logs) found ∙ ap (λ (n : Move). (happens P w n).logs) (sym is)

-- one more move: what it does to the logs of the replicas, where these are the world's, it does to the world's
pub one_move_more : {T : Type 0} (P : Program) (count : ℕ) (moves : List Move) (i : ℕ) (m : Move) (old new : List (ReplicaState T)) → i < length moves
    → m ≡ get_or moves i m → logs_of old ≡ (world_after P count (take i moves)).logs
    → ((made : Records) → logs_of new ≡ (happens P (world_of made old) m).logs) → logs_of new ≡ (world_after P count (take (i + 1) moves)).logs
one_move_more P count moves i m old new within at so_far step =
    let w = world_after P count (take i moves) in
    let here : world_of w.made old ≡ w = λ j. record { made = w.made; logs = so_far j } in
    step w.made
    ∙ ap (λ (v : World). (happens P v m).logs) here
    ∙ ap (λ (n : Move). (happens P w n).logs) at
    ∙ ap (λ (v : World). v.logs) (sym (fold_more (happens P) (new_world count) moves i m within))
