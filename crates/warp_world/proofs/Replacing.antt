-- What a list of replicas keeps, and what becomes of its logs, where one of them is put in the place of another.
use Rattle.std.proofs.Common.{◌≡◌, ℕ, ◌+◌, ◌<◌, List, Option, [], ◌∷◌, ◌++◌, length, get_or, set, map, replicate, take, sym, ap, subst, ◌∙◌}
use Rattle.std.specs.List.{All}
use Rattle.std.proofs.Math.Seq.{map-set_same}
use Rattle.std.proofs.lemmas.List.{get_or-map, length-map, map-append, map-set, replicate_more, take_more_set}
use Rattle.std.proofs.lemmas.List.Elements.{All-append, All-cons, All-nil, All-set}
use Rattle.warp_tag.specs.Moment.{Moment}
use Rattle.warp_step.specs.Program.{Program}
use Rattle.warp_record.specs.declared.record.Record.{Record}
use Rattle.warp_replica.specs.Replica.{ReplicaState}
use Rattle.warp_world.specs.Replicas.{RunAll, logs_of}

-- one of the same records leaves the logs as they are
pub logs_stay : {T : Type 0} (xs : List (ReplicaState T)) (i : ℕ) (d new : ReplicaState T) → new.records ≡ (get_or xs i d).records
    → logs_of (set xs i new) ≡ logs_of xs
logs_stay xs i d new same = map-set_same (λ r. r.records) xs i new d same

-- one of the same program leaves the programs as they are
pub programs_stay : {T : Type 0} (xs : List (ReplicaState T)) (i : ℕ) (d new : ReplicaState T) → new.program ≡ (get_or xs i d).program
    → map (λ r. r.program) (set xs i new) ≡ map (λ r. r.program) xs
programs_stay xs i d new same = map-set_same (λ r. r.program) xs i new d same

-- one that has let go of as much leaves what each has let go of
pub floors_stay : {T : Type 0} (floor : T → Option Moment) (xs : List (ReplicaState T)) (i : ℕ) (d new : ReplicaState T)
    → floor new.timeline ≡ floor (get_or xs i d).timeline → map (λ r. floor r.timeline) (set xs i new) ≡ map (λ r. floor r.timeline) xs
floors_stay floor xs i d new same = map-set_same (λ r. floor r.timeline) xs i new d same

-- a fact of the first ones, and of one that is put behind these, is one of one more
pub All-one_more : {X : Type 0} (P : X → Type 0) (xs : List X) (i : ℕ) (x : X) → i < length xs → All P (take i xs) → P x → All P (take (i + 1) (set xs i x))
All-one_more P xs i x within front here =
    subst (All P) (sym (take_more_set xs i x within)) (All-append P (take i xs) (x ∷ []) front (All-cons P x [] here (All-nil P)))

-- one more that runs the program and has an empty log
pub run_one_more : {T : Type 0} (P : Program) (xs all : List (ReplicaState T)) (x : ReplicaState T) → all ≡ xs ++ x ∷ [] → x.program ≡ P
    → RunAll P xs → RunAll P all
run_one_more {T} P xs all x is runs front =
    let R : ReplicaState T → Type 0 = λ r. r.program ≡ P in
    subst (λ (ys : List (ReplicaState T)). All R ys) (sym is) (All-append R xs (x ∷ []) front (All-cons R x [] runs (All-nil R)))

pub empty_one_more : {T : Type 0} (count : ℕ) (xs all : List (ReplicaState T)) (x : ReplicaState T) → all ≡ xs ++ x ∷ [] → x.records ≡ []
    → logs_of xs ≡ replicate count [] → logs_of all ≡ replicate (count + 1) []
empty_one_more count xs all x is empty front =
    ap logs_of is
    ∙ map-append (λ r. r.records) xs (x ∷ [])
    ∙ ap (λ (log : List Record). logs_of xs ++ log ∷ []) empty
    ∙ ap (λ (logs : List (List Record)). logs ++ [] ∷ []) front
    ∙ replicate_more count []

-- a new one has its log in the place of the other's
pub logs_replaced : {T : Type 0} (xs : List (ReplicaState T)) (i : ℕ) (new : ReplicaState T) → new.records ≡ [] → logs_of (set xs i new) ≡ set (logs_of xs) i []
logs_replaced xs i new empty = map-set (λ r. r.records) xs i new ∙ ap (set (logs_of xs) i) empty

-- and where it runs the program, all do
pub run_replaced : {T : Type 0} (P : Program) (xs : List (ReplicaState T)) (i : ℕ) (new : ReplicaState T) → new.program ≡ P → RunAll P xs → RunAll P (set xs i new)
run_replaced P xs i new runs all = All-set (λ r. r.program ≡ P) xs i new runs all

-- replicas of the programs of others, which all run one, run it too
pub run_kept : {T : Type 0} (P : Program) (old new : List (ReplicaState T)) → map (λ r. r.program) new ≡ map (λ r. r.program) old → RunAll P old → RunAll P new
run_kept {T} P old new same all k d within =
    let program_of : ReplicaState T → Program = λ r. r.program in
    let long : length new ≡ length old = sym (length-map new program_of) ∙ ap length same ∙ length-map old program_of in
    let there : k < length old = subst (λ n. k < n) long within in
    sym (get_or-map program_of new k d P within) ∙ ap (λ ps. get_or ps k P) same ∙ get_or-map program_of old k d P there ∙ all k d there
