-- What is printed of a world: replica by replica, and of a replica line by line.
use Rattle.std.proofs.Common.{◌≡◌, ◌∙◌, ◌<◌, ◌≤◌, ◌+◌, ℕ, ℤ, Bool, true, false, inl, inr, List, [], ◌∷◌, ◌++◌, Some, add-one, ap, append_assoc, arith, drop, drop-cons, if◌then◌else◌, length, map, option_map, refl, suc, subst, sym}
use Rattle.std.specs.Prelude.{slice_get, unwrap_or}
use Rattle.std.specs.Option.{option_map_or}
use Rattle.std.specs.List.{flat_map}
use Rattle.std.proofs.lemmas.List.{append-nil, drop_all, length-map}
use Rattle.std.proofs.lemmas.Grind.{flat_map-append}
use Rattle.std.proofs.lemmas.Option.{get_or_from_slice_get, slice_get-map, slice_get_cases, slice_get_within}
use Rattle.warp_step.specs.Program.{Program, told_of}
use Rattle.warp_step.specs.declared.parts.Variable.{Variable}
use Rattle.warp_step.proofs.VariablesOfRun.{end_vars}
use Rattle.warp_record.specs.declared.line.Query.{Query}
use Rattle.warp_record.specs.declared.line.Query.TheVariants as query
use Rattle.warp_record.specs.declared.record.Record.{Record}
use Rattle.warp_record.specs.declared.reply.Reply.{Reply}
use Rattle.warp_record.specs.declared.reply.Refusal.TheVariants.{NoVar}
use Rattle.warp_record.specs.declared.reply.Reply.TheVariants.{Refused, Var}
use Rattle.warp_table.specs.Records.{Records, set_of}
use Rattle.warp_replica.specs.Answers.{Answers, AreAnswers}
use Rattle.warp_replica.specs.Gives.{GivesQuery, reply_to}
use Rattle.warp_replica.specs.Replica.{ReplicaState}
use Rattle.warp_world.specs.Replicas.{RunAll, logs_of}
use Rattle.warp_world.proofs.SoundLogs.{All_at}
use Rattle.warp_world.specs.Play.{Prints, replica_lines}
use Rattle.warp_record.specs.Reply.{reply_line}
use Rattle.warp_world.specs.inner.Printing.{Adds, count_lines, count_replies, title_line, told_at, value_lines, variable_line, variable_lines}

-- what is left of a list at an element begins with it
drop_at : {X : Type 0} (xs : List X) (i : ℕ) (x : X) → slice_get xs i ≡ Some x → drop i xs ≡ x ∷ drop (i + 1) xs
drop_at xs i x at =
    drop-cons xs i x (slice_get_within xs i x at) ∙ ap (λ y. y ∷ drop (suc i) xs) (get_or_from_slice_get xs i x x at)
    ∙ ap (λ n. x ∷ drop n xs) (sym (add-one i))

-- ---- a world

-- the text has the lines of the replicas before this number: what the others print may follow it
abbrev pub PrintsSoFar : {T : Type 0} → List (ReplicaState T) → ℕ → List ℕ → Type 0
PrintsSoFar replicas number text =
    (P : Program) → RunAll P replicas → (rest : List ℕ) → Prints P number (drop number (logs_of replicas)) rest
    → Prints P 0 (logs_of replicas) (text ++ rest)

-- the lines of one replica
abbrev pub AddsReplica : {T : Type 0} → ReplicaState T → ℕ → List ℕ → List ℕ → Type 0
AddsReplica r number old new =
    (a : Answers) × AreAnswers r.program (set_of r.records) a × (new ≡ old ++ replica_lines r.program number a)

pub one_replica_more : {T : Type 0} (replicas : List (ReplicaState T)) (number : ℕ) (r : ReplicaState T) (old new : List ℕ)
    → slice_get replicas number ≡ Some r → PrintsSoFar replicas number old → AddsReplica r number old new → PrintsSoFar replicas (number + 1) new
one_replica_more replicas number r old new at so_far adds = λ P all rest prints.
    let program : r.program ≡ P = All_at (λ s. s.program ≡ P) replicas number r all at in
    let answers : AreAnswers P (set_of r.records) adds.0 = subst (λ Q. AreAnswers Q (set_of r.records) adds.0) program adds.1 in
    let lines = replica_lines P number adds.0 in
    let grown : new ≡ old ++ lines = adds.2 ∙ ap (λ Q. old ++ replica_lines Q number adds.0) program in
    let log : slice_get (logs_of replicas) number ≡ Some r.records = slice_get-map (λ s. s.records) replicas number ∙ ap (option_map (λ s. s.records)) at in
    let here = subst (λ logs. Prints P number logs (lines ++ rest)) (sym (drop_at (logs_of replicas) number r.records log))
    (adds.0, rest, answers, refl, prints) in
    subst (Prints P 0 (logs_of replicas)) (sym (append_assoc old lines rest) ∙ ap (λ text. text ++ rest) (sym grown))
    (so_far P all (lines ++ rest) here)

pub all_replicas : {T : Type 0} (replicas : List (ReplicaState T)) (number : ℕ) (text : List ℕ)
    → length replicas ≤ number → PrintsSoFar replicas number text → (P : Program) → RunAll P replicas → Prints P 0 (logs_of replicas) text
all_replicas replicas number text past so_far = λ P all.
    let none : drop number (logs_of replicas) ≡ [] = drop_all number (logs_of replicas) (rw length-map past) in
    subst (Prints P 0 (logs_of replicas)) (append-nil text)
    (so_far P all [] (subst (λ logs. Prints P number logs []) (sym none) refl))

-- ---- a replica

-- what a query is told is the reply by any answers of the set, since there are no two
pub told_line : (P : Program) (records : List Record) (asked : Query) (said : Reply) (old new : List ℕ)
    → ((S : Records) (a b : Answers) → AreAnswers P S a → AreAnswers P S b → a ≡ b)
    → GivesQuery P records asked said → new ≡ old ++ reply_line said
    → Adds P (set_of records) (λ a. reply_line (reply_to P records a asked)) old new
told_line P records asked said old new one gives grown = λ a answers.
    grown ∙ ap (λ reply. old ++ reply_line reply) (gives.2 ∙ ap (λ b. reply_to P records b asked) (one (set_of records) gives.0 a gives.1 answers))

-- the four lines before the variables
pub four_lines : (P : Program) (records : List Record) (t0 t1 t2 t3 t4 : List ℕ)
    → Adds P (set_of records) (λ a. reply_line (reply_to P records a query.Horizon)) t0 t1
    → Adds P (set_of records) (λ a. reply_line (reply_to P records a query.Outputs)) t1 t2
    → Adds P (set_of records) (λ a. reply_line (reply_to P records a query.Released)) t2 t3
    → Adds P (set_of records) (λ a. reply_line (reply_to P records a query.Lost)) t3 t4
    → Adds P (set_of records) count_lines t0 t4
four_lines P records t0 t1 t2 t3 t4 horizon outputs released lost = λ a answers.
    joined _ _ _ _ t0 t1 t2 t3 t4 (horizon a answers) (outputs a answers) (released a answers) (lost a answers)
  where
    joined : (a b c d t0 t1 t2 t3 t4 : List ℕ) → t1 ≡ t0 ++ a → t2 ≡ t1 ++ b → t3 ≡ t2 ++ c → t4 ≡ t3 ++ d
        → t4 ≡ t0 ++ (a ++ (b ++ (c ++ (d ++ []))))
    joined a b c d t0 t1 t2 t3 t4 e f g h = rw (h, g, f, e) (simp (append_assoc, append-nil))

-- the text has the lines of the variables before this number: with those of the others it has all
abbrev pub VariablesSoFar : Program → Records → ℕ → List ℕ → List ℕ → Type 0
VariablesSoFar P S number old text =
    (a : Answers) → AreAnswers P S a
    → text ++ value_lines a.count (told_of (drop number P.variables) (drop number a.state.vars)) ≡ old ++ variable_lines P a

-- as many variables as the program has
many : (P : Program) (S : Records) (a : Answers) → AreAnswers P S a → length a.state.vars ≡ length P.variables
many P S a answers = ap (λ s. length s.vars) answers.state ∙ end_vars P answers.events answers.trace answers.run

-- with the first of two lists comes its line, where it is told
told_first : (count : ℕ) (v : Variable) (vs : List Variable) (x : ℤ) (xs : List ℤ)
    → value_lines count (told_of (v ∷ vs) (x ∷ xs)) ≡ (if v.is_told then reply_line (Var count x) else []) ++ value_lines count (told_of vs xs)
told_first count v vs x xs = by v.is_told
  where
    by : (b : Bool) → value_lines count (if b then x ∷ told_of vs xs else told_of vs xs)
        ≡ (if b then reply_line (Var count x) else []) ++ value_lines count (told_of vs xs)
    by true = refl
    by false = refl

-- a list that is long enough has an element there
some_at : {X : Type 0} (xs : List X) (i : ℕ) → i < length xs → (x : X) × (slice_get xs i ≡ Some x)
some_at xs i within = elim (slice_get_cases xs i).1 [
  | inl some ↦ (some.0, some.2)
  | inr past ↦ absurd (omega (arith, within, past.0))
]

pub one_variable_more : (P : Program) (records : List Record) (number : ℕ) (old mid new : List ℕ) → number < length P.variables
    → VariablesSoFar P (set_of records) number old mid → Adds P (set_of records) (variable_line P records number) mid new
    → VariablesSoFar P (set_of records) (number + 1) old new
one_variable_more P records number old mid new some so_far adds = λ a answers.
    let vars = a.state.vars in
    let v = some_at P.variables number some in
    let x = some_at vars number (rw (many P (set_of records) a answers) some) in
    let said : reply_to P records a (query.Var number) ≡ Var a.count x.0 =
    ap (λ o. unwrap_or (option_map (λ n. Var a.count n) o) (Refused NoVar)) x.1 in
    let up : told_at P number ≡ v.0.is_told = ap (λ o. option_map_or (λ w. w.is_told) o false) v.1 in
    let line = if v.0.is_told then reply_line (Var a.count x.0) else [] in
    let is : variable_line P records number a ≡ line = λ i. if up i then reply_line (said i) else [] in
    let later = value_lines a.count (told_of (drop (number + 1) P.variables) (drop (number + 1) vars)) in
    let left : value_lines a.count (told_of (drop number P.variables) (drop number vars)) ≡ line ++ later =
    (λ i. value_lines a.count (told_of (drop_at P.variables number v.0 v.1 i) (drop_at vars number x.0 x.1 i)))
    ∙ told_first a.count v.0 (drop (number + 1) P.variables) x.0 (drop (number + 1) vars) in
    ap (λ text. text ++ later) (adds a answers ∙ ap (λ l. mid ++ l) is) ∙ append_assoc mid line later
    ∙ ap (λ l. mid ++ l) (sym left) ∙ so_far a answers

pub all_variables : (P : Program) (S : Records) (number : ℕ) (old text : List ℕ) → length P.variables ≤ number
    → VariablesSoFar P S number old text → Adds P S (variable_lines P) old text
all_variables P S number old text past so_far = λ a answers.
    let none : drop number P.variables ≡ [] = drop_all number P.variables past in
    let left : value_lines a.count (told_of (drop number P.variables) (drop number a.state.vars)) ≡ [] =
    ap (λ vs. value_lines a.count (told_of vs (drop number a.state.vars))) none in
    sym (append-nil text) ∙ ap (λ l. text ++ l) (sym left) ∙ so_far a answers

-- what a variable that is told adds, and what another
pub variable_told : (P : Program) (records : List Record) (number : ℕ) (told : Bool) (old new : List ℕ) → told ≡ told_at P number → told ≡ true
    → Adds P (set_of records) (λ a. reply_line (reply_to P records a (query.Var number))) old new
    → Adds P (set_of records) (variable_line P records number) old new
variable_told P records number told old new is up adds = λ a answers.
    adds a answers
    ∙ ap (λ b. old ++ (if b then reply_line (reply_to P records a (query.Var number)) else [])) (sym up ∙ is)

pub variable_untold : (P : Program) (records : List Record) (number : ℕ) (told : Bool) (old : List ℕ) → told ≡ told_at P number → told ≡ false
    → Adds P (set_of records) (variable_line P records number) old old
variable_untold P records number told old is down = λ a answers.
    sym (append-nil old)
    ∙ ap (λ b. old ++ (if b then reply_line (reply_to P records a (query.Var number)) else [])) (sym down ∙ is)

-- the lines of a replica: its number, the four, and the variables
pub replica_added : {T : Type 0} (r : ReplicaState T) (number : ℕ) (t0 t1 t2 t3 : List ℕ) → (a : Answers) × AreAnswers r.program (set_of r.records) a
    → t1 ≡ t0 ++ title_line number → Adds r.program (set_of r.records) count_lines t1 t2 → Adds r.program (set_of r.records) (variable_lines r.program) t2 t3
    → AddsReplica r number t0 t3
replica_added r number t0 t1 t2 t3 some title counts variables =
    let a = some.0 in
    (a, some.1, joined (count_replies a) (map (λ value. Var a.count value) (told_of r.program.variables a.state.vars)) (title_line number) t0 t1 t2 t3 title (counts a some.1) (variables a some.1))
  where
    joined : (xs ys : List Reply) (first t0 t1 t2 t3 : List ℕ) → t1 ≡ t0 ++ first → t2 ≡ t1 ++ flat_map reply_line xs → t3 ≡ t2 ++ flat_map reply_line ys
        → t3 ≡ t0 ++ (first ++ flat_map reply_line (xs ++ ys))
    joined xs ys first t0 t1 t2 t3 f g h = rw (h, g, f, flat_map-append) (simp append_assoc)
