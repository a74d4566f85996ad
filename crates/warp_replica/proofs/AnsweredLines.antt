-- Lines that a replica answered one after another: what they make of its log, and of a linear history.
use Rattle.std.proofs.Common.{◌≡◌, ℕ, suc, ◌≤◌, List, [], ◌∷◌, ◌++◌, length, refl, sym, ap, subst, ◌∙◌, arith, length-append, append-nil, Some}
use Rattle.std.specs.Prelude.{slice_get}
use Rattle.std.specs.List.{AllByRecursion}
use Rattle.std.proofs.Math.ListN.{set}
use Rattle.std.proofs.lemmas.List.{append_assoc, set-set}
use Rattle.warp_tag.proofs.Forms.{records_widen}
use Rattle.warp_tag.specs.Limits.{most_records}
use Rattle.warp_step.specs.Program.{Program}
use Rattle.warp_record.specs.declared.record.Record.{Record}
use Rattle.warp_record.specs.declared.line.Line.{Line}
use Rattle.warp_replica.specs.declared.answer.Answer.{Answer}
use Rattle.warp_replica.specs.Answered.{Answered, AnswersLine, AreAnswered, TimelineFacts}
use Rattle.warp_replica.specs.History.{Subhistory, AreGiven, IsHistory}
use Rattle.warp_replica.specs.Length.{SaysLength}
use Rattle.warp_replica.specs.Replica.{ReplicaState}
use Rattle.warp_replica.proofs.Growing.{begins, grows}
use Rattle.warp_replica.proofs.Histories.{one_more, set_same, set_there}

-- as many answers were given as lines
pub counted : (P : Program) (log : List Record) (lines : List Line) (answers : List Answer) → AreGiven P log lines answers
    → length lines ≡ length answers
counted P log [] [] g = refl
counted P log (said ∷ lines) (answer ∷ answers) g = ap suc (counted P log lines answers g.1)
counted P log [] (answer ∷ answers) g = absurd g
counted P log (said ∷ lines) [] g = absurd g

-- a line was answered, where the answer has its reply and the length of the log that it left
pub answers_line : {T : Type 0} (facts : TimelineFacts T) (r : ReplicaState T) (said : Line) (answer : Answer) (r' : ReplicaState T)
    → Answered facts r said answer.reply r' → answer.len ≡ length r'.records → answer.len ≤ most_records r'.program.form
    → AnswersLine facts r said answer r'
answers_line facts r said answer r' given len few = record {
  given = given;
  len = len;
  fits = (given.range, subst (λ n. SaysLength n answer.reply) (sym len) given.says, omega (arith, few, records_widen r'.program.form));
}

-- a line among others was answered as any is
pub among : {T : Type 0} (facts : TimelineFacts T) (r : ReplicaState T) (said : Line) (answer : Answer) (r' : ReplicaState T)
    → AnswersLine facts r said answer r' → AnswersLine facts r said answer r'
among facts r said answer r' a = a

-- lines that were answered one after another, each as a relation says by which it was answered
module _ {T : Type 0} (facts : TimelineFacts T) (One : ReplicaState T → Line → Answer → ReplicaState T → Type 0)
    (told : (r : ReplicaState T) (said : Line) (answer : Answer) (r' : ReplicaState T) → One r said answer r' → AnswersLine facts r said answer r') where
  -- one line more
  pub line_more : (r r' r'' : ReplicaState T) (lines : List Line) (made : List Answer) (said : Line) (answer : Answer)
      → AreAnswered One r lines made r' → One r' said answer r'' → AreAnswered One r (lines ++ said ∷ []) (made ++ answer ∷ []) r''
  line_more r r' r'' [] [] said answer a one = (r'', subst (λ (x : ReplicaState T). One x said answer r'') a one, refl)
  line_more r r' r'' (l ∷ lines) (m ∷ made) said answer a one = (a.0, a.1, line_more a.0 r' r'' lines made said answer a.2 one)
  line_more r r' r'' [] (m ∷ made) said answer a one = absurd a
  line_more r r' r'' (l ∷ lines) [] said answer a one = absurd a

  -- as many answers were made as there were lines
  pub lines_count : (r r' : ReplicaState T) (lines : List Line) (made : List Answer) → AreAnswered One r lines made r' → length made ≡ length lines
  lines_count r r' [] [] a = refl
  lines_count r r' (l ∷ lines) (m ∷ made) a = ap suc (lines_count a.0 r' lines made a.2)
  lines_count r r' [] (m ∷ made) a = absurd a
  lines_count r r' (l ∷ lines) [] a = absurd a

  -- the program stays
  pub lines_program : (r r' : ReplicaState T) (lines : List Line) (made : List Answer) → AreAnswered One r lines made r' → r'.program ≡ r.program
  lines_program r r' [] [] a = ap (λ (x : ReplicaState T). x.program) a
  lines_program r r' (l ∷ lines) (m ∷ made) a = lines_program a.0 r' lines made a.2 ∙ (told r l m a.0 a.1).given.program
  lines_program r r' [] (m ∷ made) a = absurd a
  lines_program r r' (l ∷ lines) [] a = absurd a

  -- the log before is a front of the log after
  pub lines_begin : (r r' : ReplicaState T) (lines : List Line) (made : List Answer) → AreAnswered One r lines made r'
      → (rest : List Record) × (r'.records ≡ r.records ++ rest)
  lines_begin r r' [] [] a = ([], ap (λ (x : ReplicaState T). x.records) a ∙ sym (append-nil r.records))
  lines_begin r r' (l ∷ lines) (m ∷ made) a =
      let one = begins r.records m.reply a.0.records (grows r.program r.records l m.reply a.0.records (told r l m a.0 a.1).given.gives) in
      let more = lines_begin a.0 r' lines made a.2 in
      (one.0 ++ more.0, more.1 ∙ ap (λ xs. xs ++ more.0) one.1 ∙ append_assoc r.records one.0 more.0)
  lines_begin r r' [] (m ∷ made) a = absurd a
  lines_begin r r' (l ∷ lines) [] a = absurd a

  -- no answer says less than the log had
  pub lines_long : (n : ℕ) (r r' : ReplicaState T) (lines : List Line) (made : List Answer) → n ≤ length r.records → AreAnswered One r lines made r'
      → AllByRecursion (λ (answer : Answer). n ≤ answer.len) made
  lines_long n r r' [] [] long a = tt
  lines_long n r r' (l ∷ lines) (m ∷ made) long a =
      let one = begins r.records m.reply a.0.records (grows r.program r.records l m.reply a.0.records (told r l m a.0 a.1).given.gives) in
      let longer : n ≤ length a.0.records = omega (arith, long, ap (λ (xs : List Record). length xs) one.1, length-append r.records one.0) in
      (omega (arith, longer, (told r l m a.0 a.1).len), lines_long n a.0 r' lines made longer a.2)
  lines_long n r r' [] (m ∷ made) long a = absurd a
  lines_long n r r' (l ∷ lines) [] long a = absurd a

  -- the history goes on with what was answered
  pub lines_history : (began k : ℕ) (r r' : ReplicaState T) (subs : List Subhistory) (sub : Subhistory) (lines : List Line) (made : List Answer)
      → IsHistory r.program r.records began subs → slice_get subs k ≡ Some sub → AreAnswered One r lines made r'
      → IsHistory r'.program r'.records began (set subs k (record { lines = sub.lines ++ lines; answers = sub.answers ++ made }))
  lines_history began k r r' subs sub [] [] s at a =
      let same : record { lines = sub.lines ++ []; answers = sub.answers ++ [] } ≡ sub =
      λ i. record { lines = append-nil sub.lines i; answers = append-nil sub.answers i } in
      subst (λ (x : ReplicaState T). IsHistory x.program x.records began (set subs k (record { lines = sub.lines ++ []; answers = sub.answers ++ [] }))) (sym a)
      (subst (λ (ls : List Subhistory). IsHistory r.program r.records began ls) (sym (ap (λ (l : Subhistory). set subs k l) same ∙ set_same subs k sub at)) s)
  lines_history began k r r' subs sub (said ∷ lines) (answer ∷ made) s at a =
      let next = a.0 in
      let sub' : Subhistory = record { lines = sub.lines ++ said ∷ []; answers = sub.answers ++ answer ∷ [] } in
      let here : IsHistory r.program next.records began (set subs k sub') = one_more r.program r.records began subs k sub said answer next.records s at (told r said answer next a.1).given.gives (told r said answer next a.1).len in
      let here' : IsHistory next.program next.records began (set subs k sub') =
      subst (λ (P : Program). IsHistory P next.records began (set subs k sub')) (sym (told r said answer next a.1).given.program) here in
      let more = lines_history began k next r' (set subs k sub') sub' lines made here' (set_there subs k sub sub' at) a.2 in
      let last : Subhistory = record { lines = (sub.lines ++ said ∷ []) ++ lines; answers = (sub.answers ++ answer ∷ []) ++ made } in
      let same : last ≡ record { lines = sub.lines ++ (said ∷ lines); answers = sub.answers ++ (answer ∷ made) } =
      λ i. record {
        lines = append_assoc sub.lines (said ∷ []) lines i;
        answers = append_assoc sub.answers (answer ∷ []) made i;
      } in
      subst (λ (ls : List Subhistory). IsHistory r'.program r'.records began ls) (set-set subs k sub' last ∙ ap (λ (l : Subhistory). set subs k l) same) more
  lines_history began k r r' subs sub [] (answer ∷ made) s at a = absurd a
  lines_history began k r r' subs sub (said ∷ lines) [] s at a = absurd a
