-- What one line does to a log, and that an answer `taken` is to the record that stands there.
use Rattle.std.proofs.Common.{◌≡◌, ◌⊎◌, ℕ, zero, suc, ◌+◌, ◌-◌, ◌≤◌, Bool, true, false, List, [], ◌∷◌, ◌++◌, length, take, Option, Some, None, Result, Ok, Err, refl, sym, ap, subst, ◌∙◌, inl, inr, arith, length-append, append-nil}
use Rattle.std.specs.Prelude.{slice_get, if◌then◌else◌}
use Rattle.std.specs.Option.{option_map, unwrap_or}
use Rattle.std.proofs.lemmas.Bool.Decides.{nat_tests}
use Rattle.std.proofs.lemmas.List.{length-take-le}
use Rattle.warp_tag.specs.Limits.{has_joint}
use Rattle.warp_step.specs.Program.{Program}
use Rattle.warp_step.specs.Events.{is_declared}
use Rattle.warp_record.specs.declared.record.Record.{Record}
use Rattle.warp_record.specs.declared.line.Query.{Query}
use Rattle.warp_record.specs.declared.line.Query.TheVariants as query
use Rattle.warp_record.specs.declared.line.Line.{Line}
use Rattle.warp_record.specs.declared.line.Line.TheVariants as line
use Rattle.warp_record.specs.declared.reply.Refusal.{Refusal}
use Rattle.warp_record.specs.declared.reply.Reply.{Reply}
use Rattle.warp_record.specs.declared.reply.Reply.TheVariants as reply
use Rattle.warp_table.specs.Log.{IsAt}
use Rattle.warp_table.proofs.Places.{last_at}
use Rattle.warp_replica.specs.Answers.{Answers}
use Rattle.warp_replica.specs.Gives.{Gives, Takes, told, reply_to, record_at}
use Rattle.warp_replica.specs.declared.taking.Took.{Took}
use Rattle.warp_replica.specs.declared.taking.Took.TheVariants.{New, Known}
use Rattle.warp_replica.specs.declared.answer.Answer.{Answer}
use Rattle.warp_replica.specs.History.{IsGiven, told_at}

-- what a line does to the log: a record comes in behind, and the reply is `taken` with its place; or the log stays, and the reply is no
-- `taken`
pub data Grows (log : List Record) (answer : Reply) (log' : List Record) : Type 0 where
  grown : (said : Record) → log' ≡ log ++ said ∷ [] → answer ≡ reply.Taken (length log + 1) → Grows log answer log'
  same : log' ≡ log → ((place : ℕ) → told_at place answer ≡ 0) → Grows log answer log'

untold_found : {X : Type 0} (place : ℕ) (make : X → Reply) (other : Reply) (found : Option X)
    → ((x : X) → told_at place (make x) ≡ 0) → told_at place other ≡ 0 → told_at place (unwrap_or (option_map make found) other) ≡ 0
untold_found place make other (Some x) makes o = makes x
untold_found place make other None makes o = o

untold_if : (place : ℕ) (b : Bool) (x y : Reply) → told_at place x ≡ 0 → told_at place y ≡ 0 → told_at place (if b then x else y) ≡ 0
untold_if place true x y p q = p
untold_if place false x y p q = q

untold_query : (P : Program) (records : List Record) (a : Answers) (asked : Query) (place : ℕ) → told_at place (reply_to P records a asked) ≡ 0
untold_query P records a (query.Var number) place = untold_found place _ _ (slice_get a.state.vars number) (λ _. refl) refl
untold_query P records a query.Outputs place = refl
untold_query P records a (query.Output number) place = untold_found place _ _ (slice_get a.outputs number) (λ _. refl) refl
untold_query P records a query.Horizon place = refl
untold_query P records a query.Released place = refl
untold_query P records a query.Lost place = refl
untold_query P records a (query.Breach origin) place = untold_if place (is_declared P origin) _ _ refl refl
untold_query P records a query.JointBreach place = untold_if place (has_joint P.form) _ _ refl refl
untold_query P records a (query.Log number) place = untold_found place _ _ (record_at records number) (λ _. refl) refl

grows_told : (P : Program) (records : List Record) (said : Record) (result : Result Took Refusal) (after : List Record)
    → Takes P records said result after → Grows records (told result) after
grows_told P records said (Ok (New place)) after t = grown said t.3 (ap (λ (n : ℕ). reply.Taken n) t.2)
grows_told P records said (Ok (Known place)) after t = same t.2 (λ _. refl)
grows_told P records said (Err refusal) after t = same t.1 (λ _. refl)

untold_ask : (P : Program) (records : List Record) (asked : Query) (answer : Reply) (after : List Record) (place : ℕ)
    → Gives P records (line.Ask asked) answer after → told_at place answer ≡ 0
untold_ask P records asked answer after place g = elim g.0 [
  | inl q ↦ ap (told_at place) q.2 ∙ untold_query P records q.0 asked place
  | inr why ↦ ap (told_at place) why
]

untold_collect : (P : Program) (records : List Record) (answer : Reply) (after : List Record) (place : ℕ)
    → Gives P records line.Collect answer after → told_at place answer ≡ 0
untold_collect P records answer after place g = elim g.0 [ inl e ↦ ap (told_at place) e | inr why ↦ ap (told_at place) why ]

pub grows : (P : Program) (records : List Record) (said : Line) (answer : Reply) (after : List Record)
    → Gives P records said answer after → Grows records answer after
grows P records (line.Put said) answer after g = subst (λ (a : Reply). Grows records a after) (sym g.2) (grows_told P records said g.0 after g.1)
grows P records (line.Ask asked) answer after g = same g.1 (λ place. untold_ask P records asked answer after place g)
grows P records line.Collect answer after g = same g.1 (λ place. untold_collect P records answer after place g)
grows P records (line.Look look) answer after g = same g.1 (λ place. ap (told_at place) g.0)

-- the log after a line begins with the log before it
pub begins : (log : List Record) (answer : Reply) (log' : List Record) → Grows log answer log' → (rest : List Record) × (log' ≡ log ++ rest)
begins log answer log' (grown said e t) = (said ∷ [], e)
begins log answer log' (same e t) = ([], e ∙ sym (append-nil log))

-- the log stays, or a record comes in behind, whose place is the reply
pub line_grows : (P : Program) (found after : List Record) (said : Line) (answer : Reply) → Gives P found said answer after
    → (after ≡ found) ⊎ ((last : Record) × (after ≡ found ++ last ∷ []) × (answer ≡ reply.Taken (length after)))
line_grows P found after said answer g = parted (grows P found said answer after g)
  where
    parted : Grows found answer after → (after ≡ found) ⊎ ((last : Record) × (after ≡ found ++ last ∷ []) × (answer ≡ reply.Taken (length after)))
    parted (same e untold) = inl e
    parted (grown last e t) =
        inr (last, e, t ∙ ap (λ (n : ℕ). reply.Taken n) (sym (ap (λ (l : List Record). length l) e ∙ length-append found (last ∷ []))))

told_once : (place : ℕ) (answer : Reply) → answer ≡ reply.Taken place → told_at place answer ≡ 0 → ⊥
told_once place answer e none =
    let once : told_at place (reply.Taken place) ≡ 1 = grind (nat_tests, arith) in
    omega (arith, once, ap (told_at place) e, none)

-- what stands at a place of a front stands there in the whole
front_get : (n : ℕ) (log : List Record) (k : ℕ) (x : Record) → slice_get (take n log) k ≡ Some x → slice_get log k ≡ Some x
front_get zero log k x e = absurd (cc)
front_get (suc n) [] k x e = e
front_get (suc n) (r ∷ log) zero x e = e
front_get (suc n) (r ∷ log) (suc k) x e = front_get n log k x e

module _ (P : Program) (found log : List Record) (said : Record) (answer : Answer) (place : ℕ) where
  put_there : (result : Result Took Refusal) → answer.len ≤ length log → Takes P found said result (take answer.len log)
      → answer.reply ≡ told result → answer.reply ≡ reply.Taken place → IsAt log place said × (place ≡ answer.len)
  put_there (Ok (New p)) short t e f =
      let same : p ≡ place = cc in
      let long : length (take answer.len log) ≡ answer.len = length-take-le answer.len log short in
      let more : length (take answer.len log) ≡ length found + 1 = ap (λ (l : List Record). length l) t.3 ∙ length-append found (said ∷ []) in
      let last : IsAt (take answer.len log) (length found + 1) said = subst (λ (l : List Record). IsAt l (length found + 1) said) (sym t.3) (last_at found said) in
      let here : IsAt (take answer.len log) place said = subst (λ (n : ℕ). IsAt (take answer.len log) n said) (sym t.2 ∙ same) last in
      ((here.0, front_get answer.len log (place - 1) said here.1), omega (arith, same, long, more, t.2))
  put_there (Ok (Known p)) short t e f = absurd (cc)
  put_there (Err refusal) short t e f = absurd (cc)

-- an answer `taken` with a place is to the record that stands there
pub taken_there : (P : Program) (log : List Record) (said : Line) (answer : Answer) (place : ℕ) → IsGiven P log said answer
    → answer.reply ≡ reply.Taken place → (taken : Record) × (said ≡ line.Put taken) × IsAt log place taken × (place ≡ answer.len)
taken_there P log (line.Put said) answer place g e =
    let h = put_there P g.1.0 log said answer place g.1.1.0 g.0 g.1.1.1 g.1.1.2 e in
    (said, refl, h.0, h.1)
taken_there P log (line.Ask asked) answer place g e = absurd (told_once place answer.reply e (untold_ask P g.1.0 asked answer.reply (take answer.len log) place g.1.1))
taken_there P log line.Collect answer place g e = absurd (told_once place answer.reply e (untold_collect P g.1.0 answer.reply (take answer.len log) place g.1.1))
taken_there P log (line.Look look) answer place g e = absurd (told_once place answer.reply e (ap (told_at place) g.1.1.0))
