-- What one answer more keeps of a linear history.
use Rattle.std.proofs.Common.{◌≡◌, ℕ, zero, suc, ◌+◌, ◌<◌, ◌≤◌, List, [], ◌∷◌, ◌++◌, length, take, refl, sym, ap, subst, arith, length-append, Some, inl, inr, ◌⊎◌, ◌==◌, ◌≢◌}
use Rattle.std.specs.Prelude.{slice_get}
use Rattle.std.specs.List.{AllByRecursion}
use Rattle.std.proofs.Math.ListN.{set}
use Rattle.std.proofs.lemmas.List.{take-append-le}
use Rattle.std.proofs.lemmas.Bool.Decides.{nat_tests}
use Rattle.std.proofs.lemmas.Bool.{cases_Bool}
use Rattle.warp_step.specs.Program.{Program}
use Rattle.warp_record.specs.declared.record.Record.{Record}
use Rattle.warp_record.specs.declared.line.Line.{Line}
use Rattle.warp_record.specs.declared.reply.Reply.{Reply}
use Rattle.warp_record.specs.declared.reply.Reply.TheVariants as reply
use Rattle.warp_replica.specs.declared.answer.Answer.{Answer}
use Rattle.warp_replica.specs.Gives.{Gives}
use Rattle.warp_replica.specs.History.{Subhistory, IsGiven, AreGiven, AreRising, told_at, times_told, times_taken, IsServed, IsHistory}
use Rattle.warp_replica.proofs.Growing.{Grows, grown, same, grows, begins}

module _ (P : Program) (log rest : List Record) where
  given_later : (said : Line) (answer : Answer) → IsGiven P log said answer → IsGiven P (log ++ rest) said answer
  given_later said answer g = (
    omega (arith, g.0, length-append log rest),
    (g.1.0, subst (λ (l : List Record). Gives P g.1.0 said answer.reply l) (sym (take-append-le answer.len log rest g.0)) g.1.1),
  )

  all_given_later : (lines : List Line) (answers : List Answer) → AreGiven P log lines answers → AreGiven P (log ++ rest) lines answers
  all_given_later [] [] g = tt
  all_given_later (said ∷ lines) (answer ∷ answers) g = (given_later said answer g.0, all_given_later lines answers g.1)
  all_given_later [] (answer ∷ answers) g = g
  all_given_later (said ∷ lines) [] g = g

  served_later : (sub : Subhistory) → IsServed P log sub → IsServed P (log ++ rest) sub
  served_later sub s = record { given = all_given_later sub.lines sub.answers s.given; rising = s.rising }

  all_served_later : (subs : List Subhistory) → AllByRecursion (IsServed P log) subs → AllByRecursion (IsServed P (log ++ rest)) subs
  all_served_later [] s = tt
  all_served_later (sub ∷ subs) s = (served_later sub s.0, all_served_later subs s.1)

module _ (P : Program) (log : List Record) where
  given_one_more : (lines : List Line) (answers : List Answer) (said : Line) (answer : Answer)
      → AreGiven P log lines answers → IsGiven P log said answer → AreGiven P log (lines ++ said ∷ []) (answers ++ answer ∷ [])
  given_one_more [] [] said answer g one = (one, tt)
  given_one_more (c ∷ lines) (a ∷ answers) said answer g one = (g.0, given_one_more lines answers said answer g.1 one)
  given_one_more [] (a ∷ answers) said answer g one = absurd g
  given_one_more (c ∷ lines) [] said answer g one = absurd g

  -- no answer says more than the log has
  within : (lines : List Line) (answers : List Answer) → AreGiven P log lines answers → AllByRecursion (λ (a : Answer). a.len ≤ length log) answers
  within [] [] g = tt
  within (c ∷ lines) (a ∷ answers) g = (g.0.0, within lines answers g.1)
  within [] (a ∷ answers) g = absurd g
  within (c ∷ lines) [] g = absurd g

before_one : (n : ℕ) (answer : Answer) (answers : List Answer) → AllByRecursion (λ (b : Answer). n ≤ b.len) answers → n ≤ answer.len
    → AllByRecursion (λ (b : Answer). n ≤ b.len) (answers ++ answer ∷ [])
before_one n answer [] all one = (one, tt)
before_one n answer (a ∷ answers) all one = (all.0, before_one n answer answers all.1 one)

rising_one_more : (answers : List Answer) (answer : Answer) → AreRising answers → AllByRecursion (λ (a : Answer). a.len ≤ answer.len) answers
    → AreRising (answers ++ answer ∷ [])
rising_one_more [] answer r least = (tt, tt)
rising_one_more (a ∷ answers) answer r least = (before_one a.len answer answers r.0 least.0, rising_one_more answers answer r.1 least.1)

-- one of them is another
all_set : (P : Subhistory → Type 0) (subs : List Subhistory) (k : ℕ) (sub : Subhistory) → AllByRecursion P subs → P sub → AllByRecursion P (set subs k sub)
all_set P [] k sub all one = tt
all_set P (l ∷ subs) zero sub all one = (one, all.1)
all_set P (l ∷ subs) (suc k) sub all one = (all.0, all_set P subs k sub all.1 one)

pub at_place : (P : Subhistory → Type 0) (subs : List Subhistory) (k : ℕ) (sub : Subhistory) → AllByRecursion P subs → slice_get subs k ≡ Some sub → P sub
at_place P [] k sub all e = absurd (grind (e, arith))
at_place P (l ∷ subs) zero sub all e = subst P (grind (e, arith)) all.0
at_place P (l ∷ subs) (suc k) sub all e = at_place P subs k sub all.1 (grind (e, arith))

sum_at : (place : ℕ) (subs : List Subhistory) (k : ℕ) (sub sub' : Subhistory) (n : ℕ)
    → slice_get subs k ≡ Some sub → times_told place sub'.answers ≡ times_told place sub.answers + n → times_taken place (set subs k sub') ≡ times_taken place subs + n
sum_at place [] k sub sub' n e more = absurd (grind (e, arith))
sum_at place (l ∷ subs) zero sub sub' n e more =
    let here : l ≡ sub = grind (e, arith) in
    let same' : times_told place l.answers ≡ times_told place sub.answers = ap (λ (x : Subhistory). times_told place x.answers) here in
    omega (arith, same', more)
sum_at place (l ∷ subs) (suc k) sub sub' n e more =
    (let rest = sum_at place subs k sub sub' n (grind (e, arith)) more in omega (arith, rest))

one_told : (place : ℕ) (answers : List Answer) (answer : Answer) → times_told place (answers ++ answer ∷ []) ≡ times_told place answers + told_at place answer.reply
one_told place [] answer = omega arith
one_told place (a ∷ answers) answer = (let rest = one_told place answers answer in omega (arith, rest))

weaker : (m n : ℕ) → m ≤ n → (answers : List Answer) → AllByRecursion (λ (a : Answer). a.len ≤ m) answers → AllByRecursion (λ (a : Answer). a.len ≤ n) answers
weaker m n le [] all = tt
weaker m n le (a ∷ answers) all = (omega (arith, le, all.0), weaker m n le answers all.1)

pub take_all : {X : Type 0} (log : List X) → take (length log) log ≡ log
take_all [] = refl
take_all (r ∷ log) = ap (λ l. r ∷ l) (take_all log)

told_here : (place other : ℕ) → other ≡ place → told_at place (reply.Taken other) ≡ 1
told_here place other e = grind (e, nat_tests, arith)

told_elsewhere : (place other : ℕ) → other ≢ place → told_at place (reply.Taken other) ≡ 0
told_elsewhere place other e = grind (e, nat_tests, arith)

module _ (P : Program) (log : List Record) (began : ℕ) (subs : List Subhistory) (s : IsHistory P log began subs) where
  tally_once : {answer : Reply} (log' : List Record) → Grows log answer log' → (place : ℕ) → began < place → place ≤ length log'
      → {n : ℕ} → n ≡ times_taken place subs + told_at place answer → n ≡ 1
  tally_once {answer} log' (same e untold) place after upto {n} sum =
      omega (arith, sum, untold place, s.once place after (omega (arith, upto, ap (λ (l : List Record). length l) e)))
  tally_once {answer} log' (grown said e t) place after upto {n} sum =
      elim (cases_Bool (length log + 1 == place)) [
        | inl h ↦ (let eq : length log + 1 ≡ place = grind (h, nat_tests, arith) in
            omega (arith, sum, ap (told_at place) t, told_here place (length log + 1) eq, s.never place (inr (omega (arith, eq)))))
        | inr h ↦ (let ne : length log + 1 ≢ place = grind (h, nat_tests, arith) in
            let long = ap (λ (l : List Record). length l) e in
            omega (arith, sum, ap (told_at place) t, told_elsewhere place (length log + 1) ne, s.once place after (omega (arith, upto, long, length-append log (said ∷ []), ne))))
      ]

  still_out : (log' : List Record) → length log ≤ length log' → (place : ℕ) → (place ≤ began) ⊎ (length log' < place) → (place ≤ began) ⊎ (length log < place)
  still_out log' longer place out = elim out [ inl b ↦ inl b | inr p ↦ inr (omega (arith, p, longer)) ]

  not_next : (log' : List Record) → length log' ≡ length log + 1 → (place : ℕ) → (place ≤ began) ⊎ (length log' < place) → length log + 1 ≢ place
  not_next log' long place out = λ eq. elim out [ inl b ↦ absurd (omega (arith, b, s.kept, eq)) | inr p ↦ absurd (omega (arith, p, long, eq)) ]

  tally_never : {answer : Reply} (log' : List Record) → Grows log answer log' → (place : ℕ) → (place ≤ began) ⊎ (length log' < place)
      → {n : ℕ} → n ≡ times_taken place subs + told_at place answer → n ≡ 0
  tally_never {answer} log' (same e untold) place out {n} sum =
      let long = ap (λ (l : List Record). length l) e in
      omega (arith, sum, untold place, s.never place (still_out log' (omega (arith, long)) place out))
  tally_never {answer} log' (grown said e t) place out {n} sum =
      let long : length log' ≡ length log + 1 = omega (arith, ap (λ (l : List Record). length l) e, length-append log (said ∷ [])) in
      omega (arith, sum, ap (told_at place) t, told_elsewhere place (length log + 1) (not_next log' long place out), s.never place (still_out log' (omega (arith, long)) place out))

-- a subhistory that has one line and its answer more, on a log that the line left
module _ (P : Program) (log : List Record) (began : ℕ) (subs : List Subhistory) (k : ℕ) (sub : Subhistory) (said : Line) (answer : Answer) (log' : List Record) where
  pub one_more : IsHistory P log began subs → slice_get subs k ≡ Some sub → Gives P log said answer.reply log' → answer.len ≡ length log'
      → IsHistory P log' began (set subs k (record { lines = sub.lines ++ said ∷ []; answers = sub.answers ++ answer ∷ [] }))
  one_more s at g len =
      let sub' : Subhistory = record { lines = sub.lines ++ said ∷ []; answers = sub.answers ++ answer ∷ [] } in
      let gr = grows P log said answer.reply log' g in
      let later : AllByRecursion (IsServed P log') subs = (let b = begins log answer.reply log' gr in rw b.1 (all_served_later P log b.0 subs s.each)) in
      let here : IsServed P log sub = at_place (IsServed P log) subs k sub s.each at in
      let here' : IsServed P log' sub = at_place (IsServed P log') subs k sub later at in
      let longer : length log ≤ length log' = (let b = begins log answer.reply log' gr in omega (arith, ap (λ (l : List Record). length l) b.1, length-append log b.0)) in
      let one : IsGiven P log' said answer = (omega (arith, len), (log, rw (len, take_all log') g)) in
      let served : IsServed P log' sub' =
      record {
        given = given_one_more P log' sub.lines sub.answers said answer here'.given one;
        rising = rising_one_more sub.answers answer here.rising (weaker (length log) answer.len (omega (arith, longer, len)) sub.answers (within P log sub.lines sub.answers here.given));
      } in
      record {
        each = all_set (IsServed P log') subs k sub' later served;
        kept = omega (arith, s.kept, longer);
        once = λ place after upto. tally_once P log began subs s log' gr place after upto (sum_at place subs k sub sub' (told_at place answer.reply) at (one_told place sub.answers answer));
        never = λ place out. tally_never P log began subs s log' gr place out (sum_at place subs k sub sub' (told_at place answer.reply) at (one_told place sub.answers answer));
      }

-- an element that is put where it stands
pub set_same : {X : Type 0} (xs : List X) (k : ℕ) (x : X) → slice_get xs k ≡ Some x → set xs k x ≡ xs
set_same [] k x e = absurd (grind (e, arith))
set_same (l ∷ xs) zero x e = (let here : x ≡ l = grind (e, arith) in ap (λ v. v ∷ xs) here)
set_same (l ∷ xs) (suc k) x e = ap (λ vs. l ∷ vs) (set_same xs k x (grind (e, arith)))

pub set_there : {X : Type 0} (xs : List X) (k : ℕ) (x x' : X) → slice_get xs k ≡ Some x → slice_get (set xs k x') k ≡ Some x'
set_there [] k x x' e = absurd (grind (e, arith))
set_there (l ∷ xs) zero x x' e = refl
set_there (l ∷ xs) (suc k) x x' e = set_there xs k x x' (grind (e, arith))

-- nothing was received yet
fresh_each : (P : Program) (log : List Record) (subs : List Subhistory) → AllByRecursion (λ (s : Subhistory). (s.lines ≡ []) × (s.answers ≡ [])) subs
    → AllByRecursion (IsServed P log) subs
fresh_each P log [] f = tt
fresh_each P log (l ∷ subs) f = (record { given = rw (f.0.0, f.0.1) tt; rising = rw f.0.1 tt }, fresh_each P log subs f.1)

fresh_none : (place : ℕ) (subs : List Subhistory) → AllByRecursion (λ (s : Subhistory). (s.lines ≡ []) × (s.answers ≡ [])) subs → times_taken place subs ≡ 0
fresh_none place [] f = refl
fresh_none place (l ∷ subs) f =
    let here : times_told place l.answers ≡ 0 = rw f.0.1 refl in
    omega (arith, here, fresh_none place subs f.1)

pub fresh_served : (P : Program) (log : List Record) (began : ℕ) (subs : List Subhistory) → began ≡ length log
    → AllByRecursion (λ (s : Subhistory). (s.lines ≡ []) × (s.answers ≡ [])) subs → IsHistory P log began subs
fresh_served P log began subs e f =
    record {
      each = fresh_each P log subs f;
      kept = omega (arith, e);
      once = λ place after upto. absurd (omega (arith, e, after, upto));
      never = λ place out. fresh_none place subs f;
    }
