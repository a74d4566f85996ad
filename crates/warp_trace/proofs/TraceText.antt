-- A text that is printed piece by piece.
use Rattle.std.proofs.Common.{◌≡◌, ℕ, ◌+◌, List, ◌++◌, Option, Result, Ok, Err, OnOk, refl, subst, sym, ap, ◌∙◌, append_assoc}
use Rattle.std.specs.Io.KnownBytes.{Appends}
use Rattle.std.proofs.KnownBytes.{Appends-trans}
use Rattle.warp_trace.specs.Printed.{PrintsFront, PrintsText}
use Rattle.warp_trace.specs.declared.printer.TraceFault.TheVariants.{Output, NoMemory}

-- some bytes went out, and then a front of the rest
pub front_behind : (a b c : Option (List ℕ)) (sent rest all : List ℕ) → Appends a b sent → sent ++ rest ≡ all → PrintsFront b c rest → PrintsFront a c all
front_behind a b c sent rest all out is w = (
  sent ++ w.0,
  (w.1.0, sym is ∙ ap (λ (l : List ℕ). sent ++ l) w.1.1 ∙ sym (append_assoc sent w.0 w.1.0)),
  Appends-trans a b c sent w.0 out w.2,
)

-- a front of the bytes is one of more bytes
pub front_more : (a b : Option (List ℕ)) (bytes more all : List ℕ) → bytes ++ more ≡ all → PrintsFront a b bytes → PrintsFront a b all
front_more a b bytes more all is w = (w.0, (w.1.0 ++ more, sym is ∙ ap (λ (l : List ℕ). l ++ more) w.1.1 ∙ append_assoc w.0 w.1.0 more), w.2)

-- what went out is a front
pub front_sent : (a b : Option (List ℕ)) (sent more all : List ℕ) → sent ++ more ≡ all → Appends a b sent → PrintsFront a b all
front_sent a b sent more all is out = (sent, (more, sym is), out)

-- ---- how printing ends: all is what is out, what waits, and the lines that are left

-- for want of memory, before what waits was printed
pub stopped : (w mid : Option (List ℕ)) (f g : ℕ) (sent text more all : List ℕ) → Appends w mid sent → g ≡ f → (sent ++ text) ++ more ≡ all
    → PrintsText {T = ℕ} w mid f g all (Err NoMemory)
stopped w mid f g sent text more all out sound is = (front_sent w mid sent (text ++ more) all (sym (append_assoc sent text more) ∙ is) out, sound)

-- where a write of what waits fails
pub failed : (w mid end : Option (List ℕ)) (f g h : ℕ) (sent text more all : List ℕ) → Appends w mid sent → g ≡ f → (sent ++ text) ++ more ≡ all
    → PrintsFront mid end text → h ≡ g + 1 → PrintsText {T = ℕ} w end f h all (Err Output)
failed w mid end f g h sent text more all out sound is front one = (
  front_behind w mid end sent (text ++ more) all out (sym (append_assoc sent text more) ∙ is) (front_more mid end text more (text ++ more) refl front),
  one ∙ ap (λ k. k + 1) sound,
)

-- where what waits is printed, and nothing is left
pub ended : {T : Type 0} (w mid end : Option (List ℕ)) (f g h : ℕ) (sent text all : List ℕ) (done : T) → Appends w mid sent → g ≡ f → sent ++ text ≡ all
    → Appends mid end text → h ≡ g → PrintsText w end f h all (Ok done)
ended w mid end f g h sent text all done out sound is printed none =
    (subst (Appends w end) is (Appends-trans w mid end sent text out printed), none ∙ sound)

-- what follows from a success follows where there is one
pub ok_more : {T E A B : Type 0} (r : Result T E) → (A → B) → OnOk r A → OnOk r B
ok_more (Ok v) f h = f h
ok_more (Err e) f h = tt
