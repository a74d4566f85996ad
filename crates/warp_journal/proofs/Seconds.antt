-- The second that a sum tells.
use Rattle.std.proofs.Common.{◌≡◌, ◌<◌, ◌^◌, ℕ, Bool, true, false, true≢false, List, ◌++◌, length, drop, codes, decimal, ap, sym, subst, ◌∙◌, refl}
use Rattle.std.proofs.Common.{Option, Some, None, IfSome, IfNone, Result, Ok, Err, IfOk}
use Rattle.std.specs.Str.Parse.{ParsesUnsigned}
use Rattle.std.proofs.lemmas.Fmt.{parse-decimal}
use Rattle.std.proofs.lemmas.List.{drop_at}
use Rattle.warp_journal.specs.Journal.{with_second}

-- what spells a number is parsed
pub not_parsed : {E : Type 0} (n : ℕ) (bs : List ℕ) (e : E) → n < 2 ^ 64 → bs ≡ decimal n → ParsesUnsigned 64 10 bs (Err e) → ⊥
not_parsed {E} n bs e fits is parses =
    subst (λ (r : Result ℕ E). IfOk r (λ (_ : ℕ). ⊥)) (parse-decimal 64 n bs (Err e) fits fits is parses) tt

-- as that number
pub parsed_is : {E : Type 0} (n m : ℕ) (bs : List ℕ) (r : Result ℕ E) → n < 2 ^ 64 → bs ≡ decimal n → r ≡ Ok m →
    ParsesUnsigned 64 10 bs r → m ≡ n
parsed_is {E} n m bs r fits is ok parses =
    subst (λ (it : Result ℕ E). IfOk it (λ (k : ℕ). m ≡ k)) (parse-decimal 64 n bs r fits fits is parses)
    (subst (λ (it : Result ℕ E). IfOk it (λ (k : ℕ). m ≡ k)) (sym ok) refl)

told : (tells : Bool) (plain : List ℕ) (second : ℕ) → tells ≡ true →
    with_second tells plain second ≡ plain ++ (codes " " ++ decimal second)
told true plain second is = refl
told false plain second is = absurd (true≢false (sym is))

-- behind what stands in front of it
pub found_second : (plain text rest : List ℕ) (tells : Bool) (r : Option ℕ) → tells ≡ true → text ≡ plain ++ rest →
    IfSome r (λ second. (second < 2 ^ 64) × (rest ≡ codes " " ++ decimal second)) →
    IfSome r (λ second. (second < 2 ^ 64) × (text ≡ with_second tells plain second))
found_second plain text rest tells None tell is found = tt
found_second plain text rest tells (Some second) tell is found =
    (found.0, is ∙ ap (λ (it : List ℕ). plain ++ it) found.1 ∙ sym (told tells plain second tell))

pub no_second : (plain text rest : List ℕ) (tells : Bool) (r : Option ℕ) → tells ≡ true → text ≡ plain ++ rest →
    IfNone r ((second : ℕ) → second < 2 ^ 64 → rest ≡ codes " " ++ decimal second → ⊥) →
    IfNone r ((second : ℕ) → second < 2 ^ 64 → text ≡ with_second tells plain second → ⊥)
no_second plain text rest tells (Some second) tell is none = tt
no_second plain text rest tells None tell is none = λ second fits same.
    none second fits (
    sym (drop_at plain rest (length plain) refl) ∙ ap (λ (it : List ℕ). drop (length plain) it) (sym is ∙ same ∙ told tells plain second tell)
    ∙ drop_at plain (codes " " ++ decimal second) (length plain) refl
    )

-- what does not begin so tells none
pub not_in_front : (plain text : List ℕ) (tells : Bool) → tells ≡ true → ((rest : List ℕ) → text ≡ plain ++ rest → ⊥) →
    (second : ℕ) → second < 2 ^ 64 → text ≡ with_second tells plain second → ⊥
not_in_front plain text tells tell none second fits same = none (codes " " ++ decimal second) (same ∙ told tells plain second tell)
