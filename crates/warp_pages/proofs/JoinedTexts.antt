-- A text is two texts joined where its front is the one and the rest the other.
use Rattle.std.proofs.Common.{◌≡◌, ◌∙◌, ◌++◌, ◌&&◌, ℕ, Bool, true, false, List, [], ◌∷◌, ap, drop, length, min, refl, subst, sym, take}
use Rattle.std.proofs.lemmas.List.{drop_min, take_min}
use Rattle.std.specs.Prelude.{nat_eq}
use Rattle.std.specs.Str.{bytes_eq}

and_assoc : (a b c : Bool) → (a && (b && c)) ≡ ((a && b) && c)
and_assoc true b c = refl
and_assoc false b c = refl

pub joined : (text front behind : List ℕ)
    → bytes_eq text (front ++ behind) ≡ (bytes_eq (take (length front) text) front && bytes_eq (drop (length front) text) behind)
joined text [] behind = refl
joined [] (x ∷ xs) behind = refl
joined (t ∷ ts) (x ∷ xs) behind = ap (λ b. nat_eq t x && b) (joined ts xs behind) ∙ and_assoc (nat_eq t x) _ _

-- the same of a front and a rest that are cut where the text may be shorter than the front
pub joined_parts : (text front behind first rest : List ℕ) (m : ℕ) → m ≡ min (length front) (length text) → first ≡ take m text → rest ≡ drop m text
    → bytes_eq text (front ++ behind) ≡ (bytes_eq first front && bytes_eq rest behind)
joined_parts text front behind first rest m e f r =
    let first_is : first ≡ take (length front) text = f ∙ ap (λ n. take n text) e ∙ take_min (length front) text in
    let rest_is : rest ≡ drop (length front) text = r ∙ ap (λ n. drop n text) e ∙ drop_min (length front) text in
    joined text front behind
    ∙ sym (ap (λ s. bytes_eq s front && bytes_eq rest behind) first_is ∙ ap (λ s. bytes_eq (take (length front) text) front && bytes_eq s behind) rest_is)

-- where the front is the same, the whole is if the rest is
pub then_is : (text front behind first rest : List ℕ) (m : ℕ) (same rest_same : Bool) → m ≡ min (length front) (length text)
    → first ≡ take m text → rest ≡ drop m text → same ≡ bytes_eq first front → same ≡ true → rest_same ≡ bytes_eq rest behind
    → rest_same ≡ bytes_eq text (front ++ behind)
then_is text front behind first rest m same rest_same cut f r e t is =
    let front_same : bytes_eq first front ≡ true = sym e ∙ t in
    is ∙ sym (joined_parts text front behind first rest m cut f r ∙ ap (λ b. b && bytes_eq rest behind) front_same)

-- where the front is another, the whole is another
pub else_is : (text front behind first rest : List ℕ) (m : ℕ) (same : Bool) → m ≡ min (length front) (length text)
    → first ≡ take m text → rest ≡ drop m text → same ≡ bytes_eq first front → same ≡ false
    → same ≡ bytes_eq text (front ++ behind)
else_is text front behind first rest m same cut f r e n =
    let front_other : bytes_eq first front ≡ false = sym e ∙ n in
    n ∙ sym (joined_parts text front behind first rest m cut f r ∙ ap (λ b. b && bytes_eq rest behind) front_other)
