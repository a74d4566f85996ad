-- Lists: facts of all elements, and what filters and searches keep.
use Rattle.std.proofs.Common.{◌≡◌, Bool, true, false, cond, List, [], ◌∷◌, ◌++◌, ap, sym, subst, ◌∙◌, refl, inl, inr, filter, find, Some, None}
use Rattle.std.specs.List.{AllByRecursion}
use Rattle.std.proofs.lemmas.Bool.{cases_Bool}

-- two facts of each element, joined
pub All-both : {X : Type 0} (P Q R : X → Type 0) → ((x : X) → P x → Q x → R x) → (xs : List X) → AllByRecursion P xs → AllByRecursion Q xs → AllByRecursion R xs
All-both P Q R f [] p q = tt
All-both P Q R f (x ∷ xs) p q = (f x p.0 q.0, All-both P Q R f xs p.1 q.1)

pub All-weaker : {X : Type 0} (P Q : X → Type 0) → ((x : X) → P x → Q x) → (xs : List X) → AllByRecursion P xs → AllByRecursion Q xs
All-weaker P Q f [] p = tt
All-weaker P Q f (x ∷ xs) p = (f x p.0, All-weaker P Q f xs p.1)

pub All-append : {X : Type 0} (P : X → Type 0) (xs ys : List X) → AllByRecursion P xs → AllByRecursion P ys → AllByRecursion P (xs ++ ys)
All-append P [] ys p q = q
All-append P (x ∷ xs) ys p q = (p.0, All-append P xs ys p.1 q)

pub All-left : {X : Type 0} (P : X → Type 0) (xs ys : List X) → AllByRecursion P (xs ++ ys) → AllByRecursion P xs
All-left P [] ys p = tt
All-left P (x ∷ xs) ys p = (p.0, All-left P xs ys p.1)

pub All-right : {X : Type 0} (P : X → Type 0) (xs ys : List X) → AllByRecursion P (xs ++ ys) → AllByRecursion P ys
All-right P [] ys p = p
All-right P (x ∷ xs) ys p = All-right P xs ys p.1

pub filter-here : {X : Type 0} (p : X → Bool) (x : X) (xs : List X) → p x ≡ true → filter p (x ∷ xs) ≡ x ∷ filter p xs
filter-here p x xs h = ap (λ b. cond b (x ∷ filter p xs) (filter p xs)) h

pub filter-past : {X : Type 0} (p : X → Bool) (x : X) (xs : List X) → p x ≡ false → filter p (x ∷ xs) ≡ filter p xs
filter-past p x xs h = ap (λ b. cond b (x ∷ filter p xs) (filter p xs)) h

pub All-filter : {X : Type 0} (P : X → Type 0) (p : X → Bool) (xs : List X) → AllByRecursion P xs → AllByRecursion P (filter p xs)
All-filter P p [] a = tt
All-filter P p (x ∷ xs) a =
    elim (cases_Bool (p x)) [
      | inl h ↦ subst (AllByRecursion P) (sym (filter-here p x xs h)) (a.0, All-filter P p xs a.1)
      | inr h ↦ subst (AllByRecursion P) (sym (filter-past p x xs h)) (All-filter P p xs a.1)
    ]

-- each kept element passes
pub All-kept : {X : Type 0} (p : X → Bool) (xs : List X) → AllByRecursion (λ x. p x ≡ true) (filter p xs)
All-kept p [] = tt
All-kept p (x ∷ xs) =
    elim (cases_Bool (p x)) [
      | inl h ↦ subst (AllByRecursion (λ y. p y ≡ true)) (sym (filter-here p x xs h)) (h, All-kept p xs)
      | inr h ↦ subst (AllByRecursion (λ y. p y ≡ true)) (sym (filter-past p x xs h)) (All-kept p xs)
    ]

pub find_past : {X : Type 0} (q : X → Bool) (xs ys : List X) → AllByRecursion (λ x. q x ≡ false) xs → find q (xs ++ ys) ≡ find q ys
find_past q [] ys a = refl
find_past q (x ∷ xs) ys a = ap (λ b. cond b (Some x) (find q (xs ++ ys))) a.0 ∙ find_past q xs ys a.1

pub find_fails : {X : Type 0} (q : X → Bool) (xs : List X) → AllByRecursion (λ x. q x ≡ false) xs → find q xs ≡ None
find_fails q [] a = refl
find_fails q (x ∷ xs) a = ap (λ b. cond b (Some x) (find q xs)) a.0 ∙ find_fails q xs a.1

-- only places that pass a weaker test count
pub find_filter : {X : Type 0} (q p : X → Bool) → ((x : X) → p x ≡ false → q x ≡ false) → (xs : List X) → find q xs ≡ find q (filter p xs)
find_filter q p h [] = refl
find_filter q p h (x ∷ xs) =
    elim (cases_Bool (p x)) [
      | inl so ↦ ap (λ o. cond (q x) (Some x) o) (find_filter q p h xs) ∙ ap (find q) (sym (filter-here p x xs so))
      | inr not_so ↦
          ap (λ b. cond b (Some x) (find q xs)) (h x not_so) ∙ find_filter q p h xs ∙ ap (find q) (sym (filter-past p x xs not_so))
    ]

pub some_not_none : {X : Type 0} (x : X) → Some x ≡ None → ⊥
some_not_none x e = cc

pub find_none : {X : Type 0} (q : X → Bool) (xs : List X) → find q xs ≡ None → AllByRecursion (λ x. q x ≡ false) xs
find_none q [] e = tt
find_none q (x ∷ xs) e =
    elim (cases_Bool (q x)) [
      | inl so ↦ absurd (some_not_none x (sym (ap (λ b. cond b (Some x) (find q xs)) so) ∙ e))
      | inr not_so ↦ (not_so, find_none q xs (sym (ap (λ b. cond b (Some x) (find q xs)) not_so) ∙ e))
    ]

pub same_some : {X : Type 0} (x y : X) → Some x ≡ Some y → x ≡ y
same_some x y e = cc
