-- Entries in order, and the entries of one origin among them.
use Rattle.std.proofs.Common.{◌≡◌, ◌≢◌, ℕ, Bool, true, false, not, eqb, List, [], ◌∷◌, ◌++◌, refl, sym, ap, ◌∙◌, subst, inl, inr, map, filter}
use Rattle.std.specs.List.{AllByRecursion}
use Rattle.std.proofs.lemmas.Bool.{cases_Bool, false≢true}
use Rattle.std.proofs.lemmas.List.{append-nil}
use Rattle.std.proofs.lemmas.List.Elements.{filter-append}
use Rattle.warp_tag.specs.Moment.{Moment}
use Rattle.warp_tag.specs.Table.{name_before, IsTable}
use Rattle.warp_tag.specs.declared.entry.Entry.{Entry}
use Rattle.warp_tag.proofs.Lists.{All-weaker, All-append, All-left, All-right, filter-here, filter-past, All-filter}
use Rattle.warp_tag.proofs.Names.{name_before_trans}
use Rattle.warp_arena.specs.Places.{Place, places_of}
use Rattle.warp_arena.specs.Shape.{members, place_at, first_or, last_or, last_not_after, first_after}
use Rattle.warp_arena.specs.declared.node.TheConstants.{NO_NODE}
use Rattle.warp_arena.proofs.Rings.{IsOff, by_last, last_or-push}

-- the entry comes before the other
abbrev pub Precedes : Entry → Entry → Type 0
Precedes e d = name_before e.origin e.tag d ≡ true

pub IsTable-insert : (xs ys : List Entry) (d : Entry) → IsTable (xs ++ ys) → AllByRecursion (λ e. Precedes e d) xs → AllByRecursion (λ e. Precedes d e) ys → IsTable (xs ++ d ∷ ys)
IsTable-insert [] ys d t p q = (q, t)
IsTable-insert (x ∷ xs) ys d t p q = (
  All-append (λ e. Precedes x e) xs (d ∷ ys)
      (All-left (λ e. Precedes x e) xs ys t.0)
      (p.0, All-right (λ e. Precedes x e) xs ys t.0),
  IsTable-insert xs ys d t.1 p.1 q,
)

-- what precedes the last of a front
pub IsTable-before : (xs ys : List Entry) (d : Entry) → IsTable (xs ++ d ∷ ys) → AllByRecursion (λ e. Precedes e d) xs
IsTable-before [] ys d t = tt
IsTable-before (x ∷ xs) ys d t = ((All-right (λ e. Precedes x e) xs (d ∷ ys) t.0).0, IsTable-before xs ys d t.1)

-- what is behind a front
pub IsTable-rest : (xs ys : List Entry) → IsTable (xs ++ ys) → IsTable ys
IsTable-rest [] ys t = t
IsTable-rest (x ∷ xs) ys t = IsTable-rest xs ys t.1

pub filter-map_at : {X Y : Type 0} (p : Y → Bool) (f : X → Y) (xs : List X) → filter p (map f xs) ≡ map f (filter (λ x. p (f x)) xs)
filter-map_at p f [] = refl
filter-map_at p f (x ∷ xs) =
    elim (cases_Bool (p (f x))) [
      | inl h ↦
          filter-here p (f x) (map f xs) h ∙ ap (λ ys. f x ∷ ys) (filter-map_at p f xs)
          ∙ ap (map f) (sym (filter-here (λ y. p (f y)) x xs h))
      | inr h ↦
          filter-past p (f x) (map f xs) h ∙ filter-map_at p f xs
          ∙ ap (map f) (sym (filter-past (λ y. p (f y)) x xs h))
    ]

pub IsTable-filter : (p : Entry → Bool) (xs : List Entry) → IsTable xs → IsTable (filter p xs)
IsTable-filter p [] t = tt
IsTable-filter p (x ∷ xs) t =
    elim (cases_Bool (p x)) [
      | inl h ↦ subst IsTable (sym (filter-here p x xs h)) (All-filter (λ e. Precedes x e) p xs t.0, IsTable-filter p xs t.1)
      | inr h ↦ subst IsTable (sym (filter-past p x xs h)) (IsTable-filter p xs t.1)
    ]

pub IsTable-members : (entry : ℕ → Entry) (o : ℕ) (is : List ℕ) → IsTable (map entry is) → IsTable (map entry (members entry o is))
IsTable-members entry o is t =
    subst IsTable (filter-map_at (λ e. eqb e.origin o) entry is) (IsTable-filter (λ e. eqb e.origin o) (map entry is) t)

pub places_of-members : (entry : ℕ → Entry) (o : ℕ) (is : List ℕ) → places_of o (map (place_at entry) is) ≡ map (place_at entry) (members entry o is)
places_of-members entry o is = filter-map_at (λ p. eqb p.entry.origin o) (place_at entry) is

pub All-map : {X Y : Type 0} (P : Y → Type 0) (f : X → Y) (xs : List X) → AllByRecursion (λ x. P (f x)) xs → AllByRecursion P (map f xs)
All-map P f [] a = tt
All-map P f (x ∷ xs) a = (a.0, All-map P f xs a.1)

pub All-unmap : {X Y : Type 0} (P : Y → Type 0) (f : X → Y) (xs : List X) → AllByRecursion P (map f xs) → AllByRecursion (λ x. P (f x)) xs
All-unmap P f [] a = tt
All-unmap P f (x ∷ xs) a = (a.0, All-unmap P f xs a.1)

pub map_agree : {X Y : Type 0} (f g : X → Y) (xs : List X) → AllByRecursion (λ x. g x ≡ f x) xs → map g xs ≡ map f xs
map_agree f g [] a = refl
map_agree f g (x ∷ xs) a = ap (λ y. y ∷ map g xs) a.0 ∙ ap (λ ys. f x ∷ ys) (map_agree f g xs a.1)

pub nodes_of-places : (entry : ℕ → Entry) (is : List ℕ) → map (λ (p : Place). p.node) (map (place_at entry) is) ≡ is
nodes_of-places entry [] = refl
nodes_of-places entry (i ∷ is) = ap (λ js. i ∷ js) (nodes_of-places entry is)

-- ---- lists that a test parts in two

pub not_true : (b : Bool) → not b ≡ true → b ≡ false
not_true true h = absurd (false≢true h)
not_true false h = refl

filter_none : {X : Type 0} (q : X → Bool) (xs : List X) → AllByRecursion (λ x. q x ≡ false) xs → filter q xs ≡ []
filter_none q [] a = refl
filter_none q (x ∷ xs) a = filter-past q x xs a.0 ∙ filter_none q xs a.1

pub filter_all : {X : Type 0} (q : X → Bool) (xs : List X) → AllByRecursion (λ x. q x ≡ true) xs → filter q xs ≡ xs
filter_all q [] a = refl
filter_all q (x ∷ xs) a = filter-here q x xs a.0 ∙ ap (λ ys. x ∷ ys) (filter_all q xs a.1)

All-not : {X : Type 0} (q : X → Bool) (b c : Bool) → not b ≡ c → (xs : List X) → AllByRecursion (λ x. q x ≡ b) xs → AllByRecursion (λ x. not (q x) ≡ c) xs
All-not q b c e xs a = All-weaker (λ x. q x ≡ b) (λ x. not (q x) ≡ c) (λ x h. ap not h ∙ e) xs a

-- where a front fails the test and a back passes it, those that fail are the front, and those that pass the back
pub filter_front : {X : Type 0} (q : X → Bool) (xs ys : List X) → AllByRecursion (λ x. q x ≡ false) xs → AllByRecursion (λ x. q x ≡ true) ys → filter (λ x. not (q x)) (xs ++ ys) ≡ xs
filter_front q xs ys a b =
    filter-append (λ x. not (q x)) xs ys
    ∙ ap (λ zs. zs ++ filter (λ x. not (q x)) ys) (filter_all (λ x. not (q x)) xs (All-not q false true refl xs a))
    ∙ ap (λ zs. xs ++ zs) (filter_none (λ x. not (q x)) ys (All-not q true false refl ys b)) ∙ append-nil xs

pub filter_back : {X : Type 0} (q : X → Bool) (xs ys : List X) → AllByRecursion (λ x. q x ≡ false) xs → AllByRecursion (λ x. q x ≡ true) ys → filter q (xs ++ ys) ≡ ys
filter_back q xs ys a b =
    filter-append q xs ys ∙ ap (λ zs. zs ++ filter q ys) (filter_none q xs a) ∙ filter_all q ys b

pub filter_comm : {X : Type 0} (p q : X → Bool) (xs : List X) → filter p (filter q xs) ≡ filter q (filter p xs)
filter_comm p q [] = refl
filter_comm p q (x ∷ xs) =
    elim (cases_Bool (p x)) [
      | inl a ↦
          elim (cases_Bool (q x)) [
            | inl b ↦
                ap (filter p) (filter-here q x xs b) ∙ filter-here p x (filter q xs) a ∙ ap (λ ys. x ∷ ys) (filter_comm p q xs)
                ∙ sym (ap (filter q) (filter-here p x xs a) ∙ filter-here q x (filter p xs) b)
            | inr b ↦
                ap (filter p) (filter-past q x xs b) ∙ filter_comm p q xs ∙ sym (ap (filter q) (filter-here p x xs a) ∙ filter-past q x (filter p xs) b)
          ]
      | inr a ↦
          elim (cases_Bool (q x)) [
            | inl b ↦
                ap (filter p) (filter-here q x xs b) ∙ filter-past p x (filter q xs) a ∙ filter_comm p q xs ∙ sym (ap (filter q) (filter-past p x xs a))
            | inr b ↦ ap (filter p) (filter-past q x xs b) ∙ filter_comm p q xs ∙ sym (ap (filter q) (filter-past p x xs a))
          ]
    ]

-- what a walk from the end leaves behind does not count for the last one before it
pub last_kept : (p : ℕ → Bool) (front back : List ℕ) (at : ℕ) → at ≡ last_or NO_NODE front → AllByRecursion (λ i. p i ≡ false) back → (at ≢ NO_NODE → p at ≡ true) → IsOff NO_NODE front → at ≡ last_or NO_NODE (filter p (front ++ back))
last_kept p front back at e past here off =
    let left : filter p (front ++ back) ≡ filter p front =
    filter-append p front back ∙ ap (λ zs. filter p front ++ zs) (filter_none p back past) ∙ append-nil (filter p front) in
    elim (by_last front) [
      | inl none ↦ e ∙ ap (last_or NO_NODE) none ∙ sym (ap (last_or NO_NODE) (left ∙ ap (filter p) none))
      | inr some ↦
          let k : ℕ = some.1 in
          let is : at ≡ k = e ∙ ap (last_or NO_NODE) some.2 ∙ last_or-push NO_NODE some.0 k in
          let node : k ≢ NO_NODE = (All-right (λ i. i ≢ NO_NODE) some.0 (k ∷ []) (subst (IsOff NO_NODE) some.2 off)).0 in
          let kept : p k ≡ true = subst (λ j. p j ≡ true) is (here (λ h. node (sym is ∙ h))) in
          is ∙ sym (ap (last_or NO_NODE) (left ∙ ap (filter p) some.2 ∙ filter-append p some.0 (k ∷ []) ∙ ap (λ zs. filter p some.0 ++ zs) (filter-here p k [] kept))
          ∙ last_or-push NO_NODE (filter p some.0) k)
    ]

-- in order, the nodes whose names are not after this one stand before the others
pub sorted_parts : (o : ℕ) (g : Moment) (entry : ℕ → Entry) (is : List ℕ) → IsTable (map entry is) → is ≡ filter (λ i. not (name_before o g (entry i))) is ++ filter (λ i. name_before o g (entry i)) is
sorted_parts o g entry [] t = refl
sorted_parts o g entry (i ∷ is) t =
    let q : ℕ → Bool = λ j. name_before o g (entry j) in
    elim (cases_Bool (q i)) [
      | inl so ↦
          let all : AllByRecursion (λ j. q j ≡ true) (i ∷ is) =
          (so, All-weaker (λ j. Precedes (entry i) (entry j)) (λ j. q j ≡ true) (λ j p. name_before_trans o g (entry i) (entry j) so p) is (All-unmap (λ e. Precedes (entry i) e) entry is t.0)) in
          sym (ap (λ xs. xs ++ filter q (i ∷ is)) (filter_none (λ j. not (q j)) (i ∷ is) (All-not q true false refl (i ∷ is) all)) ∙ filter_all q (i ∷ is) all)
      | inr not_so ↦
          ap (λ xs. i ∷ xs) (sorted_parts o g entry is t.1)
          ∙ sym (ap (λ xs. xs ++ filter q (i ∷ is)) (filter-here (λ j. not (q j)) i is (ap not not_so))
          ∙ ap (λ xs. (i ∷ filter (λ j. not (q j)) is) ++ xs) (filter-past q i is not_so))
    ]

-- of the places and of their nodes it is the same one
pub last_of_places : (o : ℕ) (g : Moment) (entry : ℕ → Entry) (is : List ℕ) → last_or NO_NODE (filter (λ i. not (name_before o g (entry i))) is) ≡ last_not_after o g (map (place_at entry) is)
last_of_places o g entry is =
    ap (last_or NO_NODE) (sym (ap (map (λ (p : Place). p.node)) (filter-map_at (λ (p : Place). not (name_before o g p.entry)) (place_at entry) is)
    ∙ nodes_of-places entry (filter (λ i. not (name_before o g (entry i))) is)))

pub first_of_places : (o : ℕ) (g : Moment) (entry : ℕ → Entry) (is : List ℕ) → first_or (filter (λ i. name_before o g (entry i)) is) NO_NODE ≡ first_after o g (map (place_at entry) is)
first_of_places o g entry is =
    ap (λ js. first_or js NO_NODE) (sym (ap (map (λ (p : Place). p.node)) (filter-map_at (λ (p : Place). name_before o g p.entry) (place_at entry) is)
    ∙ nodes_of-places entry (filter (λ i. name_before o g (entry i)) is)))
