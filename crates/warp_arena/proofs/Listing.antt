-- A list of nodes that links spell, and what is left of it after a change.
use Rattle.std.proofs.Common.{◌≡◌, ◌≢◌, ℕ, ◌<◌, cond, eqb, List, [], ◌∷◌, ◌++◌, length, refl, sym, ap, ◌∙◌, subst, inl, inr, arith, get_or, set}
use Rattle.std.specs.List.{AllByRecursion}
use Rattle.std.proofs.lemmas.Bool.{cases_eq, ne_eqb}
use Rattle.std.proofs.lemmas.List.{length-set, get_or-set_same, get_or-set_other}
use Rattle.warp_tag.proofs.Lists.{All-weaker, All-left, All-right}
use Rattle.warp_arena.specs.declared.node.Links.{Links}
use Rattle.warp_arena.specs.declared.node.Origin.{Origin}
use Rattle.warp_arena.specs.declared.node.TheConstants.{NO_NODE}
use Rattle.warp_arena.specs.Changes.{Inserts, Skips}
use Rattle.warp_arena.specs.Shape.{Spells, last_or, first_or, next_in, prev_in, no_origin}
use Rattle.warp_arena.proofs.Rings.{IsOff, IsApart, IsSame, first_holds, last_holds, IsChain-frame, IsChain-split, IsChain-insert, IsChain-skip}

-- the links spell these indices of nodes, each once
pub record Listed (size : ℕ) (ends : Links) (links : ℕ → Links) (is : List ℕ) : Type 0 where
  pub chain : Spells ends links is
  pub none : IsOff NO_NODE is
  pub apart : IsApart is
  pub below : AllByRecursion (λ i. i < size) is

pub next_in-at : (ends : Links) (links : ℕ → Links) (i : ℕ) → i ≢ NO_NODE → next_in ends links i ≡ (links i).next
next_in-at ends links i n = ap (λ b. cond b ends.next (links i).next) (ne_eqb i NO_NODE n)

pub prev_in-at : (ends : Links) (links : ℕ → Links) (i : ℕ) → i ≢ NO_NODE → prev_in ends links i ≡ (links i).prev
prev_in-at ends links i n = ap (λ b. cond b ends.prev (links i).prev) (ne_eqb i NO_NODE n)

-- a node keeps its links
abbrev pub Keeps : (ℕ → Links) → (ℕ → Links) → ℕ → Type 0
Keeps links links' i = links' i ≡ links i

-- and so where it leads, whatever the ends are
pub kept_next : (ends ends' : Links) (links links' : ℕ → Links) (i : ℕ) → i ≢ NO_NODE → Keeps links links' i → IsSame (next_in ends links) (next_in ends' links') i
kept_next ends ends' links links' i n k =
    next_in-at ends' links' i n ∙ ap (λ (l : Links). l.next) k ∙ sym (next_in-at ends links i n)

-- the list, where its nodes keep their links
pub Spells-frame : (ends : Links) (links links' : ℕ → Links) (is : List ℕ) → AllByRecursion (Keeps links links') is → Spells ends links is → Spells ends links' is
Spells-frame ends links links' is k chain =
    IsChain-frame (next_in ends links) (prev_in ends links) (next_in ends links') (prev_in ends links') NO_NODE is NO_NODE chain refl
    (All-weaker (Keeps links links') (IsSame (next_in ends links) (next_in ends links')) (λ i h. ap (λ (l : Links). cond (eqb i NO_NODE) ends.next l.next) h) is k)
    (All-weaker (Keeps links links') (IsSame (prev_in ends links) (prev_in ends links')) (λ i h. ap (λ (l : Links). cond (eqb i NO_NODE) ends.prev l.prev) h) is k)
    refl

same_links : {k l : Links} → k.next ≡ l.next → k.prev ≡ l.prev → k ≡ l
same_links p q = λ i. record { next = p i; prev = q i }

module _ (size : ℕ) (ends ends' : Links) (links links' : ℕ → Links) (xs ys : List ℕ) (x : ℕ) (l : Listed size ends links (xs ++ ys))
    (change : Inserts (next_in ends links) (prev_in ends links) (next_in ends' links') (prev_in ends' links') (last_or NO_NODE xs) x (next_in ends links (last_or NO_NODE xs)))
  where
    after : next_in ends links (last_or NO_NODE xs) ≡ first_or ys NO_NODE
    after = (IsChain-split (next_in ends links) (prev_in ends links) NO_NODE xs ys NO_NODE l.chain).0

    -- the list after the node came in
    pub Spells-insert : x ≢ NO_NODE → IsOff x (xs ++ ys) → Spells ends' links' (xs ++ x ∷ ys)
    Spells-insert node off =
        IsChain-insert (next_in ends links) (prev_in ends links) (next_in ends' links') (prev_in ends' links')
        (last_or NO_NODE xs) x (next_in ends links (last_or NO_NODE xs)) change NO_NODE xs ys NO_NODE l.chain refl (sym after)
        (λ e. node (sym e)) off (λ e. node (sym e)) l.none l.apart l.none

    -- a node of another list keeps its links
    pub Keeps-insert : (i : ℕ) → i ≢ NO_NODE → i ≢ x → IsOff i (xs ++ ys) → Keeps links links' i
    Keeps-insert i node other off =
        let not_before : last_or NO_NODE xs ≢ i = last_holds (λ k. k ≢ i) NO_NODE xs (λ h. node (sym h)) (All-left (λ k. k ≢ i) xs ys off) in
        let not_after : first_or ys NO_NODE ≢ i = first_holds (λ k. k ≢ i) ys NO_NODE (All-right (λ k. k ≢ i) xs ys off) (λ h. node (sym h)) in
        same_links
        (sym (next_in-at ends' links' i node) ∙ change.nexts i (λ h. not_before (sym h)) other ∙ next_in-at ends links i node)
        (sym (prev_in-at ends' links' i node) ∙ change.prevs i (λ h. not_after (sym (h ∙ after))) other ∙ prev_in-at ends links i node)

module _ (size : ℕ) (ends ends' : Links) (links links' : ℕ → Links) (x : ℕ) (is : List ℕ) (l : Listed size ends links (x ∷ is))
    (change : Skips (next_in ends links) (prev_in ends links) (next_in ends' links') (prev_in ends' links') NO_NODE x)
  where
    -- the list after its first node went
    pub Spells-remove : Spells ends' links' is
    Spells-remove =
        IsChain-skip (next_in ends links) (prev_in ends links) (next_in ends' links') (prev_in ends' links') NO_NODE x is NO_NODE change l.chain
        l.none.1 l.apart.0 l.apart.1 l.none.1 (λ e. l.none.0 (sym e))

    -- a node of another list keeps its links
    pub Keeps-remove : (i : ℕ) → i ≢ NO_NODE → i ≢ x → IsOff i is → Keeps links links' i
    Keeps-remove i node other off =
        let after : next_in ends links x ≡ first_or is NO_NODE = (IsChain-split (next_in ends links) (prev_in ends links) NO_NODE (x ∷ []) is NO_NODE l.chain).0 in
        let not_after : first_or is NO_NODE ≢ i = first_holds (λ k. k ≢ i) is NO_NODE off (λ h. node (sym h)) in
        same_links
        (sym (next_in-at ends' links' i node) ∙ change.nexts i node other ∙ next_in-at ends links i node)
        (sym (prev_in-at ends' links' i node) ∙ change.prevs i (λ h. not_after (sym (h ∙ after))) other ∙ prev_in-at ends links i node)

-- what holds of each origin and its list, after one origin changed
pub each_origin : (own : List Origin) (o : ℕ) (n' : Origin) (C : Origin → ℕ → Type 0) → o < length own → C n' o → ((q : ℕ) → q ≢ o → q < length own → C (get_or own q no_origin) q) → (q : ℕ) → q < length (set own o n') → C (get_or (set own o n') q no_origin) q
each_origin own o n' C declared here others q h =
    elim (cases_eq q o) [
      | inl same ↦
          subst (λ n. C n q) (sym (ap (λ k. get_or (set own o n') k no_origin) same ∙ get_or-set_same own o n' no_origin declared))
          (subst (C n') (sym same) here)
      | inr other ↦ subst (λ n. C n q) (sym (get_or-set_other own o q n' no_origin other)) (others q other (omega (arith, length-set own o n')))
    ]
