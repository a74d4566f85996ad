-- What the shape of an arena says of its lists.
use Rattle.std.proofs.Common.{◌≡◌, ◌≢◌, ℕ, ◌+◌, ◌<◌, ◌≤◌, Bool, true, cond, eqb, List, [], ◌∷◌, ◌++◌, refl, sym, ap, ◌∙◌, subst, inl, inr, arith, filter}
use Rattle.std.specs.List.{AllByRecursion}
use Rattle.std.proofs.lemmas.Bool.{cases_Bool, cases_lt, lt-ltb, le-ltb, eq-eqb, ne_eqb, eqb-true}
use Rattle.warp_tag.specs.declared.entry.Entry.{Entry}
use Rattle.warp_tag.proofs.Lists.{All-both, All-weaker, filter-here, filter-past, All-filter, All-kept}
use Rattle.warp_arena.specs.Shape.{Threads, IsArena, count_of, members}
use Rattle.warp_arena.specs.declared.node.TheConstants.{NO_NODE}
use Rattle.warp_arena.specs.declared.node.Links.{Links}
use Rattle.warp_arena.proofs.Listing.{Keeps}
use Rattle.warp_arena.proofs.Rings.{IsOff, IsApart, All-from_in, IsApart-count, IsOff-count}
use Rattle.std.proofs.lemmas.List.Elements.{filter-append}

pub IsApart-filter : (p : ℕ → Bool) (is : List ℕ) → IsApart is → IsApart (filter p is)
IsApart-filter p [] h = tt
IsApart-filter p (i ∷ is) h =
    elim (cases_Bool (p i)) [
      | inl so ↦ subst IsApart (sym (filter-here p i is so)) (All-filter (λ j. j ≢ i) p is h.0, IsApart-filter p is h.1)
      | inr not_so ↦ subst IsApart (sym (filter-past p i is not_so)) (IsApart-filter p is h.1)
    ]

module _ (t : Threads) (used unused : List ℕ) (a : IsArena t used unused) where
  pub once_below : (i : ℕ) → i < t.size → count_of i used + count_of i unused ≡ 1
  once_below i h = a.once i ∙ ap (λ b. cond b 1 0) (lt-ltb i t.size h)

  pub once_above : (i : ℕ) → t.size ≤ i → count_of i used + count_of i unused ≡ 0
  once_above i h = a.once i ∙ ap (λ b. cond b 1 0) (le-ltb i t.size h)

  pub once_at_most : (i : ℕ) → count_of i used + count_of i unused ≤ 1
  once_at_most i =
      elim (cases_lt i t.size) [
        | inl below ↦ omega (arith, once_below i below)
        | inr above ↦ omega (arith, once_above i above)
      ]

  pub used_below : (i : ℕ) → 0 < count_of i used → i < t.size
  used_below i h =
      elim (cases_lt i t.size) [ inl below ↦ below | inr above ↦ absurd (omega (arith, once_above i above)) ]

  pub unused_below : (i : ℕ) → 0 < count_of i unused → i < t.size
  unused_below i h =
      elim (cases_lt i t.size) [ inl below ↦ below | inr above ↦ absurd (omega (arith, once_above i above)) ]

  pub all_used_below : AllByRecursion (λ i. i < t.size) used
  all_used_below = All-from_in (λ i. i < t.size) used used_below

  pub used_apart : IsApart used
  used_apart = IsApart-count used (λ i. omega (arith, once_at_most i))

  pub unused_apart : IsApart unused
  unused_apart = IsApart-count unused (λ i. omega (arith, once_at_most i))

  pub past_used : (i : ℕ) → t.size ≤ i → IsOff i used
  past_used i h = IsOff-count i used (omega (arith, once_above i h))

  pub past_unused : (i : ℕ) → t.size ≤ i → IsOff i unused
  past_unused i h = IsOff-count i unused (omega (arith, once_above i h))

  pub none_used : IsOff NO_NODE used
  none_used = past_used NO_NODE (omega (arith, a.small))

  pub none_unused : IsOff NO_NODE unused
  none_unused = past_unused NO_NODE (omega (arith, a.small))

  pub members_apart : (o : ℕ) → IsApart (members t.entry o used)
  members_apart o = IsApart-filter (λ i. eqb (t.entry i).origin o) used used_apart

  pub none_member : (o : ℕ) → IsOff NO_NODE (members t.entry o used)
  none_member o = All-filter (λ i. i ≢ NO_NODE) (λ i. eqb (t.entry i).origin o) used none_used

module _ (t : Threads) (used unused : List ℕ) (a : IsArena t used unused) where
  pub unused_off : (i : ℕ) → 0 < count_of i unused → IsOff i used
  unused_off i h = IsOff-count i used (omega (arith, once_at_most t used unused a i))

-- lists of indices whose entries stay the same
pub members_agree : (entry entry' : ℕ → Entry) (o : ℕ) (is : List ℕ) → AllByRecursion (λ i. entry' i ≡ entry i) is → members entry' o is ≡ members entry o is
members_agree entry entry' o [] a = refl
members_agree entry entry' o (i ∷ is) a =
    ap (λ e. cond (eqb e.origin o) (i ∷ members entry' o is) (members entry' o is)) a.0
    ∙ ap (λ js. cond (eqb (entry i).origin o) (i ∷ js) js) (members_agree entry entry' o is a.1)

pub members-append : (entry : ℕ → Entry) (o : ℕ) (xs ys : List ℕ) → members entry o (xs ++ ys) ≡ members entry o xs ++ members entry o ys
members-append entry o xs ys = filter-append (λ i. eqb (entry i).origin o) xs ys

pub members_here : (entry : ℕ → Entry) (o i : ℕ) (is : List ℕ) → (entry i).origin ≡ o → members entry o (i ∷ is) ≡ i ∷ members entry o is
members_here entry o i is e = filter-here (λ j. eqb (entry j).origin o) i is (eq-eqb (entry i).origin o e)

pub members_past : (entry : ℕ → Entry) (o i : ℕ) (is : List ℕ) → (entry i).origin ≢ o → members entry o (i ∷ is) ≡ members entry o is
members_past entry o i is e = filter-past (λ j. eqb (entry j).origin o) i is (ne_eqb (entry i).origin o e)

-- each member is of the origin
pub members_own : (entry : ℕ → Entry) (o : ℕ) (is : List ℕ) → AllByRecursion (λ i. (entry i).origin ≡ o) (members entry o is)
members_own entry o is =
    All-weaker (λ i. eqb (entry i).origin o ≡ true) (λ i. (entry i).origin ≡ o) (λ i h. eqb-true (entry i).origin o h)
    (members entry o is) (All-kept (λ i. eqb (entry i).origin o) is)

-- a node of another origin is not a member
pub members_not : (entry : ℕ → Entry) (o i : ℕ) (is : List ℕ) → (entry i).origin ≢ o → IsOff i (members entry o is)
members_not entry o i is n =
    All-weaker (λ j. (entry j).origin ≡ o) (λ j. j ≢ i) (λ j h e. n (ap (λ k. (entry k).origin) (sym e) ∙ h)) (members entry o is) (members_own entry o is)

-- the nodes of another origin keep their links, where a change concerns one origin's list and one node more
pub kept_others : (entry : ℕ → Entry) (links links' : ℕ → Links) (o q x : ℕ) (is : List ℕ) → q ≢ o → IsOff NO_NODE is → IsOff x is → ((i : ℕ) → i ≢ NO_NODE → i ≢ x → (entry i).origin ≢ o → Keeps links links' i) → AllByRecursion (Keeps links links') (members entry q is)
kept_others entry links links' o q x is other none off keep =
    All-both (λ i. (entry i).origin ≢ o) (λ i. (i ≢ NO_NODE) × (i ≢ x)) (Keeps links links') (λ i a b. keep i b.0 b.1 a) (members entry q is)
    (All-weaker (λ i. (entry i).origin ≡ q) (λ i. (entry i).origin ≢ o) (λ i a e. other (sym a ∙ e)) (members entry q is) (members_own entry q is))
    (All-filter (λ i. (i ≢ NO_NODE) × (i ≢ x)) (λ i. eqb (entry i).origin q) is
    (All-both (λ i. i ≢ NO_NODE) (λ i. i ≢ x) (λ i. (i ≢ NO_NODE) × (i ≢ x)) (λ i a b. (a, b)) is none off))
