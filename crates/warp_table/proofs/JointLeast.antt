-- What is counted and kept of all origins together, with one origin more.
use Rattle.std.proofs.Common.{◌≡◌, ◌⊎◌, inl, inr, ℕ, zero, suc, ◌+◌, ◌<◌, Option, Some, None, List, [], ◌∷◌, ◌++◌, length, get_or, drop, take, refl, sym, ap, subst, ◌∙◌}
use Rattle.std.proofs.lemmas.List.{at_drop_more, length-append, take_more}
use Rattle.std.proofs.lemmas.List.Elements.{filter-append}
use Rattle.warp_tag.specs.Moment.{Moment, is_before}
use Rattle.warp_table.specs.declared.tally.EventOrWithdrawal.{EventOrWithdrawal}
use Rattle.warp_table.specs.inner.Heard.{Heard, count_before, earlier_of, heard_at}
use Rattle.warp_table.specs.inner.Joint.{IsLeastOf, all_tags, earlier_some}
use Rattle.warp_table.specs.inner.Tally.{tags_of}
use Rattle.warp_table.proofs.Heard.{IfSome-weaker, earlier_has, earlier_least}
use Rattle.warp_table.proofs.JointNames.{none_at}

-- Counts

pub count_both : (end : Moment) (xs ys : List Moment) → count_before end (xs ++ ys) ≡ count_before end xs + count_before end ys
count_both end xs ys = ap (λ (l : List Moment). length l) (filter-append (λ t. is_before t end) xs ys) ∙ length-append _ _

-- what is left from an origin on is counted in its tags and in what is left behind it
pub count_left : (kind : EventOrWithdrawal) (end : Moment) (hs : List Heard) (i : ℕ) (h : Heard) → i < length hs → h ≡ get_or hs i h →
    count_before end (all_tags kind (drop i hs)) ≡ count_before end (tags_of kind h) + count_before end (all_tags kind (drop (i + 1) hs))
count_left kind end hs i h within is =
    at_drop_more (λ l. count_before end (all_tags kind l)) hs i h within
    ∙ count_both end (tags_of kind (get_or hs i h)) (all_tags kind (drop (i + 1) hs))
    ∙ ap (λ x. count_before end (tags_of kind x) + count_before end (all_tags kind (drop (i + 1) hs))) (sym is)

-- The least tag of two payloads

-- with one origin more each is heard as before, or is that one
at_push : (xs : List Heard) (h : Heard) (o : ℕ) → (heard_at (xs ++ h ∷ []) o ≡ heard_at xs o) ⊎ (heard_at (xs ++ h ∷ []) o ≡ h)
at_push [] h zero = inr refl
at_push [] h (suc o) = inl (none_at o ∙ sym (none_at (suc o)))
at_push (x ∷ xs) h zero = inl refl
at_push (x ∷ xs) h (suc o) = at_push xs h o

own_push : (xs : List Heard) (h : Heard) → heard_at (xs ++ h ∷ []) (length xs) ≡ h
own_push [] h = refl
own_push (x ∷ xs) h = own_push xs h

doubled_push : (xs : List Heard) (h : Heard) (o : ℕ) (t : Moment) → (heard_at xs o).doubled ≡ Some t → (heard_at (xs ++ h ∷ []) o).doubled ≡ Some t
doubled_push [] h o t is = absurd (let never : None ≡ Some t = ap (λ (x : Heard). x.doubled) (sym (none_at o)) ∙ is in cc)
doubled_push (x ∷ xs) h zero t is = is
doubled_push (x ∷ xs) h (suc o) t is = doubled_push xs h o t is

least_push_none : (xs : List Heard) (d : Option Moment) (h : Heard) → IsLeastOf xs d → h.doubled ≡ None → IsLeastOf (xs ++ h ∷ []) d
least_push_none xs d h is none = record {
  some = IfSome-weaker d (λ t. (o : ℕ) × ((heard_at xs o).doubled ≡ Some t)) (λ t. (o : ℕ) × ((heard_at (xs ++ h ∷ []) o).doubled ≡ Some t)) (λ t e. (e.0, doubled_push xs h e.0 t e.1)) is.some;
  least = λ o t e. elim (at_push xs h o) [
    | inl same ↦ is.least o t (ap (λ (x : Heard). x.doubled) (sym same) ∙ e)
    | inr here ↦ absurd (let never : None ≡ Some t = sym none ∙ ap (λ (x : Heard). x.doubled) (sym here) ∙ e in cc)
  ];
}

least_push_some : (xs : List Heard) (d : Option Moment) (h : Heard) (tag : Moment) → IsLeastOf xs d → h.doubled ≡ Some tag → IsLeastOf (xs ++ h ∷ []) (Some (earlier_of d tag))
least_push_some xs d h tag is some = record {
  some = earlier_has d tag (λ t. (o : ℕ) × ((heard_at (xs ++ h ∷ []) o).doubled ≡ Some t))
      (IfSome-weaker d (λ t. (o : ℕ) × ((heard_at xs o).doubled ≡ Some t)) (λ t. (o : ℕ) × ((heard_at (xs ++ h ∷ []) o).doubled ≡ Some t)) (λ t e. (e.0, doubled_push xs h e.0 t e.1)) is.some)
      (length xs, ap (λ (x : Heard). x.doubled) (own_push xs h) ∙ some);
  least = λ o t e. (
    earlier_of d tag,
    refl,
    earlier_least d tag t (elim (at_push xs h o) [
      | inl same ↦ inr (is.least o t (ap (λ (x : Heard). x.doubled) (sym same) ∙ e))
      | inr here ↦ inl (let both : Some t ≡ Some tag = sym e ∙ ap (λ (x : Heard). x.doubled) here ∙ some in cc)
    ]),
  );
}

least_push : (xs : List Heard) (d own : Option Moment) (h : Heard) → IsLeastOf xs d → h.doubled ≡ own → IsLeastOf (xs ++ h ∷ []) (earlier_some d own)
least_push xs d None h is own = least_push_none xs d h is own
least_push xs d (Some tag) h is own = least_push_some xs d h tag is own

-- of the first of them, and one more
pub least_more : (hs : List Heard) (d : Option Moment) (i : ℕ) (h : Heard) → i < length hs → h ≡ get_or hs i h → IsLeastOf (take i hs) d → IsLeastOf (take (i + 1) hs) (earlier_some d h.doubled)
least_more hs d i h within is least =
    subst (λ (l : List Heard). IsLeastOf l (earlier_some d h.doubled)) (sym (take_more hs i h within ∙ ap (λ (x : Heard). take i hs ++ x ∷ []) (sym is)))
    (least_push (take i hs) d h.doubled h least refl)

-- of none there is none
pub least_none : IsLeastOf [] None
least_none = record {
  some = tt;
  least = λ o t e. absurd (let never : None ≡ Some t = ap (λ (x : Heard). x.doubled) (sym (none_at o)) ∙ e in cc);
}
