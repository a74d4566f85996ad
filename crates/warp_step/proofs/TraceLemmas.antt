-- Exactly one trace fits a program and its events.
use Rattle.std.proofs.Common.{◌≡◌, true, false, List, [], ◌∷◌, ap, sym, ◌∙◌, refl, subst, rules, ◌++◌, Option, Some, None}
use Rattle.warp_tag.specs.Lists.{StartsWith}
use Rattle.warp_tag.specs.Moment.{Moment}
use Rattle.warp_tag.specs.Table.{Event}
use Rattle.warp_tag.proofs.Tags.{same_moment}
use Rattle.warp_step.specs.Program.{Program}
use Rattle.warp_step.specs.Snapshot.{Snapshot, start_state}
use Rattle.warp_step.specs.Step.{Step, state_after, outputs_after}
use Rattle.warp_step.specs.Run.{Row, Run, RunFrom, IsNext, given_at}

-- one tag is the next
pub one_next : (E : List Event) (last : Option Moment) (s : Snapshot) (t u : Moment) → IsNext E last s t → IsNext E last s u → t ≡ u
one_next E last s t u h k = same_moment t u (k.least t h.waiting) (h.least u k.waiting)

-- a row is its three parts
pub same_row : (r q : Row) → r.tag ≡ q.tag → r.state ≡ q.state → r.outputs ≡ q.outputs → r ≡ q
same_row r q a b c = search rules

-- a step from one state at one tag with the same given goes to one state with the same outputs
pub one_row : (P : Program) (E : List Event) (s : Snapshot) (r q : Row) → r.tag ≡ q.tag
    → Step P s r.tag (given_at r.tag E) r.state r.outputs → Step P s q.tag (given_at q.tag E) q.state q.outputs → r ≡ q
one_row P E s r q tags h k =
    same_row r q tags
    (h.state ∙ ap (λ (t : Moment). state_after P s t (given_at t E)) tags ∙ sym k.state)
    (h.outputs ∙ ap (λ (t : Moment). outputs_after P s t (given_at t E)) tags ∙ sym k.outputs)

pub one_rest : (P : Program) (E : List Event) (last : Option Moment) (s : Snapshot) (a b : List Row) → RunFrom P E last s a → RunFrom P E last s b → a ≡ b
one_rest P E last s [] [] h k = refl
one_rest P E last s [] (q ∷ b) h k = let no : false ≡ true = sym (h q.tag) ∙ k.0.waiting in cc
one_rest P E last s (r ∷ a) [] h k = let no : false ≡ true = sym (k r.tag) ∙ h.0.waiting in cc
one_rest P E last s (r ∷ a) (q ∷ b) h k =
    let same : r ≡ q = one_row P E s r q (one_next E last s r.tag q.tag h.0 k.0) h.1 k.1 in
    let rest : RunFrom P E (Some r.tag) r.state b = subst (λ (x : Row). RunFrom P E (Some x.tag) x.state b) (sym same) k.2 in
    let rows : a ≡ b = one_rest P E (Some r.tag) r.state a b h.2 rest in
    ap (λ (x : Row). x ∷ a) same ∙ ap (λ (xs : List Row). q ∷ xs) rows

-- a run begins with each run of the same program and events
pub whole_front : (P : Program) (E : List Event) (done trace : List Row) → Run P E done → Run P E trace → StartsWith trace done
whole_front P E done trace h run =
    let same : trace ≡ done = one_rest P E None (start_state P) trace done run h in
    let none : done ≡ done ++ [] = search rules in
    ([], same ∙ none)

-- and with no rows
pub none_front : (done trace : List Row) → done ≡ [] → StartsWith trace done
none_front done trace none = (trace, ap (λ (xs : List Row). xs ++ trace) (sym none))
