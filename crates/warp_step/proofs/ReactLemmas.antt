-- One reaction of a program: that it fits, and what it leaves; and one output.
use Rattle.std.proofs.Common.{◌≡◌, ℕ, zero, suc, ◌<◌, ◌≢◌, Bool, List, [], ◌∷◌, ◌++◌, length, map, set, get_or, drop, replicate, ◌+◌, IsTrue, refl, ap, sym, ◌∙◌, inl, inr, arith, Option, None, Some}
use Rattle.std.specs.Prelude.{ℤ, slice_get}
use Rattle.std.specs.Option.{option_map_or}
use Rattle.std.specs.List.{list_all}
use Rattle.std.proofs.lemmas.Bool.{cases_Bool, and_parts, and_from, cond-true, cond-false}
use Rattle.std.proofs.lemmas.List.{append_assoc, get_or-map, get_or-set_other, drop_more, length-map}
use Rattle.std.proofs.lemmas.Option.{slice_get-get_or}
use Rattle.warp_tag.specs.Moment.{Moment}
use Rattle.warp_body.specs.Presence.{Presence, present_at}
use Rattle.warp_body.specs.declared.place.Target.TheVariants as to
use Rattle.warp_tag.specs.declared.out.Out.{Out}
use Rattle.warp_step.specs.Program.{Program, Rule, rule_of}
use Rattle.warp_step.specs.declared.reaction.Reaction.{Reaction}
use Rattle.warp_step.specs.Step.{Reacting, react, is_triggered, after_reactions, outputs_from, with_output}

-- all elements pass after a write of one that passes
pub list_all_set : {X : Type 0} (p : X → Bool) (xs : List X) (i : ℕ) (y : X) → IsTrue (list_all p xs) → IsTrue (p y) → IsTrue (list_all p (set xs i y))
list_all_set p [] i y h k = refl
list_all_set p (x ∷ xs) zero y h k = and_from (p y) (list_all p xs) k (and_parts (p x) (list_all p xs) h).1
list_all_set p (x ∷ xs) (suc i) y h k =
    let both = and_parts (p x) (list_all p xs) h in
    and_from (p x) (list_all p (set xs i y)) both.0 (list_all_set p xs i y both.1 k)

-- lists that are all empty: each is, at any number, and all their elements pass
pub empty_at : {X : Type 0} (n k : ℕ) → get_or {A = List X} (replicate n []) k [] ≡ []
empty_at zero k = refl
empty_at (suc n) zero = refl
empty_at (suc n) (suc k) = empty_at n k

pub empty_pass : {X : Type 0} (p : X → Bool) (n : ℕ) → IsTrue (list_all (list_all p) (replicate n []))
empty_pass p zero = refl
empty_pass p (suc n) = empty_pass p n

-- a reaction leaves the wishes of the others
pub react_other : (n : ℕ) (rule : Rule) (now : Reacting) (k : ℕ) → k ≢ n → get_or (react n rule now).wishes k [] ≡ get_or now.wishes k []
react_other n rule now k other = elim (cases_Bool (is_triggered rule now.present)) [
  | inl h ↦
      ap (λ (r : Reacting). get_or r.wishes k []) (cond-true (is_triggered rule now.present) _ now h)
      ∙ get_or-set_other now.wishes n k _ [] other
  | inr h ↦ ap (λ (r : Reacting). get_or r.wishes k []) (cond-false (is_triggered rule now.present) _ now h)
]

-- the reactions from a turn on are the one whose turn it is, and those from the next one on
pub after_one_more : (P : Program) (turn n : ℕ) (rule : Rule) (now : Reacting) → turn < length P.order → n ≡ get_or P.order turn n
    → n < length P.reactions → rule ≡ get_or P.reactions n rule
    → after_reactions P (drop turn P.order) now ≡ after_reactions P (drop (turn + 1) P.order) (react n rule now)
after_one_more P turn n rule now lt number below is =
    let rest = drop (turn + 1) P.order in
    let there : slice_get P.reactions n ≡ Some rule =
    slice_get-get_or P.reactions n rule below ∙ ap (λ (r : Rule). Some r) (sym is) in
    ap (λ (ns : List ℕ). after_reactions P ns now) (drop_more P.order turn n lt)
    ∙ ap (λ (m : ℕ). after_reactions P (m ∷ rest) now) (sym number)
    ∙ ap (λ o. after_reactions P rest (option_map_or (λ r. react n r now) o now)) there

-- the reaction with a number is the rule with it
pub rule_at : (items : List Reaction) (rules : List Rule) (n : ℕ) (r : Reaction) → map rule_of items ≡ rules → n < length items → r ≡ get_or items n r
    → (n < length rules) × (rule_of r ≡ get_or rules n (rule_of r))
rule_at items rules n r view lt is =
    let lengths : length items ≡ length rules = sym (length-map items rule_of) ∙ ap length view in
    (omega arith, ap rule_of is ∙ sym (get_or-map rule_of items n r (rule_of r) lt) ∙ ap (λ (rs : List Rule). get_or rs n (rule_of r)) view)

-- an output in front of others
output_in_front : (n : ℕ) (t : Moment) (o : Option ℤ) (outs : List Out) → with_output n t o [] ++ outs ≡ with_output n t o outs
output_in_front n t None outs = refl
output_in_front n t (Some v) outs = refl

-- the outputs of the ports from a number on are that of the port with it, and those from the next one on
pub outputs_one_more : (front : List Out) (n : ℕ) (t : Moment) (present : Presence) (ports : List ℕ) → n < length ports
    → (front ++ with_output n t (present_at present (to.Port (get_or ports n 0))) []) ++ outputs_from (n + 1) t present (drop (n + 1) ports)
    ≡ front ++ outputs_from n t present (drop n ports)
outputs_one_more front n t present ports lt =
    let own = present_at present (to.Port (get_or ports n 0)) in
    let rest = outputs_from (n + 1) t present (drop (n + 1) ports) in
    append_assoc front (with_output n t own []) rest
    ∙ ap (λ (outs : List Out). front ++ outs) (output_in_front n t own rest)
    ∙ ap (λ (ps : List ℕ). front ++ outputs_from n t present ps) (sym (drop_more ports n 0 lt))
