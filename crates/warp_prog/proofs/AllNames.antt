-- Sums and tests over lists that are parts of one.
use Rattle.std.proofs.Common.{◌≡◌, ◌+◌, Bool, ◌||◌, List, [], ◌∷◌, ◌++◌, ap, arith}
use Rattle.std.specs.Prelude.{bytes_eq, if◌then◌else◌}
use Rattle.std.specs.List.{list_any}
use Rattle.std.proofs.lemmas.List.Folds.{list_any-append}
use Rattle.warp_prog.specs.File.{Word, ReactorPart}
use Rattle.warp_prog.specs.Uses.{startup, variable_names, array_names, action_names, timer_names}
use Rattle.warp_prog.specs.Twice.{how_often, all_names}

pub how_often-append : {A : Type 0} (same : A → A → Bool) (xs ys : List A) (x : A) → how_often same (xs ++ ys) x ≡ how_often same xs x + how_often same ys x
how_often-append same [] ys x = omega arith
how_often-append same (y ∷ xs) ys x = omega (arith, how_often-append same xs ys x)

count_of_six : (v y i o a t : List Word) (x : Word) →
    how_often bytes_eq (v ++ (y ++ (i ++ (o ++ (a ++ t))))) x
    ≡ how_often bytes_eq v x + (how_often bytes_eq y x + (how_often bytes_eq i x + (how_often bytes_eq o x + (how_often bytes_eq a x + how_often bytes_eq t x))))
count_of_six v y i o a t x = simp how_often-append

any_of_six : (p : Word → Bool) (v y i o a t : List Word) →
    list_any p (v ++ (y ++ (i ++ (o ++ (a ++ t))))) ≡ (list_any p v || (list_any p y || (list_any p i || (list_any p o || (list_any p a || list_any p t)))))
any_of_six p v y i o a t = simp list_any-append

-- a name in a reactor, kind by kind
pub count_all_names : (r : ReactorPart) (x : Word) →
    how_often bytes_eq (all_names r) x
    ≡ (if bytes_eq x startup then 1 else 0) + (how_often bytes_eq (variable_names r) x + (how_often bytes_eq (array_names r) x + (how_often bytes_eq r.inputs x + (how_often bytes_eq r.outputs x
    + (how_often bytes_eq (action_names r) x + how_often bytes_eq (timer_names r) x)))))
unfolding all_names
count_all_names r x = ap (λ n. (if bytes_eq x startup then 1 else 0) + n) (count_of_six (variable_names r) (array_names r) r.inputs r.outputs (action_names r) (timer_names r) x)

pub any_all_names : (p : Word → Bool) (r : ReactorPart) →
    list_any p (all_names r)
    ≡ (p startup || (list_any p (variable_names r) || (list_any p (array_names r) || (list_any p r.inputs || (list_any p r.outputs || (list_any p (action_names r) || list_any p (timer_names r)))))))
unfolding all_names
any_all_names p r = ap (λ b. p startup || b) (any_of_six p (variable_names r) (array_names r) r.inputs r.outputs (action_names r) (timer_names r))

-- how often a value stands in two lists, one after the other
pub ruleset counts = (how_often-append)
