-- What the rules of a valid program name.
use Rattle.std.proofs.Common.{Bool, ℕ, zero, suc, List, [], ◌∷◌, ◌++◌, IsTrue, ◌∙◌}
use Rattle.std.specs.Prelude.{slice_get}
use Rattle.std.specs.Option.{IfSome}
use Rattle.std.specs.List.{list_all}
use Rattle.std.proofs.lemmas.Bool.{and_parts, and_from}
use Rattle.std.proofs.lemmas.List.Folds.{list_all-append}
use Rattle.warp_step.specs.Program.{Program, Rule}
use Rattle.warp_step.specs.Valid.{is_readable, is_writable, rule_fits}

-- what holds of all elements holds of the one at a number, if there is one
pub one_of_all : {X : Type 0} (p : X → Bool) (xs : List X) (n : ℕ) → IsTrue (list_all p xs) → IfSome (slice_get xs n) (λ x. IsTrue (p x))
one_of_all p [] n all = tt
one_of_all p (x ∷ xs) zero all = (and_parts (p x) (list_all p xs) all).0
one_of_all p (x ∷ xs) (suc n) all = one_of_all p xs n (and_parts (p x) (list_all p xs) all).1

-- a rule reads what it may, and writes what it may
record Names (P : Program) (r : Rule) : Type 0 where
  pub triggers : IsTrue (list_all (is_readable P r.reactor) r.triggers)
  pub reads : IsTrue (list_all (is_readable P r.reactor) r.reads)
  pub writes : IsTrue (list_all (is_writable P r.reactor) r.writes)

named : (P : Program) (r : Rule) → IsTrue (rule_fits P r) → Names P r
named P r h =
    let a = and_parts _ _ h in
    let b = and_parts _ _ a.0 in
    let c = and_parts _ _ b.0 in
    let d = and_parts _ _ c.0 in
    let e = and_parts _ _ d.0 in
    record { triggers = e.1; reads = d.1; writes = c.1 }

pub rule_reads : (P : Program) (r : Rule) → IsTrue (rule_fits P r) → IsTrue (list_all (is_readable P r.reactor) (r.triggers ++ r.reads))
rule_reads P r h =
    let n = named P r h in
    list_all-append (is_readable P r.reactor) r.triggers r.reads ∙ and_from _ _ n.triggers n.reads

pub rule_writes : (P : Program) (r : Rule) → IsTrue (rule_fits P r) → IsTrue (list_all (is_writable P r.reactor) r.writes)
rule_writes P r h = (named P r h).writes
