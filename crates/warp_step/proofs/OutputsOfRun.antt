-- The outputs of a run have numbers below how many outputs the program has.
use Rattle.std.proofs.Common.{◌≡◌, ℕ, ℤ, ◌+◌, ◌≤◌, ◌<◌, Bool, nat_lt, IsTrue, List, [], ◌∷◌, length, slice_get, Option, Some, None, refl, ap, ◌∙◌, subst, arith}
use Rattle.std.specs.List.{list_all}
use Rattle.std.proofs.lemmas.Bool.{and_from, lt-ltb, ltb-true}
use Rattle.std.proofs.lemmas.List.Folds.{list_all-append}
use Rattle.std.proofs.lemmas.Option.{get_or_from_slice_get, slice_get_within}
use Rattle.warp_tag.specs.Moment.{Moment}
use Rattle.warp_tag.specs.Table.{Event}
use Rattle.warp_body.specs.Presence.{Presence, present_at}
use Rattle.warp_body.specs.declared.place.Target.TheVariants as to
use Rattle.warp_step.specs.Program.{Program}
use Rattle.warp_step.specs.Snapshot.{Snapshot, start_state}
use Rattle.warp_step.specs.Step.{reacted, with_output, outputs_from}
use Rattle.warp_step.specs.Run.{Row, Run, RunFrom, given_at, outputs_of}
use Rattle.warp_tag.specs.declared.out.Out.{Out}
use Rattle.warp_step.proofs.ValidLemmas.{list_all_get}

-- all outputs have numbers below this one
abbrev are_below : ℕ → List Out → Bool
are_below n outs = list_all (λ out. nat_lt out.port n) outs

-- one more output below it
with_below : (n number : ℕ) (t : Moment) (value : Option ℤ) (outs : List Out) → number < n → IsTrue (are_below n outs)
    → IsTrue (are_below n (with_output number t value outs))
with_below n number t None outs within h = h
with_below n number t (Some v) outs within h = and_from (nat_lt number n) (are_below n outs) (lt-ltb number n within) h

-- those that are present, of the ports from a number on
from_below : (n number : ℕ) (t : Moment) (present : Presence) (ports : List ℕ) → number + length ports ≤ n
    → IsTrue (are_below n (outputs_from number t present ports))
from_below n number t present [] within = refl
from_below n number t present (port ∷ ports) within =
    with_below n number t (present_at present (to.Port port)) (outputs_from (number + 1) t present ports) (omega arith)
    (from_below n (number + 1) t present ports (omega arith))

-- those of the rows from a state on
rows_below : (P : Program) (E : List Event) (last : Option Moment) (s : Snapshot) (rows : List Row) → RunFrom P E last s rows
    → IsTrue (are_below (length P.outputs) (outputs_of rows))
rows_below P E last s [] run = refl
rows_below P E last s (row ∷ rows) run =
    let n = length P.outputs in
    let here : IsTrue (are_below n row.outputs) =
    ap (are_below n) run.1.outputs
    ∙ from_below n 0 row.tag (reacted P s row.tag (given_at row.tag E)).present P.outputs (omega arith) in
    list_all-append (λ (out : Out). nat_lt out.port n) row.outputs (outputs_of rows)
    ∙ and_from (are_below n row.outputs) (are_below n (outputs_of rows)) here (rows_below P E (Some row.tag) row.state rows run.2)

-- the number of each output of a run is that of one of the program's outputs
pub output_within : (P : Program) (E : List Event) (trace : List Row) (i : ℕ) (out : Out) → Run P E trace
    → slice_get (outputs_of trace) i ≡ Some out → out.port < length P.outputs
output_within P E trace i out run found =
    let n = length P.outputs in
    let below = list_all_get (λ (o : Out). nat_lt o.port n) (outputs_of trace) i out (rows_below P E None (start_state P) trace run)
    (slice_get_within (outputs_of trace) i out found) in
    ltb-true out.port n (subst (λ (o : Out). IsTrue (nat_lt o.port n)) (get_or_from_slice_get (outputs_of trace) i out out found) below)
