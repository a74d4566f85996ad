-- Rows that begin a run.
use Rattle.std.proofs.Common.{◌≡◌, List, ◌∷◌, [], refl, ap, sym, subst, ◌∙◌, true, false, Option, Some, None}
use Rattle.warp_tag.specs.Lists.{StartsWith}
use Rattle.warp_tag.specs.Moment.{Moment}
use Rattle.warp_tag.specs.Table.{Event}
use Rattle.warp_step.specs.Program.{Program}
use Rattle.warp_step.specs.Snapshot.{Snapshot, start_state}
use Rattle.warp_step.specs.Run.{Row, Run, RunFrom}
use Rattle.warp_step.proofs.TraceLemmas.{one_next, one_row}
use Rattle.warp_line.specs.Begin.{Begin, BeginFrom}

front_begins_from : (P : Program) (E : List Event) (last : Option Moment) (s : Snapshot) (rows trace : List Row) → BeginFrom P E last s rows → RunFrom P E last s trace → StartsWith trace rows
front_begins_from P E last s [] trace h run = (trace, refl)
front_begins_from P E last s (r ∷ rows) [] h run = let never : false ≡ true = sym (run r.tag) ∙ h.0.waiting in cc
front_begins_from P E last s (r ∷ rows) (q ∷ trace) h run =
    let same : q ≡ r = one_row P E s q r (one_next E last s q.tag r.tag run.0 h.0) run.1 h.1 in
    let rest : RunFrom P E (Some r.tag) r.state trace = subst (λ (x : Row). RunFrom P E (Some x.tag) x.state trace) same run.2 in
    let more = front_begins_from P E (Some r.tag) r.state rows trace h.2 rest in
    (more.0, ap (λ (x : Row). x ∷ trace) same ∙ ap (λ (xs : List Row). r ∷ xs) more.1)

-- they are a front of the trace
pub front_begins : (P : Program) (E : List Event) (rows trace : List Row) → Begin P E rows → Run P E trace → StartsWith trace rows
front_begins P E rows trace h run = front_begins_from P E None (start_state P) rows trace h run
