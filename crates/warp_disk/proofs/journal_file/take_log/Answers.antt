use Rattle.std.proofs.Common.{◌≡◌, ◌∙◌, ◌+◌, ◌-◌, ◌++◌, [], ◌∷◌, Some, take, ap, arith, subst, sym}
use Rattle.std.proofs.lemmas.List.{append_assoc}
use Rattle.std.specs.List.{slice_get}
use Rattle.warp_journal.specs.Keeping.{KeepsAll}
use Rattle.warp_disk.proofs.HandingLemmas.{taken_next}
use Rattle.warp_disk.proofs.journal_file.take_log.Goals as goal

pub loop-place-preserved : goal.loop-place-preserved
loop-place-preserved g c = λ first records keeps.
    let log = c.args.replica.now.records in
    let place = c.loop-place.place in
    let said = c.in-Some.said in
    let same : place + 1 - 1 ≡ place = omega arith in
    let found : slice_get log place ≡ Some said = subst (λ n. slice_get log n ≡ Some said) same c.in-Some.ensures.found.1 in
    subst (λ it. KeepsAll g.D.Disk.written first c.take_in_batches.new.fresh it)
    (append_assoc records (take place log) (said ∷ []) ∙ ap (λ it. records ++ it) (sym (taken_next log place said found)))
    (c.in_ok-take_in_batches.ensures first (records ++ take place log) (c.loop-place.invariant first records keeps))
