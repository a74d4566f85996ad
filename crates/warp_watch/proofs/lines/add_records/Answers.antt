-- Line by line, up to the end of the page or of the log.
use Rattle.std.proofs.Common.{◌≡◌, ◌≤◌, ◌-◌, ◌+◌, ◌++◌, arith, drop, refl, subst, take}
use Rattle.warp_watch.specs.Lines.{record_lines}
use Rattle.warp_watch.proofs.TextLines.{line_last, line_more, line_none, none_at, record_line}
use Rattle.warp_watch.proofs.lines.add_records.Goals as goal

pub loop-place-preserved : goal.loop-place-preserved
loop-place-preserved g c =
    let records = c.args.replica.now.records in
    let place = c.loop-place.place in
    let from : 1 ≤ place = omega (arith, c.requires, c.loop-place.auto.place) in
    let same : place - 1 + 1 ≡ place + 1 - 1 = omega (arith, from) in
    subst
    (λ n. c.add_reply.new.text.items ++ record_lines (place + 1) (take (c.args.end - (place + 1)) (drop n records))
    ≡ c.args.text.now.items ++ record_lines c.args.first (take (c.args.end - c.args.first) (drop (c.args.first - 1) records)))
    same
    (line_more record_lines record_line (λ n. refl) (λ n x xs. refl) records (place - 1) place c.args.end c.in-Some.«record»
    _ c.loop-place.text.items c.add_reply.new.text.items c.loop-place-test.true c.in-Some.ensures.found.1
    c.loop-place.invariant c.in_ok-add_reply.ensures)

pub returns-in_default : goal.returns-in_default
returns-in_default g c =
    let records = c.args.replica.now.records in
    let place = c.loop-place.place in
    let from : 1 ≤ place = omega (arith, c.requires, c.loop-place.auto.place) in
    line_none record_lines record_line (λ n. refl) (λ n x xs. refl) records (place - 1) place c.args.end
    _ c.loop-place.text.items (none_at records place from c.in_default.ensures.none) c.loop-place.invariant

pub returns : goal.returns
returns g c =
    line_last record_lines record_line (λ n. refl) (λ n x xs. refl) c.args.replica.now.records (c.loop-place.place - 1) c.loop-place.place c.args.end
    _ c.loop-place.text.items c.loop-place-test.false c.loop-place.invariant
