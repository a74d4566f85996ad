-- Line by line, up to the end of the page or of the outputs.
use Rattle.std.proofs.Common.{length, refl}
use Rattle.std.proofs.lemmas.Option.{slice_get_read}
use Rattle.warp_watch.specs.Lines.{output_lines}
use Rattle.warp_watch.proofs.TextLines.{line_last, line_more, line_none, output_line}
use Rattle.warp_watch.proofs.words.add_rows.Goals as goal

pub loop-number-preserved : goal.loop-number-preserved
loop-number-preserved c =
    let rows = c.args.rows.now in
    let item = c.in-Some.ensures.lookup in
    line_more output_lines output_line (λ n. refl) (λ n x xs. refl) rows c.loop-number.number c.loop-number.number c.args.end c.in-Some.out.now
    _ c.loop-number.text.items c.add_output.new.text.items c.loop-number-test.true
    (slice_get_read rows (length rows) c.loop-number.number c.in-Some.out.now refl item.3.0 item.1)
    c.loop-number.invariant c.in_ok-add_output.ensures

pub returns-in_default : goal.returns-in_default
returns-in_default c = let h = c.in_default.ensures.lookup in
    line_none output_lines output_line (λ n. refl) (λ n x xs. refl) c.args.rows.now c.loop-number.number c.loop-number.number c.args.end
    _ c.loop-number.text.items h.3 c.loop-number.invariant

pub returns : goal.returns
returns c =
    line_last output_lines output_line (λ n. refl) (λ n x xs. refl) c.args.rows.now c.loop-number.number c.loop-number.number c.args.end
    _ c.loop-number.text.items c.loop-number-test.false c.loop-number.invariant
