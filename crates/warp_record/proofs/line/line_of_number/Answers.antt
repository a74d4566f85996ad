use Rattle.std.proofs.Common.{◌≡◌, codes, arith}
use Rattle.warp_record.proofs.LineForms.{no_breach}
use Rattle.warp_record.proofs.LineWords.{IfNone_then}
use Rattle.warp_record.proofs.line.line_of_number.Goals as goal

pub returns-then-is_keyword-clause-none : goal.returns-then-is_keyword-clause-none
returns-then-is_keyword-clause-none c =
    let key : c.args.word.now ≡ codes "breach" = c.is_keyword.ensures.0 c.if-is_keyword.true in
    IfNone_then c.breach_of.result c.breach_of.ensures.none
    (λ large line fits are. no_breach c.args.form c.args.number line (omega (arith, c.ranges.number.fits)) large fits (rw key at are))
