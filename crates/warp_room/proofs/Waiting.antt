-- The first of some lines.
use Rattle.std.proofs.Common.{◌≡◌, ◌<◌, List, [], ◌∷◌, length, slice_index_or, sym, ap, arith}
use Rattle.warp_record.specs.declared.line.Line.{Line}

pub head_of : (lines : List Line) (said : Line) → 0 < length lines → said ≡ slice_index_or lines 0 said → (rest : List Line) × (lines ≡ said ∷ rest)
head_of [] said some e = absurd (omega (arith, some))
head_of (line ∷ lines) said some e = (lines, ap (λ l. l ∷ lines) (sym e))
