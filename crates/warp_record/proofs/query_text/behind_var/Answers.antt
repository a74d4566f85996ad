use Rattle.std.proofs.Common.{ℕ, List, length, get_or, codes, ap, arith}
use Rattle.warp_record.proofs.RecordTexts.{text_of_first}
use Rattle.warp_record.proofs.query_text.behind_var.Goals as goal
use Rattle.warp_record.proofs.query_text.behind_var.Goals.{else-bytes-gt3-via-then-bytes-gt3+else-are_four, else-bytes-gt3-via-else-bytes-gt3}

-- bytes whose words begin with this one have its bytes
pub returns-else-bytes-gt3-clause-none : goal.returns-else-bytes-gt3-clause-none
returns-else-bytes-gt3-clause-none c =
    elim c.else-bytes-gt3.branch [
      | else-bytes-gt3-via-then-bytes-gt3+else-are_four w ↦ λ word words are.
          let is = text_of_first c.args.bytes.now (codes "var") word words are in
          let yes = w.are_four.ensures.1 (ap (λ (l : List ℕ). get_or l 0 0) is, ap (λ (l : List ℕ). get_or l 1 0) is, ap (λ (l : List ℕ). get_or l 2 0) is, ap (λ (l : List ℕ). get_or l 3 0) is) in
          let no = w.if-are_four.false in
          cc
      | else-bytes-gt3-via-else-bytes-gt3 w ↦ λ word words are.
          omega (arith, w.if-bytes-gt3.false, ap (λ (l : List ℕ). length l) (text_of_first c.args.bytes.now (codes "var") word words are))
    ]
