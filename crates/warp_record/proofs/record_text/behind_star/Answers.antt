use Rattle.std.proofs.Common.{ℕ, List, length, get_or, codes, ap, arith}
use Rattle.warp_record.proofs.RecordTexts.{text_of_first}
use Rattle.warp_record.proofs.record_text.behind_star.Goals as goal
use Rattle.warp_record.proofs.record_text.behind_star.Goals.{else-bytes-gt1-via-then-bytes-gt1+then-bytes-eq42+else-bytes-eq32, else-bytes-gt1-via-then-bytes-gt1+else-bytes-eq42, else-bytes-gt1-via-else-bytes-gt1}

-- bytes whose words begin with this one have its byte and a space
pub returns-else-bytes-gt1-clause-none : goal.returns-else-bytes-gt1-clause-none
returns-else-bytes-gt1-clause-none c =
    elim c.else-bytes-gt1.branch [
      | else-bytes-gt1-via-then-bytes-gt1+then-bytes-eq42+else-bytes-eq32 w ↦ λ word words are.
          let is = text_of_first c.args.bytes.now (codes "*") word words are in
          w.if-bytes-eq32.false (ap (λ (l : List ℕ). get_or l 1 0) is)
      | else-bytes-gt1-via-then-bytes-gt1+else-bytes-eq42 w ↦ λ word words are.
          let is = text_of_first c.args.bytes.now (codes "*") word words are in
          w.if-bytes-eq42.false (ap (λ (l : List ℕ). get_or l 0 0) is)
      | else-bytes-gt1-via-else-bytes-gt1 w ↦ λ word words are.
          omega (arith, w.if-bytes-gt1.false, ap (λ (l : List ℕ). length l) (text_of_first c.args.bytes.now (codes "*") word words are))
    ]
