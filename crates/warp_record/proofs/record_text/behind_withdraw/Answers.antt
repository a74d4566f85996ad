use Rattle.std.proofs.Common.{ℕ, List, length, get_or, codes, ap, arith}
use Rattle.warp_record.proofs.RecordTexts.{text_of_first}
use Rattle.warp_record.proofs.record_text.behind_withdraw.Goals as goal
use Rattle.warp_record.proofs.record_text.behind_withdraw.Goals.{else-bytes-gt8-via-then-bytes-gt8+then-are_four+then-are_four-2+else-bytes-eq32, else-bytes-gt8-via-then-bytes-gt8+then-are_four+else-are_four-2, else-bytes-gt8-via-then-bytes-gt8+else-are_four, else-bytes-gt8-via-else-bytes-gt8}

-- bytes whose words begin with this one have its bytes
pub returns-else-bytes-gt8-clause-none : goal.returns-else-bytes-gt8-clause-none
returns-else-bytes-gt8-clause-none c =
    elim c.else-bytes-gt8.branch [
      | else-bytes-gt8-via-then-bytes-gt8+then-are_four+then-are_four-2+else-bytes-eq32 w ↦ λ word words are.
          let is = text_of_first c.args.bytes.now (codes "withdraw") word words are in
          w.if-bytes-eq32.false (ap (λ (l : List ℕ). get_or l 8 0) is)
      | else-bytes-gt8-via-then-bytes-gt8+then-are_four+else-are_four-2 w ↦ λ word words are.
          let is = text_of_first c.args.bytes.now (codes "withdraw") word words are in
          let yes = w.are_four-then-are_four.ensures.1 (ap (λ (l : List ℕ). get_or l 4 0) is, ap (λ (l : List ℕ). get_or l 5 0) is, ap (λ (l : List ℕ). get_or l 6 0) is, ap (λ (l : List ℕ). get_or l 7 0) is) in
          let no = w.if-are_four-2.false in
          cc
      | else-bytes-gt8-via-then-bytes-gt8+else-are_four w ↦ λ word words are.
          let is = text_of_first c.args.bytes.now (codes "withdraw") word words are in
          let yes = w.are_four.ensures.1 (ap (λ (l : List ℕ). get_or l 0 0) is, ap (λ (l : List ℕ). get_or l 1 0) is, ap (λ (l : List ℕ). get_or l 2 0) is, ap (λ (l : List ℕ). get_or l 3 0) is) in
          let no = w.if-are_four.false in
          cc
      | else-bytes-gt8-via-else-bytes-gt8 w ↦ λ word words are.
          omega (arith, w.if-bytes-gt8.false, ap (λ (l : List ℕ). length l) (text_of_first c.args.bytes.now (codes "withdraw") word words are))
    ]
