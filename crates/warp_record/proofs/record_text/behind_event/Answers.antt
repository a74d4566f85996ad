use Rattle.std.proofs.Common.{ℕ, List, length, get_or, codes, ap, arith}
use Rattle.warp_record.proofs.RecordTexts.{text_of_first}
use Rattle.warp_record.proofs.record_text.behind_event.Goals as goal
use Rattle.warp_record.proofs.record_text.behind_event.Goals.{else-bytes-gt5-via-then-bytes-gt5+then-are_four+then-bytes-eq116+else-bytes-eq32, else-bytes-gt5-via-then-bytes-gt5+then-are_four+else-bytes-eq116, else-bytes-gt5-via-then-bytes-gt5+else-are_four, else-bytes-gt5-via-else-bytes-gt5}

-- bytes whose words begin with this one have its bytes
pub returns-else-bytes-gt5-clause-none : goal.returns-else-bytes-gt5-clause-none
returns-else-bytes-gt5-clause-none c =
    elim c.else-bytes-gt5.branch [
      | else-bytes-gt5-via-then-bytes-gt5+then-are_four+then-bytes-eq116+else-bytes-eq32 w ↦ λ word words are.
          w.if-bytes-eq32.false (ap (λ (l : List ℕ). get_or l 5 0) (text_of_first c.args.bytes.now (codes "event") word words are))
      | else-bytes-gt5-via-then-bytes-gt5+then-are_four+else-bytes-eq116 w ↦ λ word words are.
          w.if-bytes-eq116.false (ap (λ (l : List ℕ). get_or l 4 0) (text_of_first c.args.bytes.now (codes "event") word words are))
      | else-bytes-gt5-via-then-bytes-gt5+else-are_four w ↦ λ word words are.
          let is = text_of_first c.args.bytes.now (codes "event") word words are in
          let yes = w.are_four.ensures.1 (ap (λ (l : List ℕ). get_or l 0 0) is, ap (λ (l : List ℕ). get_or l 1 0) is, ap (λ (l : List ℕ). get_or l 2 0) is, ap (λ (l : List ℕ). get_or l 3 0) is) in
          let no = w.if-are_four.false in
          cc
      | else-bytes-gt5-via-else-bytes-gt5 w ↦ λ word words are.
          omega (arith, w.if-bytes-gt5.false, ap (λ (l : List ℕ). length l) (text_of_first c.args.bytes.now (codes "event") word words are))
    ]
