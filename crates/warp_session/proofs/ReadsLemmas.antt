-- Lemmas on how many reads there were.
use Rattle.std.proofs.Common.{◌≡◌, ℕ, ◌+◌, Option, Some, None, refl, ap, ◌∙◌, arith}
use Rattle.warp_session.specs.declared.desk_session.SessionEnd.{SessionEnd}
use Rattle.warp_session.specs.Session.{AreReads, ReadsSo}
use Rattle.warp_session.specs.Stream.{reads_more}

-- none yet
pub reads_more-none : (told : Option ℕ) → told ≡ reads_more 0 told
reads_more-none None = refl
reads_more-none (Some reads) = ap Some (omega arith)

-- some, and then some more
pub reads_more-add : (a b : ℕ) (told : Option ℕ) → reads_more b (reads_more a told) ≡ reads_more (a + b) told
reads_more-add a b None = refl
reads_more-add a b (Some reads) = ap Some (omega arith)

-- some, and then one more
pub read_again : (count : ℕ) (told mid after : Option ℕ) → mid ≡ reads_more count told → after ≡ reads_more 1 mid → after ≡ reads_more (count + 1) told
read_again count told mid after first second = second ∙ ap (reads_more 1) first ∙ reads_more-add count 1 told

-- behind the last read a session ended so
pub read_last : (ended : SessionEnd) (count : ℕ) (told mid after : Option ℕ) → mid ≡ reads_more count told → after ≡ reads_more 1 mid
    → AreReads ended (count + 1) → ReadsSo ended told after
read_last ended count told mid after first second are = (count + 1, are, read_again count told mid after first second)
