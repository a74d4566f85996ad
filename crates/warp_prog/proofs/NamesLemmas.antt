-- The parts of a line of names, one behind another.
use Rattle.std.proofs.Common.{◌≡◌, ℕ, List, ◌++◌}
use Rattle.warp_prog.proofs.CanonicalLemmas.{joined, joined5}

-- six texts, one behind another
pub joined_six : (t a b c d e f : List ℕ) {t1 t2 t3 t4 t5 t6 : List ℕ} → t1 ≡ t ++ a → t2 ≡ t1 ++ b → t3 ≡ t2 ++ c → t4 ≡ t3 ++ d → t5 ≡ t4 ++ e → t6 ≡ t5 ++ f
    → t6 ≡ t ++ (((((a ++ b) ++ c) ++ d) ++ e) ++ f)
joined_six t a b c d e f p q r u v w = joined t ((((a ++ b) ++ c) ++ d) ++ e) f (joined5 t a b c d e p q r u v) w
