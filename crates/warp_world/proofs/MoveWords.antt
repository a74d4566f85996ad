-- The words of a move and of a number of replicas: they are few, and they are plain.
use Rattle.std.proofs.Common.{◌≡◌, ℕ, ◌<◌, ◌≤◌, true, [], ◌∷◌, length, decimal, refl, arith}
use Rattle.warp_tag.specs.declared.form.Form.{Form}
use Rattle.warp_tag.proofs.Forms.{records_widen}
use Rattle.warp_record.specs.Record.{record_words}
use Rattle.warp_record.proofs.LineWords.{words_of_record}
use Rattle.warp_record.proofs.Wider.{record_widens}
use Rattle.warp_record.proofs.PlainWords.{are_plain, plain_number, plain_record}
use Rattle.warp_world.specs.Moves.{IsMove, move_words}
use Rattle.warp_world.specs.Schedule.{IsCount, count_words}
use Rattle.warp_world.specs.declared.moves.Move.{Move}
use Rattle.warp_world.specs.declared.moves.Move.TheVariants.{Make, Carry, Collect, Settle, Restart}

-- how many words a move has
pub few_words : (next : Move) → (0 < length (move_words next)) × (length (move_words next) ≤ 8)
few_words (Make replica said) = (omega arith, omega (arith, (words_of_record said).1))
few_words (Carry from place to) = (omega arith, omega arith)
few_words (Collect replica) = (omega arith, omega arith)
few_words (Settle replica) = (omega arith, omega arith)
few_words (Restart replica) = (omega arith, omega arith)

-- the words of a move are plain
pub plain_move : (f : Form) (next : Move) → IsMove f next → are_plain (move_words next) ≡ true
plain_move f (Make replica said) fits = plain_number replica (record_words said) (omega (arith, fits.0)) (plain_record said (record_widens f said fits.1))
plain_move f (Carry from place to) fits =
    let within = records_widen f in
    plain_number from (decimal place ∷ decimal to ∷ []) (omega (arith, fits.0))
    (plain_number place (decimal to ∷ []) (omega (arith, fits.1, within)) (plain_number to [] (omega (arith, fits.2)) refl))
plain_move f (Collect replica) fits = plain_number replica [] (omega (arith, fits)) refl
plain_move f (Settle replica) fits = plain_number replica [] (omega (arith, fits)) refl
plain_move f (Restart replica) fits = plain_number replica [] (omega (arith, fits)) refl

-- the words of a number of replicas are plain
pub plain_count : (count : ℕ) → IsCount count → are_plain (count_words count) ≡ true
plain_count count fits = plain_number count [] (omega (arith, fits.1)) refl
