-- Lines that are put to a desk together.
use Rattle.std.specs.Prelude.{◌≡◌, ℕ, List, [], ◌∷◌}
use Rattle.warp_record.specs.declared.line.Line.{Line}
use Rattle.warp_record.specs.declared.reply.Reply.{Reply}

-- how many lines a desk is asked at once, at most
abbrev pub most_lines : ℕ
most_lines = 64

-- the lines may get these replies, one after another, each in the state that the one before left
abbrev pub GivesEach : {S : Type 0} → (S → Line → Reply → S → Type 0) → S → List Line → List Reply → S → Type 0
GivesEach gives s [] [] s' = s' ≡ s
GivesEach {S} gives s (line ∷ lines) (reply ∷ replies) s' =
    (mid : S) × gives s line reply mid × GivesEach gives mid lines replies s'
GivesEach gives s [] (reply ∷ replies) s' = ⊥
GivesEach gives s (line ∷ lines) [] s' = ⊥
