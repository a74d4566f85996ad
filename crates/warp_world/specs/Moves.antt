-- The moves of a schedule: their ranges by form, and the one spelling of each.
use Rattle.std.specs.Prelude.{ℕ, ◌<◌, ◌≤◌, List, [], ◌∷◌, codes, decimal}
use Rattle.warp_tag.specs.Limits.{most_records}
use Rattle.warp_tag.specs.declared.form.Form.{Form}
use Rattle.warp_record.specs.Record.{IsRecord, record_words}
use Rattle.warp_world.specs.declared.moves.Move.{Move}
use Rattle.warp_world.specs.declared.moves.Move.TheVariants.{Make, Carry, Collect, Settle, Restart}

-- the most replicas of a world
abbrev pub most_replicas : ℕ
most_replicas = 16

-- the ranges of a move in a form
abbrev pub IsMove : Form → Move → Type 0
IsMove f (Make replica said) = (replica < most_replicas) × IsRecord f said
IsMove f (Carry from place to) = (from < most_replicas) × (place ≤ most_records f) × (to < most_replicas)
IsMove f (Collect replica) = replica < most_replicas
IsMove f (Settle replica) = replica < most_replicas
IsMove f (Restart replica) = replica < most_replicas

-- the words of a move
abbrev pub move_words : Move → List (List ℕ)
move_words (Make replica said) = codes "make" ∷ decimal replica ∷ record_words said
move_words (Carry from place to) = codes "carry" ∷ decimal from ∷ decimal place ∷ decimal to ∷ []
move_words (Collect replica) = codes "collect" ∷ decimal replica ∷ []
move_words (Settle replica) = codes "settle" ∷ decimal replica ∷ []
move_words (Restart replica) = codes "restart" ∷ decimal replica ∷ []
