-- Schedule files: what one spells, by form, and at which line it is refused.
use Rattle.std.specs.Prelude.{◌≡◌, ◌≢◌, ℕ, zero, suc, ◌<◌, ◌≤◌, List, [], ◌∷◌, ◌++◌, length, All, codes, decimal, flat_map}
use Rattle.std.specs.List.{join_with_byte}
use Rattle.warp_tag.specs.declared.form.Form.{Form}
use Rattle.warp_world.specs.Moves.{IsMove, most_replicas, move_words}
use Rattle.warp_world.specs.declared.fault.ScheduleFault.{ScheduleFault}
use Rattle.warp_world.specs.declared.fault.ScheduleFault.TheVariants.{Line, NoMemory}
use Rattle.warp_world.specs.declared.moves.Move.{Move}

-- the most bytes of a schedule file
abbrev pub longest_schedule : ℕ
longest_schedule = 1048576

-- so many replicas may be in a schedule
abbrev pub IsCount : ℕ → Type 0
IsCount count = (1 ≤ count) × (count ≤ most_replicas)

-- the words of a number of replicas
abbrev pub count_words : ℕ → List (List ℕ)
count_words count = codes "replicas" ∷ decimal count ∷ []

-- a line of these words, with one space between two, and its line feed
abbrev pub line : List (List ℕ) → List ℕ
line words = join_with_byte 32 words ++ 10 ∷ []

-- the text of a schedule: the number of replicas, and a line for each move
abbrev pub schedule_text : ℕ → List Move → List ℕ
schedule_text count moves = line (count_words count) ++ flat_map (λ move. line (move_words move)) moves

-- the bytes spell this schedule in a form
pub record SpellsSchedule (f : Form) (bytes : List ℕ) (count : ℕ) (moves : List Move) : Type 0 where
  pub size : length bytes ≤ longest_schedule
  pub count_fits : IsCount count
  pub moves_fit : All (IsMove f) moves
  pub text : bytes ≡ schedule_text count moves

-- The bytes are refused at this line in a form, from 1: the lines before it are those of a schedule, and then comes something that
-- begins with no line of a move, or in the first place with no number of replicas. Bytes that are too many are refused at line 0.
abbrev pub IsRefusedAt : Form → List ℕ → ℕ → Type 0
IsRefusedAt f bytes zero = longest_schedule < length bytes
IsRefusedAt f bytes (suc zero) =
    (length bytes ≤ longest_schedule) × ((count : ℕ) (rest : List ℕ) → IsCount count → bytes ≢ schedule_text count [] ++ rest)
IsRefusedAt f bytes (suc (suc number)) =
    (length bytes ≤ longest_schedule)
    × ((count : ℕ) × (moves : List Move) × (rest : List ℕ) × IsCount count × All (IsMove f) moves × (length moves ≡ number)
    × (bytes ≡ schedule_text count moves ++ rest) × (rest ≢ [])
    × ((move : Move) (after : List ℕ) → IsMove f move → rest ≢ line (move_words move) ++ after))

-- Why a schedule is refused in a form: at the line that is named there; or memory was wanting, which is never said of bytes that are too many.
abbrev pub IsFault : Form → List ℕ → ScheduleFault → Type 0
IsFault f bytes (Line number) = IsRefusedAt f bytes number
IsFault f bytes NoMemory = length bytes ≤ longest_schedule
