-- Whose words begin with the first word of a query for a variable or an output.
use Rattle.std.proofs.Common.{◌≡◌, ℕ, ◌≤◌, List, [], ◌∷◌, length, get_or, codes, decimal, ap, arith}
use Rattle.warp_tag.specs.Limits.{last_number}
use Rattle.warp_tag.specs.declared.form.Form.{Form}
use Rattle.warp_record.specs.declared.line.Line.{Line}
use Rattle.warp_record.specs.declared.line.Line.TheVariants as line
use Rattle.warp_record.specs.declared.line.Look.TheVariants as look
use Rattle.warp_record.specs.declared.line.Query.TheVariants as query
use Rattle.warp_record.specs.declared.record.Record.TheVariants.{Event, Withdraw, Announce, Joint}
use Rattle.warp_record.specs.Line.{IsLine, line_words}

-- the first byte of the first word
abbrev first_byte : List (List ℕ) → ℕ
first_byte words = get_or (get_or words 0 []) 0 0

-- the length of the first word
abbrev first_length : List (List ℕ) → ℕ
first_length words = length (get_or words 0 [])

-- a line whose first word is `var` asks for a variable
pub index_of_var : (f : Form) (words : List (List ℕ)) (said : Line) → IsLine f said → codes "var" ∷ words ≡ line_words said
    → (n : ℕ) × (n ≤ last_number) × (words ≡ decimal n ∷ [])
index_of_var f words (line.Ask (query.Var n)) fits are = (n, fits, cc)
index_of_var f words (line.Put (Event origin tag input value)) fits are = absurd (omega (arith, ap first_byte are))
index_of_var f words (line.Put (Withdraw origin tag)) fits are = absurd (omega (arith, ap first_byte are))
index_of_var f words (line.Put (Announce origin tag events withdrawn)) fits are = absurd (omega (arith, ap first_byte are))
index_of_var f words (line.Put (Joint tag events withdrawn)) fits are = absurd (omega (arith, ap first_byte are))
index_of_var f words (line.Ask query.Outputs) fits are = absurd (omega (arith, ap first_byte are))
index_of_var f words (line.Ask (query.Output n)) fits are = absurd (omega (arith, ap first_byte are))
index_of_var f words (line.Ask query.Horizon) fits are = absurd (omega (arith, ap first_byte are))
index_of_var f words (line.Ask query.Released) fits are = absurd (omega (arith, ap first_byte are))
index_of_var f words (line.Ask query.Lost) fits are = absurd (omega (arith, ap first_byte are))
index_of_var f words (line.Ask (query.Breach n)) fits are = absurd (omega (arith, ap first_byte are))
index_of_var f words (line.Ask query.JointBreach) fits are = absurd (omega (arith, ap first_byte are))
index_of_var f words (line.Ask (query.Log n)) fits are = absurd (omega (arith, ap first_byte are))
index_of_var f words line.Collect fits are = absurd (omega (arith, ap first_byte are))
index_of_var f words (line.Look look.Board) fits are = absurd (omega (arith, ap first_byte are))
index_of_var f words (line.Look (look.Row n)) fits are = absurd (omega (arith, ap first_byte are))

-- a line whose first word is `output` asks for an output
pub index_of_output : (f : Form) (words : List (List ℕ)) (said : Line) → IsLine f said → codes "output" ∷ words ≡ line_words said
    → (n : ℕ) × (n ≤ last_number) × (words ≡ decimal n ∷ [])
index_of_output f words (line.Ask (query.Output n)) fits are = (n, fits, cc)
index_of_output f words (line.Put (Event origin tag input value)) fits are = absurd (omega (arith, ap first_byte are))
index_of_output f words (line.Put (Withdraw origin tag)) fits are = absurd (omega (arith, ap first_byte are))
index_of_output f words (line.Put (Announce origin tag events withdrawn)) fits are = absurd (omega (arith, ap first_byte are))
index_of_output f words (line.Put (Joint tag events withdrawn)) fits are = absurd (omega (arith, ap first_byte are))
index_of_output f words (line.Ask query.Outputs) fits are = absurd (omega (arith, ap first_length are))
index_of_output f words (line.Ask (query.Var n)) fits are = absurd (omega (arith, ap first_byte are))
index_of_output f words (line.Ask query.Horizon) fits are = absurd (omega (arith, ap first_byte are))
index_of_output f words (line.Ask query.Released) fits are = absurd (omega (arith, ap first_byte are))
index_of_output f words (line.Ask query.Lost) fits are = absurd (omega (arith, ap first_byte are))
index_of_output f words (line.Ask (query.Breach n)) fits are = absurd (omega (arith, ap first_byte are))
index_of_output f words (line.Ask query.JointBreach) fits are = absurd (omega (arith, ap first_byte are))
index_of_output f words (line.Ask (query.Log n)) fits are = absurd (omega (arith, ap first_byte are))
index_of_output f words line.Collect fits are = absurd (omega (arith, ap first_byte are))
index_of_output f words (line.Look look.Board) fits are = absurd (omega (arith, ap first_byte are))
index_of_output f words (line.Look (look.Row n)) fits are = absurd (omega (arith, ap first_byte are))
