-- What the numbers of a program stand for, as one line of JSON.
use Rattle.std.specs.Prelude.{ℕ, ◌+◌, List, [], ◌∷◌, ◌++◌, codes, decimal, map}
use Rattle.warp_tag.specs.declared.form.Form.{Form}
use Rattle.warp_tag.specs.declared.form.Form.TheVariants.{One, Two, Three, Four}
use Rattle.warp_step.specs.Program.{Program}
use Rattle.warp_step.specs.Labelled.{ArrayName}
use Rattle.warp_step.specs.declared.parts.ProgramInput.{ProgramInput}
use Rattle.warp_prog.specs.Canonical.{listed, quoted}
use Rattle.warp_prog.specs.Explain.{Names, origin_at}
use Rattle.warp_prog.specs.File.{Word}

-- the number of a form: that of its version
abbrev pub form_number : Form → ℕ
form_number One = 1
form_number Two = 2
form_number Three = 3
form_number Four = 4

-- a program input: its origin, and its label
abbrev pub owned_text : ℕ → Word → List ℕ
owned_text origin label = codes "[" ++ decimal origin ++ codes "," ++ quoted label ++ codes "]"

-- the program inputs with these labels, numbered from this one
abbrev pub owned_texts : List ProgramInput → ℕ → List Word → List (List ℕ)
owned_texts inputs n [] = []
owned_texts inputs n (l ∷ ls) = owned_text (origin_at inputs n) l ∷ owned_texts inputs (n + 1) ls

-- the numbers of a program, with their keys
abbrev pub numbers_part : Program → List ℕ
numbers_part P =
    (codes "{\"form\":" ++ decimal (form_number P.form)) ++ (codes ",\"origins\":" ++ decimal P.origins)
    ++ (codes ",\"stop\":" ++ decimal P.stop)

-- an array: its label, the number of its first cell, and how many it has
abbrev pub array_text : ArrayName → List ℕ
array_text a = codes "[" ++ quoted a.label ++ (codes "," ++ decimal a.first) ++ (codes "," ++ decimal a.count) ++ codes "]"

-- the arrays and the numbers of the hidden variables, with their keys; in the fourth form alone
abbrev pub cells_text : Names → List ℕ
cells_text names =
    (codes ",\"arrays\":" ++ listed (map array_text names.arrays)) ++ (codes ",\"hidden\":" ++ listed (map decimal names.hidden))

abbrev pub cells_of_form : Form → Names → List ℕ
cells_of_form One names = []
cells_of_form Two names = []
cells_of_form Three names = []
cells_of_form Four names = cells_text names

-- the line of a program with these labels, without a line feed: each name stands at the place of its number in its list
abbrev pub names_text : Program → Names → List ℕ
names_text P names =
    numbers_part P ++ (codes ",\"vars\":" ++ listed (map quoted names.variables)) ++ cells_of_form P.form names
    ++ (codes ",\"inputs\":" ++ listed (owned_texts P.inputs 0 names.inputs))
    ++ (codes ",\"outputs\":" ++ listed (map quoted names.outputs)) ++ codes "}"
