-- What a program file tells its reader: the names that stand for numbers.
use Rattle.std.specs.Prelude.{◌≡◌, ◌==◌, ◌+◌, ◌-◌, ℕ, unsigned_abs, List, [], ◌∷◌, ◌++◌, Option, Some, None, unwrap_or, Ok}
use Rattle.std.specs.Prelude.{bytes_eq, codes, decimal, length, map, slice_get, if◌then◌else◌}
use Rattle.std.specs.Option.{option_map_or}
use Rattle.warp_step.specs.Program.{Program}
use Rattle.warp_step.specs.declared.parts.ProgramInput.{ProgramInput}
use Rattle.warp_step.specs.Labelled.{ArrayName}
use Rattle.warp_prog.specs.File.{File, ReactorPart, ArrayPart, Word}
use Rattle.warp_prog.specs.Limits.{cells_of}
use Rattle.warp_prog.specs.Reading.{reading_of}
use Rattle.warp_prog.specs.Uses.{action_names, is_among, timer_names, variable_names}
use Rattle.warp_prog.specs.declared.file.CalledPart.{CalledPart}
use Rattle.warp_prog.specs.declared.file.VariablePart.{VariablePart}
use Rattle.warp_prog.specs.declared.file.InputPart.{InputPart}
use Rattle.warp_prog.specs.declared.file.PortName.{PortName}

-- a label: a reactor's name, a dot, and the name of what stands in it
abbrev pub label : Word → Word → Word
label reactor name = reactor ++ 46 ∷ name

-- the label of a port
abbrev pub port_label : PortName → Word
port_label p = label p.reactor p.port

-- what people call the thing of this name, by these; nothing where they call it by its name
abbrev pub called_in : List CalledPart → Word → Option Word
called_in [] name = None
called_in (c ∷ cs) name = if bytes_eq (unwrap_or c.name []) name then Some c.text else called_in cs name

-- what people call a reactor, and the label of what has this name in it
abbrev pub reactor_called : ReactorPart → Word
reactor_called r = unwrap_or (called_in r.called []) r.name

abbrev pub label_of : ReactorPart → Word → Word
label_of r name = label (reactor_called r) (unwrap_or (called_in r.called name) name)

-- the label of a port, in the first of these reactors that has its name
abbrev pub port_called : List ReactorPart → PortName → Word
port_called [] p = []
port_called (r ∷ rs) p = if bytes_eq p.reactor r.name then label_of r p.port else port_called rs p

-- the labels of what stands in a reactor under these names
abbrev pub labelled : (ReactorPart → List Word) → ReactorPart → List Word
labelled its r = map (label_of r) (its r)

-- the labels of what stands in each of these reactors, in the order of the file
abbrev pub labels_in : (ReactorPart → List Word) → List ReactorPart → List Word
labels_in its [] = []
labels_in its (r ∷ rs) = labelled its r ++ labels_in its rs

-- the names of a reactor's ports: its inputs, then its outputs
abbrev pub port_names : ReactorPart → List Word
port_names r = r.inputs ++ r.outputs

-- the numbers of those of these variables that are hidden, of which the first has this number; and of all reactors'
abbrev pub hidden_in : ℕ → List Word → List VariablePart → List ℕ
hidden_in n hidden [] = []
hidden_in n hidden (v ∷ vs) = (if is_among hidden v.name then n ∷ [] else []) ++ hidden_in (n + 1) hidden vs

abbrev pub hidden_from : ℕ → List ReactorPart → List ℕ
hidden_from n [] = []
hidden_from n (r ∷ rs) = hidden_in n r.hidden r.variables ++ hidden_from (n + length r.variables) rs

-- the labels of these arrays of a reactor with their cells, of which the first has this number; and of all reactors'
abbrev pub arrays_in : ℕ → ReactorPart → List ArrayPart → List ArrayName
arrays_in n r [] = []
arrays_in n r (a ∷ rest) =
    (record { label = label_of r a.name; first = n; count = unsigned_abs a.count }) ∷ arrays_in (n + unsigned_abs a.count) r rest

abbrev pub arrays_from : ℕ → List ReactorPart → List ArrayName
arrays_from n [] = []
arrays_from n (r ∷ rs) = arrays_in n r r.arrays ++ arrays_from (n + cells_of r.arrays) rs

-- the labels of a file by number: of its variables that are no cells, which of these are hidden, of its arrays with their cells, of
-- its ports, actions and timers, of the program's inputs and outputs; and the names of its reactors
pub record Names : Type 0 where
  pub reactors : List Word
  pub variables : List Word
  pub hidden : List ℕ
  pub arrays : List ArrayName
  pub ports : List Word
  pub actions : List Word
  pub timers : List Word
  pub inputs : List Word
  pub outputs : List Word

-- the labels of a file
abbrev pub names_of : File → Names
names_of f = record {
  reactors = map reactor_called f.reactors;
  variables = labels_in variable_names f.reactors;
  hidden = hidden_from 0 f.reactors;
  arrays = arrays_from (length (labels_in variable_names f.reactors)) f.reactors;
  ports = labels_in port_names f.reactors;
  actions = labels_in action_names f.reactors;
  timers = labels_in timer_names f.reactors;
  inputs = map (λ (i : InputPart). port_called f.reactors i.port) f.inputs;
  outputs = map (port_called f.reactors) f.outputs;
}

-- bytes are a file with these labels
abbrev pub IsLabelled : List ℕ → Names → Type 0
IsLabelled bytes names = (f : File) × (reading_of bytes ≡ Ok f) × (names ≡ names_of f)

-- a word, a space and a number
abbrev pub counted : List ℕ → ℕ → List ℕ
counted word n = word ++ 32 ∷ decimal n

-- how many cells arrays have, where there are arrays
abbrev pub cells_part : Names → Program → List ℕ
cells_part names P =
    if length names.arrays == 0 then [] else counted (codes ", cells") (length P.variables - length names.variables)

-- what is in a program with these labels, in a line
abbrev pub summary_line : Names → Program → List ℕ
summary_line names P =
    counted (codes "reactors") (length names.reactors) ++ counted (codes ", reactions") (length P.reactions)
    ++ counted (codes ", origins") P.origins ++ counted (codes ", variables") (length names.variables) ++ cells_part names P
    ++ counted (codes ", stop") P.stop ++ 10 ∷ []

-- a line for each of these labels: the word, the number, which counts from this one, and the label
abbrev pub number_lines : List ℕ → ℕ → List Word → List ℕ
number_lines word n [] = []
number_lines word n (l ∷ ls) = (counted word n ++ 32 ∷ l ++ 10 ∷ []) ++ number_lines word (n + 1) ls

-- the origin of the program input of this number
abbrev pub origin_at : List ProgramInput → ℕ → ℕ
origin_at inputs n = option_map_or (λ (i : ProgramInput). i.origin) (slice_get inputs n) 0

-- a line for each of these labels of program inputs, numbered from this one, with its origin
abbrev pub input_lines : List ProgramInput → ℕ → List Word → List ℕ
input_lines inputs n [] = []
input_lines inputs n (l ∷ ls) =
    (counted (codes "input") n ++ 32 ∷ l ++ counted (codes " origin") (origin_at inputs n) ++ 10 ∷ []) ++ input_lines inputs (n + 1) ls

-- a line for each of these arrays: the numbers of its first cell and of its last, and its label
abbrev pub array_lines : List ArrayName → List ℕ
array_lines [] = []
array_lines (a ∷ rest) =
    (counted (codes "vars") a.first ++ counted (codes " to") (a.first + a.count - 1) ++ 32 ∷ a.label ++ 10 ∷ []) ++ array_lines rest

-- the numbers of the variables, the arrays, the program inputs and the program outputs
abbrev pub numbers_text : Program → Names → List ℕ
numbers_text P names =
    number_lines (codes "var") 0 names.variables ++ array_lines names.arrays ++ input_lines P.inputs 0 names.inputs
    ++ number_lines (codes "output") 0 names.outputs
