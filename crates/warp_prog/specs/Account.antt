-- The account of a program, as `warpd check` prints it.
use Rattle.std.specs.Prelude.{◌≡◌, ℕ, List, [], ◌∷◌, ◌++◌, Ok, codes, length, slice_get, if◌then◌else◌}
use Rattle.std.specs.Option.{option_map_or}
use Rattle.warp_prog.specs.declared.limits.work.Work.{Work}
use Rattle.warp_step.specs.Program.{Program}
use Rattle.warp_prog.specs.Canonical.{fingerprint_of}
use Rattle.warp_prog.specs.Explain.{Names, counted, numbers_text, summary_line}
use Rattle.warp_prog.specs.File.{File}
use Rattle.warp_prog.specs.NamesLine.{names_text}
use Rattle.warp_prog.specs.Reading.{reading_of}
use Rattle.warp_prog.specs.Work.{IsWork}
use Rattle.warp_prog.specs.OwnRows.{own_outputs, own_rows}
use Rattle.warp_prog.specs.declared.explain.account.AccountOptions.{AccountOptions}

-- how many rows a program makes by itself, how many outputs each of them has at most, and all together, in a line
abbrev pub rows_line : Program → List ℕ
rows_line P =
    counted (codes "own rows") (own_rows P) ++ counted (codes ", outputs of each at most") (length P.outputs)
    ++ counted (codes ", of all at most") (own_outputs P) ++ 10 ∷ []

-- the fingerprint of a program with this text, in a line
abbrev pub fingerprint_line : List ℕ → List ℕ
fingerprint_line canonical = codes "fingerprint " ++ fingerprint_of canonical ++ 10 ∷ []

-- the names of a program, in a line
abbrev pub names_line : Program → Names → List ℕ
names_line P names = names_text P names ++ 10 ∷ []

-- how much is in a program with these labels, with its numbers and its rows where they are asked for
abbrev pub measures_text : Program → Names → AccountOptions → List ℕ
measures_text P names options =
    summary_line names P ++ (if options.numbers then numbers_text P names else [])
    ++ (if options.rows then rows_line P else [])

-- which program it is, by its text and its labels, where that is asked for
abbrev pub identity_text : Program → Names → List ℕ → AccountOptions → List ℕ
identity_text P names canonical options =
    (if options.fingerprint then fingerprint_line canonical else []) ++ (if options.names then names_line P names else [])

-- which reaction of which reactor is the most work, where there is one
abbrev pub most_part : Names → Work → List ℕ
most_part names w =
    option_map_or (λ reactor. counted (codes ", reaction") w.reaction ++ codes " of " ++ reactor) (slice_get names.reactors w.reactor) []

-- how much work the reactions of a program are, in a line
abbrev pub work_line : Names → Work → List ℕ
work_line names w = counted (codes "work") w.all ++ counted (codes ", of a reaction at most") w.most ++ most_part names w ++ 10 ∷ []

-- what is told of a program with these labels, this work and this text
abbrev pub account_text : Program → Names → Work → List ℕ → AccountOptions → List ℕ
account_text P names work canonical options =
    measures_text P names options ++ (if options.work then work_line names work else []) ++ identity_text P names canonical options

-- bytes are a file whose reactions are so much work
abbrev pub IsWorked : List ℕ → Work → Type 0
IsWorked bytes work = (f : File) × (reading_of bytes ≡ Ok f) × IsWork f work
