-- What the bytes of a program file are read as, and the faults that reading finds.
use Rattle.std.specs.Prelude.{ℕ, List, length, nat_lt, Option, Some, None, Result, Ok, Err, if◌then◌else◌}
use Rattle.std.specs.Str.{is_utf8}
use Rattle.serde_json.specs.Data.{Data}
use Rattle.serde_json.specs.Read.{read}
use Rattle.warp_prog.specs.File.{File}
use Rattle.warp_prog.specs.Shape.{file_of}
use Rattle.warp_prog.specs.declared.error.LoadError.{LoadError}
use Rattle.warp_prog.specs.declared.error.LoadError.TheVariants.{Json, Shape, Limit}

-- how many bytes a file has at most
abbrev pub longest_file : ℕ
longest_file = 1048576

-- the JSON value that bytes spell, if they are UTF-8 and a JSON text
unfoldable pub json_of : List ℕ → Option Data
json_of bytes = if is_utf8 bytes then read bytes else None

-- the file that a JSON value is
abbrev pub shaped : Option File → Result File LoadError
shaped None = Err Shape
shaped (Some file) = Ok file

-- the file that there is, if there is a JSON value
abbrev pub spelled : Option Data → Result File LoadError
spelled None = Err Json
spelled (Some d) = shaped (file_of d)

-- the file that bytes spell, or the first fault: they are too many, no JSON text, or not as the tables say
unfoldable pub reading_of : List ℕ → Result File LoadError
reading_of bytes = if nat_lt longest_file (length bytes) then Err Limit else spelled (json_of bytes)
