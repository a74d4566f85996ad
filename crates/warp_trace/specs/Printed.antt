-- What printing a text does to what is written, and to the count of writes that failed.
use Rattle.std.specs.Prelude.{◌≡◌, ℕ, ◌+◌, List, Option, Result, Ok, Err}
use Rattle.std.specs.Io.KnownBytes.{Appends}
use Rattle.warp_tag.specs.Lists.{StartsWith}
use Rattle.warp_table.specs.Records.{Records}
use Rattle.warp_step.specs.Program.{Program}
use Rattle.warp_trace.specs.Labels.{Names}
use Rattle.warp_trace.specs.Trace.{IsTrace}
use Rattle.warp_trace.specs.declared.printer.TraceFault.{TraceFault}
use Rattle.warp_trace.specs.declared.printer.TraceFault.TheVariants.{Output, NoMemory}

-- so many bytes or more never wait: they are printed
abbrev pub piece : ℕ
piece = 65536

-- a front of these bytes was written behind the told ones, and the rest was not
abbrev pub PrintsFront : Option (List ℕ) → Option (List ℕ) → List ℕ → Type 0
PrintsFront written written-after bytes = (front : List ℕ) × StartsWith bytes front × Appends written written-after front

-- The text was printed so: all of it; or a write failed, and a front of it is out; or memory was wanting, and a front of it is out.
abbrev pub PrintsText : {T : Type 0} → Option (List ℕ) → Option (List ℕ) → ℕ → ℕ → List ℕ → Result T TraceFault → Type 0
PrintsText written written-after failures failures-after text (Ok done) = Appends written written-after text × (failures-after ≡ failures)
PrintsText written written-after failures failures-after text (Err Output) =
    PrintsFront written written-after text × (failures-after ≡ failures + 1)
PrintsText written written-after failures failures-after text (Err NoMemory) =
    PrintsFront written written-after text × (failures-after ≡ failures)

-- the trace of the program over a set of records was printed so
abbrev pub PrintsTrace : {T : Type 0} → Names → Program → Records → Option (List ℕ) → Option (List ℕ) → ℕ → ℕ → Result T TraceFault → Type 0
PrintsTrace names P S written written-after failures failures-after result =
    (text : List ℕ) × IsTrace names P S text × PrintsText written written-after failures failures-after text result
