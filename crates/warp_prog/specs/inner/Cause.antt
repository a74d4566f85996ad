-- What a file that was read is refused for, and what of it is known before its reactions are ordered: for the proof of
-- loading alone.
use Rattle.std.specs.Prelude.{◌≡◌, ◌⊎◌, pos, false, Some}
use Rattle.warp_prog.specs.File.{File}
use Rattle.warp_prog.specs.Refusal.{number_of}
use Rattle.warp_prog.specs.Exceeds.{exceeds_limits}
use Rattle.warp_prog.specs.Version.{first_version, second_version, third_version, last_version}
use Rattle.warp_prog.specs.Names.{names_unknown}
use Rattle.warp_prog.specs.Twice.{names_twice}
use Rattle.warp_prog.specs.Load.{IsFirst}
use Rattle.warp_prog.specs.declared.error.LoadError.{LoadError}
use Rattle.warp_prog.specs.declared.error.LoadError.TheVariants.{Backward, Causality, Memory}

-- it has this fault first, and is of a version that has it; or memory was wanting
abbrev pub IsCause : File → LoadError → Type 0
IsCause f Memory = Unit {0}
IsCause f Backward = IsFirst (Some f) (number_of Backward) × (f.version ≡ pos first_version)
IsCause f Causality =
    IsFirst (Some f) (number_of Causality)
    × ((f.version ≡ pos second_version) ⊎ ((f.version ≡ pos third_version) ⊎ (f.version ≡ pos last_version)))
IsCause f e = IsFirst (Some f) (number_of e)

-- it has none of the faults 3 to 5
pub record IsNamed (f : File) : Type 0 where
  pub limits : exceeds_limits f ≡ false
  pub names : names_unknown f ≡ false
  pub twice : names_twice f ≡ false
