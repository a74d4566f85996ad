-- Which origins a host keeps.
use Rattle.std.specs.Prelude.{ℕ, Bool, true, false, slice_index_or}
use Rattle.warp_keep.specs.declared.keeping.Keeping.{Keeping}
use Rattle.warp_keep.specs.declared.keeping.Keeping.TheVariants as keeping

-- whether the origin is one of them
abbrev pub keeps : Keeping → ℕ → Bool
keeps keeping.Nothing origin = false
keeps (keeping.Origins origins) origin = slice_index_or origins origin false
keeps keeping.All origin = true
