-- The names of arrays, as the code has them.
use Rattle.std.proofs.Common.{◌≡◌, List, map, sym}
use Rattle.std.proofs.lemmas.Simd.{map-map}
use Rattle.warp_prog.specs.File.{ArrayPart}
use Rattle.warp_prog.specs.View.{array_tree}
use Rattle.warp_prog.specs.declared.file.Array.{Array}

-- they are those of their trees
pub names_seen : (xs : List Array) → map (λ (a : Array). (array_tree a).name) xs ≡ map (λ (a : ArrayPart). a.name) (map array_tree xs)
names_seen xs = sym (map-map (λ (a : ArrayPart). a.name) array_tree xs)
