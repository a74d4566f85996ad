-- What is left tells what all tell.
use Rattle.std.proofs.Common.{◌≡◌, drop, map}
use Rattle.std.specs.Prelude.{string_bytes}
use Rattle.warp_pages.specs.Site.{file_named}
use Rattle.warp_pages.proofs.site.bytes_in.Given as goal

abbrev pub invariant-loop-file : goal.invariant-loop-file
invariant-loop-file l =
    file_named l.name (map (λ file. (string_bytes file.name, file.bytes)) (drop l.file-index l.files))
    ≡ file_named l.name (map (λ file. (string_bytes file.name, file.bytes)) l.files)
