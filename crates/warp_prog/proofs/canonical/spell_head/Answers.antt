use Rattle.std.proofs.Common.{◌++◌, codes, string_bytes}
use Rattle.std.specs.Fmt.{signed_decimal}
use Rattle.warp_prog.proofs.CanonicalLemmas.{joined3}
use Rattle.warp_prog.proofs.canonical.spell_head.Goals as goal

pub returns : goal.returns
returns c =
    let f = c.args.file.now in
    joined3 (string_bytes c.args.text.now) (codes "{\"version\":" ++ signed_decimal f.version) (codes ",\"stop\":" ++ signed_decimal f.stop)
    (codes ",\"origins\":" ++ signed_decimal f.origins) c.in_ok-spell_version.ensures c.in_ok-spell_stop.ensures c.in_ok-spell_origins.ensures
