use Rattle.std.proofs.Common.{◌++◌, ap, codes, map, string_bytes}
use Rattle.std.specs.Fmt.{signed_decimal}
use Rattle.warp_prog.specs.Canonical.{listed, pending_text}
use Rattle.warp_prog.proofs.CanonicalLemmas.{joined4, relisted}
use Rattle.warp_prog.proofs.canonical.spell_beginning.Goals as goal

pub returns : goal.returns
returns c =
    let b = c.args.begin.now in
    joined4 (string_bytes c.args.text.now) (codes ",\"begin\":{\"pending\":" ++ listed (map pending_text b.pending.items))
    (codes ",\"lost\":" ++ signed_decimal b.lost) (codes ",\"since\":" ++ signed_decimal b.since) (codes "}")
    (relisted (string_bytes c.args.text.now) (codes ",\"begin\":{\"pending\":") (ap (map pending_text) c.deref.ensures.value) c.in_ok-spell_list.ensures)
    c.in_ok-spell_lost.ensures c.in_ok-spell_since.ensures c.in_ok-push_str.ensures.bytes
