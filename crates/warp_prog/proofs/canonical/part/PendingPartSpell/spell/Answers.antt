use Rattle.std.proofs.Common.{◌++◌, codes, string_bytes}
use Rattle.std.specs.Fmt.{signed_decimal}
use Rattle.warp_prog.specs.Canonical.{port_text}
use Rattle.warp_prog.proofs.CanonicalLemmas.{joined5}
use Rattle.warp_prog.proofs.canonical.part.PendingPartSpell.spell.Goals as goal

pub returns : goal.returns
returns c =
    let p = c.args.self.now in
    joined5 (string_bytes c.args.text.now) (codes "[" ++ signed_decimal p.time ++ (codes "," ++ signed_decimal p.microstep)) (codes ",") (port_text p.target)
    (codes "," ++ signed_decimal p.value) (codes "]")
    c.in_ok-open_pending.ensures c.in_ok-push_str.ensures.bytes c.in_ok-spell.ensures c.in_ok-spell_value.ensures c.in_ok-push_str-2.ensures.bytes
