use Rattle.std.proofs.Common.{◌++◌, ◌∷◌, [], ap, codes, string_bytes, ◌∙◌}
use Rattle.warp_prog.specs.Canonical.{fingerprint_of}
use Rattle.warp_prog.proofs.CanonicalLemmas.{joined3}
use Rattle.warp_prog.proofs.explain.account.add_fingerprint.Goals as goal

pub returns : goal.returns
returns c =
    let front = string_bytes c.push_str.new.self in
    joined3 (string_bytes c.args.text.now) (codes "fingerprint ") (fingerprint_of c.args.canonical.now) (10 ∷ []) c.in_ok-push_str.ensures.bytes
    (c.in_ok-push_str-2.ensures.bytes ∙ ap (λ x. front ++ x) (c.deref.ensures ∙ c.in_ok-digits.ensures)) c.in_ok-end_line.ensures
