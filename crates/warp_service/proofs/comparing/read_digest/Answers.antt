use Rattle.std.proofs.Common.{ℕ, Bor, List, map, ◌∙◌, ap, sym}
use Rattle.std.specs.List.{join_with_byte}
use Rattle.std.proofs.lemmas.Option.{IfSome_then}
use Rattle.warp_record.proofs.WordCuts.{joined_words}
use Rattle.warp_service.proofs.comparing.read_digest.Goals as goal

pub returns : goal.returns
returns c =
    let are = ap (map (λ (text : Bor (List ℕ)). text.now)) c.deref.ensures.0 ∙ c.in_ok-words.ensures.found in
    IfSome_then c.digest_in.result c.digest_in.ensures
    (λ told is. (is.0, joined_words c.args.line.now ∙ ap (join_with_byte 32) (sym are ∙ is.1)))
