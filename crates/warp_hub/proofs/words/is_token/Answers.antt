use Rattle.std.proofs.Common.{◌≡◌, List, ℕ, All, take, take_all, subst, refl, arith}
use Rattle.std.proofs.lemmas.Bool.Decides.{nat_tests}
use Rattle.std.proofs.lemmas.List.Elements.{All-more}
use Rattle.warp_hub.specs.Words.{IsToken, IsTokenByte}
use Rattle.warp_hub.proofs.words.is_token.Goals as goal

pub loop-byte-preserved : goal.loop-byte-preserved
loop-byte-preserved c =
    All-more IsTokenByte c.args.bytes.now c.loop-byte.byte-index 0 c.loop-byte-test.true c.loop-byte.invariant
    (c.if-byte-lt33.false, c.if-byte-gt126.false)

pub returns : goal.returns
returns c =
    let bytes : List ℕ = c.args.bytes.now in
    let whole : take c.loop-byte.byte-index bytes ≡ bytes = take_all c.loop-byte.byte-index bytes c.loop-byte-test.false in
    let token : IsToken bytes = record {
      some = grind (arith, nat_tests, c.is_empty.ensures, c.if-is_empty.false);
      most = c.if-bytes-gt-MOST_TOKEN.false;
      each = subst (λ (b : List ℕ). All IsTokenByte b) whole c.loop-byte.invariant;
    } in
    (λ _. token, λ _. refl)
