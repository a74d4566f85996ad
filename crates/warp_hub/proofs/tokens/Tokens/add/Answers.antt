use Rattle.std.proofs.Common.{refl}
use Rattle.warp_hub.proofs.tokens.Tokens.add.Goals as goal

pub returns-in_default-clause-why : goal.returns-in_default-clause-why
returns-in_default-clause-why c = (refl, λ entry is. c.in_default.ensures.none is.0 entry.rights is.1)

pub returns-then-is_some-clause-why : goal.returns-then-is_some-clause-why
returns-then-is_some-clause-why c = (
  refl,
  (
    record { digest = c.digest-digest.result; rights = c.in-Some.rights },
    (c.in-Some.token.now, c.in-Some.ensures.found, c.digest-digest.ensures),
    cc,
  ),
)
