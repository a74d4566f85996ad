-- What was found, or else what is left gives, is what all give.
use Rattle.std.proofs.Common.{◌≡◌, drop}
use Rattle.warp_hub.specs.Tokens.{or_else, rights_of}
use Rattle.warp_hub.proofs.tokens.find_digest.Given as goal

abbrev pub invariant-loop-entry : goal.invariant-loop-entry
invariant-loop-entry l = or_else l.found (rights_of (drop l.entry-index l.entries) l.digest) ≡ rights_of l.entries l.digest
