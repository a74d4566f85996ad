use Rattle.std.proofs.Common.{All, take}
use Rattle.warp_hub.specs.Words.{IsTokenByte}
use Rattle.warp_hub.proofs.words.is_token.Given as goal

abbrev pub invariant-loop-byte : goal.invariant-loop-byte
invariant-loop-byte l = All IsTokenByte (take l.byte-index l.bytes)
