use Rattle.std.proofs.Common.{◌≡◌, map, string_bytes, take}
use Rattle.warpd.proofs.texts.Given as goal

-- the words so far
abbrev pub invariant-loop-argument : goal.invariant-loop-argument
invariant-loop-argument l =
    map (λ word. word.now) l.line.items ≡ map (λ word. string_bytes word) (take l.argument-index l.arguments)
