-- the text so far, and then the parts that are left, is the text before and all parts
use Rattle.std.proofs.Common.{◌≡◌, ◌++◌, drop, map, string_bytes}
use Rattle.warp_prog.specs.Canonical.{separated}
use Rattle.warp_prog.proofs.canonical.list.spell_each.Given as goal

abbrev pub invariant-loop-i : goal.invariant-loop-i
invariant-loop-i g l =
    string_bytes l.text ++ separated l.i (map g.T.Spell.spelled (drop l.i l.parts)) ≡ string_bytes l.fn.text ++ separated 0 (map g.T.Spell.spelled l.parts)
