use Rattle.std.proofs.Common.{refl, sym, ap, arith, rules}
use Rattle.std.proofs.lemmas.List.{append-nil}
use Rattle.warp_disk.specs.Handing.{room_of, through}
use Rattle.warp_disk.proofs.handing.Handing.hand.Goals as goal

pub returns-in_default : goal.returns-in_default
returns-in_default c = (
  0,
  omega arith,
  sym (append-nil (through c.args.self.now.ring)),
  search rules,
  refl,
  λ few. omega (arith, few, ap room_of c.in_default.is),
)
