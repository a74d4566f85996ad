use Rattle.std.proofs.Common.{◌∙◌, get_or, sym, ap, refl, ℕ, arith}
use Rattle.std.proofs.lemmas.List.Sums.{passes_at_first}
use Rattle.warp_record.specs.Number.{is_space}
use Rattle.warp_record.proofs.WordFronts.{front_within, front_ends}
use Rattle.warp_record.proofs.cut.ends_word.Goals as goal

pub bounds-bytes-count : goal.bounds-bytes-count
bounds-bytes-count c = omega (arith, c.requires, front_within c.args.bytes.now, c.if-count-bytes.false)

pub returns-then-count-bytes : goal.returns-then-count-bytes
returns-then-count-bytes c = (λ yes. omega (arith, c.requires, front_within c.args.bytes.now, c.if-count-bytes.true), λ is. refl)

pub returns : goal.returns
returns c =
    let bytes = c.args.bytes.now in
    let count = c.args.count in (
      λ space. front_ends bytes count c.requires (λ below. space),
      λ is. ap (λ (n : ℕ). is_space (get_or bytes n 0)) is
          ∙ passes_at_first is_space bytes 0 (omega (arith, sym is, c.requires, front_within bytes, c.if-count-bytes.false)),
    )
