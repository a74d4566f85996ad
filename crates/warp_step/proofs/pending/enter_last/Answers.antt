-- where all entries are ahead, the new one comes in last
use Rattle.std.proofs.Common.{if◌then◌else◌, length, sym, ap, ◌∙◌, w64, arith}
use Rattle.std.specs.List.{insert}
use Rattle.std.proofs.lemmas.Int.{to_z-of_z}
use Rattle.warp_step.proofs.PendingLemmas.{comes_last, entry}
use Rattle.warp_step.proofs.pending.enter_last.Goals as goal

pub returns-then-is_behind-clause-entries : goal.returns-then-is_behind-clause-entries
returns-then-is_behind-clause-entries c =
    let t = c.args.tag in
    let k = c.args.target in
    let ws = c.args.entries.now in
    let last = sym ((comes_last t k ws (length ws) c.requires (c.is_behind.ensures c.if-is_behind.true) (omega arith)).entries c.args.value) in
    c.push.ensures ∙ ap (λ l. if c.push.result then l else ws) (ap (λ v. insert ws (length ws) (entry t k v)) (to_z-of_z w64 c.args.value c.ranges.value) ∙ last)
