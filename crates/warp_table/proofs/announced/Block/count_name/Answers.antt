-- counted once for all of them, it changes no verdict
use Rattle.std.proofs.Common.{◌+◌, ◌<◌, ◌^◌, List, fold, length, map, ap, sym, subst, ◌∙◌, arith}
use Rattle.std.specs.List.{All}
use Rattle.warp_table.specs.inner.Tally.{IsSpared, before_of, less_one, number_of, with_more, with_name, with_tally}
use Rattle.warp_table.specs.declared.tally.Numbers.{Numbers}
use Rattle.warp_table.specs.declared.tally.Tally.{Tally}
use Rattle.warp_table.proofs.AnnouncedBlocks.{all_next, beyond_all, counted_all, fold_stays, one_added, one_fits}
use Rattle.warp_table.proofs.announced.Block.count_name.Goals as goal

pub add-requires : goal.add-requires
add-requires c =
    one_fits c.args.kind c.self.inside.more c.self.inside.tallies.items (subst (λ (ts : List Tally). 0 < length ts) (sym c.self.view_is) c.requires.some)
    (subst (λ (ts : List Tally). All (λ t. before_of c.args.kind t + 1 < 2 ^ 64) ts) (sym c.self.view_is) c.requires.room)

pub invariant_of-self : goal.invariant_of-self
invariant_of-self c =
    let is = c.self.inside in
    let was : List Tally = map (with_more is.more) is.tallies.items in
    let some : 0 < number_of c.args.kind is.spare = omega (arith, c.of.ensures, c.if-of-gt0.true) in
    let room : All (λ t. before_of c.args.kind t + 1 < 2 ^ 64) was = subst (λ (ts : List Tally). All (λ t. before_of c.args.kind t + 1 < 2 ^ 64) ts) (sym c.self.view_is) c.requires.room in
    subst (λ (n : Numbers). All (IsSpared n) (map (with_more c.add.new.self) is.tallies.items)) (sym c.take.ensures)
    (subst (λ (ts : List Tally). All (IsSpared (less_one c.args.kind is.spare)) ts) (sym (ap (λ (m : Numbers). map (with_more m) is.tallies.items) c.add.ensures ∙ one_added c.args.kind is.more is.tallies.items))
    (all_next c.args.kind is.spare was some room c.self.invariant))

pub returns-then-of-gt0-clause-tallies : goal.returns-then-of-gt0-clause-tallies
returns-then-of-gt0-clause-tallies c =
    let is = c.self.inside in
    ap (λ (m : Numbers). map (with_more m) is.tallies.items) c.add.ensures ∙ one_added c.args.kind is.more is.tallies.items
    ∙ ap (map (with_name c.args.kind)) c.self.view_is ∙ sym (counted_all c.args.kind c.args.tag c.args.self.now (c.is_beyond.ensures c.if-is_beyond.true))

pub returns-then-of-gt0-clause-judged : goal.returns-then-of-gt0-clause-judged
returns-then-of-gt0-clause-judged c =
    let is = c.self.inside in
    let some : 0 < number_of c.args.kind is.spare = omega (arith, c.of.ensures, c.if-of-gt0.true) in
    let within = subst (λ (ts : List Tally). All (IsSpared is.spare) ts) c.self.view_is c.self.invariant in
    sym (ap (λ ts. fold with_tally c.args.verdict.now (map (with_name c.args.kind) ts)) (beyond_all c.args.tag c.args.self.now (c.is_beyond.ensures c.if-is_beyond.true))
    ∙ fold_stays c.args.kind is.spare c.args.verdict.now c.args.self.now some within c.requires.judged)
