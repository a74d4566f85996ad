-- it comes in at its place, and is no less spared than the others
use Rattle.std.proofs.Common.{List, map, ap, sym, subst, ◌∙◌, rules}
use Rattle.std.specs.List.{All, insert}
use Rattle.warp_table.specs.inner.Tally.{IsSpared, place_of, with_more}
use Rattle.warp_table.specs.declared.tally.Tally.{Tally}
use Rattle.warp_table.proofs.AnnouncedBlocks.{all_fit, all_within, pushed_down, within_less}
use Rattle.warp_table.proofs.Members.{All-insert}
use Rattle.warp_table.proofs.announced.Block.insert.Goals as goal

pub push_down-requires : goal.push_down-requires
push_down-requires c = all_fit c.self.inside.spare c.self.inside.more c.self.inside.tallies.items c.self.invariant

pub invariant_of-self : goal.invariant_of-self
invariant_of-self c =
    subst (λ (ts : List Tally). All (IsSpared c.self.inside.spare) ts)
    (sym (pushed_down c.push_down.new.more c.put_at.new.tallies.items c.push_down.ensures.none ∙ c.in_err-put_at.ensures.err ∙ c.push_down.ensures.tallies)) c.self.invariant

pub returns-in_err-put_at-clause-err : goal.returns-in_err-put_at-clause-err
returns-in_err-put_at-clause-err c =
    let same = pushed_down c.push_down.new.more c.put_at.new.tallies.items c.push_down.ensures.none ∙ c.in_err-put_at.ensures.err ∙ c.push_down.ensures.tallies ∙ c.self.view_is in
    search (rules, same)

pub invariant_of-self-2 : goal.invariant_of-self-2
invariant_of-self-2 c =
    let n = c.least-self-inside.result in
    let was : List Tally = map (with_more c.self.inside.more) c.self.inside.tallies.items in
    subst (λ (ts : List Tally). All (IsSpared n) ts)
    (sym (pushed_down c.push_down.new.more c.put_at.new.tallies.items c.push_down.ensures.none ∙ c.in_ok-put_at.ensures.ok ∙ ap (λ ts. insert ts c.place-at.result c.args.tally) c.push_down.ensures.tallies))
    (All-insert (IsSpared n) was c.place-at.result c.args.tally
    (within_less c.spare.result n c.args.tally c.least-self-inside.ensures.events.0 c.least-self-inside.ensures.withdrawn.0 c.spare.ensures)
    (all_within c.self.inside.spare n was c.least-self-inside.ensures.events.1 c.least-self-inside.ensures.withdrawn.1 c.self.invariant))

pub returns-clause-ok : goal.returns-clause-ok
returns-clause-ok c =
    let view = c.push_down.ensures.tallies ∙ c.self.view_is in
    pushed_down c.push_down.new.more c.put_at.new.tallies.items c.push_down.ensures.none ∙ c.in_ok-put_at.ensures.ok
    ∙ ap (λ ts. insert ts c.place-at.result c.args.tally) view
    ∙ ap (λ n. insert c.args.self.now n c.args.tally) (c.place-at.ensures.place ∙ ap (place_of c.args.tally.tag) (c.deref.ensures.value ∙ view))
