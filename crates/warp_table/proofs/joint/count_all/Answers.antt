-- one origin more is counted, and stays
use Rattle.std.proofs.Common.{◌≡◌, List, get_or, set, ap, sym, ◌∙◌, arith}
use Rattle.std.proofs.lemmas.List.{set-get_or}
use Rattle.warp_table.specs.inner.Heard.{Heard, count_before}
use Rattle.warp_table.specs.inner.Joint.{all_tags}
use Rattle.warp_table.specs.inner.Tally.{tags_of}
use Rattle.warp_table.proofs.InOrder.{count_before-le}
use Rattle.warp_table.proofs.JointLeast.{count_left}
use Rattle.warp_table.proofs.joint.count_all.Goals as goal

pub overflow_add-count : goal.overflow_add-count
overflow_add-count c =
    let hs : List Heard = c.args.announcers.now in
    let l = c.loop-announcer in
    let h : Heard = c.announcer-item.result in
    let is : h ≡ get_or hs l.announcer-index h = c.announcer-item.is ∙ ap (λ (xs : List Heard). get_or xs l.announcer-index h) l.invariant.same in
    let own : c.in_ok-own.own ≡ count_before c.args.tag (tags_of c.args.kind h) = c.in_ok-own.ensures.count ∙ ap (λ (x : Heard). count_before c.args.tag (tags_of c.args.kind x)) (sym c.announcer-item.is) in
    omega (arith, l.invariant.counted, count_left c.args.kind c.args.tag hs l.announcer-index h (omega arith) is, own, count_before-le c.args.tag (all_tags c.args.kind hs), c.requires)

pub returns-in_err-own-clause-same : goal.returns-in_err-own-clause-same
returns-in_err-own-clause-same c =
    let l = c.loop-announcer in
    ap (set l.announcers l.announcer-index) c.count_before.ensures.same
    ∙ set-get_or l.announcers l.announcer-index c.announcer-item.result ∙ l.invariant.same

pub loop-announcer-preserved : goal.loop-announcer-preserved
loop-announcer-preserved c =
    let hs : List Heard = c.args.announcers.now in
    let l = c.loop-announcer in
    let h : Heard = c.announcer-item.result in
    let is : h ≡ get_or hs l.announcer-index h = c.announcer-item.is ∙ ap (λ (xs : List Heard). get_or xs l.announcer-index h) l.invariant.same in
    let own : c.in_ok-own.own ≡ count_before c.args.tag (tags_of c.args.kind h) = c.in_ok-own.ensures.count ∙ ap (λ (x : Heard). count_before c.args.tag (tags_of c.args.kind x)) (sym c.announcer-item.is) in
    record {
      same = ap (set l.announcers l.announcer-index) c.count_before.ensures.same
          ∙ set-get_or l.announcers l.announcer-index h ∙ l.invariant.same;
      counted = omega (arith, l.invariant.counted, count_left c.args.kind c.args.tag hs l.announcer-index h (omega arith) is, own);
    }
