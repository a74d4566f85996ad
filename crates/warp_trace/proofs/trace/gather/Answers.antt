-- one more entry has the tag, and gives what it gives
use Rattle.std.proofs.Common.{rules, arith, ◌≡◌, ◌∙◌, ◌<◌, ◌∷◌, IsTrue, true, false, ap, drop, drop-cons, get_or, length, suc, subst, sym}
use Rattle.std.specs.List.{list_all}
use Rattle.std.proofs.lemmas.List.{drop_all, take_all}
use Rattle.warp_line.specs.inner.Replay.{HasOtherHead}
use Rattle.std.proofs.lemmas.List.Folds.{list_all_more}
use Rattle.std.proofs.lemmas.Bool.Decides.{nat_tests}
use Rattle.warp_tag.specs.Moment.{is_same}
use Rattle.warp_tag.specs.declared.entry.Entry.{Entry}
use Rattle.warp_line.proofs.LiveLemmas.{given_more}
use Rattle.warp_trace.proofs.trace.gather.Goals as goal

pub loop-count-preserved : goal.loop-count-preserved
loop-count-preserved c =
    let xs = c.args.rest.now in
    let i = c.loop-count.count in
    let d = c.index-rest-count.result in
    let lt : i < length xs = omega arith in
    let given = given_more xs i d lt in
    let here = list_all_more (λ (e : Entry). is_same c.args.tag e.tag) xs i d lt in
    let read : get_or xs i d ≡ d = sym c.index-rest-count.is in
    let same : is_same c.args.tag d.tag ≡ true = search rules in
    record {
      given = search rules;
      here = grind (arith, nat_tests);
    }

pub returns-then-not-is_same-clause-other : goal.returns-then-not-is_same-clause-other
returns-then-not-is_same-clause-other c =
    let xs = c.args.rest.now in
    let i = c.loop-count.count in
    let d = c.index-rest-count.result in
    let read : get_or xs i d ≡ d = sym c.index-rest-count.is in
    let differs : is_same c.args.tag d.tag ≡ false = search rules in
    subst (HasOtherHead c.args.tag) (sym (drop-cons xs i d (omega arith) ∙ ap (λ e. e ∷ drop (suc i) xs) read)) differs

pub returns-clause-here : goal.returns-clause-here
returns-clause-here c =
    let xs = c.args.rest.now in
    let all = take_all c.loop-count.count xs (omega arith) ∙ sym (take_all (length xs) xs (omega arith)) in
    subst (λ es. IsTrue (list_all (λ (e : Entry). is_same c.args.tag e.tag) es)) all c.loop-count.invariant.here

pub returns-clause-other : goal.returns-clause-other
returns-clause-other c =
    let xs = c.args.rest.now in
    subst (HasOtherHead c.args.tag) (sym (drop_all (length xs) xs (omega arith))) tt
