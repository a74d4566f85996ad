use Rattle.std.proofs.Common.{◌≡◌, ◌-◌, ◌<◌, false, true, arith, length, subst, sym, ◌∙◌, get_or}
use Rattle.std.specs.List.{prefix_len}
use Rattle.warp_tag.specs.declared.entry.Entry.{Entry}
use Rattle.warp_tag.proofs.Names.{ahead}
use Rattle.warp_tag.proofs.Tables.{stops, passes_front, front_le}
use Rattle.warp_line.proofs.sorted_names.place.Goals as goal

pub loop-at-init : goal.loop-at-init
loop-at-init c = record { front = front_le c.args.origin c.args.tag c.args.entries.now; within = omega arith }

pub loop-at-preserved : goal.loop-at-preserved
loop-at-preserved c = record {
  front = (
      let within : c.loop-at.at - 1 < length c.args.entries.now = omega arith in
      let read : ahead c.args.origin c.args.tag c.index-entries-at.result ≡ false = sym c.comes_before.ensures ∙ c.if-not-comes_before.true in
      let there : ahead c.args.origin c.args.tag (get_or c.args.entries.now (c.loop-at.at - 1) c.index-entries-at.result) ≡ false =
      subst (λ (e : Entry). ahead c.args.origin c.args.tag e ≡ false) c.index-entries-at.is read in
      stops c.args.origin c.args.tag c.args.entries.now (c.loop-at.at - 1) c.index-entries-at.result within there
      );
  within = omega arith;
}

pub returns-else-not-comes_before-clause-place : goal.returns-else-not-comes_before-clause-place
returns-else-not-comes_before-clause-place c =
    let within : c.loop-at.at - 1 < length c.args.entries.now = omega arith in
    let read : ahead c.args.origin c.args.tag c.index-entries-at.result ≡ true = sym c.comes_before.ensures ∙ c.if-not-comes_before.false in
    let there : ahead c.args.origin c.args.tag (get_or c.args.entries.now (c.loop-at.at - 1) c.index-entries-at.result) ≡ true =
    subst (λ (e : Entry). ahead c.args.origin c.args.tag e ≡ true) c.index-entries-at.is read in
    let front : c.loop-at.at - 1 < prefix_len (ahead c.args.origin c.args.tag) c.args.entries.now =
    passes_front c.args.origin c.args.tag c.args.entries.now (c.loop-at.at - 1) c.index-entries-at.result c.requires within there in
    omega arith
