-- a valid program's links fit; links that are not marked deliver nothing
use Rattle.std.proofs.Common.{◌≡◌, ℕ, ◌+◌, ◌-◌, ◌<◌, ◌≤◌, List, None, IsTrue, length, drop, get_or, ap, sym, ◌∙◌, subst, arith}
use Rattle.std.proofs.lemmas.List.{at_drop_all}
use Rattle.warp_step.specs.inner.Plan.{link_heeds}
use Rattle.warp_step.specs.Step.{with_links}
use Rattle.warp_step.specs.Snapshot.{Snapshot}
use Rattle.warp_step.specs.Valid.{link_fits}
use Rattle.warp_step.specs.declared.parts.Link.{Link}
use Rattle.warp_step.specs.inner.Due.{AreMarked}
use Rattle.warp_step.proofs.SkipLemmas.{links_one_more, skip_links}
use Rattle.warp_step.proofs.TurnLemmas.{get_or_same}
use Rattle.warp_step.proofs.ValidLemmas.{list_all_get, validity}
use Rattle.warp_step.proofs.state.State.deliver_due.Goals as goal

pub deliver_link-requires-clause-link : goal.deliver_link-requires-clause-link
deliver_link-requires-clause-link c =
    let P = c.args.program.now in
    let n = c.loop-mark.mark - c.first_link-first.result in
    let some : Link = record { source = 0; target = 0; delay = None } in
    let len : length c.links-links.result.now ≡ length P.links = ap length c.links-links.ensures in
    let lt : n < length P.links = omega (arith, len, c.loop-mark.invariant.first, c.loop-mark-test.true) in
    subst (λ (ls : List Link). IsTrue (link_fits P (get_or ls n some))) (sym c.links-links.ensures)
    (list_all_get (link_fits P) P.links n some (validity P c.valid.ensures).links lt)

pub loop-mark-init : goal.loop-mark-init
loop-mark-init c =
    let P = c.args.program.now in
    let first = c.first_link-first.result in
    let due = subst (λ (at : ℕ). AreMarked link_heeds at P.links c.args.present.now c.args.due.word) (sym c.first_link-first.ensures.first) c.requires.due.links in
    let len : length c.links-links.result.now ≡ length P.links = ap length c.links-links.ensures in
    let none : first - first ≡ 0 = omega arith in
    record {
      first = c.next-mark.ensures.from;
      rest = sym (skip_links P c.args.tag c.args.present.now c.args.self.now c.args.due.word first due first c.next-mark.result (omega arith)
          c.next-mark.ensures.from c.next-mark.ensures.between)
          ∙ ap (λ (k : ℕ). with_links P c.args.tag c.args.present.now (drop k P.links) c.args.self.now) none;
    }

pub loop-mark-preserved : goal.loop-mark-preserved
loop-mark-preserved c =
    let P = c.args.program.now in
    let first = c.first_link-first.result in
    let due = subst (λ (at : ℕ). AreMarked link_heeds at P.links c.args.present.now c.args.due.word) (sym c.first_link-first.ensures.first) c.requires.due.links in
    let t = c.args.tag in
    let present = c.args.present.now in
    let n = c.loop-mark.mark - c.first_link-first.result in
    let some : Link = record { source = 0; target = 0; delay = None } in
    let link = get_or c.links-links.result.now n some in
    let len : length c.links-links.result.now ≡ length P.links = ap length c.links-links.ensures in
    let starts = c.loop-mark.invariant.first in
    let lt : n < length P.links = omega (arith, len, starts, c.loop-mark-test.true) in
    let is : link ≡ get_or P.links n link = ap (λ (ls : List Link). get_or ls n some) c.links-links.ensures ∙ get_or_same P.links n some link lt in
    let next = c.after-mark in
    let new = c.deliver_link.new.self in
    let skipped = skip_links P t present new c.args.due.word first due (c.loop-mark.mark + 1) next.result (omega (arith, starts))
    next.ensures.from next.ensures.between in
    let after : c.loop-mark.mark + 1 - c.first_link-first.result ≡ n + 1 = omega (arith, starts) in
    record {
      first = omega (arith, starts, next.ensures.from);
      rest = sym skipped
          ∙ ap (λ (k : ℕ). with_links P t present (drop k P.links) new) after
          ∙ ap (λ (s : Snapshot). with_links P t present (drop (n + 1) P.links) s) c.deliver_link.ensures
          ∙ sym (links_one_more P t present n link c.loop-mark.self lt is)
          ∙ c.loop-mark.invariant.rest;
    }

pub returns : goal.returns
returns c =
    let P = c.args.program.now in
    let n = c.loop-mark.mark - c.first_link-first.result in
    let len : length c.links-links.result.now ≡ length P.links = ap length c.links-links.ensures in
    let end : length P.links ≤ n = omega (arith, len, c.loop-mark-test.false) in
    sym (at_drop_all (λ (ls : List Link). with_links P c.args.tag c.args.present.now ls c.loop-mark.self) P.links n end) ∙ c.loop-mark.invariant.rest
