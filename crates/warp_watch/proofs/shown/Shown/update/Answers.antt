-- What was released before begins what is released now, or does not.
use Rattle.std.proofs.Common.{◌≡◌, ◌∙◌, ◌++◌, ap, drop, false, length, subst, sym, true}
use Rattle.warp_tag.specs.Lists.{StartsWith}
use Rattle.warp_table.specs.Records.{set_of}
use Rattle.warp_watch.specs.Shown.{Shows}
use Rattle.warp_watch.proofs.Shownness.{freezes, goes, still_shown}
use Rattle.warp_watch.proofs.shown.Shown.update.Goals as goal

pub returns-then-not-goes_on-clause-shows : goal.returns-then-not-goes_on-clause-shows
returns-then-not-goes_on-clause-shows g c = λ before begun shown a answers.
    let r = c.args.replica.now in
    let s = c.args.self.now in
    let same = c.deref.ensures.value ∙ ap (λ s. s.rows) c.self.view_is in
    let live = sym (ap (λ s. s.frozen) c.self.view_is) ∙ c.if-self.false in
    subst (λ l. Shows a.released s (record { rows = l; frozen = true })) (sym (ap (λ s. s.rows) c.self.view_is))
    (freezes r.program r.records before s c.released-released.result.now c.deref.result.now c.goes_on.result same live
    (c.one_answer.ensures.one r.program (set_of r.records)) c.released-released.ensures.released begun shown c.goes_on.ensures.exact
    c.if-not-goes_on.true a answers)

pub returns-clause-shows : goal.returns-clause-shows
returns-clause-shows g c = λ before begun shown a answers.
    let r = c.args.replica.now in
    let s = c.args.self.now in
    let released = c.released-released.result.now in
    let rows = c.deref.result.now in
    let same = c.deref.ensures.value ∙ ap (λ s. s.rows) c.self.view_is in
    let live = sym (ap (λ s. s.frozen) c.self.view_is) ∙ c.if-self.false in
    let grown : c.extend_from_slice.new.self.items ≡ rows ++ drop (length rows) released =
    c.in_ok-extend_from_slice.ensures.items ∙ ap (λ l. c.self.inside.rows.items ++ l) (c.behind.ensures ∙ ap (λ n. drop n released) (c.len.ensures ∙ sym c.deref.ensures.len))
    ∙ ap (λ l. l ++ drop (length rows) released) (sym c.deref.ensures.value) in
    subst (λ f. Shows a.released s (record { rows = c.extend_from_slice.new.self.items; frozen = f })) (sym c.if-self.false)
    (subst (λ l. Shows a.released s (record { rows = l; frozen = false })) (sym grown)
    (goes r.program r.records before s released rows c.goes_on.result same live
    (c.one_answer.ensures.one r.program (set_of r.records)) c.released-released.ensures.released begun shown c.goes_on.ensures.exact
    c.if-not-goes_on.false a answers))

pub returns-clause-shown : goal.returns-clause-shown
returns-clause-shown g c = λ before begun shown h a answers.
    let r = c.args.replica.now in
    let s = c.args.self.now in
    let released = c.released-released.result.now in
    let rows = c.deref.result.now in
    let same = c.deref.ensures.value ∙ ap (λ s. s.rows) c.self.view_is in
    let live = sym (ap (λ s. s.frozen) c.self.view_is) ∙ c.if-self.false in
    let grown : c.extend_from_slice.new.self.items ≡ rows ++ drop (length rows) released =
    c.in_ok-extend_from_slice.ensures.items ∙ ap (λ l. c.self.inside.rows.items ++ l) (c.behind.ensures ∙ ap (λ n. drop n released) (c.len.ensures ∙ sym c.deref.ensures.len))
    ∙ ap (λ l. l ++ drop (length rows) released) (sym c.deref.ensures.value) in
    subst (StartsWith a.released) (sym grown)
    (still_shown r.program r.records before s released rows c.goes_on.result same live
    (c.one_answer.ensures.one r.program (set_of r.records)) c.released-released.ensures.released begun shown c.goes_on.ensures.exact
    c.if-not-goes_on.false a answers)

pub returns-clause-kept : goal.returns-clause-kept
returns-clause-kept g c =
    (c.behind.result.now, c.in_ok-extend_from_slice.ensures.items ∙ ap (λ s. s.rows ++ c.behind.result.now) c.self.view_is)
