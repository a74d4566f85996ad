-- The name stands at the place, or comes in new there.
use Rattle.std.proofs.Common.{◌≡◌, ◌<◌, ◌≤◌, arith, refl, length, ap, subst, sym, ◌∙◌, List, vec_len}
use Rattle.std.specs.List.{insert, prefix_len}
use Rattle.warp_tag.specs.declared.entry.Entry.{Entry}
use Rattle.warp_tag.proofs.Names.{ahead}
use Rattle.warp_line.proofs.TableLemmas.{IsEntered, entered_there, entered_here}
use Rattle.warp_line.proofs.sorted_names.enter_name.Goals as goal
use Rattle.warp_line.proofs.sorted_names.enter_name.Goals.{then-at-len-via-then-at-len, then-at-len-via-else-at-len+then-not-is_of}

here : (c : goal.After-insert) → IsEntered c.args.origin c.args.tag c.args.entries.now.items c.insert.new.self.items c.place-at.result
here c =
    let place : c.place-at.result ≡ prefix_len (ahead c.args.origin c.args.tag) c.args.entries.now.items =
    subst (λ (es : List Entry). c.place-at.result ≡ prefix_len (ahead c.args.origin c.args.tag) es) c.deref.ensures.value c.place-at.ensures.place in
    let same_len : length c.deref.result.now ≡ length c.args.entries.now.items = ap length c.deref.ensures.value in
    let len : length c.deref.result.now ≡ vec_len c.args.entries.now = c.deref.ensures.len in
    let within : c.place-at.result ≤ length c.args.entries.now.items = omega arith in
    let done = rw (c.insert.ensures.succeeds c.requires.room) at c.insert.ensures.items in
    let is = done ∙ ap (λ (e : Entry). insert c.args.entries.now.items c.place-at.result e) c.fresh.ensures in
    subst (λ (es : List Entry). IsEntered c.args.origin c.args.tag c.args.entries.now.items es c.place-at.result) (sym is)
    (entered_here c.args.origin c.args.tag c.args.entries.now.items c.place-at.result c.requires.table place within
    (λ below. elim c.then-at-len.branch [
      | then-at-len-via-then-at-len w ↦ absurd (omega arith)
      | then-at-len-via-else-at-len+then-not-is_of w ↦ (w.index.result.now, w.index.ensures, sym w.is_of.ensures ∙ w.if-not-is_of.true)
    ]))

pub returns-then-at-len-clause-entry : goal.returns-then-at-len-clause-entry
returns-then-at-len-clause-entry c = (here c).entry

pub returns-then-at-len-clause-capacity : goal.returns-then-at-len-clause-capacity
returns-then-at-len-clause-capacity c = (c.insert.ensures.in_place c.requires.room).1.0

pub returns-then-at-len-clause-change : goal.returns-then-at-len-clause-change
returns-then-at-len-clause-change c = (here c).change

pub returns-else-not-is_of : goal.returns-else-not-is_of
returns-else-not-is_of c =
    let place : c.place-at.result ≡ prefix_len (ahead c.args.origin c.args.tag) c.args.entries.now.items =
    subst (λ (es : List Entry). c.place-at.result ≡ prefix_len (ahead c.args.origin c.args.tag) es) c.deref.ensures.value c.place-at.ensures.place in
    let same_len : length c.deref.result.now ≡ length c.args.entries.now.items = ap length c.deref.ensures.value in
    let len : length c.deref.result.now ≡ vec_len c.args.entries.now = c.deref.ensures.len in
    let within : c.place-at.result < length c.args.entries.now.items = omega arith in
    let e = entered_there c.args.origin c.args.tag c.args.entries.now.items c.place-at.result c.index.result.now c.requires.table place within
    c.index.ensures (sym c.is_of.ensures ∙ c.if-not-is_of.false) in
    record { within = omega arith; entry = e.entry; change = e.change; capacity = refl }
