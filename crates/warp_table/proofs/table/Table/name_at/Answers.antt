use Rattle.std.proofs.Common.{List, ap, subst, sym, ◌∙◌}
use Rattle.warp_tag.specs.declared.entry.Entry.{Entry}
use Rattle.warp_record.specs.declared.record.Record.{Record}
use Rattle.warp_table.specs.inner.Kept.{entry_of}
use Rattle.warp_table.proofs.KeptNames.{IsTold}
use Rattle.warp_table.proofs.KnownNames.{told_of}
use Rattle.warp_table.proofs.table.Table.name_at.Goals as goal

is_told : (c : goal.After-entry_of) → IsTold c.args.self.now c.args.number c.entry_of.result
is_told c =
    let found = c.in_ok-name in
    let inside = c.self.inside in
    subst (λ (e : Entry). IsTold c.args.self.now c.args.number e) (sym (c.entry_of.ensures ∙ ap (λ (rs : List Record). entry_of rs found.name found.known) c.deref.ensures.value))
    (subst (λ (records : List Record). IsTold records c.args.number (entry_of inside.records.items found.name found.known)) c.self.view_is
    (told_of inside.records.items inside.names c.args.number found.name found.known c.self.invariant.1.tells found.ensures.entry found.ensures.value))

pub returns-clause-name : goal.returns-clause-name
returns-clause-name c = (is_told c).at

pub returns-clause-told : goal.returns-clause-told
returns-clause-told c = (is_told c).told
