-- what is known of the name is what the set of the records tells
use Rattle.std.proofs.Common.{◌≡◌, Option, Some, None, List, ap, subst, sym, ◌∙◌, rules}
use Rattle.std.specs.Map.{lookup}
use Rattle.std.specs.Option.{option_map}
use Rattle.warp_tag.specs.declared.entry.Entry.{Entry}
use Rattle.warp_record.specs.declared.record.Record.{Record}
use Rattle.warp_table.specs.Names.{Tells}
use Rattle.warp_table.specs.Records.{set_of}
use Rattle.warp_table.specs.declared.names.Name.{Name}
use Rattle.warp_table.specs.declared.rows.Known.{Known}
use Rattle.warp_table.specs.inner.Kept.{entry_of, is_named}
use Rattle.warp_table.proofs.CountedNames.{told}
use Rattle.warp_table.proofs.table.Table.find_name.Goals as goal

pub returns-in_err-known : goal.returns-in_err-known
returns-in_err-known c =
    let is = c.self.inside in
    let origin = c.args.origin in
    let tag = c.args.tag in
    let name : Name = record { origin = origin; tag = tag } in
    let none : lookup (is_named origin tag) is.names ≡ None = search rules in
    let nothing : c.from_residual.result ≡ None = search rules in
    subst (λ (records : List Record). Tells (set_of records) origin tag c.from_residual.result) c.self.view_is
    (subst (λ (found : Option Entry). Tells (set_of is.records.items) origin tag found) (ap (λ (k : Option Known). option_map (entry_of is.records.items name) k) none ∙ sym nothing)
    (told is.records.items is.names c.self.invariant.1.tells origin tag))

pub returns : goal.returns
returns c =
    let is = c.self.inside in
    let origin = c.args.origin in
    let tag = c.args.tag in
    let name : Name = record { origin = origin; tag = tag } in
    let known : Known = c.in_ok-known.known in
    let some : lookup (is_named origin tag) is.names ≡ Some known = search rules in
    let entry : c.entry_of.result ≡ entry_of is.records.items name known = c.entry_of.ensures ∙ ap (λ (rs : List Record). entry_of rs name known) c.deref.ensures.value in
    subst (λ (records : List Record). Tells (set_of records) origin tag (Some c.entry_of.result)) c.self.view_is
    (subst (λ (found : Option Entry). Tells (set_of is.records.items) origin tag found) (ap (λ (k : Option Known). option_map (entry_of is.records.items name) k) some ∙ ap Some (sym entry))
    (told is.records.items is.names c.self.invariant.1.tells origin tag))
