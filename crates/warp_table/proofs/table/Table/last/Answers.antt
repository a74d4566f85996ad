-- the last name of the origin is that of its records
use Rattle.std.proofs.Common.{◌≡◌, List, subst, sym, rules}
use Rattle.warp_tag.specs.Moment.{Moment}
use Rattle.warp_record.specs.declared.record.Record.{Record}
use Rattle.warp_table.specs.Announced.{beginning}
use Rattle.warp_table.specs.NameCounts.{IsLastName}
use Rattle.warp_table.specs.Records.{set_of}
use Rattle.warp_table.proofs.CountedNames.{last_none, last_some}
use Rattle.warp_table.proofs.table.Table.last.Goals as goal

pub returns : goal.returns
returns c =
    let is = c.self.inside in
    subst (λ (records : List Record). IsLastName (set_of records) c.args.origin c.in-Some.tag) c.self.view_is
    (last_some is.records.items is.names c.self.invariant.1.tells c.args.origin c.in-Some.tag c.in-Some.ensures.there c.in-Some.ensures.greatest)

pub returns-in_default : goal.returns-in_default
returns-in_default c =
    let is = c.self.inside in
    let begins : c.default.result ≡ beginning = search rules in
    subst (λ (records : List Record). IsLastName (set_of records) c.args.origin c.default.result) c.self.view_is
    (subst (λ (last : Moment). IsLastName (set_of is.records.items) c.args.origin last) (sym begins)
    (last_none is.records.items is.names c.self.invariant.1.tells c.args.origin c.in_default.ensures.none))
