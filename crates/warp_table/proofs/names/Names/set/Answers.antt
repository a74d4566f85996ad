-- more is known of one name
use Rattle.std.proofs.Common.{[], arith}
use Rattle.warp_table.proofs.NamesInOrder.{set_is, set_listed, set_there, set_within}
use Rattle.warp_table.proofs.names.Names.set.Goals as goal

pub index_mut-requires : goal.index_mut-requires
index_mut-requires c =
    let is = c.self.inside in
    let within = set_within is.origins.items is.order.items c.args.self.now c.self.view_is c.self.invariant c.args.name [] c.requires in
    omega (arith, within, is.origins.ok.0)

pub set-requires : goal.set-requires
set-requires c =
    let is = c.self.inside in
    set_there is.origins.items is.order.items c.args.self.now c.self.view_is c.self.invariant c.args.name c.index_mut.result.now c.requires c.index_mut.ensures.value

pub invariant_of-self : goal.invariant_of-self
invariant_of-self c =
    let is = c.self.inside in
    set_listed is.origins.items is.order.items c.args.self.now c.self.view_is c.self.invariant c.args.name c.index_mut.result.now c.requires c.index_mut.ensures.value c.args.known c.set.new.self c.set.ensures

pub returns : goal.returns
returns c =
    let is = c.self.inside in
    set_is is.origins.items is.order.items c.args.self.now c.self.view_is c.self.invariant c.args.name c.index_mut.result.now c.requires c.index_mut.ensures.value c.args.known c.set.new.self c.set.ensures
