use Rattle.std.proofs.Common.{arith}
use Rattle.warp_prog.specs.View.{reactor_tree}
use Rattle.warp_prog.proofs.AllNames.{count_all_names}
use Rattle.warp_prog.proofs.Rooms.{room_for_one}
use Rattle.warp_prog.proofs.stands_twice.room_in_reactor.Goals as goal

pub returns-in_err-left : goal.returns-in_err-left
returns-in_err-left c =
    let v = rw c.deref.ensures.value at c.in_err-left.ensures in
    let all = count_all_names (reactor_tree c.args.reactor.now) c.args.name.now in
    rw c.from_residual.ensures (λ few. absurd (v (omega (arith, all, few))))

pub returns-in_err-behind : goal.returns-in_err-behind
returns-in_err-behind c =
    let v = rw c.deref.ensures.value at c.in_ok-left.ensures in
    let y = c.in_err-behind.ensures in
    let all = count_all_names (reactor_tree c.args.reactor.now) c.args.name.now in
    rw c.from_residual-in_err-behind.ensures (λ few. absurd (y (omega (arith, all, few, v.0, v.1))))

pub returns-in_err-rest : goal.returns-in_err-rest
returns-in_err-rest c =
    let v = rw c.deref.ensures.value at c.in_ok-left.ensures in
    let y = c.in_ok-behind.ensures in
    let p = c.in_err-rest.ensures in
    let all = count_all_names (reactor_tree c.args.reactor.now) c.args.name.now in
    rw c.from_residual-in_err-rest.ensures (λ few. absurd (p (omega (arith, all, few, v.0, v.1, y.0, y.1))))

pub returns : goal.returns
returns c =
    let v = rw c.deref.ensures.value at c.in_ok-left.ensures in
    let y = c.in_ok-behind.ensures in
    room_for_one _ _ _ _ _ _ _ _ _ _ _ _ _ (count_all_names (reactor_tree c.args.reactor.now) c.args.name.now) c.room_beside_startup-beside.ensures v y
    c.in_ok-rest.ensures c.room_for_cause_name.ensures
