-- What is printed is of the world after the moves, since settling changes no log.
use Rattle.std.proofs.Common.{◌≡◌, ◌∙◌, ap, subst}
use Rattle.warp_world.specs.Replicas.{logs_of}
use Rattle.warp_world.specs.World.{world_after}
use Rattle.warp_world.proofs.Replacing.{run_kept}
use Rattle.warp_world.specs.Play.{Prints}
use Rattle.warp_world.specs.Schedule.{SpellsSchedule}
use Rattle.warp_world.proofs.printing.play_text.Goals as goal

pub returns-clause-text : goal.returns-clause-text
returns-clause-text g c =
    let P = c.args.program.now in
    let count = c.in_ok-count.count in
    let moves = c.in_ok-count.moves.items in
    let settled = c.settle.new.self in
    let logs : logs_of settled ≡ (world_after P count moves).logs =
    c.settle.ensures.logs ∙ c.in_ok-world.ensures.logs ∙ ap (λ list. (world_after P count list).logs) c.deref.ensures.value in
    let programs = run_kept P c.in_ok-world.world settled c.settle.ensures.programs c.in_ok-world.ensures.programs in
    (count, moves, subst (λ f. SpellsSchedule f c.args.schedule.now count moves) c.form.ensures c.in_ok-count.ensures.found, subst (λ list. Prints P 0 list c.in_ok-text.text.items) logs (c.in_ok-text.ensures P programs))
