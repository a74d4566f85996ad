use Rattle.std.proofs.Common.{◌≡◌, ◌<◌, ◌∙◌, ap, arith, length, sym}
use Rattle.std.proofs.lemmas.Bool.Decides.{nat_tests}
use Rattle.warp_step.proofs.ValidLemmas.{validity}
use Rattle.warp_board.specs.Board.{room_of}
use Rattle.warp_lanes.proofs.PublishedInTurn.{shows_as_many, shows_full}
use Rattle.warp_lanes.proofs.publish.shows_all.Goals as goal

pub returns-then-count-room : goal.returns-then-count-room
returns-then-count-room g c = λ is.
    let some : 0 < c.args.replica.now.program.origins = rw (← c.program.ensures) (validity c.program.result.now c.valid.ensures).limits.origins_some in
    let full : length c.rows-count.result.now ≡ c.room.result = grind (c.if-count-room.true, nat_tests, arith) in
    shows_full _ _ _ _ c.requires.kept c.requires.all c.requires.live some c.valid-2.ensures.once
    (sym (ap length c.rows-count.ensures.rows) ∙ full ∙ c.room.ensures.room ∙ ap room_of (sym c.requires.board))

pub returns : goal.returns
returns g c = λ is.
    let rows = ap length c.rows-count.ensures.rows in
    let same : length c.released.result.now ≡ length c.rows-count.result.now = grind (is, nat_tests, arith) in
    shows_as_many _ _ _ _ c.requires.kept c.requires.all c.requires.live c.released.result.now c.released.ensures.released
    (same ∙ rows) (omega (arith, rows, c.rows-count.ensures.room))
