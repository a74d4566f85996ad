-- What was written and what is left to write is what is written.
use Rattle.std.proofs.Common.{◌≡◌, ◌-◌, ◌++◌, length}
use Rattle.warp_seats.specs.Text.{lines_from, text_of}
use Rattle.warp_seats.proofs.seats.Seats.write.Given as goal

abbrev pub invariant-loop-seat : goal.invariant-loop-seat
invariant-loop-seat l = record {
  place : l.origin ≡ l.seat-index;
  all : length l.self.seats ≡ 64;
  text : l.text.items ++ lines_from (64 - l.seat-index) l.seat-index l.self ≡ l.fn.text.items ++ text_of l.self;
}
