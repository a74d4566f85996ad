use Rattle.std.proofs.Common.{◌∙◌, ◌++◌, ap, arith, length, sym}
use Rattle.warp_seats.specs.Seats.{SeatsState}
use Rattle.warp_seats.proofs.ReadLemmas.{text_is, writes_item, written}
use Rattle.warp_seats.proofs.seats.Seats.write.Goals as goal

pub loop-seat-init : goal.loop-seat-init
loop-seat-init c = record {
  place = omega arith;
  all = sym (ap (λ (s : SeatsState). length s.seats) c.self.view_is) ∙ c.self.invariant.1;
  text = ap (λ rest. c.args.text.now.items ++ rest) (sym (text_is c.args.self.now));
}

pub loop-seat-preserved : goal.loop-seat-preserved
loop-seat-preserved c =
    let h = c.loop-seat.invariant in record {
      place = omega (arith, h.place);
      all = h.all;
      text = writes_item c.loop-seat.seat-index c.loop-seat.origin c.args.self.now c.self.inside.seats _ c.args.text.now.items c.loop-seat.text.items
          c.add_seat.new.text.items (omega (arith, c.loop-seat-test.true, h.all)) h.all (ap (λ (s : SeatsState). s.seats) c.self.view_is) h.place h.text
          c.in_ok-add_seat.ensures;
    }

pub returns : goal.returns
returns c = written c.loop-seat.seat-index c.args.self.now c.args.text.now.items c.loop-seat.text.items
    (omega (arith, c.loop-seat-test.false, c.loop-seat.auto.seat-index-end, c.loop-seat.invariant.all)) c.loop-seat.invariant.text
