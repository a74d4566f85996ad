-- part after part is replaced
use Rattle.std.proofs.Common.{◌-◌, ◌∙◌, arith}
use Rattle.warp_run.proofs.Replaced.{back_twice, same_front}
use Rattle.warp_run.proofs.changes.replace.Goals as goal

pub parts-preserved-then-not-are_equal : goal.parts-preserved-then-not-are_equal
parts-preserved-then-not-are_equal c =
    let i = c.parts.invariant in
    let part = c.replace_part.ensures in
    let here = c.parts-test.true in
    let to = c.min-to.ensures in
    let len = i.len in
    let same = c.requires.len in
    record {
      len = part.len ∙ i.len;
      front = part.front;
      kept = back_twice c.args.cells.now.items c.replace_part.new.cells.items c.parts.cells.items i.kept.0 part.cells.0 c.args.image.now c.parts.image
          c.replace_part.new.image i.kept.1 part.cells.1 i.kept.2 part.cells.2;
      room = omega (arith, here, to, part.few, part.capacity, i.room, i.most);
      most = omega (arith, to);
      capacity = part.capacity ∙ i.capacity;
    }

pub parts-preserved : goal.parts-preserved
parts-preserved c =
    let i = c.parts.invariant in
    let here = c.parts-test.true in
    let to = c.min-to.ensures in
    record {
      len = i.len;
      front = same_front c.parts.image c.args.values.now c.parts.at c.min-to.result (omega (arith, here, to)) i.front
          (c.are_equal.ensures.0 c.if-not-are_equal.false);
      kept = i.kept;
      room = omega (arith, i.room, to, here);
      most = omega (arith, to);
      capacity = i.capacity;
    }
