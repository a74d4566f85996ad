use Rattle.std.proofs.Common.{◌+◌, ◌-◌, ◌++◌, ◌∷◌, [], ◌∙◌, take, drop, sym, ap, arith, append-nil}
use Rattle.std.proofs.lemmas.List.{append_assoc}
use Rattle.warp_room.proofs.Pieces.{piece_more, piece_none, piece_whole}
use Rattle.warp_room.proofs.records.copy_behind.Goals as goal

pub loop-index-preserved : goal.loop-index-preserved
loop-index-preserved g c =
    let records = c.args.replica.now.records in
    let index = c.loop-index.index in
    let end = c.args.count + c.min-left.result in
    let said = c.in-Some.«record» in
    let rest = take (end - (index + 1)) (drop (index + 1) records) in
    let push = c.push_reserved.ensures in
    let s = c.loop-index.invariant in (
      ap (λ l. l ++ rest) push.items
          ∙ append_assoc c.loop-index.list.items (said ∷ []) rest
          ∙ ap (λ l. c.loop-index.list.items ++ l) (sym (piece_more records index end said c.loop-index-test.true c.in-Some.ensures.found))
          ∙ s.0,
      omega (arith, s.1, c.loop-index-test.true, push.len, push.capacity),
    )

pub returns-in_default-clause-ok : goal.returns-in_default-clause-ok
returns-in_default-clause-ok g c =
    let records = c.args.replica.now.records in
    let index = c.loop-index.index in
    let end = c.args.count + c.min-left.result in
    let list = c.loop-index.list.items in
    sym (append-nil list)
    ∙ ap (λ l. list ++ l) (sym (piece_none records index (end - index) c.in_default.ensures.none))
    ∙ c.loop-index.invariant.0
    ∙ ap (λ l. c.reserve.new.self.items ++ l) (piece_whole records c.args.count c.args.most c.min-left.result
    (omega (arith, c.min-left.ensures, c.len-len.ensures.value)))
    ∙ ap (λ l. l ++ take c.args.most (drop c.args.count records)) c.reserve.ensures.items
