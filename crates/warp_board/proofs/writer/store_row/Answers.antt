use Rattle.std.proofs.Common.{◌≡◌, ℕ, true, Bool, List, [], ◌∷◌, ◌++◌, length, refl, ap, ◌∙◌, arith, rules}
use Rattle.atomic_table.specs.Seated.{TableId}
use Rattle.warp_tag.specs.declared.out.Out.{Out}
use Rattle.warp_board.specs.Notes.{at_rest}
use Rattle.warp_board.specs.Steps.{Seat}
use Rattle.warp_board.proofs.Keeping.{staging, finishing}
use Rattle.warp_board.proofs.writer.store_row.Goals as goal

-- a seat of the writer's that knows these rows and has staged these words
record Stands (me : Seat) (rows : List Out) (staged : List ℕ) : Type 0 where
  writes : me.0.writes ≡ true
  rows_are : me.0.rows ≡ rows
  staged_are : me.0.staged ≡ staged

-- after one more staged word
stands_more : (before after : Seat) (rows : List Out) (staged : List ℕ) (word : ℕ) → Stands before rows staged → after ≡ (record before.0 { staged = before.0.staged ++ word ∷ [] }, before.1) → Stands after rows (staged ++ word ∷ [])
stands_more before after rows staged word h e = record {
  writes = ap (λ (m : Seat). m.0.writes) e ∙ h.writes;
  rows_are = ap (λ (m : Seat). m.0.rows) e ∙ h.rows_are;
  staged_are = ap (λ (m : Seat). m.0.staged) e ∙ ap (λ (xs : List ℕ). xs ++ word ∷ []) h.staged_are;
}

-- between two calls no word is staged
stands_first : (me : Seat) (room : ℕ) (frozen : Bool) → me ≡ (at_rest true room me.0.rows frozen, []) → Stands me me.0.rows []
stands_first me room frozen e = record {
  writes = ap (λ (m : Seat). m.0.writes) e;
  rows_are = refl;
  staged_are = ap (λ (m : Seat). m.0.staged) e;
}

pub store-requires : goal.store-requires
store-requires c =
    let me : Seat = c.args.seat.now.me in
    let wide : c.board.inside.table.shared.table_id.words ≡ c.args.board.now.words = ap (λ (z : TableId). z.words) c.board.view_is in
    let h : Stands me me.0.rows [] = stands_first me _ _ c.requires.rest in
    let none : length me.0.staged ≡ 0 = ap length h.staged_are in
    (search rules, omega arith, staging _ _ _ me h.writes _ _ (omega arith) (omega arith) (omega arith))

pub store-requires-2 : goal.store-requires-2
store-requires-2 c =
    let me : Seat = c.args.seat.now.me in
    let wide : c.board.inside.table.shared.table_id.words ≡ c.args.board.now.words = ap (λ (z : TableId). z.words) c.board.view_is in
    let h = stands_more me c.store.new.seat.me me.0.rows [] c.spell_row-first.result.0 (stands_first me _ _ c.requires.rest) c.store.ensures.2 in
    let same : length c.store.new.seat.me.0.rows ≡ length me.0.rows = ap length h.rows_are in
    let one : length c.store.new.seat.me.0.staged ≡ 1 = ap length h.staged_are in
    (search rules, omega arith, staging _ _ _ c.store.new.seat.me h.writes _ _ (omega arith) (omega arith) (omega arith))

pub store-requires-3 : goal.store-requires-3
store-requires-3 c =
    let me : Seat = c.args.seat.now.me in
    let wide : c.board.inside.table.shared.table_id.words ≡ c.args.board.now.words = ap (λ (z : TableId). z.words) c.board.view_is in
    let f = stands_more me c.store.new.seat.me me.0.rows [] c.spell_row-first.result.0 (stands_first me _ _ c.requires.rest) c.store.ensures.2 in
    let h = stands_more c.store.new.seat.me c.store-2.new.seat.me me.0.rows (c.spell_row-first.result.0 ∷ []) c.spell_row-first.result.1 f c.store-2.ensures.2 in
    let same : length c.store-2.new.seat.me.0.rows ≡ length me.0.rows = ap length h.rows_are in
    (search rules, omega arith, finishing _ _ _ c.store-2.new.seat.me h.writes _ c.args.row.now c.spell_row-first.result.0 c.spell_row-first.result.1 h.staged_are c.spell_row-first.ensures (omega arith) (omega arith))
