use Rattle.std.proofs.Common.{◌≤◌, length, ◌↔◌, IsNone, Option, subst, sym, ◌≡◌, Some, slice_get, refl, ap, ◌∙◌, arith, rules}
use Rattle.atomic_table.specs.Seated.{TableId}
use Rattle.atomic_table.specs.Table.{Me}
use Rattle.warp_tag.specs.declared.out.Out.{Out}
use Rattle.warp_board.specs.declared.notes.Notes.{Notes}
use Rattle.warp_board.specs.Board.{ReaderState}
use Rattle.warp_board.proofs.Keeping.{reading, answered, none_exactly}
use Rattle.warp_board.proofs.reader.Reader.row.Goals as goal

pub load-first-requires : goal.load-first-requires
load-first-requires c =
    let same : c.self.inside.seat.table_id ≡ c.board.inside.table.shared.table_id = search rules in
    let wide : c.self.inside.seat.table_id.words ≡ c.board.inside.table.shared.table_id.words = ap (λ (z : TableId). z.words) same in
    (same, omega arith, reading _ _ _ _ _)

pub load-second-requires : goal.load-second-requires
load-second-requires c =
    let same : c.self.inside.seat.table_id ≡ c.board.inside.table.shared.table_id = search rules in
    let wide : c.self.inside.seat.table_id.words ≡ c.board.inside.table.shared.table_id.words = ap (λ (z : TableId). z.words) same in
    (c.load-first.ensures.0 ∙ same, omega arith, reading _ _ _ _ _)

pub returns-clause-row : goal.returns-clause-row
returns-clause-row c =
    let i = c.args.i in
    let rows = c.self.inside.seat.me.0.rows in
    answered rows i c.load-first.result c.load-second.result c.read_row.result (omega arith)
    (λ (row : Out) (e : slice_get rows i ≡ Some row). c.load-first.ensures.2.first i row e refl)
    (λ (row : Out) (e : slice_get rows i ≡ Some row). c.load-second.ensures.2.second i row (ap (λ (m : Me (Unit {0}) Notes). slice_get m.0.rows i) c.load-first.ensures.2.same ∙ e) (omega arith))
    c.read_row.ensures
    ∙ ap (λ (r : ReaderState). slice_get r.rows i) c.self.view_is

pub returns-clause-none : goal.returns-clause-none
returns-clause-none c =
    subst (λ (o : Option Out). IsNone o ↔ (length c.args.self.now.rows ≤ c.args.i)) (sym (returns-clause-row c)) (none_exactly c.args.self.now.rows c.args.i)
