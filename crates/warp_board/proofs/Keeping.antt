-- That each kind of step keeps the rule of a board's table.
use Rattle.std.proofs.Common.{◌≡◌, ◌≢◌, ℕ, ◌+◌, ◌*◌, ◌<◌, suc, zero, ◌⊎◌, Bool, true, false, ◌||◌, List, [], ◌∷◌, ◌++◌, length, get_or, set, slice_get, Some, IsNone, rules, ◌≤◌, Option, ◌↔◌, sym, refl, ap, subst, ◌∙◌, ⊎_elim, inl, inr, arith, append_assoc, get_or-set_same, get_or-set_other, length-set, length-append, replicate}
use Rattle.std.proofs.lemmas.List.{set-get_or, get_or-replicate, length-replicate}
use Rattle.std.proofs.lemmas.Grind.{common_steps}
use Rattle.std.proofs.lemmas.Option.{gets, slice_get_cases, same_Some, none-some, slice_get_within}
use mathlib.Core.Option.{some, none, some-injective, some-ne-none}
use lib.ListN.{get_elem?}
use Rattle.atomic_table.specs.Table.{State, step, stepped, keeps, Allows, Splits, Joins, opening}
use Rattle.atomic_table.proofs.Lists.{at_set, at_snoc, set_again, set_else}
use Rattle.warp_tag.specs.declared.out.Out.{Out}
use Rattle.warp_board.specs.declared.notes.Notes.{Notes}
use Rattle.warp_tag.specs.Lists.{StartsWith}
use Rattle.warp_board.specs.Board.{BoardState}
use Rattle.warp_board.specs.Notes.{newcomer, no_notes, as_reader, taken_in}
use Rattle.warp_board.specs.Rule.{IsSpelledBy, Fits, Keeps}
use Rattle.warp_board.specs.Spelling.{Spells}
use Rattle.warp_board.specs.Steps.{Stages, Counts, Raises, LooksAtCount, LooksAtFlag, ReadsWord, Seat}

-- a board's table, as plain data
abbrev Table : Type 0
Table = State (Unit {0}) Notes

-- after one seat's notes have changed, each seat's fit where the new ones do and those of the others
seats_after : (room : ℕ) (board : BoardState) (writer id : ℕ) (views : List Notes) (w : Notes) → Fits room board writer id w
    → ((seat : ℕ) (v : Notes) → seat ≢ id → get_elem? views seat ≡ some v → Fits room board writer seat v)
    → (seat : ℕ) (v : Notes) → get_elem? (set views id w) seat ≡ some v → Fits room board writer seat v
seats_after room board writer id views w mine others seat v at =
    ⊎_elim (λ t. subst (λ x. Fits room board writer seat x) t.1 (subst (λ n. Fits room board writer n w) (sym t.0) mine)) (λ t. others seat v t.0 t.1) (at_set views id seat w v at)

-- a load keeps the rule where what the seat then knows fits
looked : (room id i : ℕ) (s : Table) (k : Keeps room s) (c : List (ℕ × Unit {0})) (w : Notes) → Fits room k.board k.writer id w → Keeps room (stepped s i (get_or s.words i 0) id c w keeps)
looked room id i s k c w fit =
    let e : set s.words i (get_or s.words i 0) ≡ s.words = set-get_or s.words i 0 in
    record {
      board = k.board;
      writer = k.writer;
      size = ap length e ∙ k.size;
      fits = k.fits;
      few = k.few;
      words = subst (λ ws. IsSpelledBy k.board ws) (sym e) k.words;
      seats = seats_after room k.board k.writer id s.views w fit (λ seat v apart at. k.seats seat v at);
    }

-- a list with nothing behind it
append_none : (xs : List Out) → xs ≡ xs ++ []
append_none [] = refl
append_none (x ∷ xs) = ap (λ (ys : List Out). x ∷ ys) (append_none xs)

-- rows begin with themselves
starts_whole : (rows : List Out) → StartsWith rows rows
starts_whole rows = ([], append_none rows)

-- rows begin with none
starts_none : (rows : List Out) → StartsWith rows []
starts_none rows = (rows, refl)

-- with more rows behind them they still begin so
starts_longer : (rows known more : List Out) → StartsWith rows known → StartsWith (rows ++ more) known
starts_longer rows known more h = (h.0 ++ more, ap (λ (xs : List Out). xs ++ more) h.1 ∙ append_assoc known h.0 more)

-- more rows behind them change no row
get_front : (known later : List Out) (i : ℕ) (row : Out) → slice_get known i ≡ Some row → slice_get (known ++ later) i ≡ Some row
get_front known later i row e = grind (arith, common_steps, gets)

-- a row that is known is the board's at its place
pub get_known : (rows known : List Out) (i : ℕ) (row : Out) → StartsWith rows known → slice_get known i ≡ Some row → slice_get rows i ≡ Some row
get_known rows known i row h e = ap (λ (xs : List Out). slice_get xs i) h.1 ∙ get_front known h.0 i row e

-- a flag that one of two saw up is up
either_up : (a j b : Bool) → (a ≡ true → b ≡ true) → (j ≡ true → b ≡ true) → (a || j) ≡ true → b ≡ true
either_up true j b h g e = h refl
either_up false j b h g e = g e

-- a flag that is known adds nothing to what is so
either_same : (a j b : Bool) → (j ≡ true → b ≡ true) → a ≡ b → (a || j) ≡ b
either_same true j b g e = e
either_same false true b g e = sym (g refl)
either_same false false b g e = e

-- no seat that does not write does
false_true : false ≡ true → ⊥
false_true e = cc

-- a flag that was not seen says nothing
false_up : (b : Bool) → false ≡ true → b ≡ true
false_up b e = cc

module _ (room slots id : ℕ) (me : Seat) where
  -- a load of the count keeps the rule
  pub counting : Allows (Keeps room) slots id me 0 (λ n. n) (LooksAtCount (step slots 0 0 0 none) me)
  counting s k wide at small =
      let b = k.board in
      let fit : Fits room k.board k.writer id me.0 = k.seats id me.0 at in
      let v : Notes = me.0 in
      let w : Notes = record v { rows = b.rows; frozen = v.frozen || v.joined_frozen; joined_rows = []; joined_frozen = false } in
      let new : Fits room k.board k.writer id w = record {
        room_is = fit.room_is;
        rows = starts_whole b.rows;
        frozen = either_up v.frozen v.joined_frozen b.frozen fit.frozen fit.joined_frozen;
        joined_rows = starts_none b.rows;
        joined_frozen = false_up b.frozen;
        writes = λ h. let own = fit.writes h in (own.0, refl, either_same v.frozen v.joined_frozen b.frozen fit.joined_frozen own.2, own.3);
      } in (
        w,
        keeps,
        tt,
        looked room id 0 s k me.1 w new,
        record {
          count = k.words.count;
          rows = fit.rows;
          joined = fit.joined_rows;
          few = λ h. omega (arith, fit.room_is h, k.fits);
          others = refl;
          writer = λ h. let own = fit.writes h in (sym own.1, either_same v.frozen v.joined_frozen v.frozen (λ j. own.2 ∙ fit.joined_frozen j) refl);
        },
      )

  -- a load of the flag keeps the rule
  pub flagging : Allows (Keeps room) slots id me 1 (λ n. n) (LooksAtFlag (step slots 1 0 0 none) me)
  flagging s k wide at small =
      let b = k.board in
      let fit : Fits room k.board k.writer id me.0 = k.seats id me.0 at in
      let v : Notes = me.0 in
      let w : Notes = record v { frozen = b.frozen } in
      let new : Fits room k.board k.writer id w = record {
        room_is = fit.room_is;
        rows = fit.rows;
        frozen = λ h. h;
        joined_rows = fit.joined_rows;
        joined_frozen = fit.joined_frozen;
        writes = λ h. let own = fit.writes h in (own.0, own.1, refl, own.3);
      } in (
        w,
        keeps,
        tt,
        looked room id 1 s k me.1 w new,
        record {
          flag = k.words.flag;
          frozen = fit.frozen;
          others = refl;
        },
      )

  -- a load of a row's word keeps the rule
  pub reading : (word : ℕ) → Allows (Keeps room) slots id me word (λ n. n) (ReadsWord (step slots word 0 0 none) me)
  reading word s k wide at small =
      let fit : Fits room k.board k.writer id me.0 = k.seats id me.0 at in
      let spelled = λ (i : ℕ) (row : Out) (e : slice_get me.0.rows i ≡ Some row). k.words.rows i row (get_known k.board.rows me.0.rows i row fit.rows e) in (
        me.0,
        keeps,
        tt,
        looked room id word s k me.1 me.0 fit,
        record {
          same = refl;
          first = λ i row e h. (get_or s.words (3 + 2 * i) 0, subst (λ (n : ℕ). Spells row (get_or s.words n 0) (get_or s.words (3 + 2 * i) 0)) (sym h) (spelled i row e));
          second = λ i row e h. (get_or s.words (2 + 2 * i) 0, subst (λ (n : ℕ). Spells row (get_or s.words (2 + 2 * i) 0) (get_or s.words n 0)) (sym h) (spelled i row e));
        },
      )

others_stay : (words : List ℕ) (i new j : ℕ) → j ≢ i → get_or (set words i new) j 0 ≡ get_or words j 0
others_stay words i new j apart = get_or-set_other words i j new 0 apart

-- two words that stay as they were spell the same row
row_stays : (row : Out) (words after : List ℕ) (i : ℕ) → get_or after (2 + 2 * i) 0 ≡ get_or words (2 + 2 * i) 0 → get_or after (3 + 2 * i) 0 ≡ get_or words (3 + 2 * i) 0
    → Spells row (get_or words (2 + 2 * i) 0) (get_or words (3 + 2 * i) 0) → Spells row (get_or after (2 + 2 * i) 0) (get_or after (3 + 2 * i) 0)
row_stays row words after i first second h =
    subst (λ (n : ℕ). Spells row n (get_or after (3 + 2 * i) 0)) (sym first) (subst (λ (n : ℕ). Spells row (get_or words (2 + 2 * i) 0) n) (sym second) h)

-- of a list with one more word, each is of the list or the last
word_at : (xs : List ℕ) (last k : ℕ) → k < length (xs ++ last ∷ [])
    → ((k < length xs) × (get_or (xs ++ last ∷ []) k 0 ≡ get_or xs k 0)) ⊎ ((k ≡ length xs) × (get_or (xs ++ last ∷ []) k 0 ≡ last))
word_at [] last zero h = inr (refl, refl)
word_at [] last (suc k) h = absurd (omega arith)
word_at (x ∷ xs) last zero h = inl (omega arith, refl)
word_at (x ∷ xs) last (suc k) h = ⊎_elim (λ t. inl (omega (arith, t.0), t.1)) (λ t. inr (ap suc t.0, t.1)) (word_at xs last k (omega arith))

-- of rows with one more, each is one of them or the last
row_at : (rows : List Out) (last row : Out) (i : ℕ) → slice_get (rows ++ last ∷ []) i ≡ Some row → (slice_get rows i ≡ Some row) ⊎ ((i ≡ length rows) × (last ≡ row))
row_at [] last row zero e = inr (refl, same_Some last row e)
row_at [] last row (suc i) e = absurd (none-some row e)
row_at (x ∷ rows) last row zero e = inl e
row_at (x ∷ rows) last row (suc i) e = ⊎_elim (λ t. inl t) (λ t. inr (ap suc t.0, t.1)) (row_at rows last row i e)

-- one more staged word
staged_spells : (board : BoardState) (words : List ℕ) (word new : ℕ) → IsSpelledBy board words → word ≡ 2 + 2 * length board.rows + length board.staged → word < length words
    → IsSpelledBy (record board { staged = board.staged ++ new ∷ [] }) (set words word new)
staged_spells board words word new h at inside = record {
  count = others_stay words word new 0 (λ e. omega arith) ∙ h.count;
  flag = others_stay words word new 1 (λ e. omega arith) ∙ h.flag;
  rows = λ i row e. let low : i < length board.rows = slice_get_within board.rows i row e in
      row_stays row words (set words word new) i (others_stay words word new (2 + 2 * i) (λ q. omega arith)) (others_stay words word new (3 + 2 * i) (λ q. omega arith)) (h.rows i row e);
  staged = λ k low. let n : ℕ = 2 + 2 * length board.rows + k in
      ⊎_elim
      (λ t. let below : k < length board.staged = t.0 in others_stay words word new n (λ q. omega arith) ∙ h.staged k below ∙ sym t.1)
      (λ t. let here : n ≡ word = omega (arith, t.0) in ap (λ (j : ℕ). get_or (set words word new) j 0) here ∙ get_or-set_same words word new 0 inside ∙ sym t.1)
      (word_at board.staged new k low);
}

-- the count that makes the two staged words the last row
row_spells : (board : BoardState) (words : List ℕ) (row : Out) (first second new : ℕ) → IsSpelledBy board words → board.staged ≡ first ∷ second ∷ [] → Spells row first second → new ≡ length board.rows + 1 → 0 < length words
    → IsSpelledBy (record board { rows = board.rows ++ row ∷ []; staged = [] }) (set words 0 new)
row_spells board words row first second new h staged spells at inside =
    let two : length board.staged ≡ 2 = ap length staged in
    let at_first : get_or words (2 + 2 * length board.rows) 0 ≡ first =
    ap (λ (n : ℕ). get_or words n 0) (omega arith) ∙ h.staged 0 (omega arith) ∙ ap (λ (xs : List ℕ). get_or xs 0 0) staged in
    let at_second : get_or words (3 + 2 * length board.rows) 0 ≡ second =
    ap (λ (n : ℕ). get_or words n 0) (omega arith) ∙ h.staged 1 (omega arith) ∙ ap (λ (xs : List ℕ). get_or xs 1 0) staged in
    let last : Spells row (get_or words (2 + 2 * length board.rows) 0) (get_or words (3 + 2 * length board.rows) 0) =
    subst (λ (n : ℕ). Spells row n (get_or words (3 + 2 * length board.rows) 0)) (sym at_first) (subst (λ (n : ℕ). Spells row first n) (sym at_second) spells) in
    record {
      count = get_or-set_same words 0 new 0 inside ∙ omega (arith, length-append board.rows (row ∷ []));
      flag = others_stay words 0 new 1 (λ e. omega arith) ∙ h.flag;
      rows = λ i other e.
          row_stays other words (set words 0 new) i (others_stay words 0 new (2 + 2 * i) (λ q. omega arith)) (others_stay words 0 new (3 + 2 * i) (λ q. omega arith))
          (⊎_elim (λ t. h.rows i other t)
          (λ t. subst (λ (x : Out). Spells x (get_or words (2 + 2 * i) 0) (get_or words (3 + 2 * i) 0)) t.1 (subst (λ (n : ℕ). Spells row (get_or words (2 + 2 * n) 0) (get_or words (3 + 2 * n) 0)) (sym t.0) last))
          (row_at board.rows row other i e));
      staged = λ k low. absurd (omega arith);
    }

-- the flag, raised
flag_spells : (board : BoardState) (words : List ℕ) → IsSpelledBy board words → 1 < length words → IsSpelledBy (record board { frozen = true }) (set words 1 1)
flag_spells board words h inside = record {
  count = others_stay words 1 1 0 (λ e. omega arith) ∙ h.count;
  flag = get_or-set_same words 1 1 0 inside;
  rows = λ i row e. row_stays row words (set words 1 1) i (others_stay words 1 1 (2 + 2 * i) (λ q. omega arith)) (others_stay words 1 1 (3 + 2 * i) (λ q. omega arith)) (h.rows i row e);
  staged = λ k low. others_stay words 1 1 (2 + 2 * length board.rows + k) (λ q. omega arith) ∙ h.staged k low;
}

-- what another seat knew is so of a board with more rows or a raised flag
other_fits : (room : ℕ) (board after : BoardState) (writer id seat : ℕ) (v : Notes) → id ≡ writer → seat ≢ id → ((known : List Out) → StartsWith board.rows known → StartsWith after.rows known) → (board.frozen ≡ true → after.frozen ≡ true)
    → Fits room board writer seat v → Fits room after writer seat v
other_fits room board after writer id seat v own apart more up fit = record {
  room_is = fit.room_is;
  rows = more v.rows fit.rows;
  frozen = λ h. up (fit.frozen h);
  joined_rows = more v.joined_rows fit.joined_rows;
  joined_frozen = λ h. up (fit.joined_frozen h);
  writes = λ h. absurd (apart ((fit.writes h).0 ∙ sym own));
}

module _ (room slots id : ℕ) (me : Seat) (writes : me.0.writes ≡ true) where
  -- to store a word of the next row keeps the rule
  pub staging : (word new : ℕ) → word ≡ 2 + 2 * length me.0.rows + length me.0.staged → length me.0.rows < room → length me.0.staged < 2
      → Allows (Keeps room) slots id me word (λ _. new) (λ _. Stages (step slots word new 0 none) me new)
  staging word new place below few s k wide at small =
      let b = k.board in
      let v : Notes = me.0 in
      let fit : Fits room b k.writer id v = k.seats id v at in
      let own = fit.writes writes in
      let after : BoardState = record b { staged = b.staged ++ new ∷ [] } in
      let w : Notes = record v { staged = v.staged ++ new ∷ [] } in
      let same_rows : length v.rows ≡ length b.rows = ap length own.1 in
      let same_staged : length v.staged ≡ length b.staged = ap length own.3 in
      let here : word ≡ 2 + 2 * length b.rows + length b.staged = omega arith in
      let inside : word < length s.words = omega (arith, k.size) in
      let new_fit : Fits room after k.writer id w = record {
        room_is = fit.room_is;
        rows = fit.rows;
        frozen = fit.frozen;
        joined_rows = fit.joined_rows;
        joined_frozen = fit.joined_frozen;
        writes = λ h. (own.0, own.1, own.2, ap (λ (xs : List ℕ). xs ++ new ∷ []) own.3);
      } in (
        w,
        keeps,
        tt,
        record {
          board = after;
          writer = k.writer;
          size = length-set s.words word new ∙ k.size;
          fits = k.fits;
          few = omega (arith, length-append b.staged (new ∷ []));
          words = staged_spells b s.words word new k.words here inside;
          seats = seats_after room after k.writer id s.views w new_fit (λ seat x apart there. other_fits room b after k.writer id seat x own.0 apart (λ known h. h) (λ h. h) (k.seats seat x there));
        },
        refl,
      )

  -- to store the count, once both words are staged, keeps the rule
  pub finishing : (new : ℕ) (row : Out) (first second : ℕ) → me.0.staged ≡ first ∷ second ∷ [] → Spells row first second → new ≡ length me.0.rows + 1 → length me.0.rows < room
      → Allows (Keeps room) slots id me 0 (λ _. new) (λ _. Counts (step slots 0 new 0 none) me new)
  finishing new row first second staged spells count below s k wide at small =
      let b = k.board in
      let v : Notes = me.0 in
      let fit : Fits room b k.writer id v = k.seats id v at in
      let own = fit.writes writes in
      let after : BoardState = record b { rows = b.rows ++ row ∷ []; staged = [] } in
      let w : Notes = record v { rows = v.rows ++ row ∷ []; staged = [] } in
      let same_rows : length v.rows ≡ length b.rows = ap length own.1 in
      let new_is : new ≡ length b.rows + 1 = omega arith in
      let inside : 0 < length s.words = omega (arith, k.size) in
      let longer = λ (known : List Out) (h : StartsWith b.rows known). starts_longer b.rows known (row ∷ []) h in
      let new_fit : Fits room after k.writer id w = record {
        room_is = fit.room_is;
        rows = subst (λ (xs : List Out). StartsWith (b.rows ++ row ∷ []) (xs ++ row ∷ [])) (sym own.1) (starts_whole (b.rows ++ row ∷ []));
        frozen = fit.frozen;
        joined_rows = longer v.joined_rows fit.joined_rows;
        joined_frozen = fit.joined_frozen;
        writes = λ h. (own.0, ap (λ (xs : List Out). xs ++ row ∷ []) own.1, own.2, refl);
      } in (
        w,
        keeps,
        tt,
        record {
          board = after;
          writer = k.writer;
          size = length-set s.words 0 new ∙ k.size;
          fits = omega (arith, length-append b.rows (row ∷ []));
          few = omega arith;
          words = row_spells b s.words row first second new k.words (sym own.3 ∙ staged) spells new_is inside;
          seats = seats_after room after k.writer id s.views w new_fit (λ seat x apart there. other_fits room b after k.writer id seat x own.0 apart longer (λ h. h) (k.seats seat x there));
        },
        (row, first, second, staged, spells, refl),
      )

  -- to store the flag keeps the rule
  pub raising : Allows (Keeps room) slots id me 1 (λ _. 1) (λ _. Raises (step slots 1 1 0 none) me 1)
  raising s k wide at small =
      let b = k.board in
      let v : Notes = me.0 in
      let fit : Fits room b k.writer id v = k.seats id v at in
      let own = fit.writes writes in
      let after : BoardState = record b { frozen = true } in
      let w : Notes = record v { frozen = true } in
      let inside : 1 < length s.words = omega (arith, k.size) in
      let new_fit : Fits room after k.writer id w = record {
        room_is = fit.room_is;
        rows = fit.rows;
        frozen = λ h. refl;
        joined_rows = fit.joined_rows;
        joined_frozen = λ h. refl;
        writes = λ h. (own.0, own.1, refl, own.3);
      } in (
        w,
        keeps,
        tt,
        record {
          board = after;
          writer = k.writer;
          size = length-set s.words 1 1 ∙ k.size;
          fits = k.fits;
          few = k.few;
          words = flag_spells b s.words k.words inside;
          seats = seats_after room after k.writer id s.views w new_fit (λ seat x apart there. other_fits room b after k.writer id seat x own.0 apart (λ known h. h) (λ h. refl) (k.seats seat x there));
        },
        refl,
      )

-- a reader's seat fits wherever it is
reader_fits : (room : ℕ) (board : BoardState) (writer id seat : ℕ) (v : Notes) → Fits room board writer id v → Fits room board writer seat (as_reader v)
reader_fits room board writer id seat v fit = record {
  room_is = fit.room_is;
  rows = fit.rows;
  frozen = fit.frozen;
  joined_rows = fit.joined_rows;
  joined_frozen = fit.joined_frozen;
  writes = λ h. absurd (false_true h);
}

-- a split keeps the rule: a second seat knows what one knows, as a reader
pub copying : (room id : ℕ) (v : Notes) → Splits (Keeps room) id v v (as_reader v)
copying room id v s k at =
    let fit : Fits room k.board k.writer id v = k.seats id v at in
    let e : set s.views id v ≡ s.views = set_again s.views id v at in
    record {
      board = k.board;
      writer = k.writer;
      size = k.size;
      fits = k.fits;
      few = k.few;
      words = k.words;
      seats = λ seat x there. ⊎_elim
          (λ t. k.seats seat x (subst (λ (vs : List Notes). get_elem? vs seat ≡ some x) e t))
          (λ t. subst (λ (y : Notes). Fits room k.board k.writer seat y) t (reader_fits room k.board k.writer id seat v fit))
          (at_snoc (set s.views id v) (as_reader v) x seat there);
    }

-- a seat that knows nothing fits wherever it is
nothing_fits : (room : ℕ) (board : BoardState) (writer seat : ℕ) → Fits room board writer seat no_notes
nothing_fits room board writer seat = record {
  room_is = λ h. absurd (omega arith);
  rows = starts_none board.rows;
  frozen = false_up board.frozen;
  joined_rows = starts_none board.rows;
  joined_frozen = false_up board.frozen;
  writes = λ h. absurd (false_true h);
}

-- a join keeps the rule
pub joining : (room id other : ℕ) (v w : Notes) → Joins (Keeps room) id v other w (taken_in v w) no_notes
joining room id other v w s k at apart there =
    let b = k.board in
    let fit : Fits room b k.writer id v = k.seats id v at in
    let other_fit : Fits room b k.writer other w = k.seats other w (sym (set_else s.views id other (taken_in v w) apart) ∙ there) in
    let both : Fits room b k.writer id (taken_in v w) = record {
      room_is = fit.room_is;
      rows = fit.rows;
      frozen = fit.frozen;
      joined_rows = other_fit.rows;
      joined_frozen = other_fit.frozen;
      writes = fit.writes;
    } in
    let first = seats_after room b k.writer id s.views (taken_in v w) both (λ seat x ne here. k.seats seat x here) in
    record {
      board = b;
      writer = k.writer;
      size = k.size;
      fits = k.fits;
      few = k.few;
      words = k.words;
      seats = seats_after room b k.writer other (set s.views id (taken_in v w)) no_notes (nothing_fits room b k.writer other) (λ seat x ne here. first seat x here);
    }

-- the first seat is the writer's
first_fits : (room seat : ℕ) (v : Notes) → get_elem? (newcomer true room ∷ []) seat ≡ some v → Fits room (record { rows = []; frozen = false; staged = [] }) 0 seat v
first_fits room zero v at = subst (λ (x : Notes). Fits room (record { rows = []; frozen = false; staged = [] }) 0 0 x) (some-injective (newcomer true room) v at) (record {
  room_is = λ h. refl;
  rows = starts_none [];
  frozen = λ h. h;
  joined_rows = starts_none [];
  joined_frozen = λ h. h;
  writes = λ h. (refl, refl, refl, refl);
})
first_fits room (suc seat) v at = absurd (some-ne-none v (sym at))

-- the rule holds of a table of zeros with the writer's seat
pub beginning : (room : ℕ) (words : List ℕ) → words ≡ replicate (2 + 2 * room) 0 → Keeps room (opening {S = Unit {0}} words [] (newcomer true room))
beginning room words e = record {
  board = record { rows = []; frozen = false; staged = [] };
  writer = 0;
  size = ap length e ∙ length-replicate (2 + 2 * room) 0;
  fits = omega arith;
  few = omega arith;
  words = record {
    count = ap (λ (ws : List ℕ). get_or ws 0 0) e ∙ get_or-replicate (2 + 2 * room) 0 0 0 (omega arith);
    flag = ap (λ (ws : List ℕ). get_or ws 1 0) e ∙ get_or-replicate (2 + 2 * room) 1 0 0 (omega arith);
    rows = λ i row h. absurd (none-some row h);
    staged = λ j h. absurd (omega arith);
  };
  seats = first_fits room;
}

-- what is read from two words that were loaded one after the other is the known row
pub answered : (rows : List Out) (i first second : ℕ) (result : Option Out) → i < length rows
    → ((row : Out) → slice_get rows i ≡ Some row → (n : ℕ) × Spells row first n)
    → ((row : Out) → slice_get rows i ≡ Some row → (n : ℕ) × Spells row n second)
    → ((row : Out) → (result ≡ Some row) ↔ Spells row first second)
    → result ≡ slice_get rows i
answered rows i first second result low at_first at_second read =
    ⊎_elim
    (λ t. let row : Out = t.0 in
    let known : slice_get rows i ≡ Some row = t.2 in
    let f = at_first row known in
    let g = at_second row known in
    let both : Spells row first second = record { tag = f.1.tag; port = f.1.port; value = f.1.value; first_is = f.1.first_is; second_is = g.1.second_is } in
    (read row).1 both ∙ sym known)
    (λ t. absurd (omega (arith, t.0)))
    (slice_get_cases rows i).1

-- a place holds no row exactly where it is not below the length
pub none_exactly : (rows : List Out) (i : ℕ) → IsNone (slice_get rows i) ↔ (length rows ≤ i)
none_exactly [] i = ((λ h. omega arith), λ h. search rules)
none_exactly (x ∷ rows) zero = ((λ h. absurd (search rules)), λ h. absurd (omega arith))
none_exactly (x ∷ rows) (suc i) = let h = none_exactly rows i in ((λ e. omega (arith, h.0 e)), λ e. h.1 (omega arith))
