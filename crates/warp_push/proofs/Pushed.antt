-- Pages that are pushed give a watcher each place once, in order.
use Rattle.std.proofs.Common.{◌≡◌, ℕ, zero, suc, ◌+◌, ◌-◌, ◌≤◌, ◌<◌, Bool, true, false, not, List, [], ◌∷◌, ◌++◌, Some, None, if◌then◌else◌, refl, sym, ap, ◌∙◌, arith}
use Rattle.std.specs.Prelude.{nat_le, nat_lt}
use Rattle.std.specs.List.{range_with_len}
use Rattle.std.proofs.lemmas.Bool.{and_parts, leb-true, ltb-true}
use Rattle.warp_push.specs.declared.marks.Cursor.{Cursor}
use Rattle.warp_push.specs.declared.marks.Given.{Given}
use Rattle.warp_push.specs.Pages.{Span, reaches, cursor_behind, places_behind, places_pushed, cursor_after, ArePushedInOrder}

-- numbers in a row, and then those behind them
range_join : (a n m : ℕ) → range_with_len a n ++ range_with_len (a + n) m ≡ range_with_len a (n + m)
range_join a zero m =
    let start : a + zero ≡ a = omega arith in
    let sum : m ≡ zero + m = omega arith in
    ap (λ (k : ℕ). range_with_len k m) start ∙ ap (λ (k : ℕ). range_with_len a k) sum
range_join a (suc n) m =
    let start : a + suc n ≡ a + 1 + n = omega arith in
    let sum : suc (n + m) ≡ suc n + m = omega arith in
    ap (λ (k : ℕ). a ∷ (range_with_len (a + 1) n ++ range_with_len k m)) start
    ∙ ap (λ (ns : List ℕ). a ∷ ns) (range_join (a + 1) n m)
    ∙ ap (λ (k : ℕ). range_with_len a k) sum

range_on : (a b c : ℕ) → a ≤ b → b ≤ c → range_with_len a (b - a) ++ range_with_len b (c - b) ≡ range_with_len a (c - a)
range_on a b c one two =
    let start : a + (b - a) ≡ b = omega arith in
    let sum : b - a + (c - b) ≡ c - a = omega arith in
    ap (λ (n : ℕ). range_with_len a (b - a) ++ range_with_len n (c - b)) (sym start) ∙ range_join a (b - a) (c - b)
    ∙ ap (λ (n : ℕ). range_with_len a n) sum

no_places : (n : ℕ) → [] ≡ range_with_len n (n - n)
no_places n = let none : 0 ≡ n - n = omega arith in ap (λ (m : ℕ). range_with_len n m) none

-- where the watcher is behind a page, by whether the page reaches it and whether it has something for it
abbrev behind_if : Span → Cursor → Bool → Bool → Cursor
behind_if s c r l = if r then record c { next = (if l then s.next else c.next); is_done = s.frozen } else c

-- and what it is given
abbrev given_if : Span → Cursor → Bool → Bool → Given
given_if s c r l =
    if r then record { skipped = 0; behind = (if l then Some (c.next - s.from) else None); frozen = s.frozen }
    else record { skipped = 0; behind = None; frozen = false }

-- one page: the watcher's next place does not fall, and what is given stands between the two
record Gives (s : Span) (c : Cursor) (r l : Bool) : Type 0 where
  rises : c.next ≤ (behind_if s c r l).next
  gives : places_behind s (given_if s c r l).behind ≡ range_with_len c.next ((behind_if s c r l).next - c.next)

gives_if : (s : Span) (c : Cursor) (r l : Bool) → (r ≡ true → s.from ≤ c.next) → (l ≡ true → c.next < s.next) → Gives s c r l
gives_if s c true true from less =
    let start : s.from + (c.next - s.from) ≡ c.next = omega (arith, from refl) in
    record {
      rises = omega (arith, less refl);
      gives = ap (λ (n : ℕ). range_with_len n (s.next - n)) start;
    }
gives_if s c true false from less = record { rises = omega arith; gives = no_places c.next }
gives_if s c false l from less = record { rises = omega arith; gives = no_places c.next }

gives_more : (s : Span) (c : Cursor) → Gives s c (reaches s c) (nat_lt c.next s.next)
gives_more s c = gives_if s c (reaches s c) (nat_lt c.next s.next)
    (λ yes. leb-true s.from c.next (and_parts (not c.is_done) (nat_le s.from c.next) yes).1)
    (λ less. ltb-true c.next s.next less)

rises_all : (spans : List Span) (c : Cursor) → c.next ≤ (cursor_after spans c).next
rises_all [] c = omega arith
rises_all (s ∷ spans) c = omega (arith, (gives_more s c).rises, rises_all spans (cursor_behind s c))

pub pushed_in_order : (spans : List Span) (c : Cursor) → ArePushedInOrder spans c
pushed_in_order [] c = no_places c.next
pushed_in_order (s ∷ spans) c =
    let one = gives_more s c in
    let next = (cursor_behind s c).next in
    ap (λ (ps : List ℕ). ps ++ places_pushed spans (cursor_behind s c)) one.gives
    ∙ ap (λ (ps : List ℕ). range_with_len c.next (next - c.next) ++ ps) (pushed_in_order spans (cursor_behind s c))
    ∙ range_on c.next next (cursor_after (s ∷ spans) c).next one.rises (rises_all spans (cursor_behind s c))
