-- The lists by which the code places reactions are those of the loader's order.
use Rattle.std.proofs.Common.{◌≡◌, ℕ, zero, suc, ◌+◌, ◌-◌, ◌<◌, ◌≤◌, Bool, true, false, not, ◌&&◌, ◌||◌, ◌==◌, cond, List, [], ◌∷◌, ◌++◌, length, map, filter, drop, get_or, set, Option, Some, None, is_none, ap, ap₂, sym, ◌∙◌, refl, inl, inr, arith, nat_lt, zero-add, replicate}
use Rattle.std.specs.Option.{option_map_or}
use Rattle.std.specs.List.{list_any, find, range_with_len}
use Rattle.std.proofs.lemmas.Bool.{cases_eq, eq-eqb, ne_eqb}
use Rattle.std.proofs.lemmas.List.{length-set, length-map, length-replicate, get_or-replicate, map-id, get_or-set_same, get_or-set_other, append_assoc, at_drop_more, map_push}
use Rattle.std.proofs.lemmas.List.FromFn.{length-range_with_len, length-map-range_with_len, get_or-map-range_with_len, map-range_with_len_more, fill_by_all}
use Rattle.warp_body.specs.declared.place.Target.TheVariants as to
use Rattle.warp_step.specs.Program.{Program, Rule}
use Rattle.warp_step.specs.Named.{names, has}
use Rattle.warp_step.specs.Order.{joins, feeds, precedes, file_order}
use Rattle.warp_step.specs.declared.parts.Link.{Link}
use Rattle.warp_prog.specs.Order.{stands_in, predecessors, is_ready, next_ready, continued, loader_order}
use Rattle.warp_prog.specs.inner.Placing.{has_flag, may_follow, first_free, placed_behind, reads_by, sources_read, comes_before, with_number}
use Rattle.warp_prog.proofs.MemberLemmas.{stands-push, all-same, stands-range, stands-filter, find-passes}

-- numbers one after another, with one more
pub range-more : (n : ℕ) → range_with_len 0 (n + 1) ≡ range_with_len 0 n ++ n ∷ []
range-more n =
    sym (map-id (range_with_len 0 (n + 1))) ∙ map-range_with_len_more (λ x. x) 0 n n (zero-add n)
    ∙ ap (λ ns. ns ++ n ∷ []) (map-id (range_with_len 0 n))

-- flags for what stands in an order
flag-there : (o : List ℕ) (n m : ℕ) → m < n → has_flag (map (stands_in o) (range_with_len 0 n)) m ≡ stands_in o m
flag-there o n m l = get_or-map-range_with_len (stands_in o) 0 n m m false l (zero-add m)

flags-push : (o : List ℕ) (n x : ℕ) → x < n → set (map (stands_in o) (range_with_len 0 n)) x true ≡ map (stands_in (o ++ x ∷ [])) (range_with_len 0 n)
flags-push o n x l =
    let flags = map (stands_in o) (range_with_len 0 n) in
    let long : length flags ≡ n = length-map-range_with_len (stands_in o) 0 n in
    fill_by_all (stands_in (o ++ x ∷ [])) (set flags x true) n false (length-set flags x true ∙ long)
    (λ k within.
    elim (cases_eq k x) [
      | inl e ↦
          (let here : get_or (set flags x true) x false ≡ true = get_or-set_same flags x true false (let size = long in omega arith) in
          ap (λ j. get_or (set flags x true) j false) e ∙ here
          ∙ sym (stands-push o x k ∙ or-second (stands_in o k) (x == k) (eq-eqb x k (sym e))))
      | inr ne ↦
          get_or-set_other flags x k true false ne ∙ flag-there o n k within
          ∙ sym (stands-push o x k ∙ or-first (stands_in o k) (x == k) (ne_eqb x k (λ e. ne (sym e))))
    ])
  where
    or-second : (a b : Bool) → b ≡ true → (a || b) ≡ true
    or-second true b e = refl
    or-second false b e = e

    or-first : (a b : Bool) → b ≡ false → (a || b) ≡ a
    or-first true b e = refl
    or-first false b e = e

-- a reaction is ready by its flags and by the list of what precedes it
ready-by-flags : (P : Program) (o : List ℕ) (n : ℕ) → n < length P.reactions →
    may_follow (map (stands_in o) (file_order P)) n (predecessors P n) ≡ is_ready P o n
ready-by-flags P o n l =
    ap₂ (λ a b. not a && b) (flag-there o (length P.reactions) n l)
    (all-same (has_flag (map (stands_in o) (file_order P))) (stands_in o) (predecessors P n)
    (λ m s.
    let within = stands-range 0 (length P.reactions) m (stands-filter (λ k. precedes P k n) (file_order P) m s).0 in
    flag-there o (length P.reactions) m (omega arith)))

-- the first that is free is the next that is ready
first-ready : (P : Program) (o : List ℕ) (a k : ℕ) → a + k ≤ length P.reactions →
    first_free (map (stands_in o) (file_order P)) a (map (predecessors P) (range_with_len a k)) ≡ find (is_ready P o) (range_with_len a k)
first-ready P o a zero l = refl
first-ready P o a (suc k) l =
    ap₂ (λ t r. cond t (Some a) r) (ready-by-flags P o a (omega arith)) (first-ready P o (a + 1) k (omega arith))

-- so what is placed is the loader's order
module _ (P : Program) where
  one-more : (n : ℕ) (o : List ℕ) (r : Option ℕ) → next_ready P o ≡ r →
      ((x : ℕ) → x < length P.reactions →
      placed_behind n (map (predecessors P) (file_order P)) (map (stands_in (o ++ x ∷ [])) (file_order P)) (o ++ x ∷ []) ≡ continued P n (o ++ x ∷ [])) →
      option_map_or (λ x. placed_behind n (map (predecessors P) (file_order P)) (set (map (stands_in o) (file_order P)) x true) (o ++ x ∷ [])) r o
      ≡ option_map_or (λ x. continued P n (o ++ x ∷ [])) r o
  one-more n o None e f = refl
  one-more n o (Some x) e f =
      let within = stands-range 0 (length P.reactions) x (find-passes (is_ready P o) (file_order P) x e).0 in
      ap (λ flags. placed_behind n (map (predecessors P) (file_order P)) flags (o ++ x ∷ [])) (flags-push o (length P.reactions) x (omega arith))
      ∙ f x (omega arith)

  placed-so : (n : ℕ) (o : List ℕ) →
      placed_behind n (map (predecessors P) (file_order P)) (map (stands_in o) (file_order P)) o ≡ continued P n o
  placed-so zero o = refl
  placed-so (suc n) o =
      ap (λ r. option_map_or (λ x. placed_behind n (map (predecessors P) (file_order P)) (set (map (stands_in o) (file_order P)) x true) (o ++ x ∷ [])) r o)
      (first-ready P o 0 (length P.reactions) (omega arith))
      ∙ one-more n o (next_ready P o) refl (λ x l. placed-so n (o ++ x ∷ []))

  pub loader-order-is : (before : List (List ℕ)) (placed : List Bool) (count : ℕ) → before ≡ map (predecessors P) (file_order P) →
      placed ≡ replicate count false → count ≡ length P.reactions → placed_behind count before placed [] ≡ loader_order P
  loader-order-is before placed count e f size =
      let flags : placed ≡ map (stands_in []) (file_order P) =
      fill_by_all (stands_in []) placed (length P.reactions) false (ap length f ∙ length-replicate count false ∙ size)
      (λ k l. ap (λ ns. get_or ns k false) f ∙ get_or-replicate count k false false (omega arith)) in
      ap₂ (λ n its. placed_behind n its placed []) size e
      ∙ ap (λ ns. placed_behind (length P.reactions) (map (predecessors P) (file_order P)) ns []) flags
      ∙ placed-so (length P.reactions) []

-- what a reaction reads without delay
and-true : (b : Bool) → b ≡ (b && true)
and-true true = refl
and-true false = refl

and-false : (b : Bool) → false ≡ (b && false)
and-false true = refl
and-false false = refl

by-link : (a t : Bool) (q : ℕ → Bool) (l : Link) (rest : List Link) →
    list_any q (map (λ l. l.source) (cond (a && t) (l ∷ rest) rest)) ≡ (((a && q l.source) && t) || list_any q (map (λ l. l.source) rest))
by-link true true q l rest = ap (λ b. b || list_any q (map (λ l. l.source) rest)) (and-true (q l.source))
by-link true false q l rest = ap (λ b. b || list_any q (map (λ l. l.source) rest)) (and-false (q l.source))
by-link false t q l rest = refl

by-sources : (first second : Rule) (ls : List Link) →
    list_any (λ p. names first.writes (to.Port p)) (sources_read second ls) ≡ list_any (joins first second) ls
by-sources first second [] = refl
by-sources first second (l ∷ ls) =
    by-link (is_none l.delay) (names (second.triggers ++ second.reads) (to.Port l.target)) (λ p. names first.writes (to.Port p)) l (filter (reads_by second) ls)
    ∙ ap (λ b. joins first second l || b) (by-sources first second ls)

-- the element of a number
has-at : {X Y : Type 0} (f : X → Y) (xs : List X) (n : ℕ) (x : X) (q : Y → Bool) → n < length xs → x ≡ get_or xs n x → has (map f xs) n q ≡ q (f x)
has-at f [] n x q l e = absurd (omega arith)
has-at f (y ∷ ys) zero x q l e = ap (λ z. q (f z)) (sym e)
has-at f (y ∷ ys) (suc n) x q l e = has-at f ys n x q (omega arith) e

-- one reaction precedes another
pub precedes-so : {X : Type 0} (P : Program) (rule : X → Rule) (xs : List X) (m n : ℕ) (a b : X) → P.reactions ≡ map rule xs →
    m < length xs → a ≡ get_or xs m a → n < length xs → b ≡ get_or xs n b →
    comes_before (rule a) m (rule b) n (sources_read (rule b) P.links) ≡ precedes P m n
precedes-so P rule xs m n a b e lm am ln bn =
    ap (λ x. ((rule a).reactor == (rule b).reactor && nat_lt m n) || x) (by-sources (rule a) (rule b) P.links)
    ∙ sym (has-at rule xs n b (λ second. ((rule a).reactor == second.reactor && nat_lt m n) || feeds P (rule a) second) ln bn)
    ∙ sym (has-at rule xs m a (λ first. has (map rule xs) n (λ second. (first.reactor == second.reactor && nat_lt m n) || feeds P first second)) lm am)
    ∙ ap (λ rs. has rs m (λ first. has rs n (λ second. (first.reactor == second.reactor && nat_lt m n) || feeds P first second))) (sym e)

-- one more that is kept where a test says so
behind-one : (m n : ℕ) (b : Bool) (ns : List ℕ) → m ∷ with_number b n ns ≡ with_number b n (m ∷ ns)
behind-one m n true ns = refl
behind-one m n false ns = refl

behind-kept : (m n : ℕ) (b t : Bool) (new old : List ℕ) → new ≡ with_number t n old → cond b (m ∷ new) new ≡ with_number t n (cond b (m ∷ old) old)
behind-kept m n true t new old e = ap (λ ns. m ∷ ns) e ∙ behind-one m n t old
behind-kept m n false t new old e = e

pub kept-more : (p : ℕ → Bool) (ns : List ℕ) (n : ℕ) → filter p (ns ++ n ∷ []) ≡ with_number (p n) n (filter p ns)
kept-more p [] n = refl
kept-more p (m ∷ ms) n = behind-kept m n (p m) (p n) (filter p (ms ++ n ∷ [])) (filter p ms) (kept-more p ms n)

pub predecessors-more : (P : Program) (n m : ℕ) (t : Bool) (old new : List ℕ) → new ≡ with_number t m old → t ≡ precedes P m n →
    old ≡ filter (λ k. precedes P k n) (range_with_len 0 m) → new ≡ filter (λ k. precedes P k n) (range_with_len 0 (m + 1))
predecessors-more P n m t old new e f g =
    e ∙ ap₂ (λ b ns. with_number b m ns) f g ∙ sym (ap (filter (λ k. precedes P k n)) (range-more m) ∙ kept-more (λ k. precedes P k n) (range_with_len 0 m) m)

-- one link more
pub sources-more : (r : Rule) (l : Link) (rest : List Link) (old new : List ℕ) → new ≡ with_number (reads_by r l) l.source old →
    new ++ sources_read r rest ≡ old ++ sources_read r (l ∷ rest)
sources-more r l rest old new e = ap (λ ns. ns ++ sources_read r rest) e ∙ by (reads_by r l)
  where
    by : (b : Bool) → with_number b l.source old ++ sources_read r rest ≡ old ++ map (λ l. l.source) (cond b (l ∷ filter (reads_by r) rest) (filter (reads_by r) rest))
    by true = append_assoc old (l.source ∷ []) (sources_read r rest)
    by false = refl

-- one turn of placing
less-one : (count i : ℕ) → i < count → count - i ≡ suc (count - (i + 1))
less-one count i l = omega (arith, l)

pub turn-ends : (count i : ℕ) (before : List (List ℕ)) (placed : List Bool) (order : List ℕ) → i < count → first_free placed 0 before ≡ None →
    order ≡ placed_behind (count - i) before placed order
turn-ends count i before placed order l e =
    sym (ap (λ n. placed_behind n before placed order) (less-one count i l)
    ∙ ap (λ r. option_map_or (λ x. placed_behind (count - (i + 1)) before (set placed x true) (order ++ x ∷ [])) r order) e)

pub turn-more : (count i next : ℕ) (before : List (List ℕ)) (placed : List Bool) (order new : List ℕ) → i < count → first_free placed 0 before ≡ Some next →
    new ≡ order ++ next ∷ [] → placed_behind (count - (i + 1)) before (set placed next true) new ≡ placed_behind (count - i) before placed order
turn-more count i next before placed order new l e f =
    ap (λ ns. placed_behind (count - (i + 1)) before (set placed next true) ns) f
    ∙ sym (ap (λ n. placed_behind n before placed order) (less-one count i l)
    ∙ ap (λ r. option_map_or (λ x. placed_behind (count - (i + 1)) before (set placed x true) (order ++ x ∷ [])) r order) e)

-- as many lists as reactions
pub lists-many : {X : Type 0} (f : X → List ℕ) (xs : List X) (P : Program) → map f xs ≡ map (predecessors P) (file_order P) → length xs ≡ length P.reactions
lists-many f xs P e =
    sym (length-map xs f) ∙ ap length e ∙ length-map (file_order P) (predecessors P) ∙ length-range_with_len 0 (length P.reactions)

-- one list more
pub lists-more : {X : Type 0} (f : X → List ℕ) (old new : List X) (x : X) (P : Program) (n : ℕ) → new ≡ old ++ x ∷ [] →
    map f old ≡ map (predecessors P) (range_with_len 0 n) → f x ≡ predecessors P n → map f new ≡ map (predecessors P) (range_with_len 0 (n + 1))
lists-more f old new x P n e h g =
    ap (map f) e ∙ map_push f old x ∙ ap₂ (λ ns its. ns ++ its ∷ []) h g
    ∙ sym (map_push (predecessors P) (range_with_len 0 n) n) ∙ sym (ap (map (predecessors P)) (range-more n))

-- what is kept of all
pub predecessors-all : {X : Type 0} (P : Program) (rule : X → Rule) (xs : List X) (n m : ℕ) → P.reactions ≡ map rule xs → length xs ≡ m →
    filter (λ k. precedes P k n) (range_with_len 0 m) ≡ predecessors P n
predecessors-all P rule xs n m e size =
    ap (λ k. filter (λ j. precedes P j n) (range_with_len 0 k)) (sym size ∙ sym (length-map xs rule) ∙ sym (ap length e))

-- one link more, as a loop reads it
pub sources-at : (r : Rule) (ls : List Link) (i : ℕ) (d : Link) (t : Bool) (old new : List ℕ) → i < length ls →
    new ≡ with_number t (get_or ls i d).source old → t ≡ reads_by r (get_or ls i d) →
    new ++ sources_read r (drop (i + 1) ls) ≡ old ++ sources_read r (drop i ls)
sources-at r ls i d t old new l e f =
    sources-more r (get_or ls i d) (drop (i + 1) ls) old new (e ∙ ap (λ b. with_number b (get_or ls i d).source old) f)
    ∙ sym (at_drop_more (λ rest. old ++ sources_read r rest) ls i d l)
