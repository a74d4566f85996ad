-- Every admissible order of a program's reactions gives the same.
use Rattle.std.proofs.Common.{◌≡◌, ◌≢◌, inl, inr, ℕ, zero, suc, ◌+◌, ◌<◌, Bool, true, false, not, ◌&&◌, ◌||◌, ◌==◌, nat_lt, List, [], ◌∷◌, ◌++◌, length, map, get_or, Option, Some, None, is_none, IsTrue, refl, sym, ap, ◌∙◌, subst, arith}
use Rattle.std.specs.Prelude.{slice_get, slice_index_or}
use Rattle.std.specs.Option.{IfSome, option_map_or}
use Rattle.std.specs.List.{list_all, list_any}
use Rattle.std.proofs.lemmas.Bool.{cases_Bool, cases_order, and_parts, and_from, eqb-true, eqb-false, eq-eqb, ne_eqb, not-true, cond-true, cond-false, lt-ltb, or_from, or_left, or_right, or_parts}
use Rattle.warp_body.specs.Presence.{is_target}
use Rattle.warp_body.specs.declared.place.Target.{Target}
use Rattle.warp_body.specs.declared.place.Target.TheVariants as to
use Rattle.warp_step.specs.inner.Plan.{heeds, place_of}
use Rattle.warp_step.specs.Order.{feeds, is_admissible, joins, keeps_before, precedes}
use Rattle.warp_step.specs.Program.{Program, Rule}
use Rattle.warp_step.specs.Step.{Reacting, after_reactions, numbers, react, source_of, sources_of}
use Rattle.warp_step.specs.Valid.{is_distinct, is_readable, is_valid, is_writable, names, owns_variable, rule_fits}
use Rattle.warp_step.specs.declared.parts.Link.{Link}
use Rattle.warp_step.specs.declared.parts.Port.{Port}
use Rattle.warp_step.specs.declared.parts.Variable.{Variable}
use Rattle.warp_step.proofs.OnceLists.{all_without, distinct_without, first_once, occurs, occurs_not, occurs_passes, occurs_without, same_numbers, without, without_absent, without_here, without_past}
use Rattle.warp_step.proofs.RuleNames.{one_of_all, rule_reads, rule_writes}
use Rattle.warp_step.proofs.TurnLemmas.{admissible}
use Rattle.warp_step.proofs.ValidLemmas.{has_within, named_passes, validity}
use Rattle.warp_step.proofs.WorldLemmas.{Leaves, own_target, react_sources, react_swap}

-- the source of the port with a number
source_at : {X : Type 0} (f : ℕ → ℕ) (first : ℕ) (xs : List X) (n d : ℕ) → n < length xs → get_or (map f (numbers first xs)) n d ≡ f (first + n)
source_at {X} f first [] n d lt = absurd (omega (arith, lt))
source_at {X} f first (x ∷ xs) zero d lt = ap f (omega arith)
source_at {X} f first (x ∷ xs) (suc n) d lt = source_at f (first + 1) xs n d (omega (arith, lt)) ∙ ap f (omega arith)

-- an element that is there passes both of two tests, or the one fails
tests_clash : {X : Type 0} (p q : X → Bool) (o : Option X) → ((x : X) → IsTrue (p x) → IsTrue (q x) → ⊥)
    → IsTrue (option_map_or p o false) → IsTrue (option_map_or q o false) → ⊥
tests_clash p q None clash h k = let no : false ≡ true = h in cc
tests_clash p q (Some x) clash h k = clash x h k

-- Two rules of two reactors, of which the second does not feed the first.
module _ (P : Program) (first second : Rule) (fits : IsTrue (rule_fits P first)) (fit : IsTrue (rule_fits P second)) (other : first.reactor ≢ second.reactor)
    (unfed : feeds P second first ≡ false) where
  -- no variable is of both
  no_variable : (k : ℕ) → IsTrue (owns_variable P second.reactor k) → owns_variable P first.reactor k ≡ false
  no_variable k his = elim (cases_Bool (owns_variable P first.reactor k)) [
    | inl mine ↦ absurd (tests_clash (λ (v : Variable). v.reactor == first.reactor) (λ (v : Variable). v.reactor == second.reactor) (slice_get P.variables k)
        (λ v h g. other (sym (eqb-true v.reactor first.reactor h) ∙ eqb-true v.reactor second.reactor g)) mine his)
    | inr none ↦ none
  ]

  -- no port is written by both
  no_port : (port : ℕ) → IsTrue (names second.writes (to.Port port)) → names first.writes (to.Port port) ≡ false
  no_port port his = elim (cases_Bool (names first.writes (to.Port port))) [
    | inl mine ↦ absurd (tests_clash (λ (p : Port). not p.is_input && p.reactor == first.reactor) (λ (p : Port). not p.is_input && p.reactor == second.reactor)
        (slice_get P.ports port)
        (λ p h g. other (sym (eqb-true p.reactor first.reactor (and_parts _ _ h).1) ∙ eqb-true p.reactor second.reactor (and_parts _ _ g).1))
        (named_passes (is_writable P first.reactor) first.writes (to.Port port) (rule_writes P first fits) mine)
        (named_passes (is_writable P second.reactor) second.writes (to.Port port) (rule_writes P second fit) his))
    | inr none ↦ none
  ]

  -- no link leads from what the second writes to what the first reads
  own_source : (links : List Link) (port : ℕ) → list_any (joins second first) links ≡ false → IsTrue (names (first.triggers ++ first.reads) (to.Port port))
      → IsTrue (names second.writes (to.Port (source_of links port))) → source_of links port ≡ port
  own_source [] port none reads writes = refl
  own_source (l ∷ ls) port none reads writes =
      let both = or_parts (joins second first l) (list_any (joins second first) ls) none in
      let leads = is_none l.delay && l.target == port in
      elim (cases_Bool leads) [
        | inl here ↦
            let is = cond-true leads l.source (source_of ls port) here in
            let parts = and_parts (is_none l.delay) (l.target == port) here in
            let from : IsTrue (names second.writes (to.Port l.source)) = subst (λ (n : ℕ). IsTrue (names second.writes (to.Port n))) is writes in
            let onto : IsTrue (names (first.triggers ++ first.reads) (to.Port l.target)) =
            subst (λ (n : ℕ). IsTrue (names (first.triggers ++ first.reads) (to.Port n))) (sym (eqb-true l.target port parts.1)) reads in
            let yes : joins second first l ≡ true = and_from _ _ (and_from _ _ parts.0 from) onto in
            let no : true ≡ false = sym yes ∙ both.0 in
            cc
        | inr past ↦
            let is = cond-false leads l.source (source_of ls port) past in
            is ∙ own_source ls port both.1 reads (subst (λ (n : ℕ). IsTrue (names second.writes (to.Port n))) is writes)
      ]

  -- so a port that the first reads has not the source that the second writes
  not_source : (port q : ℕ) → IsTrue (names second.writes (to.Port port)) → IsTrue (names (first.triggers ++ first.reads) (to.Port q))
      → port ≢ slice_index_or (sources_of P) q q
  not_source port q his mine = λ same.
      let may : IsTrue (is_readable P first.reactor (to.Port q)) =
      named_passes (is_readable P first.reactor) (first.triggers ++ first.reads) (to.Port q) (rule_reads P first fits) mine in
      let within : q < length P.ports = has_within P.ports q (λ p. p.is_input && p.reactor == first.reactor) may in
      let here : 0 + q ≡ q = omega arith in
      let source : slice_index_or (sources_of P) q q ≡ source_of P.links q =
      source_at (source_of P.links) 0 P.ports q q within ∙ ap (source_of P.links) here in
      let leads : port ≡ source_of P.links q = same ∙ source in
      let own = own_source P.links q unfed mine (subst (λ (n : ℕ). IsTrue (names second.writes (to.Port n))) leads his) in
      let writes : IsTrue (names second.writes (to.Port q)) = subst (λ (n : ℕ). IsTrue (names second.writes (to.Port n))) (leads ∙ own) his in
      tests_clash (λ (p : Port). p.is_input && p.reactor == first.reactor) (λ (p : Port). not p.is_input && p.reactor == second.reactor) (slice_get P.ports q)
      (λ p h g.
      let input : p.is_input ≡ true = (and_parts _ _ h).0 in
      let output : p.is_input ≡ false = not-true p.is_input (and_parts _ _ g).0 in
      let no : true ≡ false = sym input ∙ output in
      cc)
      may (named_passes (is_writable P second.reactor) second.writes (to.Port q) (rule_writes P second fit) writes)

  not_read : (port : ℕ) → IsTrue (names second.writes (to.Port port)) → (t : Target) → IsTrue (names (first.triggers ++ first.reads) t)
      → is_target (to.Port port) (place_of (sources_of P) t) ≡ false
  not_read port his to.Startup mine = refl
  not_read port his (to.Timer n) mine = refl
  not_read port his (to.Action n) mine = refl
  not_read port his (to.Port q) mine = ne_eqb port (slice_index_or (sources_of P) q q) (not_source port q his mine)

  none_read : (port : ℕ) → IsTrue (names second.writes (to.Port port)) → (ts : List Target)
      → ((t : Target) → IsTrue (list_any (is_target t) ts) → IsTrue (names (first.triggers ++ first.reads) t)) → heeds (sources_of P) ts (to.Port port) ≡ false
  none_read port his [] mine = refl
  none_read port his (t ∷ ts) mine =
      or_from (is_target (to.Port port) (place_of (sources_of P) t)) (heeds (sources_of P) ts (to.Port port))
      (not_read port his t (mine t (or_left (is_target t t) (list_any (is_target t) ts) (own_target t))))
      (none_read port his ts (λ u h. mine u (or_right (is_target u t) (list_any (is_target u) ts) h)))

  -- so the second leaves the first alone
  pub second_leaves : Leaves P (sources_of P) first second
  second_leaves = record {
    vars = no_variable;
    reads = λ port his. none_read port his (first.triggers ++ first.reads) (λ t h. h);
    writes = no_port;
  }

-- what stands before what, by the rules themselves
abbrev comes_before : Program → ℕ → Rule → ℕ → Rule → Bool
comes_before P m a n b = (a.reactor == b.reactor && nat_lt m n) || feeds P a b

-- rules of which neither comes before the other are of two reactors, and neither feeds the other
record Strangers (P : Program) (a b : Rule) : Type 0 where
  pub reactors : a.reactor ≢ b.reactor
  pub unfed : feeds P a b ≡ false

strangers : (P : Program) (m n : ℕ) (a b : Rule) → m ≢ n → comes_before P m a n b ≡ false → comes_before P n b m a ≡ false → Strangers P a b
strangers P m n a b other free freed =
    let one = or_parts (a.reactor == b.reactor && nat_lt m n) (feeds P a b) free in
    let two = or_parts (b.reactor == a.reactor && nat_lt n m) (feeds P b a) freed in
    record {
      reactors = λ same. elim (cases_order m n) [
        | inl equal ↦ other equal
        | inr (inl before) ↦
            let yes : (a.reactor == b.reactor && nat_lt m n) ≡ true = and_from _ _ (eq-eqb a.reactor b.reactor same) (lt-ltb m n before) in
            let no : true ≡ false = sym yes ∙ one.0 in
            cc
        | inr (inr after) ↦
            let yes : (b.reactor == a.reactor && nat_lt n m) ≡ true = and_from _ _ (eq-eqb b.reactor a.reactor (sym same)) (lt-ltb n m after) in
            let no : true ≡ false = sym yes ∙ two.0 in
            cc
      ];
      unfed = one.1;
    }

-- a reaction, where there is one with the number
abbrev run : ℕ → Option Rule → Reacting → Reacting
run n o now = option_map_or (λ rule. react n rule now) o now

run_swap : (P : Program) (m n : ℕ) (o u : Option Rule) (now : Reacting) → m ≢ n → IfSome o (λ r. IsTrue (rule_fits P r)) → IfSome u (λ r. IsTrue (rule_fits P r))
    → option_map_or (λ a. option_map_or (λ b. comes_before P m a n b) u false) o false ≡ false
    → option_map_or (λ b. option_map_or (λ a. comes_before P n b m a) o false) u false ≡ false
    → now.present.sources ≡ sources_of P → run m o (run n u now) ≡ run n u (run m o now)
run_swap P m n None None now other fits fit free freed own = refl
run_swap P m n None (Some b) now other fits fit free freed own = refl
run_swap P m n (Some a) None now other fits fit free freed own = refl
run_swap P m n (Some a) (Some b) now other fits fit free freed own =
    let ab = strangers P m n a b other free freed in
    let ba = strangers P n m b a (λ same. other (sym same)) freed free in
    react_swap P (sources_of P) m n a b now other fits fit
    (second_leaves P a b fits fit ab.reactors ba.unfed) (second_leaves P b a fit fits ba.reactors ab.unfed) own

run_sources : (P : Program) (n : ℕ) (o : Option Rule) (now : Reacting) → now.present.sources ≡ sources_of P → (run n o now).present.sources ≡ sources_of P
run_sources P n None now own = own
run_sources P n (Some r) now own = react_sources (sources_of P) n r now own

-- orders in which whatever precedes a reaction stands before it
module _ (P : Program) (valid : IsTrue (is_valid P)) where
  -- nothing that stands later precedes the first
  free_of : (f : ℕ → Bool) (ns : List ℕ) (k : ℕ) → IsTrue (list_all (λ m. not (f m)) ns) → IsTrue (occurs k ns) → f k ≡ false
  free_of f ns k all there = not-true (f k) (occurs_passes (λ m. not (f m)) ns k all there)

  keeps_without : (m : ℕ) (ns : List ℕ) → IsTrue (keeps_before P ns) → IsTrue (keeps_before P (without m ns))
  keeps_without m [] keeps = refl
  keeps_without m (k ∷ ns) keeps =
      let both = and_parts (list_all (λ j. not (precedes P j k)) (k ∷ ns)) (keeps_before P ns) keeps in
      let first = and_parts (not (precedes P k k)) (list_all (λ j. not (precedes P j k)) ns) both.0 in
      let rest = keeps_without m ns both.1 in
      elim (cases_Bool (k == m)) [
        | inl same ↦ subst (λ (ks : List ℕ). IsTrue (keeps_before P ks)) (sym (without_here m k ns same)) rest
        | inr past ↦ subst (λ (ks : List ℕ). IsTrue (keeps_before P ks)) (sym (without_past m k ns past))
            (and_from (list_all (λ j. not (precedes P j k)) (k ∷ without m ns)) (keeps_before P (without m ns))
            (and_from (not (precedes P k k)) (list_all (λ j. not (precedes P j k)) (without m ns)) first.0 (all_without (λ j. not (precedes P j k)) m ns first.1)) rest)
      ]

  -- two neighbours, neither of which precedes the other, may change places
  swap : (m n : ℕ) (ns : List ℕ) (now : Reacting) → m ≢ n → precedes P m n ≡ false → precedes P n m ≡ false → now.present.sources ≡ sources_of P
      → after_reactions P (n ∷ m ∷ ns) now ≡ after_reactions P (m ∷ n ∷ ns) now
  swap m n ns now other free freed own =
      let rules = (validity P valid).rules in
      ap (λ (r : Reacting). after_reactions P ns r)
      (run_swap P m n (slice_get P.reactions m) (slice_get P.reactions n) now other (one_of_all (rule_fits P) P.reactions m rules)
      (one_of_all (rule_fits P) P.reactions n rules) free freed own)

  -- a reaction that nothing in front of it precedes may come first
  to_front : (m : ℕ) (ns : List ℕ) (now : Reacting) → IsTrue (occurs m ns) → IsTrue (is_distinct ns) → IsTrue (keeps_before P ns)
      → ((k : ℕ) → IsTrue (occurs k ns) → k ≢ m → precedes P k m ≡ false) → now.present.sources ≡ sources_of P
      → after_reactions P ns now ≡ after_reactions P (m ∷ without m ns) now
  to_front m [] now there once keeps free own = let no : false ≡ true = there in cc
  to_front m (k ∷ ns) now there once keeps free own =
      let both = and_parts (list_all (λ j. not (precedes P j k)) (k ∷ ns)) (keeps_before P ns) keeps in
      let apart = first_once k ns once in
      elim (cases_Bool (k == m)) [
        | inl same ↦
            let is = eqb-true k m same in
            let none : occurs m ns ≡ false = ap (λ (j : ℕ). occurs j ns) (sym is) ∙ apart.0 in
            let rest : without m (k ∷ ns) ≡ ns = without_here m k ns same ∙ without_absent m ns none in
            (λ i. after_reactions P (is i ∷ sym rest i) now)
        | inr past ↦
            let other : k ≢ m = eqb-false k m past in
            let behind : IsTrue (occurs m ns) = ap (λ (b : Bool). b || occurs m ns) (sym past) ∙ there in
            let first : precedes P m k ≡ false =
            free_of (λ j. precedes P j k) (k ∷ ns) m both.0 (or_right (k == m) (occurs m ns) behind) in
            let second : precedes P k m ≡ false = free k (or_left (k == k) (occurs k ns) (eq-eqb k k refl)) other in
            let moved = to_front m ns (run k (slice_get P.reactions k) now) behind apart.1 both.1 (λ j h. free j (or_right (k == j) (occurs j ns) h))
            (run_sources P k (slice_get P.reactions k) now own) in
            moved ∙ swap m k (without m ns) now (λ h. other (sym h)) first second own
            ∙ ap (λ (ks : List ℕ). after_reactions P (m ∷ ks) now) (sym (without_past m k ns past))
      ]

  -- two orders of the same reactions give the same
  same_after : (ns ms : List ℕ) (now : Reacting) → IsTrue (is_distinct ns) → IsTrue (is_distinct ms) → IsTrue (keeps_before P ns) → IsTrue (keeps_before P ms)
      → ((k : ℕ) → occurs k ns ≡ occurs k ms) → now.present.sources ≡ sources_of P → after_reactions P ns now ≡ after_reactions P ms now
  same_after [] [] now once once' keeps keeps' same own = refl
  same_after [] (m ∷ ms) now once once' keeps keeps' same own =
      let yes : true ≡ false = sym (or_left (m == m) (occurs m ms) (eq-eqb m m refl)) ∙ sym (same m) in
      cc
  same_after (m ∷ ns) ms now once once' keeps keeps' same own =
      let both = and_parts (list_all (λ j. not (precedes P j m)) (m ∷ ns)) (keeps_before P ns) keeps in
      let apart = first_once m ns once in
      let there : IsTrue (occurs m ms) = sym (same m) ∙ or_left (m == m) (occurs m ns) (eq-eqb m m refl) in
      let free : (k : ℕ) → IsTrue (occurs k ms) → k ≢ m → precedes P k m ≡ false =
      λ k h other. free_of (λ j. precedes P j m) (m ∷ ns) k both.0 (same k ∙ h) in
      let moved = to_front m ms now there once' keeps' free own in
      let left : (k : ℕ) → occurs k ns ≡ occurs k (without m ms) = λ k. elim (cases_Bool (m == k)) [
        | inl is ↦
            let equal = eqb-true m k is in
            ap (λ (j : ℕ). occurs j ns) (sym equal) ∙ apart.0 ∙ sym (occurs_not m ms) ∙ ap (λ (j : ℕ). occurs j (without m ms)) equal
        | inr past ↦
            let other : k ≢ m = λ h. eqb-false m k past (sym h) in
            ap (λ (b : Bool). b || occurs k ns) (sym past) ∙ same k ∙ sym (occurs_without k m ms other)
      ] in
      same_after ns (without m ms) (run m (slice_get P.reactions m) now) apart.1 (distinct_without m ms once') both.1 (keeps_without m ms keeps') left
      (run_sources P m (slice_get P.reactions m) now own)
      ∙ sym moved

  -- and so do all admissible ones
  pub any_order : (ns ms : List ℕ) (now : Reacting) → IsTrue (is_admissible P ns) → IsTrue (is_admissible P ms) → now.present.sources ≡ sources_of P
      → after_reactions P ns now ≡ after_reactions P ms now
  any_order ns ms now one two own =
      let a = admissible P ns one in
      let b = admissible P ms two in
      same_after ns ms now a.once b.once a.before b.before (same_numbers (length P.reactions) ns ms a.once a.known a.whole b.once b.known b.whole) own
