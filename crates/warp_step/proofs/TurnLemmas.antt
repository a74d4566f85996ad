-- The order in which a step runs the reactions of a valid program: each reaction has one turn.
use Rattle.std.proofs.Common.{◌≡◌, ◌≢◌, ℕ, zero, suc, ◌<◌, ◌≤◌, true, false, not, ◌==◌, nat_lt, List, [], ◌∷◌, length, get_or, Some, IsTrue, refl, sym, ap, ◌∙◌, subst, arith}
use Rattle.std.specs.Prelude.{slice_get}
use Rattle.std.specs.List.{list_all, list_any}
use Rattle.std.proofs.lemmas.Bool.{and_parts, eq-eqb, eqb-true, ltb-true, or_left, or_right}
use Rattle.std.proofs.lemmas.List.{get_or-map, length-map}
use Rattle.std.proofs.lemmas.Option.{slice_get-get_or}
use Rattle.warp_tag.specs.Limits.{most_reactions, widest}
use Rattle.warp_step.specs.inner.Plan.{in_turn, rule_numbered}
use Rattle.warp_step.specs.Order.{is_admissible, keeps_before}
use Rattle.warp_step.specs.Program.{Program}
use Rattle.warp_step.specs.Valid.{is_distinct, is_valid}
use Rattle.warp_step.proofs.ValidLemmas.{list_all_get, validity}

-- the parts of an admissible order
pub record Admissible (P : Program) (order : List ℕ) : Type 0 where
  pub whole : length order ≡ length P.reactions
  pub once : IsTrue (is_distinct order)
  pub known : IsTrue (list_all (λ n. nat_lt n (length P.reactions)) order)
  pub before : IsTrue (keeps_before P order)

pub admissible : (P : Program) (order : List ℕ) → IsTrue (is_admissible P order) → Admissible P order
admissible P order h =
    let a = and_parts _ _ h in
    let b = and_parts _ _ a.0 in
    let c = and_parts _ _ b.0 in
    record { whole = eqb-true _ _ c.0; once = c.1; known = b.1; before = a.1 }

pub own_order : (P : Program) → IsTrue (is_valid P) → Admissible P P.order
own_order P valid = admissible P P.order (validity P valid).order

-- there are few turns
pub few_turns : (P : Program) → IsTrue (is_valid P) → length (in_turn P) ≤ most_reactions widest
few_turns P valid =
    let few : length P.reactions ≤ most_reactions widest = (validity P valid).limits.reactions in
    let whole = (own_order P valid).whole in
    let same = length-map P.order (rule_numbered P.reactions) in
    omega (arith, few, whole, same)

-- the number at a turn is that of a reaction
pub number_within : (P : Program) (turn d : ℕ) → IsTrue (is_valid P) → turn < length P.order → get_or P.order turn d < length P.reactions
number_within P turn d valid lt = ltb-true _ _ (list_all_get (λ n. nat_lt n (length P.reactions)) P.order turn d (own_order P valid).known lt)

-- what stands at an index does not depend on what is given for none
pub get_or_same : {X : Type 0} (xs : List X) (n : ℕ) (d e : X) → n < length xs → get_or xs n d ≡ get_or xs n e
get_or_same {X} [] n d e lt = absurd (omega (arith, lt))
get_or_same {X} (x ∷ xs) zero d e lt = refl
get_or_same {X} (x ∷ xs) (suc n) d e lt = get_or_same xs n d e (omega (arith, lt))

-- the rule at a turn
pub rule_in_turn : (P : Program) (turn n : ℕ) → turn < length P.order → n ≡ get_or P.order turn n → slice_get (in_turn P) turn ≡ Some (rule_numbered P.reactions n)
rule_in_turn P turn n lt is =
    let own = rule_numbered P.reactions n in
    let lengths = length-map P.order (rule_numbered P.reactions) in
    slice_get-get_or (in_turn P) turn own (omega (arith, lt, lengths))
    ∙ ap (λ r. Some r) (get_or-map (rule_numbered P.reactions) P.order turn n own lt)
    ∙ ap (λ m. Some (rule_numbered P.reactions m)) (sym is)

-- an element stands in a list
stands : (ns : List ℕ) (i : ℕ) → i < length ns → IsTrue (list_any (λ m. m == get_or ns i 0) ns)
stands [] i lt = absurd (omega (arith, lt))
stands (n ∷ ns) zero lt = or_left (n == n) (list_any (λ m. m == n) ns) (eq-eqb n n refl)
stands (n ∷ ns) (suc i) lt = or_right (n == get_or ns i 0) (list_any (λ m. m == get_or ns i 0) ns) (stands ns i (omega (arith, lt)))

-- two elements of a list of distinct numbers are two
pub distinct_at : (ns : List ℕ) (i j : ℕ) → IsTrue (is_distinct ns) → i < j → j < length ns → get_or ns j 0 ≢ get_or ns i 0
distinct_at [] i j once lt within = absurd (omega (arith, within))
distinct_at (n ∷ ns) i zero once lt within = absurd (omega (arith, lt))
distinct_at (n ∷ ns) zero (suc j) once lt within = λ same.
    let both = and_parts (not (list_any (λ m. m == n) ns)) (is_distinct ns) once in
    let there : IsTrue (list_any (λ m. m == n) ns) = subst (λ (k : ℕ). IsTrue (list_any (λ m. m == k) ns)) same (stands ns j (omega (arith, within))) in
    let no : false ≡ true = ap not (sym there) ∙ both.0 in
    cc
distinct_at (n ∷ ns) (suc i) (suc j) once lt within =
    let both = and_parts (not (list_any (λ m. m == n) ns)) (is_distinct ns) once in
    distinct_at ns i j both.1 (omega (arith, lt)) (omega (arith, within))

-- a turn of the order, and the number of the reaction whose turn it is
pub record IsTurn (P : Program) (turn n : ℕ) : Type 0 where
  pub within : turn < length P.order
  pub number : n ≡ get_or P.order turn n
  pub below : n < length P.reactions

pub turn_of : (P : Program) (order : List ℕ) (turn : ℕ) → IsTrue (is_valid P) → order ≡ P.order → turn < length order → IsTurn P turn (get_or order turn 0)
turn_of P order turn valid same lt =
    let within : turn < length P.order = subst (λ (ns : List ℕ). turn < length ns) same lt in
    let n = get_or order turn 0 in
    record {
      within = within;
      number = get_or_same order turn 0 n lt ∙ ap (λ (ns : List ℕ). get_or ns turn n) same;
      below = subst (λ (k : ℕ). k < length P.reactions) (ap (λ (ns : List ℕ). get_or ns turn 0) (sym same)) (number_within P turn 0 valid within);
    }

-- another turn is that of another reaction
pub other_turn : (P : Program) (turn n k : ℕ) → IsTrue (is_valid P) → IsTurn P turn n → turn < k → k < length P.order → get_or P.order k 0 ≢ n
other_turn P turn n k valid now later within = λ same.
    distinct_at P.order turn k (own_order P valid).once later within (same ∙ now.number ∙ get_or_same P.order turn n 0 now.within)
