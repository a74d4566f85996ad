-- A change of variables and presence that a reaction neither sees nor undoes may come before the reaction or after it.
use Rattle.std.proofs.Common.{◌≡◌, ◌≢◌, inl, inr, ℕ, ℤ, pos, negsuc, ◌+◌, nat_lt, zero, suc, Bool, true, false, ◌&&◌, ◌||◌, List, [], ◌∷◌, ◌++◌, set, Option, Some, is_some, IsTrue, if◌then◌else◌, refl, sym, ap, ◌∙◌}
use Rattle.std.specs.Prelude.{slice_index_or, slice_set, unwrap_or}
use Rattle.std.specs.List.{list_any}
use Rattle.std.proofs.lemmas.Bool.{cases_Bool, and_parts, and_from, eq-eqb, or_cases, or_left, or_right}
use Rattle.std.proofs.lemmas.List.{get_or-set_other}
use Rattle.warp_tag.specs.Moment.{Moment}
use Rattle.warp_body.specs.Cell.{cell, with_cell}
use Rattle.warp_body.specs.Presence.{is_target, kind_of, number_of, present_at}
use Rattle.warp_body.specs.Effect.{Statement, SetVariable, PutOutput, ScheduleAction, Choose, SetCell, Repeat, Body, Done, Then, Effect, effect_of, effect_of_one, holds}
use Rattle.warp_body.specs.Term.{Term, Constant, VariableAt, ValueAt, PresentAt, OfOne, OfTwo, Choice, ProductOver, CellAt, TimeNow, MicrostepNow, as_number, is_true, result_of_one, result_of_two, quotient_of_product, value_of}
use Rattle.warp_body.specs.declared.place.Target.{Target}
use Rattle.warp_body.specs.declared.place.Target.TheVariants as to
use Rattle.warp_body.specs.declared.stmt.Wish.{Wish}
use Rattle.warp_step.specs.inner.Plan.{heeds, place_of}
use Rattle.warp_step.specs.inner.World.{World, after_rule, begun, changed, in_world, set_if, wished_by, with_cell_in, with_port, with_variable, world_in, world_of}
use Rattle.warp_step.specs.Program.{Program, Rule}
use Rattle.warp_step.specs.Step.{Reacting, is_triggered, react}
use Rattle.warp_step.specs.Valid.{body_may, names, owns_cells, owns_variable, rule_fits, statement_may, term_may}
use Rattle.warp_step.proofs.DueBodies.{body_of_fits, body_sources, of_both, statement_sources}
use Rattle.warp_step.proofs.DueLemmas.{other_stays}
use Rattle.warp_body.proofs.Turns.{turns_apart, turns_keep}
use Rattle.warp_step.proofs.ValidLemmas.{owned_cell, same_target}

-- writes at two places may change places
pub set_swap : {X : Type 0} (xs : List X) (i j : ℕ) (a b : X) → i ≢ j → set (set xs i a) j b ≡ set (set xs j b) i a
set_swap {X} [] i j a b other = refl
set_swap {X} (x ∷ xs) zero zero a b other = absurd (other refl)
set_swap {X} (x ∷ xs) zero (suc j) a b other = refl
set_swap {X} (x ∷ xs) (suc i) zero a b other = refl
set_swap {X} (x ∷ xs) (suc i) (suc j) a b other = ap (λ (rest : List X). x ∷ rest) (set_swap xs i j a b (λ same. other (ap suc same)))

-- what a function makes of both sides of a choice it makes of the choice
choice_of : {X Y : Type 0} (f : X → Y) (b : Bool) (x z : X) (y w : Y) → y ≡ f x → w ≡ f z → (if b then y else w) ≡ f (if b then x else z)
choice_of {X} {Y} f true x z y w h k = h
choice_of {X} {Y} f false x z y w h k = k

-- a target of a list is named by it, and by each longer one
pub own_target : (t : Target) → IsTrue (is_target t t)
own_target t = and_from _ _ (eq-eqb (kind_of t) (kind_of t) refl) (eq-eqb (number_of t) (number_of t) refl)

pub named_in_front : (front behind : List Target) (t : Target) → IsTrue (names front t) → IsTrue (names (front ++ behind) t)
named_in_front [] behind t h = let no : false ≡ true = h in cc
named_in_front (u ∷ front) behind t h = elim (or_cases (is_target t u) (names front t) h) [
  | inl here ↦ or_left (is_target t u) (names (front ++ behind) t) here
  | inr there ↦ or_right (is_target t u) (names (front ++ behind) t) (named_in_front front behind t there)
]

-- where none of the targets heeds a place, one of them does not
unheeded_by : (S : List ℕ) (place : Target) (ts : List Target) (t : Target) → heeds S ts place ≡ false → IsTrue (names ts t) → is_target place (place_of S t) ≡ false
unheeded_by S place [] t none named = let no : false ≡ true = named in cc
unheeded_by S place (u ∷ ts) t none named = elim (cases_Bool (is_target place (place_of S u))) [
  | inl own ↦ let no : true ≡ false = sym (or_left (is_target place (place_of S u)) (heeds S ts place) own) ∙ none in cc
  | inr other ↦
      let rest : heeds S ts place ≡ false = ap (λ (b : Bool). b || heeds S ts place) (sym other) ∙ none in
      elim (or_cases (is_target t u) (names ts t) named) [
        | inl here ↦ ap (λ (x : Target). is_target place (place_of S x)) (same_target t u here) ∙ other
        | inr there ↦ unheeded_by S place ts t rest there
      ]
]

-- A change is apart from a rule: the tag, variables of the rule's reactor and what the rule names to read stay as they are, and
-- what the rule writes may be written before it or after it. Ports have these sources.
pub record IsApart (P : Program) (S : List ℕ) (r : Rule) (g : World → World) : Type 0 where
  pub sources : (w : World) → w.present.sources ≡ S → (g w).present.sources ≡ S
  pub tag : (w : World) → w.present.sources ≡ S → (g w).present.tag ≡ w.present.tag
  pub vars : (w : World) (k : ℕ) → w.present.sources ≡ S → IsTrue (owns_variable P r.reactor k)
      → slice_index_or (g w).vars k (pos 0) ≡ slice_index_or w.vars k (pos 0)
  pub reads : (w : World) (t : Target) → w.present.sources ≡ S → IsTrue (names (r.triggers ++ r.reads) t) → present_at (g w).present t ≡ present_at w.present t
  pub sets : (w : World) (k : ℕ) (v : ℤ) → w.present.sources ≡ S → IsTrue (owns_variable P r.reactor k) → g (with_variable k v w) ≡ with_variable k v (g w)
  pub puts : (w : World) (port : ℕ) (v : ℤ) → w.present.sources ≡ S → IsTrue (names r.writes (to.Port port)) → g (with_port port v w) ≡ with_port port v (g w)

module _ (P : Program) (S : List ℕ) (r : Rule) (g : World → World) (apart : IsApart P S r g) where
  -- cells have the values that they had
  read_apart : (b : Bool) (k : ℕ) → (b ≡ true → IsTrue (owns_variable P r.reactor k)) → (w : World) → w.present.sources ≡ S
      → (if b then slice_index_or (g w).vars k (pos 0) else pos 0) ≡ (if b then slice_index_or w.vars k (pos 0) else pos 0)
  read_apart true k mine w own = apart.vars w k own (mine refl)
  read_apart false k mine w own = refl

  cell_apart : (first count : ℕ) (index : ℤ) → IsTrue (owns_cells P r.reactor first count) → (w : World) → w.present.sources ≡ S
      → cell (g w).vars first count index ≡ cell w.vars first count index
  cell_apart first count (pos n) may w own =
      read_apart (nat_lt n count) (first + n) (λ below. owned_cell P r.reactor first count n may below) w own
  cell_apart first count (negsuc n) may w own = refl

  -- expressions have the values that they had
  value_apart : (e : Term) → IsTrue (term_may P r e) → (w : World) → w.present.sources ≡ S → value_of e (g w).vars (g w).present ≡ value_of e w.vars w.present
  value_apart (Constant n) may w own = refl
  value_apart (VariableAt k) may w own = apart.vars w k own may
  value_apart (ValueAt t) may w own = ap (λ (o : Option ℤ). unwrap_or o (pos 0)) (apart.reads w t own may)
  value_apart (PresentAt t) may w own = ap (λ (o : Option ℤ). as_number (is_some o)) (apart.reads w t own may)
  value_apart (OfOne o a) may w own = ap (result_of_one o) (value_apart a may w own)
  value_apart (OfTwo o a b) may w own =
      let both = and_parts (term_may P r a) (term_may P r b) may in
      let first = value_apart a both.0 w own in
      let second = value_apart b both.1 w own in
      λ i. result_of_two o (first i) (second i)
  value_apart (Choice c a b) may w own =
      let outer = and_parts (term_may P r c && term_may P r a) (term_may P r b) may in
      let inner = and_parts (term_may P r c) (term_may P r a) outer.0 in
      let test = value_apart c inner.0 w own in
      let first = value_apart a inner.1 w own in
      let second = value_apart b outer.1 w own in
      λ i. if is_true (test i) then first i else second i
  value_apart (ProductOver a b c) may w own =
      let outer = and_parts (term_may P r a && term_may P r b) (term_may P r c) may in
      let inner = and_parts (term_may P r a) (term_may P r b) outer.0 in
      let first = value_apart a inner.0 w own in
      let second = value_apart b inner.1 w own in
      let third = value_apart c outer.1 w own in
      λ i. quotient_of_product (first i) (second i) (third i)
  value_apart (CellAt first count index) may w own =
      let both = and_parts (owns_cells P r.reactor first count) (term_may P r index) may in
      ap (cell (g w).vars first count) (value_apart index both.1 w own) ∙ cell_apart first count (value_of index w.vars w.present) both.0 w own
  value_apart TimeNow may w own = ap (λ (t : Moment). pos t.time) (apart.tag w own)
  value_apart MicrostepNow may w own = ap (λ (t : Moment). pos t.microstep) (apart.tag w own)

  -- a cell that is set may be set before the change or after it
  set_apart : (b : Bool) (k : ℕ) (v : ℤ) → (b ≡ true → IsTrue (owns_variable P r.reactor k)) → (w : World) → w.present.sources ≡ S
      → g (record { vars = if b then slice_set w.vars k v else w.vars; present = w.present })
      ≡ record { vars = if b then slice_set (g w).vars k v else (g w).vars; present = (g w).present }
  set_apart true k v mine w own = apart.sets w k v own (mine refl)
  set_apart false k v mine w own = refl

  cell_set_apart : (first count : ℕ) (index v : ℤ) → IsTrue (owns_cells P r.reactor first count) → (w : World) → w.present.sources ≡ S
      → g (with_cell_in first count index v w) ≡ with_cell_in first count index v (g w)
  cell_set_apart first count (pos n) v may w own =
      set_apart (nat_lt n count) (first + n) v (λ below. owned_cell P r.reactor first count n may below) w own
  cell_set_apart first count (negsuc n) v may w own = refl

  -- statements and bodies may come before the change or after it
  mutual
    statement_apart : (s : Statement) → IsTrue (statement_may P r s) → (now : Effect) → now.present.sources ≡ S
        → effect_of_one s (changed g now) ≡ changed g (effect_of_one s now)
    statement_apart (SetVariable k e) may now own =
        let both = and_parts (owns_variable P r.reactor k) (term_may P r e) may in
        let w = world_of now in
        ap (λ (v : ℤ). record { vars = slice_set (g w).vars k v; present = (g w).present; wishes = now.wishes }) (value_apart e both.1 w own)
        ∙ ap (λ (u : World). record { vars = u.vars; present = u.present; wishes = now.wishes }) (sym (apart.sets w k (value_of e w.vars w.present) own both.0))
    statement_apart (PutOutput port e) may now own =
        let both = and_parts (names r.writes (to.Port port)) (term_may P r e) may in
        let w = world_of now in
        ap (λ (v : ℤ). let u = with_port port v (g w) in record { vars = u.vars; present = u.present; wishes = now.wishes }) (value_apart e both.1 w own)
        ∙ ap (λ (u : World). record { vars = u.vars; present = u.present; wishes = now.wishes }) (sym (apart.puts w port (value_of e w.vars w.present) own both.0))
    statement_apart (ScheduleAction action delay e) may now own =
        let both = and_parts _ (term_may P r e) may in
        let w = world_of now in
        ap (λ (v : ℤ). record {
          vars = (g w).vars;
          present = (g w).present;
          wishes = now.wishes ++ (record { action = action; delay = delay; value = v }) ∷ [];
        }) (value_apart e both.1 w own)
    statement_apart (Choose e first second) may now own =
        let outer = and_parts (term_may P r e && body_may P r first) (body_may P r second) may in
        let inner = and_parts (term_may P r e) (body_may P r first) outer.0 in
        let w = world_of now in
        ap (λ (v : ℤ). if is_true v then effect_of first (changed g now) else effect_of second (changed g now)) (value_apart e inner.0 w own)
        ∙ choice_of (changed g) (is_true (value_of e w.vars w.present)) (effect_of first now) (effect_of second now)
        (effect_of first (changed g now)) (effect_of second (changed g now))
        (body_apart first inner.1 now own) (body_apart second outer.1 now own)
    statement_apart (SetCell first count index e) may now own =
        let outer = and_parts (owns_cells P r.reactor first count && term_may P r index) (term_may P r e) may in
        let inner = and_parts (owns_cells P r.reactor first count) (term_may P r index) outer.0 in
        let w = world_of now in
        let number = value_apart index inner.1 w own in
        let value = value_apart e outer.1 w own in
        (λ i. let u = with_cell_in first count (number i) (value i) (g w) in record { vars = u.vars; present = u.present; wishes = now.wishes })
        ∙ ap (λ (u : World). record { vars = u.vars; present = u.present; wishes = now.wishes })
        (sym (cell_set_apart first count (value_of index w.vars w.present) (value_of e w.vars w.present) inner.0 w own))
    statement_apart (Repeat most e body) may now own =
        let both = and_parts (term_may P r e) (body_may P r body) may in
        turns_apart (λ (x : Effect). x.present.sources ≡ S) (changed g) (holds e) (effect_of body)
        (λ x h. body_sources body x ∙ h) (λ x h. ap is_true (value_apart e both.0 (world_of x) h)) (λ x h. body_apart body both.1 x h) most now own

    body_apart : (b : Body) → IsTrue (body_may P r b) → (now : Effect) → now.present.sources ≡ S → effect_of b (changed g now) ≡ changed g (effect_of b now)
    body_apart Done may now own = refl
    body_apart (Then s rest) may now own =
        let both = and_parts (statement_may P r s) (body_may P r rest) may in
        ap (effect_of rest) (statement_apart s both.0 now own) ∙ body_apart rest both.1 (effect_of_one s now) (statement_sources s now ∙ own)

  -- triggers are present that were
  some_apart : (w : World) → w.present.sources ≡ S → (ts : List Target) → ((t : Target) → IsTrue (names ts t) → IsTrue (names (r.triggers ++ r.reads) t))
      → list_any (λ t. is_some (present_at (g w).present t)) ts ≡ list_any (λ t. is_some (present_at w.present t)) ts
  some_apart w own [] named = refl
  some_apart w own (t ∷ ts) named =
      let first = apart.reads w t own (named t (or_left (is_target t t) (names ts t) (own_target t))) in
      let rest = some_apart w own ts (λ u h. named u (or_right (is_target u t) (names ts u) h)) in
      λ i. is_some (first i) || rest i

  pub triggered_apart : (w : World) → w.present.sources ≡ S → is_triggered r (g w).present ≡ is_triggered r w.present
  triggered_apart w own = some_apart w own r.triggers (λ t h. named_in_front r.triggers r.reads t h)

  -- the reaction leaves the same world, and has the same wishes
  pub rule_apart : (w : World) → IsTrue (rule_fits P r) → w.present.sources ≡ S → after_rule r (g w) ≡ g (after_rule r w)
  rule_apart w fits own =
      let ran : world_of (effect_of r.body (begun (g w))) ≡ g (world_of (effect_of r.body (begun w))) =
      ap world_of (body_apart r.body (body_of_fits P r fits) (begun w) own) in
      ap (λ (b : Bool). if b then world_of (effect_of r.body (begun (g w))) else g w) (triggered_apart w own)
      ∙ choice_of g (is_triggered r w.present) (world_of (effect_of r.body (begun w))) w (world_of (effect_of r.body (begun (g w)))) (g w) ran refl

  pub wished_apart : (w : World) → IsTrue (rule_fits P r) → w.present.sources ≡ S → wished_by r (g w) ≡ wished_by r w
  wished_apart w fits own = ap (λ (e : Effect). e.wishes) (body_apart r.body (body_of_fits P r fits) (begun w) own)

-- what looks at nothing that a rule may write looks the same after its body
module _ {X : Type 0} (P : Program) (S : List ℕ) (r : Rule) (look : World → X)
    (set_stays : (w : World) (k : ℕ) (v : ℤ) → w.present.sources ≡ S → IsTrue (owns_variable P r.reactor k) → look (with_variable k v w) ≡ look w)
    (put_stays : (w : World) (port : ℕ) (v : ℤ) → w.present.sources ≡ S → IsTrue (names r.writes (to.Port port)) → look (with_port port v w) ≡ look w) where
  cell_if_stays : (b : Bool) (k : ℕ) (v : ℤ) → (b ≡ true → IsTrue (owns_variable P r.reactor k)) → (w : World) → w.present.sources ≡ S
      → look (record { vars = if b then slice_set w.vars k v else w.vars; present = w.present }) ≡ look w
  cell_if_stays true k v mine w own = set_stays w k v own (mine refl)
  cell_if_stays false k v mine w own = refl

  cell_stays : (first count : ℕ) (index v : ℤ) → IsTrue (owns_cells P r.reactor first count) → (w : World) → w.present.sources ≡ S
      → look (with_cell_in first count index v w) ≡ look w
  cell_stays first count (pos n) v may w own =
      cell_if_stays (nat_lt n count) (first + n) v (λ below. owned_cell P r.reactor first count n may below) w own
  cell_stays first count (negsuc n) v may w own = refl

  mutual
    statement_stays : (s : Statement) → IsTrue (statement_may P r s) → (now : Effect) → now.present.sources ≡ S → look (world_of (effect_of_one s now)) ≡ look (world_of now)
    statement_stays (SetVariable k e) may now own =
        set_stays (world_of now) k (value_of e now.vars now.present) own (and_parts (owns_variable P r.reactor k) (term_may P r e) may).0
    statement_stays (PutOutput port e) may now own =
        put_stays (world_of now) port (value_of e now.vars now.present) own (and_parts (names r.writes (to.Port port)) (term_may P r e) may).0
    statement_stays (ScheduleAction action delay e) may now own = refl
    statement_stays (Choose e first second) may now own =
        let outer = and_parts (term_may P r e && body_may P r first) (body_may P r second) may in
        let inner = and_parts (term_may P r e) (body_may P r first) outer.0 in
        of_both (λ (done : Effect). look (world_of done) ≡ look (world_of now)) (is_true (value_of e now.vars now.present))
        (effect_of first now) (effect_of second now) (body_stays first inner.1 now own) (body_stays second outer.1 now own)
    statement_stays (SetCell first count index e) may now own =
        let outer = and_parts (owns_cells P r.reactor first count && term_may P r index) (term_may P r e) may in
        let inner = and_parts (owns_cells P r.reactor first count) (term_may P r index) outer.0 in
        cell_stays first count (value_of index now.vars now.present) (value_of e now.vars now.present) inner.0 (world_of now) own
    statement_stays (Repeat most e body) may now own =
        let both = and_parts (term_may P r e) (body_may P r body) may in
        (turns_keep (λ (x : Effect). (x.present.sources ≡ S) × (look (world_of x) ≡ look (world_of now))) (holds e) (effect_of body)
        (λ x h. (body_sources body x ∙ h.0, body_stays body both.1 x h.0 ∙ h.1)) most now (own, refl)).1

    body_stays : (b : Body) → IsTrue (body_may P r b) → (now : Effect) → now.present.sources ≡ S → look (world_of (effect_of b now)) ≡ look (world_of now)
    body_stays Done may now own = refl
    body_stays (Then s rest) may now own =
        let both = and_parts (statement_may P r s) (body_may P r rest) may in
        body_stays rest both.1 (effect_of_one s now) (statement_sources s now ∙ own) ∙ statement_stays s both.0 now own

  pub rule_stays : (w : World) → IsTrue (rule_fits P r) → w.present.sources ≡ S → look (after_rule r w) ≡ look w
  rule_stays w fits own = elim (cases_Bool (is_triggered r w.present)) [
    | inl h ↦ ap (λ (b : Bool). look (if b then world_of (effect_of r.body (begun w)) else w)) h ∙ body_stays r.body (body_of_fits P r fits) (begun w) own
    | inr h ↦ ap (λ (b : Bool). look (if b then world_of (effect_of r.body (begun w)) else w)) h
  ]

pub rule_sources : (S : List ℕ) (r : Rule) (w : World) → w.present.sources ≡ S → (after_rule r w).present.sources ≡ S
rule_sources S r w own = elim (cases_Bool (is_triggered r w.present)) [
  | inl h ↦ ap (λ (b : Bool). (if b then world_of (effect_of r.body (begun w)) else w).present.sources) h ∙ body_sources r.body (begun w) ∙ own
  | inr h ↦ ap (λ (b : Bool). (if b then world_of (effect_of r.body (begun w)) else w).present.sources) h ∙ own
]

-- a variable of another reactor, and a port that the rule neither reads nor writes, are apart
variable_apart : (P : Program) (S : List ℕ) (r : Rule) (k : ℕ) (v : ℤ) → owns_variable P r.reactor k ≡ false → IsApart P S r (with_variable k v)
variable_apart P S r k v foreign =
    let other : (j : ℕ) → IsTrue (owns_variable P r.reactor j) → j ≢ k =
    λ j mine same. let no : true ≡ false = sym mine ∙ ap (owns_variable P r.reactor) same ∙ foreign in cc in
    record {
      sources = λ w own. own;
      tag = λ w own. refl;
      vars = λ w j own mine. get_or-set_other w.vars k j v (pos 0) (other j mine);
      reads = λ w t own named. refl;
      sets = λ w j u own mine. ap (λ (vs : List ℤ). record { vars = vs; present = w.present }) (set_swap w.vars j k u v (other j mine));
      puts = λ w port u own named. refl;
    }

port_apart : (P : Program) (S : List ℕ) (r : Rule) (port : ℕ) (v : ℤ) → names r.writes (to.Port port) ≡ false
    → heeds S (r.triggers ++ r.reads) (to.Port port) ≡ false → IsApart P S r (with_port port v)
port_apart P S r port v unwritten unread =
    let other : (q : ℕ) → IsTrue (names r.writes (to.Port q)) → q ≢ port =
    λ q mine same. let no : true ≡ false = sym mine ∙ ap (λ (n : ℕ). names r.writes (to.Port n)) same ∙ unwritten in cc in
    record {
      sources = λ w own. own;
      tag = λ w own. refl;
      vars = λ w k own mine. refl;
      reads = λ w t own named.
          other_stays (to.Port port) v w.present t
          (ap (λ (ss : List ℕ). is_target (to.Port port) (place_of ss t)) own ∙ unheeded_by S (to.Port port) (r.triggers ++ r.reads) t unread named);
      sets = λ w k u own mine. refl;
      puts = λ w q u own named.
          ap (λ (ports : List (Option ℤ)). record { vars = w.vars; present = record w.present { ports = ports } })
          (set_swap w.present.ports q port (Some u) (Some v) (other q named));
    }

-- of two rules, the second touches nothing that is the first's: no variable, and no port that the first reads or writes
pub record Leaves (P : Program) (S : List ℕ) (first second : Rule) : Type 0 where
  pub vars : (k : ℕ) → IsTrue (owns_variable P second.reactor k) → owns_variable P first.reactor k ≡ false
  pub reads : (port : ℕ) → IsTrue (names second.writes (to.Port port)) → heeds S (first.triggers ++ first.reads) (to.Port port) ≡ false
  pub writes : (port : ℕ) → IsTrue (names second.writes (to.Port port)) → names first.writes (to.Port port) ≡ false

-- then what the second does is apart from the first
pub leaves_apart : (P : Program) (S : List ℕ) (first second : Rule) → Leaves P S first second → Leaves P S second first
    → IsTrue (rule_fits P second) → IsApart P S first (after_rule second)
leaves_apart P S first second leaves left fits =
    record {
      sources = rule_sources S second;
      tag = λ w own. rule_stays P S second (λ u. u.present.tag) (λ u j v there his. refl) (λ u port v there his. refl) w fits own;
      vars = λ w k own mine.
          rule_stays P S second (λ u. slice_index_or u.vars k (pos 0))
          (λ u j v there his. (variable_apart P S first j v (leaves.vars j his)).vars u k there mine)
          (λ u port v there his. refl) w fits own;
      reads = λ w t own named.
          rule_stays P S second (λ u. present_at u.present t)
          (λ u j v there his. refl)
          (λ u port v there his. (port_apart P S first port v (leaves.writes port his) (leaves.reads port his)).reads u t there named) w fits own;
      sets = λ w k v own mine. rule_apart P S second (with_variable k v) (variable_apart P S second k v (left.vars k mine)) w fits own;
      puts = λ w port v own mine. rule_apart P S second (with_port port v) (port_apart P S second port v (left.writes port mine) (left.reads port mine)) w fits own;
    }

-- a reaction in a world
react_is : (n : ℕ) (r : Rule) (now : Reacting)
    → react n r now ≡ in_world (after_rule r (world_in now)) (set_if (is_triggered r now.present) n (wished_by r (world_in now)) now.wishes)
react_is n r now = elim (cases_Bool (is_triggered r now.present)) [
  | inl h ↦ rw h refl
  | inr h ↦ rw h refl
]

set_if_swap : (a b : Bool) (m n : ℕ) (x y : List Wish) (wishes : List (List Wish)) → m ≢ n
    → set_if a m x (set_if b n y wishes) ≡ set_if b n y (set_if a m x wishes)
set_if_swap true true m n x y wishes other = sym (set_swap wishes m n x y other)
set_if_swap true false m n x y wishes other = refl
set_if_swap false true m n x y wishes other = refl
set_if_swap false false m n x y wishes other = refl

-- Two reactions that leave each other alone may run in either order.
pub react_swap : (P : Program) (S : List ℕ) (m n : ℕ) (first second : Rule) (now : Reacting) → m ≢ n → IsTrue (rule_fits P first) → IsTrue (rule_fits P second)
    → Leaves P S first second → Leaves P S second first → now.present.sources ≡ S → react m first (react n second now) ≡ react n second (react m first now)
react_swap P S m n first second now other fits fit leaves left own =
    let w : World = world_in now in
    let a = leaves_apart P S first second leaves left fit in
    let b = leaves_apart P S second first left leaves fits in
    let t = is_triggered first now.present in
    let u = is_triggered second now.present in
    let x = wished_by first w in
    let y = wished_by second w in
    let worlds = rule_apart P S first (after_rule second) a w fits own in
    let one = triggered_apart P S first (after_rule second) a w own in
    let two = triggered_apart P S second (after_rule first) b w own in
    let three = wished_apart P S first (after_rule second) a w fits own in
    let four = wished_apart P S second (after_rule first) b w fit own in
    ap (react m first) (react_is n second now)
    ∙ react_is m first (in_world (after_rule second w) (set_if u n y now.wishes))
    ∙ (λ i. in_world (worlds i) (set_if (one i) m (three i) (set_if u n y now.wishes)))
    ∙ ap (in_world (after_rule second (after_rule first w))) (set_if_swap t u m n x y now.wishes other)
    ∙ (λ i. in_world (after_rule second (after_rule first w)) (set_if (sym two i) n (sym four i) (set_if t m x now.wishes)))
    ∙ sym (react_is n second (in_world (after_rule first w) (set_if t m x now.wishes)))
    ∙ ap (react n second) (sym (react_is m first now))

-- and none of them changes where ports have their presence
pub react_sources : (S : List ℕ) (n : ℕ) (r : Rule) (now : Reacting) → now.present.sources ≡ S → (react n r now).present.sources ≡ S
react_sources S n r now own =
    ap (λ (x : Reacting). x.present.sources) (react_is n r now) ∙ rule_sources S r (world_in now) own
