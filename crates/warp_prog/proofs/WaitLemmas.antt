-- To what timers lead: the marks of the code are where something comes.
use Rattle.std.proofs.Common.{◌≡◌, ℕ, zero, suc, ◌+◌, ◌-◌, ◌<◌, ◌≤◌, Bool, true, false, ◌&&◌, ◌||◌, ◌==◌, nat_lt, List, [], ◌∷◌, length, set, replicate, if◌then◌else◌, ap, sym, ◌∙◌, refl, inl, inr, lt-ltb, le-ltb, ltb-true, ltb-false, arith}
use Rattle.std.specs.List.{list_any}
use Rattle.std.proofs.lemmas.Bool.{cases_Bool, cases_eq, eq-eqb, ne_eqb}
use Rattle.std.proofs.lemmas.List.{length-set, length-replicate}
use Rattle.warp_prog.specs.Waits.{Passage, comes, target_places, target_place, reaches}
use Rattle.warp_prog.specs.declared.explain.routes.Way.{Way}
use Rattle.warp_prog.specs.inner.Spread.{followed, further, has_mark, is_marked, led, one_mark, spread, with_ends}

-- how many places there are
pub places_are : target_places ≡ 1345
unfolding target_places
places_are = refl

-- where a step marks nothing new, all further ones mark nothing
pub stays : (ps : List Passage) (n : ℕ) (marks : List Bool) → led ps marks marks ≡ marks → further ps n marks ≡ marks
stays ps zero marks same = refl
stays ps (suc n) marks same = ap (further ps n) same ∙ stays ps n marks same

-- of the steps that are left, one is done
one_done : (most step : ℕ) → step < most → most - step ≡ suc (most - (step + 1))
one_done most step less = omega (arith, less)

pub first_step : (ps : List Passage) (most : ℕ) (marks start : List Bool) → marks ≡ start → further ps (most - 0) marks ≡ further ps most start
first_step ps most marks start is =
    let whole : most - 0 ≡ most = omega arith in
    ap (λ n. further ps n marks) whole ∙ ap (further ps most) is

pub last_step : (ps : List Passage) (most step : ℕ) (marks : List Bool) → most ≤ step → marks ≡ further ps (most - step) marks
last_step ps most step marks past =
    let none : most - step ≡ 0 = omega (arith, past) in
    sym (ap (λ n. further ps n marks) none)

pub one_further : (ps : List Passage) (most step : ℕ) (marks : List Bool) → step < most
    → further ps (most - step) marks ≡ further ps (most - (step + 1)) (led ps marks marks)
one_further ps most step marks less = ap (λ n. further ps n marks) (one_done most step less)

-- tests
none_added : (a l : Bool) → a ≡ (a || (l && false))
none_added true l = refl
none_added false true = refl
none_added false false = refl

same_added : (a : Bool) → true ≡ (a || true)
same_added true = refl
same_added false = refl

grouped : (a l q s : Bool) → ((a || (l && q)) || (l && s)) ≡ (a || (l && (q || s)))
grouped true l q s = refl
grouped false true q s = refl
grouped false false q s = refl

-- tests of numbers that are both one more
less_next : (p n : ℕ) → nat_lt p n ≡ nat_lt (suc p) (suc n)
less_next p n =
    elim (cases_Bool (nat_lt p n)) [
      | inl less ↦ less ∙ sym (lt-ltb (suc p) (suc n) (omega (arith, ltb-true p n less)))
      | inr not ↦ not ∙ sym (le-ltb (suc p) (suc n) (omega (arith, ltb-false p n not)))
    ]

same_next : (q p : ℕ) → (q == p) ≡ (suc q == suc p)
same_next q p =
    elim (cases_eq q p) [
      | inl same ↦ eq-eqb q p same ∙ sym (eq-eqb (suc q) (suc p) (ap suc same))
      | inr ne ↦ ne_eqb q p ne ∙ sym (ne_eqb (suc q) (suc p) (λ same. ne (omega (arith, same))))
    ]

-- one mark more
mark_more : (marks : List Bool) (q place : ℕ) → has_mark (set marks q true) place ≡ (has_mark marks place || (nat_lt place (length marks) && (q == place)))
mark_more [] q place = sym (ap (λ b. b && (q == place)) (le-ltb place 0 (omega arith)))
mark_more (b ∷ marks) zero zero = same_added b ∙ sym (ap (λ t. b || (t && true)) (lt-ltb 0 (suc (length marks)) (omega arith)))
mark_more (b ∷ marks) zero (suc place) =
    let l = nat_lt (suc place) (suc (length marks)) in
    none_added (has_mark marks place) l
    ∙ sym (ap (λ t. has_mark marks place || (l && t)) (ne_eqb zero (suc place) (λ same. omega (arith, same))))
mark_more (b ∷ marks) (suc q) zero =
    let l = nat_lt zero (suc (length marks)) in
    none_added b l ∙ sym (ap (λ t. b || (l && t)) (ne_eqb (suc q) zero (λ same. omega (arith, same))))
mark_more (b ∷ marks) (suc q) (suc place) =
    mark_more marks q place
    ∙ ap (λ t. has_mark marks place || (t && (q == place))) (less_next place (length marks))
    ∙ ap (λ t. has_mark marks place || (nat_lt (suc place) (suc (length marks)) && t)) (same_next q place)

-- a way leads to a place
abbrev ends_at : List Way → ℕ → Bool
ends_at ws place = list_any (λ (w : Way). target_place w.target == place) ws

ends_long : (ws : List Way) (marks : List Bool) → length (with_ends ws marks) ≡ length marks
ends_long [] marks = refl
ends_long (w ∷ ws) marks = ends_long ws (set marks (target_place w.target) true) ∙ length-set marks (target_place w.target) true

ends_more : (ws : List Way) (marks : List Bool) (place : ℕ) →
    has_mark (with_ends ws marks) place ≡ (has_mark marks place || (nat_lt place (length marks) && ends_at ws place))
ends_more [] marks place = none_added (has_mark marks place) (nat_lt place (length marks))
ends_more (w ∷ ws) marks place =
    let q = target_place w.target in
    let next = set marks q true in
    ends_more ws next place
    ∙ ap (λ n. has_mark next place || (nat_lt place n && ends_at ws place)) (length-set marks q true)
    ∙ ap (λ b. b || (nat_lt place (length marks) && ends_at ws place)) (mark_more marks q place)
    ∙ grouped (has_mark marks place) (nat_lt place (length marks)) (q == place) (ends_at ws place)

-- a passage leads from what passes a test to a place
abbrev leads : List Bool → ℕ → Passage → Bool
leads before place p = list_any (is_marked before) p.from && ends_at p.to place

chosen_more : (b : Bool) (ws : List Way) (marks : List Bool) (place : ℕ) →
    has_mark (if b then with_ends ws marks else marks) place ≡ (has_mark marks place || (nat_lt place (length marks) && (b && ends_at ws place)))
chosen_more true ws marks place = ends_more ws marks place
chosen_more false ws marks place = none_added (has_mark marks place) (nat_lt place (length marks))

chosen_long : (b : Bool) (ws : List Way) (marks : List Bool) → length (if b then with_ends ws marks else marks) ≡ length marks
chosen_long true ws marks = ends_long ws marks
chosen_long false ws marks = refl

led_long : (ps : List Passage) (before marks : List Bool) → length (led ps before marks) ≡ length marks
led_long [] before marks = refl
led_long (p ∷ ps) before marks =
    led_long ps before (followed p before marks) ∙ chosen_long (list_any (is_marked before) p.from) p.to marks

led_more : (ps : List Passage) (before marks : List Bool) (place : ℕ) →
    has_mark (led ps before marks) place ≡ (has_mark marks place || (nat_lt place (length marks) && list_any (leads before place) ps))
led_more [] before marks place = none_added (has_mark marks place) (nat_lt place (length marks))
led_more (p ∷ ps) before marks place =
    let b = list_any (is_marked before) p.from in
    let next = followed p before marks in
    led_more ps before next place
    ∙ ap (λ n. has_mark next place || (nat_lt place n && list_any (leads before place) ps)) (chosen_long b p.to marks)
    ∙ ap (λ c. c || (nat_lt place (length marks) && list_any (leads before place) ps)) (chosen_more b p.to marks place)
    ∙ grouped (has_mark marks place) (nat_lt place (length marks)) (b && ends_at p.to place) (list_any (leads before place) ps)

-- a step more is one at the end, too
further_last : (ps : List Passage) (n : ℕ) (marks : List Bool) → further ps (suc n) marks ≡ led ps (further ps n marks) (further ps n marks)
further_last ps zero marks = refl
further_last ps (suc n) marks = further_last ps n (led ps marks marks)

further_long : (ps : List Passage) (n : ℕ) (marks : List Bool) → length (further ps n marks) ≡ length marks
further_long ps zero marks = refl
further_long ps (suc n) marks = further_long ps n (led ps marks marks) ∙ led_long ps marks marks

one_long : (start : ℕ) → length (one_mark start) ≡ target_places
one_long start = length-set (replicate target_places false) start true ∙ length-replicate target_places false

unmarked : (n place : ℕ) → has_mark (replicate n false) place ≡ false
unmarked zero place = refl
unmarked (suc n) zero = refl
unmarked (suc n) (suc place) = unmarked n place

one_marked : (start place : ℕ) → has_mark (one_mark start) place ≡ (nat_lt place target_places && (start == place))
one_marked start place =
    mark_more (replicate target_places false) start place
    ∙ ap (λ b. b || (nat_lt place (length (replicate target_places false)) && (start == place))) (unmarked target_places place)
    ∙ ap (λ n. nat_lt place n && (start == place)) (length-replicate target_places false)

-- what is marked behind so many steps is where something comes in so many
marks_come : (ps : List Passage) (start n place : ℕ) → has_mark (further ps n (one_mark start)) place ≡ comes ps start n place
marks_come ps start zero place = one_marked start place
marks_come ps start (suc n) place =
    let now = further ps n (one_mark start) in
    let long : length now ≡ target_places = further_long ps n (one_mark start) ∙ one_long start in
    let same : is_marked now ≡ (λ x. comes ps start n (target_place x)) = λ i x. marks_come ps start n (target_place x) i in
    ap (λ marks. has_mark marks place) (further_last ps n (one_mark start))
    ∙ led_more ps now now place
    ∙ ap (λ k. has_mark now place || (nat_lt place k && list_any (leads now place) ps)) long
    ∙ ap (λ b. b || (nat_lt place target_places && list_any (leads now place) ps)) (marks_come ps start n place)
    ∙ ap (λ test. comes ps start n place || (nat_lt place target_places && list_any (λ (p : Passage). list_any test p.from && ends_at p.to place) ps)) same

pub spread_is : (ps : List Passage) (start : ℕ) → is_marked (spread ps start) ≡ reaches ps start
spread_is ps start = λ i x. marks_come ps start target_places (target_place x) i
