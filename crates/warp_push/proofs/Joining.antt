-- Who watches a range, where one more does or one less.
use Rattle.std.proofs.Common.{◌≡◌, ◌==◌, ◌&&◌, not, inl, inr, ℕ, ◌<◌, Bool, true, false, cond, ltb, List, [], ◌∷◌, ◌++◌, length, get_or, map, set, Option, Some, None, refl, sym, ap, subst, ◌∙◌, arith}
use Rattle.std.specs.List.{Contains, find, position, position_or_len, slice_get}
use Rattle.std.specs.Option.{option_map, option_or, unwrap_or}
use Rattle.std.proofs.lemmas.Bool.{and_from, and_left, and_parts, cases_Bool, eq-eqb, eqb-true, lt-ltb, ltb-false, ne_eqb}
use Rattle.std.proofs.lemmas.List.{get_or-set_other, get_or-set_same, get_or_append_left, get_or_push, length-set, length_push, set-get_or}
use Rattle.std.proofs.lemmas.List.Elements.{Contains-push}
use Rattle.std.proofs.lemmas.List.Folds.{find-append, find_at, find_past, position_or_len-set}
use Rattle.std.proofs.lemmas.List.Quantifiers.{position-Some}
use Rattle.std.proofs.Math.Seq.{map-set_same}
use Rattle.std.proofs.lemmas.Option.{slice_get-get_or, slice_get-map, slice_get_past}
use Rattle.std.proofs.lemmas.List.Sums.{fails_before_first, position_or_len_is}
use Rattle.warp_push.specs.declared.marks.CellRange.{CellRange}
use Rattle.warp_push.specs.Marks.{is_range}
use Rattle.warp_push.specs.Watching.{Watched, IsFor, Joins, OnlyTold, blank, is_free, kept_of, keys_in, keys_of, place_of, watched_at, watched_in, watches}

some_not_none : (n : ℕ) → Some n ≡ None → ⊥
some_not_none n e = cc

true_not_false : true ≡ false → ⊥
true_not_false e = cc

same_range : (range : CellRange) → is_range range range ≡ true
same_range range =
    and_from (range.first == range.first) (range.count == range.count) (eq-eqb range.first range.first refl)
    (eq-eqb range.count range.count refl)

-- a group of a range is of no other
no_other : (own range other : CellRange) → is_range own range ≡ true → is_range other range ≡ false → is_range own other ≡ false
no_other own range other is differs =
    elim (cases_Bool (is_range own other)) [
      | inl same ↦
          let here = and_parts (own.first == range.first) (own.count == range.count) is in
          let there = and_parts (own.first == other.first) (own.count == other.count) same in
          absurd (true_not_false
          (sym (and_from (other.first == range.first) (other.count == range.count)
          (eq-eqb other.first range.first (sym (eqb-true own.first other.first there.0) ∙ eqb-true own.first range.first here.0))
          (eq-eqb other.count range.count (sym (eqb-true own.count other.count there.1) ∙ eqb-true own.count range.count here.1)))
          ∙ differs))
      | inr differs_so ↦ differs_so
    ]

not_watched : (range : CellRange) (w : Watched) → is_range w.range range ≡ false → watches range w ≡ false
not_watched range w differs = and_left (is_range w.range range) (not (length w.keys == 0)) differs

-- what is kept of a range is that of the first group that is of it
pub watched_find : (range : CellRange) (all : List Watched) → watched_in range all ≡ find (watches range) all
watched_find range all =
    let at : ℕ = position_or_len (watches range) all in
    elim (cases_Bool (ltb at (length all))) [
      | inl some ↦
          ap (λ (b : Bool). watched_at (cond b (Some at) None) all) some ∙ sym (find_at (watches range) all)
      | inr past ↦
          ap (λ (b : Bool). watched_at (cond b (Some at) None) all) past
          ∙ sym (slice_get_past all at (ltb-false at (length all) past)) ∙ sym (find_at (watches range) all)
    ]

-- a group that is not of a range takes the place of one that is not of it
unseen : (range : CellRange) (all : List Watched) (at : ℕ) (g d : Watched) → watches range (get_or all at d) ≡ false
    → watches range g ≡ false → watched_in range (set all at g) ≡ watched_in range all
unseen range all at g d there here =
    watched_find range (set all at g) ∙ find_past (watches range) all at g d there here ∙ sym (watched_find range all)

none_behind : (o : Option Watched) → option_or o None ≡ o
none_behind None = refl
none_behind (Some w) = refl

unseen_behind : (range : CellRange) (all : List Watched) (g : Watched) → watches range g ≡ false
    → watched_in range (all ++ g ∷ []) ≡ watched_in range all
unseen_behind range all g here =
    watched_find range (all ++ g ∷ []) ∙ find-append (watches range) all (g ∷ [])
    ∙ ap (λ (b : Bool). option_or (find (watches range) all) (cond b (Some g) None)) here
    ∙ none_behind (find (watches range) all) ∙ sym (watched_find range all)

-- nobody stands in a group without keys
nobody_in : (range : CellRange) (w : Watched) → w.keys ≡ [] → watches range w ≡ false
nobody_in range w none =
    ap (λ (ks : List ℕ). is_range w.range range && not (length ks == 0)) none ∙ no_more (is_range w.range range)
  where
    no_more : (b : Bool) → (b && false) ≡ false
    no_more true = refl
    no_more false = refl

no_keys : (keys : List ℕ) → length keys ≡ 0 → keys ≡ []
no_keys [] none = refl
no_keys (key ∷ keys) none = absurd (omega (arith, none))

free_there : (all : List Watched) (at : ℕ) (d : Watched) → position is_free all ≡ Some at
    → (at < length all) × ((get_or all at d).keys ≡ [])
free_there all at d is =
    let found = position-Some is_free all at d is in
    (found.0, no_keys (get_or all at d).keys (eqb-true (length (get_or all at d).keys) 0 found.1))

-- where nobody watches a range no group is of it
nobody : (range : CellRange) (all : List Watched) (k : ℕ) (d : Watched) → place_of range all ≡ None → k < length all
    → watches range (get_or all k d) ≡ false
nobody range all k d none below =
    elim (cases_Bool (ltb (position_or_len (watches range) all) (length all))) [
      | inl some ↦
          absurd (some_not_none (position_or_len (watches range) all)
          (sym (ap (λ (b : Bool). cond b (Some (position_or_len (watches range) all)) None) some) ∙ none))
      | inr past ↦
          fails_before_first (watches range) all k d
          (omega (arith, below, ltb-false (position_or_len (watches range) all) (length all) past))
    ]

pub found_for : (range : CellRange) (all : List Watched) (at : ℕ) → place_of range all ≡ Some at → IsFor range all all at
found_for range all at is = record {
  below = (position-Some (watches range) all at (blank range) is).0;
  here = λ d. (and_parts (is_range (get_or all at d).range range) (not (length (get_or all at d).keys == 0))
      (position-Some (watches range) all at d is).1).0;
  before = λ k d less. (position-Some (watches range) all at d is).2 k less;
  kept = λ d.
      sym (ap (λ (o : Option ℕ). kept_of range (watched_at o all)) is
      ∙ ap (kept_of range) (slice_get-get_or all at d (position-Some (watches range) all at d is).0));
  same = λ other. refl;
}

-- a group that is of this range from now on, in the place of one in which nobody stands
fresh_for : (range : CellRange) (all : List Watched) (at : ℕ) → place_of range all ≡ None → at < length all
    → ((d : Watched) → (get_or all at d).keys ≡ []) → IsFor range all (set all at (blank range)) at
fresh_for range all at none below free = record {
  below = omega (arith, below, length-set all at (blank range));
  here = λ d.
      ap (λ (w : Watched). is_range w.range range) (get_or-set_same all at (blank range) d below) ∙ same_range range;
  before = λ k d less.
      ap (watches range) (get_or-set_other all at k (blank range) d (λ is. omega (arith, is, less)))
      ∙ nobody range all k d none (omega (arith, less, below));
  kept = λ d.
      get_or-set_same all at (blank range) d below
      ∙ sym (ap (λ (o : Option ℕ). kept_of range (watched_at o all)) none);
  same = λ other.
      unseen other all at (blank range) (blank range) (nobody_in other (get_or all at (blank range)) (free (blank range)))
      (nobody_in other (blank range) refl);
}

-- the same behind all others
pushed_for : (range : CellRange) (all : List Watched) → place_of range all ≡ None
    → IsFor range all (all ++ blank range ∷ []) (length all)
pushed_for range all none = record {
  below = omega (arith, length_push all (blank range));
  here = λ d.
      ap (λ (w : Watched). is_range w.range range) (get_or_push all (blank range) d (length all) refl) ∙ same_range range;
  before = λ k d less.
      ap (watches range) (get_or_append_left all (blank range ∷ []) d k less) ∙ nobody range all k d none less;
  kept = λ d.
      get_or_push all (blank range) d (length all) refl
      ∙ sym (ap (λ (o : Option ℕ). kept_of range (watched_at o all)) none);
  same = λ other. unseen_behind other all (blank range) (nobody_in other (blank range) refl);
}

kept_keys : (range : CellRange) (o : Option Watched) → (kept_of range o).keys ≡ keys_in o
kept_keys range None = refl
kept_keys range (Some w) = refl

-- what is kept, with one key more
abbrev pub and_one : ℕ → Watched → Watched
and_one key w = record w { keys = w.keys ++ key ∷ [] }

-- one more watches the range
pub joined : (range : CellRange) (key at : ℕ) (old mid new : List Watched) (g d : Watched) → IsFor range old mid at → new ≡ set mid at g
    → d ≡ get_or mid at d → g ≡ and_one key d → Joins range key true old new
joined range key at old mid new g d for is element more =
    let all = set mid at g in
    let kept : d ≡ kept_of range (watched_in range old) = element ∙ for.kept d in
    let there : get_or all at d ≡ g = get_or-set_same mid at g d for.below in
    let long : at < length all = omega (arith, for.below, length-set mid at g) in
    let of_range : is_range g.range range ≡ true =
    ap (λ (w : Watched). is_range w.range range) more ∙ ap (λ (w : Watched). is_range w.range range) element ∙ for.here d in
    let some : not (length g.keys == 0) ≡ true =
    ap not (ne_eqb (length g.keys) 0
    (λ none. omega (arith, none, ap (λ (w : Watched). length w.keys) more, length_push d.keys key))) in
    let here : watches range g ≡ true =
    and_from (is_range g.range range) (not (length g.keys == 0)) of_range some in
    let first : position_or_len (watches range) all ≡ at =
    position_or_len_is (watches range) all at d (omega (arith, long))
    (λ k less.
    ap (watches range) (get_or-set_other mid at k g d (λ same. omega (arith, same, less))) ∙ for.before k d less)
    (λ _. ap (watches range) there ∙ here) in
    let place : place_of range all ≡ Some at =
    ap (λ (n : ℕ). cond (ltb n (length all)) (Some n) None) first
    ∙ ap (λ (b : Bool). cond b (Some at) None) (lt-ltb at (length all) long) in
    record {
      more = λ _.
          ap (watched_in range) is ∙ ap (λ (o : Option ℕ). watched_at o all) place ∙ slice_get-get_or all at d long
          ∙ ap (λ (w : Watched). Some w) (there ∙ more ∙ ap (and_one key) kept)
          ∙ ap (λ (ks : List ℕ). Some (record (kept_of range (watched_in range old)) { keys = ks ++ key ∷ [] }))
          (kept_keys range (watched_in range old));
      same = λ not_so. absurd (true_not_false not_so);
      others = λ other differs.
          ap (watched_in other) is
          ∙ unseen other mid at g d
          (not_watched other (get_or mid at d) (no_other (get_or mid at d).range range other (for.here d) differs))
          (not_watched other g (no_other g.range range other of_range differs))
          ∙ for.same other;
    }

-- no more do, since there was no memory: what is kept of each range stays
pub not_joined : (range : CellRange) (key at : ℕ) (old mid new : List Watched) (g d : Watched) → IsFor range old mid at → new ≡ set mid at g
    → d ≡ get_or mid at d → g ≡ d → Joins range key false old new
not_joined range key at old mid new g d for is element same =
    let unchanged : new ≡ mid =
    is ∙ ap (set mid at) (same ∙ element) ∙ set-get_or mid at d in
    record {
      more = λ did. absurd (true_not_false (sym did));
      same = λ _. ap (watched_in range) unchanged ∙ for.same range;
      others = λ other _. ap (watched_in other) unchanged ∙ for.same other;
    }

pub joins : (range : CellRange) (key at : ℕ) (done : Bool) (old mid new : List Watched) (g d : Watched) → IsFor range old mid at
    → new ≡ set mid at g → d ≡ get_or mid at d → (done ≡ true → g ≡ and_one key d) → (done ≡ false → g ≡ d)
    → Joins range key done old new
joins range key at true old mid new g d for is element more same = joined range key at old mid new g d for is element (more refl)
joins range key at false old mid new g d for is element more same = not_joined range key at old mid new g d for is element (same refl)

-- nothing changed
pub nothing_joined : (range : CellRange) (key : ℕ) (old new : List Watched) → new ≡ old → Joins range key false old new
nothing_joined range key old new is = record {
  more = λ did. absurd (true_not_false (sym did));
  same = λ _. ap (watched_in range) is;
  others = λ other _. ap (watched_in other) is;
}

-- who watches the range is those that did, and this one
pub joins_last : (range : CellRange) (key : ℕ) (done : Bool) (old new : List Watched) → Joins range key done old new → done ≡ true
    → keys_of range new ≡ keys_of range old ++ key ∷ []
joins_last range key done old new so there = ap keys_in (so.more there)

-- so it stands among them
pub stands : (range : CellRange) (key : ℕ) (old new : List Watched) → keys_of range new ≡ keys_of range old ++ key ∷ []
    → Contains (keys_of range new) key
stands range key old new is = rw is (Contains-push (keys_of range old) key)

pub fresh_at : (range : CellRange) (old all new : List Watched) (at : ℕ) (g : Watched) → all ≡ old → place_of range old ≡ None
    → position is_free old ≡ Some at → g ≡ blank range → new ≡ set all at g → IsFor range old new at
fresh_at range old all new at g same none free is are =
    let there = λ (d : Watched). free_there all at d (ap (position is_free) same ∙ free) in
    subst (λ (xs : List Watched). IsFor range xs new at) same
    (subst (λ (xs : List Watched). IsFor range all xs at) (sym (are ∙ ap (set all at) is))
    (fresh_for range all at (ap (place_of range) same ∙ none) (there g).0 (λ d. (there d).1)))

pub pushed_at : (range : CellRange) (old all new : List Watched) (at : ℕ) (g : Watched) → all ≡ old → place_of range old ≡ None
    → g ≡ blank range → new ≡ all ++ g ∷ [] → at ≡ length all → IsFor range old new at
pushed_at range old all new at g same none is are long =
    subst (λ (xs : List Watched). IsFor range xs new at) same
    (subst (λ (n : ℕ). IsFor range all new n) (sym long)
    (subst (λ (xs : List Watched). IsFor range all xs (length all)) (sym (are ∙ ap (λ (w : Watched). all ++ w ∷ []) is))
    (pushed_for range all (ap (place_of range) same ∙ none))))

-- what is kept at a place is of the same range and has the same keys: who watches what stays
same_keys : (any : CellRange) (all : List Watched) (at : ℕ) (g d : Watched) → g.range ≡ (get_or all at d).range
    → g.keys ≡ (get_or all at d).keys → keys_of any (set all at g) ≡ keys_of any all
same_keys any all at g d of_range keys =
    let first : position_or_len (watches any) (set all at g) ≡ position_or_len (watches any) all =
    position_or_len-set (watches any) all at g d
    (ap (λ (r : CellRange). is_range r any && not (length g.keys == 0)) of_range
    ∙ ap (λ (ks : List ℕ). is_range (get_or all at d).range any && not (length ks == 0)) keys) in
    let place : place_of any (set all at g) ≡ place_of any all =
    ap (λ (n : ℕ). cond (ltb n (length (set all at g))) (Some n) None) first
    ∙ ap (λ (n : ℕ). cond (ltb (position_or_len (watches any) all) n) (Some (position_or_len (watches any) all)) None)
    (length-set all at g) in
    ap (λ (o : Option ℕ). keys_in (watched_at o (set all at g))) place ∙ keys_there (place_of any all) all at g d keys
  where
    keys_unwrapped : (o : Option Watched) → keys_in o ≡ unwrap_or (option_map (λ (w : Watched). w.keys) o) []
    keys_unwrapped None = refl
    keys_unwrapped (Some w) = refl

    keys_got : (xs : List Watched) (k : ℕ) → keys_in (slice_get xs k) ≡ unwrap_or (slice_get (map (λ (w : Watched). w.keys) xs) k) []
    keys_got xs k =
        keys_unwrapped (slice_get xs k)
        ∙ ap (λ (o : Option (List ℕ)). unwrap_or o []) (sym (slice_get-map (λ (w : Watched). w.keys) xs k))

    keys_there : (o : Option ℕ) (all : List Watched) (at : ℕ) (g d : Watched) → g.keys ≡ (get_or all at d).keys
        → keys_in (watched_at o (set all at g)) ≡ keys_in (watched_at o all)
    keys_there None all at g d keys = refl
    keys_there (Some k) all at g d keys =
        keys_got (set all at g) k
        ∙ ap (λ (xs : List (List ℕ)). unwrap_or (slice_get xs k) []) (map-set_same (λ (w : Watched). w.keys) all at g d keys)
        ∙ sym (keys_got all k)

-- what was told of a range is kept, and nothing else
pub only_told : (range : CellRange) (at : ℕ) (old all new : List Watched) (g d : Watched) → all ≡ old → place_of range old ≡ Some at
    → new ≡ set all at g → d ≡ get_or all at d → g.range ≡ d.range → g.keys ≡ d.keys → OnlyTold range old new
only_told range at old all new g d same place is element of_range keys =
    let for : IsFor range all all at = found_for range all at (ap (place_of range) same ∙ place) in
    let its_range : g.range ≡ (get_or all at d).range = of_range ∙ ap (λ (w : Watched). w.range) element in
    let its_keys : g.keys ≡ (get_or all at d).keys = keys ∙ ap (λ (w : Watched). w.keys) element in
    record {
      keys = λ any. ap (keys_of any) is ∙ same_keys any all at g d its_range its_keys ∙ ap (keys_of any) same;
      others = λ other differs.
          let there = no_other (get_or all at d).range range other (for.here d) differs in
          ap (watched_in other) is
          ∙ unseen other all at g d (not_watched other (get_or all at d) there)
          (not_watched other g (ap (λ (r : CellRange). is_range r other) its_range ∙ there))
          ∙ ap (watched_in other) same;
    }
