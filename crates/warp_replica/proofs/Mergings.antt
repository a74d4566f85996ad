-- What merging makes of two logs.
use Rattle.std.proofs.Common.{◌≡◌, ◌≢◌, ℕ, ◌+◌, ◌-◌, ◌<◌, Bool, true, false, not, ◌&&◌, ◌||◌, List, [], ◌∷◌, ◌++◌}
use Rattle.std.proofs.Common.{Contains, length, get_or, filter, inl, inr, refl, sym, ap, subst, ◌∙◌, arith, rules}
use Rattle.std.proofs.Common.{length-append}
use Rattle.std.specs.Prelude.{AllPairs}
use Rattle.std.proofs.lemmas.Bool.{both_ways, cases_lt, not-true}
use Rattle.std.proofs.lemmas.List.{append-nil, get_or_append_left, get_or-append_right}
use Rattle.std.proofs.lemmas.List.Elements.{All-get_or, filter_passes, Contains-get_or}
use Rattle.std.proofs.lemmas.List.Folds.{list_any-append}
use Rattle.std.proofs.lemmas.List.Kept.{AllPairs-filter}
use Rattle.std.proofs.lemmas.Map.Views.{any-filter_same}
use Rattle.warp_record.specs.declared.record.Record.{Record}
use Rattle.warp_table.specs.Log.{EachOnce}
use Rattle.warp_table.specs.Records.{same_record, set_of, union}
use Rattle.warp_tag.proofs.Lists.{filter-past}
use Rattle.warp_table.proofs.Members.{Contains-here, Contains-there}
use Rattle.warp_table.proofs.Sets.{in_set, same_record-Decides}
use Rattle.warp_replica.specs.Merge.{merged}

-- a fact of two things is one of their equals
moved : {X : Type 0} (R : X → X → Type 0) (x y a b : X) → x ≡ a → y ≡ b → R a b → R x y
moved R x y a b same_x same_y h = subst (λ v. R v y) (sym same_x) (subst (R a) (sym same_y) h)

-- what holds of all pairs of two lists, and across them, holds of their joint list
AllPairs-append : {X : Type 0} (R : X → X → Type 0) (xs ys : List X) → AllPairs R xs → AllPairs R ys
    → ((i j : ℕ) (d : X) → i < length xs → j < length ys → R (get_or xs i d) (get_or ys j d)) → AllPairs R (xs ++ ys)
AllPairs-append {X} R xs ys front back across i j d below within =
    let size : length (xs ++ ys) ≡ length xs + length ys = length-append xs ys in
    elim (cases_lt j (length xs)) [
      | inl j_front ↦
          moved R _ _ (get_or xs i d) (get_or xs j d)
          (get_or_append_left xs ys d i (omega arith)) (get_or_append_left xs ys d j j_front)
          (front i j d below j_front)
      | inr j_back ↦ elim (cases_lt i (length xs)) [
        | inl i_front ↦
            moved R _ _ (get_or xs i d) (get_or ys (j - length xs) d)
            (get_or_append_left xs ys d i i_front) (get_or-append_right xs ys (length xs) j d refl j_back)
            (across i (j - length xs) d i_front (omega arith))
        | inr i_back ↦
            moved R _ _ (get_or ys (i - length xs) d) (get_or ys (j - length xs) d)
            (get_or-append_right xs ys (length xs) i d refl i_back) (get_or-append_right xs ys (length xs) j d refl j_back)
            (back (i - length xs) (j - length xs) d (omega arith) (omega arith))
      ]
    ]

-- what is in one set, or in the other and not in the one, is in their union
or_lacking : (a b : Bool) → (a || (not a && b)) ≡ (a || b)
or_lacking true b = refl
or_lacking false b = refl

-- the record is one that the log lacks
abbrev lacks : List Record → Record → Bool
lacks records said = not (set_of records said)

-- a record is among those that the log lacks where the log lacks it and the other has it
among_lacked : (records other : List Record) (said : Record) → set_of (filter (lacks records) other) said ≡ (lacks records said && set_of other said)
among_lacked records other said =
    any-filter_same (same_record said) (lacks records) (lacks records said) (λ k same. ap (lacks records) (sym ((same_record-Decides said k).0 same))) other

-- merging joins the sets
pub merged_set : (records other : List Record) → set_of (merged records other) ≡ union (set_of records) (set_of other)
merged_set records other = λ i said. has said i
  where
    has : (said : Record) → set_of (merged records other) said ≡ union (set_of records) (set_of other) said
    has said =
        list_any-append (same_record said) records (filter (lacks records) other)
        ∙ ap (λ b. set_of records said || b) (among_lacked records other said)
        ∙ or_lacking (set_of records said) (set_of other said)

-- and has each record once where both had
pub merged_once : (records other : List Record) → EachOnce records → EachOnce other → EachOnce (merged records other)
merged_once records other once other_once =
    AllPairs-append (λ a b. a ≢ b) records (filter (lacks records) other) once
    (AllPairs-filter (λ a b. a ≢ b) (lacks records) other other_once) apart
  where
    apart : (i j : ℕ) (d : Record) → i < length records → j < length (filter (lacks records) other)
        → get_or records i d ≢ get_or (filter (lacks records) other) j d
    apart i j d i_in j_in same =
        let lacking = All-get_or (λ said. lacks records said ≡ true) (filter (lacks records) other) j d j_in (filter_passes (lacks records) other) in
        let there = (in_set records (get_or records i d)).0 (Contains-get_or records i d i_in) in
        both_ways (set_of records (get_or records i d)) (not-true _ (subst (λ said. lacks records said ≡ true) (sym same) lacking)) there

or-right : (a b : Bool) → b ≡ true → (a || b) ≡ true
or-right true b h = refl
or-right false b h = h

-- a log that was merged brings nothing more
pub merged_again : (records other : List Record) → merged (merged records other) other ≡ merged records other
merged_again records other =
    ap (λ more. merged records other ++ more) (none_lacked other (λ said has. there said has)) ∙ append-nil (merged records other)
  where
    there : (said : Record) → Contains other said → set_of (merged records other) said ≡ true
    there said has =
        ap (λ S. S said) (merged_set records other) ∙ or-right (set_of records said) (set_of other said) ((in_set other said).0 has)

    none_lacked : (rest : List Record) → ((said : Record) → Contains rest said → set_of (merged records other) said ≡ true)
        → filter (lacks (merged records other)) rest ≡ []
    none_lacked [] all = refl
    none_lacked (said ∷ rest) all =
        filter-past (lacks (merged records other)) said rest (ap not (all said (Contains-here said rest)))
        ∙ none_lacked rest (λ one has. all one (Contains-there said rest one has))

-- the set does not depend on the order of merging
pub commuted : (records other : List Record) → set_of (merged records other) ≡ set_of (merged other records)
commuted records other =
    let order : union (set_of records) (set_of other) ≡ union (set_of other) (set_of records) = search rules in
    merged_set records other ∙ order ∙ sym (merged_set other records)

pub associated : (records other third : List Record) → set_of (merged (merged records other) third) ≡ set_of (merged records (merged other third))
associated records other third =
    let groups : union (union (set_of records) (set_of other)) (set_of third) ≡ union (set_of records) (union (set_of other) (set_of third)) = search rules in
    merged_set (merged records other) third ∙ ap (λ S. union S (set_of third)) (merged_set records other) ∙ groups
    ∙ sym (merged_set records (merged other third) ∙ ap (λ S. union (set_of records) S) (merged_set other third))
