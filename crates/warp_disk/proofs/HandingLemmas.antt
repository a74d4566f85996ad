-- What goes through the ring to a journal's thread, and lists of records that grow.
use Rattle.std.proofs.Common.{◌≡◌, ◌≢◌, ◌∙◌, ℕ, ◌+◌, ◌==◌, suc, Bool, true, false, List, [], ◌∷◌, ◌++◌, length, Option, Some, None, refl, sym, ap, subst, take, arith}
use Rattle.std.specs.Prelude.{if◌then◌else◌}
use Rattle.std.proofs.Math.Seq.{take-suc}
use Rattle.std.proofs.lemmas.Bool.{eq-eqb, ne_eqb}
use Rattle.std.proofs.lemmas.Option.{get_or_from_slice_get, slice_get_within}
use Rattle.std.specs.List.{slice_get}
use Rattle.std.proofs.lemmas.List.{append_assoc, append-nil, length-append}
use Rattle.warp_record.specs.declared.record.Record.{Record}
use Rattle.warp_journal.specs.declared.keeping.Keeper.{Keeper}
use Rattle.warp_journal.specs.Keeping.{KeepsAll}
use Rattle.warp_disk.specs.declared.handing.Handed.{Handed}
use Rattle.warp_disk.specs.Handing.{TakesHanded, TakesNext, handed_since}

chosen : (b : Bool) (said : Record) (xs ys : List Record) → (if b then said ∷ (xs ++ ys) else xs ++ ys) ≡ (if b then said ∷ xs else xs) ++ ys
chosen true said xs ys = refl
chosen false said xs ys = refl

pub since_joined : (beginning : ℕ) (xs ys : List Handed) → handed_since beginning (xs ++ ys) ≡ handed_since beginning xs ++ handed_since beginning ys
since_joined beginning [] ys = refl
since_joined beginning (handed ∷ xs) ys =
    ap (λ (rest : List Record). if handed.beginning == beginning then handed.entry ∷ rest else rest) (since_joined beginning xs ys)
    ∙ chosen (handed.beginning == beginning) handed.entry (handed_since beginning xs) (handed_since beginning ys)

if_yes : (n beginning : ℕ) (said : Record) → n ≡ beginning → (if n == beginning then said ∷ [] else []) ≡ said ∷ []
if_yes n beginning said e = ap (λ (b : Bool). if b then said ∷ [] else []) (eq-eqb n beginning e)

if_no : (n beginning : ℕ) (said : Record) → n ≢ beginning → (if n == beginning then said ∷ [] else []) ≡ []
if_no n beginning said e = ap (λ (b : Bool). if b then said ∷ [] else []) (ne_eqb n beginning e)

length_one : (xs : List Record) (said : Record) → length (xs ++ said ∷ []) ≡ length xs + 1
length_one xs said = length-append xs (said ∷ [])

-- nothing that is looked for was passed over so far
abbrev pub Passed : ℕ → List Handed → List Handed → Type 0
Passed beginning out out' = (more : List Handed) × (out' ≡ out ++ more) × (handed_since beginning more ≡ [])

pub passed_more : (beginning : ℕ) (out out' out'' : List Handed) (handed : Handed) → Passed beginning out out' → out'' ≡ out' ++ handed ∷ [] →
    handed.beginning ≢ beginning → Passed beginning out out''
passed_more beginning out out' out'' handed passed one other = (
  passed.0 ++ handed ∷ [],
  one ∙ ap (λ it. it ++ handed ∷ []) passed.1 ∙ append_assoc out passed.0 (handed ∷ []),
  since_joined beginning passed.0 (handed ∷ []) ∙ ap (λ it. it ++ handed_since beginning (handed ∷ [])) passed.2
      ∙ if_no handed.beginning beginning handed.entry other,
)

pub passed_to : (beginning : ℕ) (out out' out'' : List Handed) (handed : Handed) → Passed beginning out out' → out'' ≡ out' ++ handed ∷ [] →
    handed.beginning ≡ beginning → TakesNext beginning (Some handed.entry) out out''
passed_to beginning out out' out'' handed passed one same = (
  passed.0 ++ handed ∷ [],
  one ∙ ap (λ it. it ++ handed ∷ []) passed.1 ∙ append_assoc out passed.0 (handed ∷ []),
  since_joined beginning passed.0 (handed ∷ []) ∙ ap (λ it. it ++ handed_since beginning (handed ∷ [])) passed.2
      ∙ if_yes handed.beginning beginning handed.entry same,
)

pub passed_end : (beginning : ℕ) (out out' out'' : List Handed) → Passed beginning out out' → out'' ≡ out' → TakesNext beginning None out out''
passed_end beginning out out' out'' passed same = (passed.0, same ∙ passed.1, passed.2)

module _ {D : Type 0} where
  pub none_taken : (written : D → Option (List ℕ)) (beginning : ℕ) (keeper : Keeper D) (out : List Handed) →
      TakesHanded written beginning 0 keeper keeper out out
  none_taken written beginning keeper out = (
    [],
    sym (append-nil out),
    refl,
    λ first records keeps. subst (λ it. KeepsAll written first keeper it) (sym (append-nil records)) keeps,
  )

  pub taken_end : (written : D → Option (List ℕ)) (beginning count : ℕ) (keeper keeper' : Keeper D) (out out' out'' : List Handed) →
      TakesHanded written beginning count keeper keeper' out out' → TakesNext beginning None out' out'' →
      TakesHanded written beginning count keeper keeper' out out''
  taken_end written beginning count keeper keeper' out out' out'' taken none =
      let same : handed_since beginning (taken.0 ++ none.0) ≡ handed_since beginning taken.0 =
      since_joined beginning taken.0 none.0 ∙ ap (λ it. handed_since beginning taken.0 ++ it) none.2 ∙ append-nil (handed_since beginning taken.0) in (
        taken.0 ++ none.0,
        none.1 ∙ ap (λ it. it ++ none.0) taken.1 ∙ append_assoc out taken.0 none.0,
        taken.2 ∙ sym (ap length same),
        λ first records keeps. subst (λ it. KeepsAll written first keeper' (records ++ it)) (sym same) (taken.3 first records keeps),
      )

  pub taken_more : (written : D → Option (List ℕ)) (beginning count : ℕ) (keeper keeper' keeper'' : Keeper D) (out out' out'' : List Handed) (said : Record) →
      TakesHanded written beginning count keeper keeper' out out' → TakesNext beginning (Some said) out' out'' →
      ((first : List ℕ) (records : List Record) → KeepsAll written first keeper' records → KeepsAll written first keeper'' (records ++ said ∷ [])) →
      TakesHanded written beginning (count + 1) keeper keeper'' out out''
  taken_more written beginning count keeper keeper' keeper'' out out' out'' said taken next takes =
      let more : handed_since beginning (taken.0 ++ next.0) ≡ handed_since beginning taken.0 ++ said ∷ [] =
      since_joined beginning taken.0 next.0 ∙ ap (λ it. handed_since beginning taken.0 ++ it) next.2 in (
        taken.0 ++ next.0,
        next.1 ∙ ap (λ it. it ++ next.0) taken.1 ∙ append_assoc out taken.0 next.0,
        ap (λ n. n + 1) taken.2 ∙ sym (length_one (handed_since beginning taken.0) said) ∙ sym (ap length more),
        λ first records keeps. subst (λ it. KeepsAll written first keeper'' it)
            (append_assoc records (handed_since beginning taken.0) (said ∷ []) ∙ ap (λ it. records ++ it) (sym more))
            (takes first (records ++ handed_since beginning taken.0) (taken.3 first records keeps)),
      )

-- one record more of a list
pub taken_next : (records : List Record) (place : ℕ) (said : Record) → slice_get records place ≡ Some said →
    take (place + 1) records ≡ take place records ++ said ∷ []
taken_next records place said at =
    let more : place + 1 ≡ suc place = omega arith in
    ap (λ n. take n records) more ∙ take-suc records place said (slice_get_within records place said at)
    ∙ ap (λ it. take place records ++ it ∷ []) (get_or_from_slice_get records place said said at)
