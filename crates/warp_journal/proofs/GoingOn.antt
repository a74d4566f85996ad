-- What is kept of a journal goes on by a line.
use Rattle.std.proofs.Common.{◌≡◌, ◌⊎◌, ◌<◌, ◌^◌, Bool, ℕ, ◌+◌, List, [], ◌∷◌, ◌++◌, length, ap, sym, subst, ◌∙◌, inl, inr}
use Rattle.std.proofs.Common.{Option, Some, None, Result, Ok, Err, IfOk, IfErr}
use Rattle.std.proofs.Common.{take, drop, ◌-◌, arith}
use Rattle.std.proofs.lemmas.List.{length_push, length-append, drop_at}
use Rattle.std.proofs.Math.Seq.{take-length}
use Rattle.sha2.specs.Hashers.{Holds256}
use Rattle.warp_tag.specs.declared.form.Form.{Form}
use Rattle.warp_record.specs.declared.record.Record.{Record}
use Rattle.warp_record.specs.Record.{IsRecord, record_spelling}
use Rattle.warp_journal.specs.declared.journal.Journal.{Journal}
use Rattle.warp_journal.specs.declared.journal.Fault.{Fault}
use Rattle.warp_journal.specs.declared.journal.Fault.TheVariants.{NoMemory, NoRecord, TooMany, WrongSum}
use Rattle.warp_journal.specs.Journal.{IsFaultOf, IsNext, IsWrong, Keeps, line_of, sum_text, tells_seconds, with_found}
use Rattle.warp_journal.specs.Journal.IsJournal.{More, Summed}

-- by the line of a record
pub keeps_more : (first text : List ℕ) (records : List Record) (said : Record) (j j' : Journal) →
    Keeps first j text records → Holds256 j'.sum (text ++ line_of (record_spelling said)) → j'.count ≡ j.count + 1 →
    j'.tells_seconds ≡ j.tells_seconds → Keeps first j' (text ++ line_of (record_spelling said)) (records ++ said ∷ [])
keeps_more first text records said j j' keeps sum count seconds = record {
  is_journal = More text records said keeps.is_journal;
  sum = sum;
  count = count ∙ ap (λ n. n + 1) keeps.count ∙ sym (length_push records said);
  seconds = seconds ∙ keeps.seconds;
}

-- the sum of what is kept is that of its first line's form, and of its records
pub same_sum : (first text : List ℕ) (records : List Record) (j : Journal) (second : ℕ) → Keeps first j text records →
    sum_text j.tells_seconds j.count text second ≡ sum_text (tells_seconds first) (length records) text second
same_sum first text records j second keeps =
    ap (λ (n : ℕ). sum_text j.tells_seconds n text second) keeps.count
    ∙ ap (λ (b : Bool). sum_text b (length records) text second) keeps.seconds

-- by the line of the sum
pub keeps_sum : (first text line : List ℕ) (records : List Record) (second : ℕ) (j j' : Journal) →
    Keeps first j text records → line ≡ sum_text j.tells_seconds j.count text second →
    Holds256 j'.sum (text ++ line_of line) → j'.count ≡ j.count → j'.tells_seconds ≡ j.tells_seconds →
    Keeps first j' (text ++ line_of (sum_text (tells_seconds first) (length records) text second)) records
keeps_sum first text line records second j j' keeps said sum count seconds =
    let Held : List ℕ → Type 0 = λ it. Holds256 j'.sum (text ++ line_of it) in
    record {
      is_journal = Summed text records second keeps.is_journal;
      sum = subst Held (said ∙ same_sum first text records j second keeps) sum;
      count = count ∙ keeps.count;
      seconds = seconds ∙ keeps.seconds;
    }

-- so by a line that is the sum's
pub keeps_summed : (first text line : List ℕ) (records : List Record) (second : ℕ) (j j' : Journal) →
    Keeps first j text records → line ≡ sum_text j.tells_seconds j.count text second →
    Holds256 j'.sum (text ++ line_of line) → j'.count ≡ j.count → j'.tells_seconds ≡ j.tells_seconds →
    Keeps first j' (text ++ line_of line) records
keeps_summed first text line records second j j' keeps said sum count seconds =
    let Kept : List ℕ → Type 0 = λ it. Keeps first j' (text ++ line_of it) records in
    subst Kept (sym (said ∙ same_sum first text records j second keeps))
    (keeps_sum first text line records second j j' keeps said sum count seconds)

-- the line is the sum's, of some second
abbrev pub IsSumOf : Journal → List ℕ → List ℕ → Type 0
IsSumOf j before line = (second : ℕ) × (second < 2 ^ 64) × (line ≡ sum_text j.tells_seconds j.count before second)

-- whatever was found is the sum
pub found_sum : (line : List ℕ) (j j' : Journal) (r : Result (Option Record) Fault) →
    IfOk r (λ found. (found ≡ None) × ((before : List ℕ) → Holds256 j.sum before →
    IsSumOf j before line × Holds256 j'.sum (before ++ line_of line))) →
    (j'.count ≡ j.count) × (j'.tells_seconds ≡ j.tells_seconds) →
    IfOk r (λ found. (first before : List ℕ) (records : List Record) → Keeps first j before records →
    Keeps first j' (before ++ line_of line) (with_found records found))
found_sum line j j' (Ok found) is_sum same = λ first before records keeps.
    let Kept : Option Record → Type 0 = λ it. Keeps first j' (before ++ line_of line) (with_found records it) in
    let held = is_sum.1 before keeps.sum in
    subst Kept (sym is_sum.0)
    (keeps_summed first before line records held.0.0 j j' keeps held.0.2 held.1 same.0 same.1)
found_sum line j j' (Err fault) is_sum same = tt

-- and it goes on
pub next_sum : (f : Form) (line : List ℕ) (j j' : Journal) (r : Result (Option Record) Fault) →
    IfOk r (λ found. (found ≡ None) × ((before : List ℕ) → Holds256 j.sum before →
    IsSumOf j before line × Holds256 j'.sum (before ++ line_of line))) →
    IfOk r (λ found. (before : List ℕ) → Holds256 j.sum before → IsNext f j.tells_seconds j.count before line found)
next_sum f line j j' (Ok found) is_sum = λ before holds.
    let Next : Option Record → Type 0 = λ it. IsNext f j.tells_seconds j.count before line it in
    subst Next (sym is_sum.0) ((is_sum.1 before holds).0)
next_sum f line j j' (Err fault) is_sum = tt

-- a line that is no record's and not the sum's goes on with no journal
none_is : (f : Form) (j : Journal) (line before : List ℕ) →
    ((said : Record) → IsRecord f said → line ≡ record_spelling said → ⊥) →
    ((second : ℕ) → second < 2 ^ 64 → line ≡ sum_text j.tells_seconds j.count before second → ⊥) →
    (found : Option Record) → ¬ IsNext f j.tells_seconds j.count before line found
none_is f j line before no_record no_sum None is = no_sum is.0 is.1 is.2
none_is f j line before no_record no_sum (Some said) is = no_record said is.0 is.1

-- and is wrong so
wrong_is : (f : Form) (j : Journal) (line before : List ℕ) (fault : Fault) →
    ((found : Option Record) → ¬ IsNext f j.tells_seconds j.count before line found) → IsFaultOf line fault →
    IsWrong f j.tells_seconds j.count before line fault
wrong_is f j line before NoRecord none is = (inr none, is)
wrong_is f j line before WrongSum none is = (inr none, is)
wrong_is f j line before TooMany none is = absurd is
wrong_is f j line before NoMemory none is = absurd is

pub found_none : (f : Form) (j : Journal) (line : List ℕ) (r : Result (Option Record) Fault) →
    ((said : Record) → IsRecord f said → line ≡ record_spelling said → ⊥) →
    IfErr r (λ fault. (fault ≡ NoMemory)
    ⊎ (((before : List ℕ) (second : ℕ) → Holds256 j.sum before → second < 2 ^ 64 →
    line ≡ sum_text j.tells_seconds j.count before second → ⊥) × IsFaultOf line fault)) →
    IfErr r (λ fault. (fault ≡ NoMemory)
    ⊎ ((before : List ℕ) → Holds256 j.sum before → IsWrong f j.tells_seconds j.count before line fault))
found_none f j line (Ok found) no_record err = tt
found_none f j line (Err fault) no_record (inl memory) = inl memory
found_none f j line (Err fault) no_record (inr no_sum) = inr (λ before holds.
    wrong_is f j line before fault
    (none_is f j line before no_record (λ second fits is. no_sum.0 before second holds fits is)) no_sum.1)

-- what stands behind the front of a list
pub slice_behind : (front behind all : List ℕ) (n : ℕ) → all ≡ front ++ behind → length front ≡ n →
    take (length all - n) (drop n all) ≡ behind
slice_behind front behind all n is_all is_n =
    let is_behind : drop n all ≡ behind = ap (λ it. drop n it) is_all ∙ drop_at front behind n is_n in
    let many : length all ≡ length front + length behind = ap length is_all ∙ length-append front behind in
    let left : length all - n ≡ length behind = omega arith in
    ap (λ it. take (length all - n) it) is_behind ∙ ap (λ k. take k behind) left ∙ take-length behind
