-- What a file has with the lines that wait stays a journal.
use Rattle.std.proofs.Common.{◌≡◌, ℕ, List, [], ◌++◌, ◌∙◌, Option, None, Some, IfSome, ap, sym, subst}
use Rattle.std.proofs.lemmas.List.{append-nil}
use Rattle.std.specs.Io.KnownBytes.{append_known}
use Rattle.warp_record.specs.declared.record.Record.{Record}
use Rattle.warp_journal.specs.declared.journal.Journal.{Journal}
use Rattle.std.proofs.Common.{◌+◌, ◌%◌, ◌==◌, if◌then◌else◌, Bool, true, false, ◌∷◌, length, append_assoc}
use Rattle.std.proofs.lemmas.List.{length_push}
use Rattle.warp_record.specs.Record.{record_spelling}
use Rattle.warp_journal.specs.Journal.{Keeps, added, line_of, most_unsummed, sum_text, tells_seconds}
use Rattle.warp_journal.specs.Keeping.{OnDisk}

abbrev Has : List ℕ → Journal → List Record → List ℕ → Option (List ℕ) → Type 0
Has first j records rest written = IfSome written (λ (text : List ℕ). Keeps first j (text ++ rest) records)

-- once the lines that wait were written, and none waits
pub wrote : (first : List ℕ) (j : Journal) (records : List Record) (before after : Option (List ℕ)) (lines rest : List ℕ) →
    after ≡ append_known before lines → rest ≡ [] → IfSome before (λ text. Keeps first j (text ++ lines) records) →
    IfSome after (λ text. Keeps first j (text ++ rest) records)
wrote first j records None after lines rest is none keeps = subst (Has first j records rest) (sym is) tt
wrote first j records (Some text) after lines rest is none keeps =
    subst (Has first j records rest) (sym is)
    (subst (λ (it : List ℕ). Keeps first j it records)
    (sym (append-nil (text ++ lines)) ∙ ap (λ (r : List ℕ). (text ++ lines) ++ r) (sym none)) keeps)

-- once what was written is on the disk, and no line waits
pub brought : (first : List ℕ) (j : Journal) (records : List Record) (written synced : Option (List ℕ)) (rest : List ℕ) (count : ℕ) →
    synced ≡ written → rest ≡ [] → count ≡ j.count → IfSome written (λ text. Keeps first j (text ++ rest) records) →
    OnDisk first synced count records
brought first j records None synced rest count is none counts keeps =
    subst (λ (o : Option (List ℕ)). OnDisk first o count records) (sym is) tt
brought first j records (Some text) synced rest count is none counts keeps =
    let plain : Keeps first j text records =
    subst (λ (it : List ℕ). Keeps first j it records) (ap (λ (r : List ℕ). text ++ r) none ∙ append-nil text) keeps in
    subst (λ (o : Option (List ℕ)). OnDisk first o count records) (sym is) (plain.is_journal, counts ∙ plain.count)

-- what a record adds where a sum stands behind it
pub added_sum : (first text old w w' : List ℕ) (records : List Record) (said : Record) (second count : ℕ) (due : Bool) →
    due ≡ true → due ≡ (count % most_unsummed == 0) → count ≡ length (records ++ said ∷ []) →
    w ≡ old ++ line_of (record_spelling said) →
    w' ≡ w ++ line_of (sum_text (tells_seconds first) (length (records ++ said ∷ [])) (text ++ line_of (record_spelling said)) second) →
    w' ≡ old ++ added first text (length records) said second
added_sum first text old w w' records said second count due is means counts more summed =
    let line = line_of (record_spelling said) in
    let sum : ℕ → List ℕ = λ n. line_of (sum_text (tells_seconds first) n (text ++ line) second) in
    let many : length (records ++ said ∷ []) ≡ length records + 1 = length_push records said in
    let test : true ≡ ((length records + 1) % most_unsummed == 0) =
    sym is ∙ means ∙ ap (λ (n : ℕ). n % most_unsummed == 0) (counts ∙ many) in
    summed ∙ ap (λ (it : List ℕ). it ++ sum (length (records ++ said ∷ []))) more
    ∙ append_assoc old line (sum (length (records ++ said ∷ [])))
    ∙ ap (λ (n : ℕ). old ++ (line ++ sum n)) many
    ∙ ap (λ (b : Bool). old ++ (if b then (line ++ sum (length records + 1)) else line)) test

-- and where none does
pub added_none : (first text old w : List ℕ) (records : List Record) (said : Record) (second count : ℕ) (due : Bool) →
    due ≡ false → due ≡ (count % most_unsummed == 0) → count ≡ length (records ++ said ∷ []) →
    w ≡ old ++ line_of (record_spelling said) → w ≡ old ++ added first text (length records) said second
added_none first text old w records said second count due is means counts more =
    let line = line_of (record_spelling said) in
    let sum = line_of (sum_text (tells_seconds first) (length records + 1) (text ++ line) second) in
    let test : false ≡ ((length records + 1) % most_unsummed == 0) =
    sym is ∙ means ∙ ap (λ (n : ℕ). n % most_unsummed == 0) (counts ∙ length_push records said) in
    more ∙ ap (λ (b : Bool). old ++ (if b then (line ++ sum) else line)) test
