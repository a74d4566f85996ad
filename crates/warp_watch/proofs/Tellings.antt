-- What is appended is the text that answers a question.
use Rattle.std.proofs.Common.{◌≡◌, ◌∙◌, ◌+◌, ◌-◌, ◌++◌, ℕ, Bool, List, [], ◌∷◌, ap, arith, drop, if◌then◌else◌, length, refl, subst, sym, take}
use Rattle.std.specs.Prelude.{codes, decimal, OnOk, Result}
use Rattle.std.proofs.lemmas.Result.{on_ok_weaker}
use Rattle.warp_step.specs.Program.{Program}
use Rattle.warp_record.specs.declared.line.Query.TheVariants as query
use Rattle.warp_record.specs.declared.record.Record.{Record}
use Rattle.warp_record.specs.declared.reply.Reply.{Reply}
use Rattle.warp_record.specs.Record.{tag_words}
use Rattle.warp_record.specs.Reply.{reply_line}
use Rattle.warp_table.specs.Announced.{beginning}
use Rattle.warp_table.specs.Log.{EachOnce}
use Rattle.warp_table.specs.Records.{set_of}
use Rattle.warp_table.proofs.Sets.{one_size}
use Rattle.warp_replica.specs.Answers.{Answers, AreAnswers}
use Rattle.warp_replica.specs.Gives.{GivesQuery}
use Rattle.warp_watch.specs.Lines.{first_place, frozen_line, line_of, log_page, output_lines, page_count, record_lines}
use Rattle.warp_watch.specs.Shown.{ShownState}
use Rattle.warp_watch.specs.Telling.{IsOfAsked, OfOrigin, ends_frozen, released_page, text_of}
use Rattle.warp_watch.specs.declared.question.Question.{Question}

-- the text that is told of the horizon
pub horizon_told : (P : Program) (records : List Record) (said : Reply) (old new : List ℕ) → EachOnce records
    → GivesQuery P records query.Horizon said → new ≡ old ++ reply_line said
    → (a : Answers) × AreAnswers P (set_of records) a
    × (new ≡ old ++ line_of (codes "horizon" ∷ decimal (length records) ∷ tag_words a.horizon))
horizon_told P records said old new once gives added =
    let a = gives.0 in
    let many : a.count ≡ length records = one_size (set_of records) _ _ gives.1.count (records, once, refl, refl) in (
      a,
      gives.1,
      added ∙ ap (λ reply. old ++ reply_line reply) gives.2
          ∙ ap (λ n. old ++ line_of (codes "horizon" ∷ decimal n ∷ tag_words a.horizon)) many,
    )

-- so many lines from the first place of a page on are those up to where it ends
pub page_lines : (first count next : ℕ) → next ≡ first + count → next - first ≡ count
page_lines first count next is = omega (arith, is)

-- a page of the log
pub log_told : (records : List Record) (from until first next : ℕ) (old new : List ℕ) → first ≡ first_place from
    → next ≡ first_place from + page_count (length records + 1) (first_place from) until
    → new ≡ old ++ record_lines first (take (next - first) (drop (first - 1) records))
    → new ≡ old ++ log_page records from until
log_told records from until first next old new begins ends added =
    added ∙ ap (λ n. old ++ record_lines n (take (next - n) (drop (n - 1) records))) begins
    ∙ ap (λ n. old ++ record_lines (first_place from) (take n (drop (first_place from - 1) records)))
    (page_lines (first_place from) (page_count (length records + 1) (first_place from) until) next ends)

-- a page of the shown outputs
pub released_told : (s : ShownState) (from until next : ℕ) (is_last : Bool) (old new : List ℕ)
    → next ≡ from + page_count (length s.rows) from until → is_last ≡ ends_frozen s from until
    → new ≡ old ++ (output_lines from (take (next - from) (drop from s.rows)) ++ (if is_last then frozen_line else []))
    → new ≡ old ++ (released_page s from until ++ (if ends_frozen s from until then frozen_line else []))
released_told s from until next is_last old new ends last added =
    added ∙ ap (λ n. old ++ (output_lines from (take n (drop from s.rows)) ++ (if is_last then frozen_line else [])))
    (page_lines from (page_count (length s.rows) from until) next ends)
    ∙ ap (λ b. old ++ (released_page s from until ++ (if b then frozen_line else []))) last

-- what nothing is asked of
abbrev pub no_origin : OfOrigin
no_origin = record { counts = record { events = 0; withdrawn = 0; last = beginning }; reached = beginning }

-- this text was told to the question, behind what was there
abbrev pub IsTold : Program → List Record → ShownState → List ℕ → List ℕ → Question → Type 0
IsTold P records s old new asked =
    (a : Answers) × AreAnswers P (set_of records) a
    × ((o : OfOrigin) × IsOfAsked (set_of records) asked o × (new ≡ old ++ text_of P records s a o asked))

-- a call that told it where it did not fail, at a question that is this one
pub told_on : {T E H : Type 0} (r : Result T E) (P : Program) (records : List Record) (s : ShownState) (old new : List ℕ) (q asked : Question)
    → asked ≡ q → OnOk r H → (H → IsTold P records s old new q) → OnOk r (IsTold P records s old new asked)
told_on r P records s old new q asked is h f = subst (λ x. OnOk r (IsTold P records s old new x)) (sym is) (on_ok_weaker r f h)
