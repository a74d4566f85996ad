-- Merging joins the sets, and then both have all records of both.
use Rattle.std.proofs.Common.{◌≡◌, ℕ, Bool, true, false, ◌||◌, List, Result, Ok, refl, sym, ap, subst, ◌∙◌}
use Rattle.warp_tag.specs.declared.form.Form.{Form}
use Rattle.warp_record.specs.declared.record.Record.{Record}
use Rattle.warp_record.specs.declared.reply.Refusal.{Refusal}
use Rattle.warp_table.specs.Records.{set_of, union}
use Rattle.warp_replica.specs.Merge.{Merges}
use Rattle.warp_replica.proofs.Mergings.{merged_set}
use Rattle.warp_cases.proofs.meetings.meet.Goals as goal

again : (x y : Bool) → (x || y) ≡ (y || (x || y))
again true true = refl
again true false = refl
again false true = refl
again false false = refl

-- a log that merged another one has the records of both
joined : (f : Form) (a b after : List Record) (r : Result ℕ (ℕ × Refusal)) (count : ℕ) → r ≡ Ok count
    → Merges f a b r after → set_of after ≡ union (set_of a) (set_of b)
joined f a b after r count is h =
    let merges = subst (λ (o : Result ℕ (ℕ × Refusal)). Merges f a b o after) is h in ap set_of merges.1 ∙ merged_set a b

pub returns-clause-records : goal.returns-clause-records
returns-clause-records g c =
    let one = c.args.one.now.records in
    let other = c.args.other.now.records in
    let first = c.merge.new.self.records in
    let second = c.merge-2.new.self.records in
    let has = joined _ one other first c.merge.result c.in-Ok._count c.in-Ok.is c.merge.ensures.merges in
    let also = joined _ other first second c.merge-2.result c.in-Ok-merge._more c.in-Ok-merge.is c.merge-2.ensures.merges in
    let all : union (set_of one) (set_of other) ≡ union (set_of other) (union (set_of one) (set_of other)) =
    λ i said. again (set_of one said) (set_of other said) i in
    ap set_of c.settle_uncounted.ensures.records ∙ has ∙ all ∙ ap (union (set_of other)) (sym has) ∙ sym also
    ∙ sym (ap set_of c.settle_uncounted-2.ensures.records)
