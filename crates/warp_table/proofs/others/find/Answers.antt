-- the records before it are a front, and its place is behind them
use Rattle.std.proofs.Common.{◌≡◌, ℕ, ◌<◌, ◌≤◌, false, inl, inr, length, refl, sym, ap, rules, arith, ◌∙◌}
use Rattle.std.specs.Ordering.{is_lt}
use Rattle.std.proofs.lemmas.Bool.{cases_lt, false≢true}
use Rattle.std.proofs.lemmas.List.Sorted.{IsPartitionPoint-from_clause}
use Rattle.warp_record.specs.declared.record.Record.{Record}
use Rattle.warp_record.specs.Order.{record_cmp}
use Rattle.warp_table.proofs.RisingRecords.{parted, sought, sought_past}
use Rattle.warp_table.proofs.others.find.Goals as goal

pub returns-in-Some : goal.returns-in-Some
returns-in-Some c =
    let said = c.args.record.now in
    let es = c.args.listed.now.items in
    let at = c.partition_point-at.result in
    let kept = c.in-Some.kept.now in
    let point = IsPartitionPoint-from_clause (λ e. is_lt (record_cmp e.0 said)) _ _ c.partition_point-at.ensures.partitioned (parted said es c.requires) (λ a r q k. search rules) in
    let within : at < length es = omega (arith, c.in-Some.ensures.variant.0 refl, c.args.listed.now.ok.0) in
    let behind : is_lt (record_cmp kept.0 said) ≡ false = ap (λ (e : Record × ℕ). is_lt (record_cmp e.0 said)) c.in-Some.ensures.lookup ∙ point.1 at kept (omega arith) within in
    c.place_if.ensures ∙ sym (sought said es at kept c.requires within c.in-Some.ensures.lookup (λ k d l. point.0 k d (omega arith) l) behind)

pub returns-in-None : goal.returns-in-None
returns-in-None c =
    let said = c.args.record.now in
    let es = c.args.listed.now.items in
    let at = c.partition_point-at.result in
    let point = IsPartitionPoint-from_clause (λ e. is_lt (record_cmp e.0 said)) _ _ c.partition_point-at.ensures.partitioned (parted said es c.requires) (λ a r q k. search rules) in
    let past : length es ≤ at = elim (cases_lt at (length es)) [ inl l ↦ absurd (false≢true (c.in-None.ensures.variant.1 (omega (arith, l, c.args.listed.now.ok.0)))) | inr m ↦ m ] in
    sym (sought_past said es at past (λ k d l. point.0 k d (omega arith) l))
