use Rattle.std.proofs.Common.{◌-◌, ◌^◌, Bor, List, ℕ, ap, length, min, rules, subst, sym, tests, ◌∙◌}
use Rattle.std.proofs.lemmas.Iterator.Consumers.{YieldsList-end, YieldsList-so_far, YieldsList-turn}
use Rattle.std.proofs.lemmas.Iterator.Splits.{YieldsList-from_slice_split}
use Rattle.std.proofs.lemmas.List.{length_push, map_push}
use Rattle.warp_hub.specs.Tokens.{AreEntries, lines_of}
use Rattle.warp_hub.proofs.TokenLines.{counted_more, fault_there, one_line}
use Rattle.warp_hub.proofs.tokens.Tokens.read.Goals as goal

pub loop-line-preserved : goal.loop-line-preserved
loop-line-preserved c = (
  rw (map_push (λ (w : Bor (List ℕ)). w.now) c.loop-line.yielded c.in-Some.line)
      (one_line c.args.form _ c.in-Some.line.now _ _ c.loop-line.invariant.0 c.in_default.ensures.taken),
  c.saturating_add-number.ensures ∙ counted_more c.loop-line.number (length c.loop-line.yielded) c.loop-line.invariant.1
      ∙ ap (λ (n : ℕ). min n (2 ^ 32 - 1)) (sym (length_push c.loop-line.yielded c.in-Some.line)),
)

pub returns-in-Err-clause-fault : goal.returns-in-Err-clause-fault
returns-in-Err-clause-fault c =
    let road = YieldsList-from_slice_split _ _ c.args.text.now (cc) (cc) (cc) (λ x r q k. search (rules, tests)) in
    let turn = YieldsList-turn road c.loop-line.yielded _ c.loop-line.yielded_by _ _ c.in-Some.line c.in-Some.is c.next.ensures.steps in
    let front = YieldsList-so_far road c.loop-line.yielded _ c.loop-line.yielded_by in
    fault_there c.args.form (lines_of c.args.text.now) (length c.loop-line.yielded) c.in-Some.line.now c.loop-line.tokens
    c.saturating_add-number.result _ turn.0 turn.1
    (subst (λ (lines : List (List ℕ)). AreEntries c.args.form lines c.loop-line.tokens) front c.loop-line.invariant.0)
    c.in-Err.ensures.said
    (c.saturating_add-number.ensures ∙ counted_more c.loop-line.number (length c.loop-line.yielded) c.loop-line.invariant.1)
    c.in-Err.ensures.why

pub returns-clause-tokens : goal.returns-clause-tokens
returns-clause-tokens c =
    let end = YieldsList-end
    (YieldsList-from_slice_split _ _ c.args.text.now (cc) (cc) (cc) (λ x r q k. search (rules, tests)))
    c.loop-line.yielded _ c.loop-line.yielded_by _ _ c.in-None.is c.next.ensures.steps in
    subst (λ (lines : List (List ℕ)). AreEntries c.args.form lines c.loop-line.tokens) end.0 c.loop-line.invariant.0
