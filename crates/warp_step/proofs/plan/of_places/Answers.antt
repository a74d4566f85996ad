-- the marks of one place more, and the first reaction that it triggers, until there are those of all
use Rattle.std.proofs.Common.{◌≡◌, ◌≤◌, ℕ, ◌+◌, List, [], ◌∷◌, ◌++◌, map, ap, sym, ◌∙◌, arith}
use Rattle.std.specs.List.{range_with_len}
use Rattle.std.proofs.lemmas.List.{map-append}
use Rattle.std.proofs.lemmas.List.FromFn.{map-range_with_len_more}
use Rattle.warp_step.specs.declared.plan.Concerned.{Concerned}
use Rattle.warp_step.specs.inner.Plan.{first_heeding, in_turn, marks_of, numbered_place, place_numbers}
use Rattle.warp_step.specs.Step.{sources_of}
use Rattle.warp_step.proofs.plan.of_places.Goals as goal

-- one more at the end of a table
one_more : (view : Concerned → ℕ) (f : ℕ → ℕ) (n : ℕ) (all after : List Concerned) (one : Concerned) → after ≡ all ++ one ∷ []
    → map view all ≡ map f (range_with_len 0 n) → view one ≡ f n → map view after ≡ map f (range_with_len 0 (n + 1))
one_more view f n all after one pushed so_far own =
    ap (map view) pushed ∙ map-append view all (one ∷ []) ∙ (λ i. so_far i ++ own i ∷ []) ∙ sym (map-range_with_len_more f 0 n n (omega arith))

pub loop-number-preserved : goal.loop-number-preserved
loop-number-preserved c =
    let P = c.args.program.now in
    let n = c.loop-number.number in
    record {
      marks = one_more (λ (one : Concerned). one.marks.word) (λ (k : ℕ). marks_of P (numbered_place k)) n
          c.loop-number.all.items _ c.of_place.result c.in_ok-push.ensures.items c.loop-number.invariant.marks c.of_place.ensures.marks;
      firsts = one_more (λ (one : Concerned). one.first) (λ (k : ℕ). first_heeding (sources_of P) (numbered_place k) 0 (in_turn P)) n
          c.loop-number.all.items _ c.of_place.result c.in_ok-push.ensures.items c.loop-number.invariant.firsts c.of_place.ensures.first;
    }

-- the table of as many as there are
all_filled : (table : List ℕ) (f : ℕ → ℕ) (n : ℕ) → n ≡ 1345 → table ≡ map f (range_with_len 0 n) → table ≡ map f place_numbers
unfolding place_numbers
all_filled table f n all so_far = so_far ∙ ap (λ (k : ℕ). map f (range_with_len 0 k)) all

pub returns : goal.returns
returns c =
    let P = c.args.program.now in
    let most : c.loop-number.number ≤ 1345 = c.loop-number.auto.number-end in
    let all : c.loop-number.number ≡ 1345 = omega (arith, most, c.loop-number-test.false) in
    record {
      marks = all_filled _ (λ n. marks_of P (numbered_place n)) c.loop-number.number all c.loop-number.invariant.marks;
      firsts = all_filled _ (λ n. first_heeding (sources_of P) (numbered_place n) 0 (in_turn P)) c.loop-number.number all c.loop-number.invariant.firsts;
    }
