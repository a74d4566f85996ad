use Rattle.std.proofs.Common.{◌≡◌, ◌+◌, List, ℕ, Bor, [], length, get_or, map, drop, take, ◌-◌, ◌++◌, ◌∷◌, arith, ap, sym, ◌∙◌, append_assoc}
use Rattle.std.specs.List.{slice_split}
use Rattle.std.proofs.lemmas.Bool.{ne_eqb}
use Rattle.std.proofs.lemmas.List.{length-append, length-map, length-take, take_all, take_rest, length-drop}
use Rattle.std.proofs.lemmas.List.Splits.{slice_split_none}
use Rattle.warp_record.specs.Number.{is_space, IsOneWord}
use Rattle.warp_record.proofs.WordCuts.{some_word, word_goes_on, word_ends}
use Rattle.warp_record.proofs.split.split_words.Goals as goal
use Rattle.warp_record.proofs.split.split_words.Goals.{then-byte-eq32+in_ok-push_word, else-byte-eq32}

pub returns-in_err-push_word-clause-none : goal.returns-in_err-push_word-clause-none
returns-in_err-push_word-clause-none c =
    let all = ap length c.loop-place.invariant.all in
    let some = some_word (drop c.loop-place.start c.args.bytes.now) in
    rw c.from_residual.ensures (omega (arith, c.in_err-push_word.ensures.full, some, simp (length-append, length-map) at all))

pub loop-place-preserved : goal.loop-place-preserved
loop-place-preserved c =
    let place = c.loop-place.place in
    let start = c.loop-place.start in
    let bytes = c.args.bytes.now in
    let invariant = c.loop-place.invariant in
    elim c.if-byte-eq32.branch [
      | then-byte-eq32+in_ok-push_word w ↦
          let word : List ℕ = take (place - start) (drop start bytes) in
          let ends = word_ends bytes start place invariant.start c.loop-place-test.true w.if-byte-eq32.true invariant.word in
          record {
            start = omega arith;
            word = λ k d below. absurd (omega (arith, length-take (place + 1 - c.if-byte-eq32.start) (drop c.if-byte-eq32.start bytes)));
            all =
                rw (w.words-is, w.in_ok-push_word.ensures.added, w.start-is)
                (append_assoc _ (word ∷ []) (slice_split is_space (drop (place + 1) bytes))
                ∙ ap (λ (rest : List (List ℕ)). map (λ (v : Bor (List ℕ)). v.now) c.loop-place.words.items ++ rest) (sym ends)
                ∙ invariant.all);
          }
      | else-byte-eq32 w ↦
          let other = ne_eqb (get_or bytes place 0) 32 w.if-byte-eq32.false in
          record {
            start = omega arith;
            word = rw w.start-is (word_goes_on bytes start place invariant.start c.loop-place-test.true other invariant.word);
            all = rw (w.words-is, w.start-is) invariant.all;
          }
    ]

pub returns-clause-found : goal.returns-clause-found
returns-clause-found c =
    let bytes = c.args.bytes.now in
    let left : List ℕ = drop c.loop-place.start bytes in
    let whole : take (c.loop-place.place - c.loop-place.start) left ≡ left =
    take_all (c.loop-place.place - c.loop-place.start) left (omega (arith, length-drop c.loop-place.start bytes)) in
    let one : IsOneWord left = rw whole at c.loop-place.invariant.word in
    let rest : take (length bytes - c.loop-place.start) left ≡ left = take_rest bytes c.loop-place.start in
    rw (c.in_ok-push_word-2.ensures.added, rest, ← slice_split_none is_space left one) c.loop-place.invariant.all
