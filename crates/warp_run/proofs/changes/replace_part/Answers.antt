-- what is kept gives back what the image had
use Rattle.std.proofs.Common.{rules, ◌≡◌, ◌+◌, ◌-◌, ◌++◌, List, [], ◌∷◌, take, pos, set, ap, ◌∙◌, arith}
use Rattle.std.specs.Prelude.{slice_index_or}
use Rattle.std.proofs.lemmas.List.{append_assoc, take_more_same}
use Rattle.warp_run.specs.Stack.{given_back}
use Rattle.warp_run.specs.declared.changes.Cell.{Cell}
use Rattle.warp_run.proofs.Replaced.{same_back, next_front}
use Rattle.warp_run.proofs.changes.replace_part.Goals as goal
use Rattle.warp_run.proofs.changes.replace_part.Goals.{then-old-values, else-old-values}

pub cells-preserved : goal.cells-preserved
cells-preserved c = elim c.if-old-values.branch [
  | then-old-values w ↦
      let at = c.cells.at in
      let new = slice_index_or c.args.values.now at (pos 0) in
      let one : Cell = record { at = at; value = slice_index_or c.cells.image at (pos 0) } in
      let i = c.cells.invariant in
      let written : c.if-old-values.image ≡ set c.cells.image at new = search rules in
      let pushed : c.if-old-values.cells.items ≡ c.cells.cells.items ++ one ∷ [] = search rules in
      let back = same_back i.kept.0 at new c.cells.image c.args.image.now i.kept.2 in
      let here = c.cells-test.true in
      let within = c.requires.within in
      let same = c.requires.len in
      let len = i.len in
      let least = i.least in
      let few = i.few in
      record {
        len = search rules;
        front = ap (take (at + 1)) written
            ∙ next_front c.cells.image c.args.values.now at (omega (arith, here, within, same, len)) (omega (arith, here, within)) i.front;
        kept = (
          i.kept.0 ++ one ∷ [],
          pushed ∙ ap (λ (l : List Cell). l ++ one ∷ []) i.kept.1 ∙ append_assoc c.args.cells.now.items i.kept.0 (one ∷ []),
          ap (given_back (i.kept.0 ++ one ∷ [])) written ∙ back,
        );
        few = search rules;
        least = omega (arith, least);
        most = omega (arith, here);
        capacity = search rules;
      }
  | else-old-values w ↦ search (rules, take_more_same)
]
