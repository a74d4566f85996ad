use Rattle.std.proofs.Common.{◌≡◌, ◌+◌, ◌-◌, ◌∷◌, ◌++◌, ℕ, suc, List, take, drop, ap, ◌∙◌, arith}
use Rattle.std.proofs.lemmas.List.{drop-set}
use Rattle.warp_record.proofs.number.append_wide.Goals as goal

pub returns-clause-items : goal.returns-clause-items
returns-clause-items c =
    let block = c.args.block.now in
    let start = c.args.start in
    let left = drop start block in
    let back : start - 1 + 1 ≡ start = omega (arith, c.requires.place.0) in
    let here = drop-set block (start - 1) 32 (omega (arith, c.requires.place.0, c.requires.place.1)) ∙ ap (λ (n : ℕ). 32 ∷ drop n block) back in
    let long : 22 - (start - 1) ≡ suc (22 - start) = omega (arith, c.requires.place.0, c.requires.place.1) in
    c.append.ensures.items
    ∙ ap (λ (text : List ℕ). c.args.out.now.items ++ text) (ap (take (22 - (start - 1))) here ∙ ap (λ (n : ℕ). take n (32 ∷ left)) long)
