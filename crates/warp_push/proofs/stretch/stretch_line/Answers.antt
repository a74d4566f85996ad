use Rattle.std.proofs.Common.{◌≡◌, ◌+◌, ◌-◌, ◌∷◌, ◌++◌, [], List, ℕ, ap, arith, decimal, drop, subst, take, ◌∙◌}
use Rattle.warp_push.specs.Stretches.{BeginsAt, EndsAt, head_in, values_of}
use Rattle.warp_push.specs.Texts.{pushed_mark, spaces_in}
use Rattle.warp_push.proofs.CellLines.{says}
use Rattle.warp_push.proofs.stretch.stretch_line.Goals as goal

pub returns : goal.returns
returns c =
    let old : List ℕ = c.args.old.now in
    let new : List ℕ = c.args.new.now in
    let from = c.in_ok-from.from in
    let until = c.end_of_differing-until.result in
    let number = c.in_ok-number.number in
    let one : c.values_in-before.result.now ≡ values_of old = c.values_in-before.ensures in
    let two : c.values_in-values.result.now ≡ values_of new = c.values_in-values.ensures in
    let spaces : c.spaces_in.result ≡ spaces_in (take from (values_of new)) =
    c.spaces_in.ensures ∙ ap (λ (t : List ℕ). spaces_in (take from t)) two in
    let sum : number ≡ c.args.first + c.spaces_in.result = omega (arith, c.in_ok-number.ensures) in
    says c.args.first number from until old new c.in-Ok.line.items
    (subst (λ (t : List ℕ). BeginsAt t (values_of new) from) one
    (subst (λ (t : List ℕ). BeginsAt c.values_in-before.result.now t from) two c.in_ok-from.ensures.begins))
    (subst (λ (t : List ℕ). EndsAt t (values_of new) until) one
    (subst (λ (t : List ℕ). EndsAt c.values_in-before.result.now t until) two c.end_of_differing-until.ensures.ends))
    (omega (arith, c.if-until-from.false))
    (sum ∙ ap (λ (n : ℕ). c.args.first + n) spaces)
    (c.in-Ok.ensures
    ∙ ap (λ (t : List ℕ).
    pushed_mark ++ (t ++ (decimal number ++ (take (until - from) (drop from c.values_in-values.result.now) ++ 10 ∷ []))))
    c.head_of.ensures
    ∙ ap (λ (t : List ℕ). pushed_mark ++ (head_in new ++ (decimal number ++ (take (until - from) (drop from t) ++ 10 ∷ [])))) two)
