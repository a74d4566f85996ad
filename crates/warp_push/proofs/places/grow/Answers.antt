use Rattle.std.proofs.Common.{◌≡◌, ◌∙◌, ◌+◌, ℕ, ◌++◌, ◌∷◌, [], List, ap, arith, length, length-append, subst, sym}
use Rattle.std.proofs.lemmas.List.{append-nil}
use Rattle.warp_push.specs.Seats.{Grows, Seat, empty_seat}
use Rattle.warp_push.proofs.Placing.{grows_more}
use Rattle.warp_push.proofs.places.grow.Goals as goal

pub loop-at-init : goal.loop-at-init
loop-at-init c = (grind (arith, c.len-at.ensures, c.args.all.now.ok.0), (0, sym (append-nil c.args.all.now.items)))

pub loop-at-preserved : goal.loop-at-preserved
loop-at-preserved c =
    let old = c.loop-at.all.items in
    let one : c.push.new.self.items ≡ old ++ empty_seat ∷ [] =
    c.in_ok-push.ensures.items ∙ ap (λ (s : Seat). old ++ s ∷ []) c.new.ensures in (
      ap (λ (l : List Seat). length l) one ∙ length-append old (empty_seat ∷ []) ∙ ap (λ (n : ℕ). n + 1) c.loop-at.invariant.0,
      subst (λ (l : List Seat). Grows c.args.all.now.items l) (sym one) (grows_more c.args.all.now.items old c.loop-at.invariant.1),
    )

pub returns-in_err-push-clause-grown : goal.returns-in_err-push-clause-grown
returns-in_err-push-clause-grown c =
    subst (λ (l : List Seat). Grows c.args.all.now.items l) (sym c.in_err-push.ensures.items) c.loop-at.invariant.1
