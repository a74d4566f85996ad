-- `==` of outputs decides whether they are equal.
use Rattle.std.proofs.Common.{◌≡◌, ◌&&◌, nat_eq, ap, sym, subst, length, take, drop, arith, length-append}
use Rattle.std.specs.Bool.{Decides}
use Rattle.std.proofs.lemmas.Bool.Decides.{Decides-eqb, Decides-int_eq, Decides-and, Decides-like}
use Rattle.std.proofs.lemmas.List.{length-take-le}
use Rattle.std.proofs.lemmas.Slice.Eq.{starts_is}
use Rattle.warp_tag.specs.Lists.{StartsWith}
use Rattle.warp_tag.specs.Moment.{Moment}
use Rattle.warp_tag.specs.declared.out.Out.{Out}
use Rattle.warp_tag.specs.contracts.out.OutPartialEq.TheImpl.{eq-value}
use Rattle.warp_lanes.proofs.Publishing.{joined, behind}
use Rattle.warp_lanes.proofs.publish.begins.Goals as goal

same_moment : (a b : Moment) → Decides (nat_eq a.time b.time && nat_eq a.microstep b.microstep) (a ≡ b)
same_moment a b =
    Decides-like _ (λ p i. record { time = p.0 i; microstep = p.1 i })
    (λ e. (ap (λ (t : Moment). t.time) e, ap (λ (t : Moment). t.microstep) e))
    (Decides-and _ _ (Decides-eqb a.time b.time) (Decides-eqb a.microstep b.microstep))

same_out : (a b : Out) → Decides (eq-value.it a b) (a ≡ b)
same_out a b =
    Decides-like _ (λ p i. record { tag = p.0 i; port = p.1.0 i; value = p.1.1 i })
    (λ e. (ap (λ (o : Out). o.tag) e, (ap (λ (o : Out). o.port) e, ap (λ (o : Out). o.value) e)))
    (Decides-and _ _ (same_moment a.tag b.tag) (Decides-and _ _ (Decides-eqb a.port b.port) (Decides-int_eq a.value b.value)))

pub behind-missing-requires : goal.behind-missing-requires
behind-missing-requires c =
    let s = c.requires.known in
    let first_of : length (take c.args.known_rows c.args.rows.now) ≡ c.args.known_rows = length-take-le c.args.known_rows c.args.rows.now c.requires.within in
    omega (arith, first_of, ap length s.1, length-append (take c.args.known_rows c.args.rows.now) s.0)

pub returns : goal.returns
returns c =
    let xs = c.args.released.now in
    let ys = c.args.rows.now in
    let n = c.args.known_rows in
    let xe : c.behind-missing.result.now ≡ drop n xs = c.behind-missing.ensures in
    let ye : c.behind-unknown.result.now ≡ drop n ys = c.behind-unknown.ensures in
    let s = starts_is same_out c.behind-missing.result.now c.behind-unknown.result.now c.starts_with.result c.starts_with.ensures.value in (
      λ t. joined xs ys n c.requires.known (subst (λ l. StartsWith l (drop n ys)) xe (subst (λ l. StartsWith c.behind-missing.result.now l) ye (drop (length c.behind-unknown.result.now) c.behind-missing.result.now, s.0 t))),
      λ p. let q = subst (λ l. StartsWith c.behind-missing.result.now l) (sym ye) (subst (λ l. StartsWith l (drop n ys)) (sym xe) (behind xs ys n p)) in s.1 q.0 q.1,
    )
