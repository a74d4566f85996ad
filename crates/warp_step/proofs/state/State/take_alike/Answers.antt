-- where nothing is taken, none is so far; the period that timers share is one of theirs, or none
use Rattle.std.proofs.Common.{◌≡◌, ℕ, ◌≤◌, ◌==◌, ◌&&◌, nat_le, nat_lt, List, [], ◌∷◌, IsTrue, inl, inr, ap, ◌∙◌, refl, sym, subst, rules, arith}
use Rattle.std.specs.List.{list_all}
use Rattle.std.proofs.lemmas.Bool.{and_parts, cases_Bool, cond-false, cond-true, leb-true}
use Rattle.warp_tag.specs.Limits.{longest_period, widest}
use Rattle.warp_tag.proofs.Forms.{period_widens}
use Rattle.warp_step.specs.Program.{Program}
use Rattle.warp_step.specs.Snapshot.{AreInOrder}
use Rattle.warp_step.specs.Valid.{is_valid}
use Rattle.warp_step.specs.declared.parts.Timer.{Timer}
use Rattle.warp_step.specs.inner.Plan.{Plan, shared_period}
use Rattle.warp_step.proofs.TakenLemmas.{none_so_far}
use Rattle.warp_step.proofs.ValidLemmas.{list_all_weaker, validity}
use Rattle.warp_step.proofs.state.State.take_alike.Goals as goal

shared_in : (most : ℕ) (ts : List Timer) → IsTrue (list_all (λ (t : Timer). nat_le t.period most) ts) → shared_period ts ≤ most
shared_in most [] h = omega arith
shared_in most (t ∷ ts) h =
    let alike = list_all (λ (x : Timer). x.period == t.period) ts in
    let own : t.period ≤ most = leb-true t.period most (and_parts (nat_le t.period most) (list_all (λ (x : Timer). nat_le x.period most) ts) h).0 in
    elim (cases_Bool alike) [
      | inl all ↦ subst (λ (n : ℕ). n ≤ most) (sym (cond-true alike t.period 0 all)) own
      | inr other ↦ subst (λ (n : ℕ). n ≤ most) (sym (cond-false alike t.period 0 other)) (omega arith)
    ]

shared_within : (P : Program) → IsTrue (is_valid P) → shared_period P.timers ≤ longest_period widest
shared_within P valid =
    let first = λ (t : Timer). nat_lt t.reactor P.reactors && nat_le t.offset (longest_period P.form) in
    let last = λ (t : Timer). nat_le t.period (longest_period P.form) in
    let all = list_all_weaker (λ (t : Timer). first t && last t) last (λ t h. (and_parts (first t) (last t) h).1) P.timers (validity P valid).timers in
    let own = shared_in (longest_period P.form) P.timers all in
    let wide = period_widens P.form in
    omega (arith, own, wide)

pub after-requires-clause-delay : goal.after-requires-clause-delay
after-requires-clause-delay c =
    let is : c.period-period.result ≡ shared_period c.args.program.now.timers = c.period-period.ensures ∙ ap (λ (p : Plan). p.period) c.requires.plan in
    let few = shared_within c.args.program.now c.valid.ensures in
    omega (arith, is, few)

pub returns-then-period-eq0-clause-so_far : goal.returns-then-period-eq0-clause-so_far
returns-then-period-eq0-clause-so_far c =
    let same : c.self.inside.pending ≡ c.args.self.now.pending = search rules in
    none_so_far c.args.program.now c.args.tag c.args.self.now c.args.present.now (subst AreInOrder same c.self.invariant.0) c.requires.none_before

pub returns-in_default : goal.returns-in_default
returns-in_default c =
    let same : c.self.inside.pending ≡ c.args.self.now.pending = search rules in
    record {
      so_far = none_so_far c.args.program.now c.args.tag c.args.self.now c.args.present.now (subst AreInOrder same c.self.invariant.0) c.requires.none_before;
      places = refl;
      sources = refl;
      due = λ were. were;
      triggered_turn = λ was. was;
    }
