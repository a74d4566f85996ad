-- What was shown begins what is released, while no origin broke an announcement.
use Rattle.std.proofs.Common.{◌≡◌, ◌∙◌, ◌↔◌, ◌<◌, ◌≤◌, ◌+◌, ◌++◌, ◌&&◌, nat_eq, ℕ, Bool, true, false, IsTrue, List, [], None, Option, Some, ap, append_assoc, arith, drop, get_or, if◌then◌else◌, length, length-append, refl, subst, sym}
use Rattle.std.proofs.lemmas.Bool.{both_ways, or_left}
use Rattle.std.specs.Bool.{Decides}
use Rattle.std.proofs.lemmas.Bool.Decides.{Decides-eqb, Decides-int_eq, Decides-and, Decides-like, Decides-ltb}
use Rattle.std.proofs.lemmas.List.{append-nil, drop_at, get_or_append_left}
use Rattle.std.proofs.lemmas.List.Elements.{All-contains}
use Rattle.warp_tag.specs.Limits.{has_joint}
use Rattle.warp_tag.specs.Lists.{StartsWith}
use Rattle.warp_tag.specs.Moment.{Moment}
use Rattle.warp_tag.specs.declared.out.Out.{Out}
use Rattle.warp_tag.specs.contracts.out.OutPartialEq.TheImpl.{eq-value}
use Rattle.warp_step.specs.Program.{Program}
use Rattle.warp_step.specs.Events.{is_declared}
use Rattle.warp_record.specs.declared.record.Record.{Record}
use Rattle.warp_record.specs.declared.record.Record.TheVariants.{Announce, Joint}
use Rattle.warp_record.specs.declared.reply.Refusal.{Refusal}
use Rattle.warp_record.specs.declared.reply.Refusal.TheVariants.{NoOrigin}
use Rattle.warp_table.specs.Announced.{IsBroken, IsHonest, IsWithin}
use Rattle.warp_table.specs.Joint.{IsBrokenJointly}
use Rattle.warp_table.specs.Check.{refusal_of}
use Rattle.warp_table.specs.Log.{EachOnce}
use Rattle.warp_table.specs.Records.{Records, IsIn, set_of}
use Rattle.warp_table.proofs.Sets.{in_set, set_append}
use Rattle.warp_replica.specs.Answers.{Answers, AreAnswers, IsReleased}
use Rattle.warp_replica.specs.Release.{AreTaken}
use Rattle.warp_replica.specs.Replica.{AreAllowed}
use Rattle.warp_watch.specs.Shown.{AreShownOf, ShownState, Shows}

-- a list has the records of each of its fronts
pub begun_within : (late early : List Record) → StartsWith late early → IsWithin (set_of early) (set_of late)
begun_within late early begun said h =
    subst (λ (log : List Record). IsIn (set_of log) said) (sym begun.1)
    (subst (λ (S : Records). IsIn S said) (sym (set_append early begun.0)) (or_left (set_of early said) (set_of begun.0 said) h))

-- and each of them once, if it has
pub begun_once : (late early : List Record) → StartsWith late early → EachOnce late → EachOnce early
begun_once late early begun once = λ i j d below within.
    let long : length late ≡ length early + length begun.0 = ap length begun.1 ∙ length-append early begun.0 in
    let same : (k : ℕ) → k < length early → get_or late k d ≡ get_or early k d =
    λ k short. ap (λ l. get_or l k d) begun.1 ∙ get_or_append_left early begun.0 d k short in
    let apart = once i j d below (omega (arith, within, long)) in
    λ e. apart (same i (omega (arith, below, within)) ∙ e ∙ sym (same j within))

-- the program takes what was taken
pub all_taken : (P : Program) (records : List Record) → AreAllowed P records → AreTaken P (set_of records)
all_taken P records allowed =
    λ r has. All-contains (λ x. refusal_of P x ≡ None) records r allowed ((in_set records r).1 has)

-- what is refused where a test fails passes it where nothing is refused
declared : (b : Bool) (other : Option Refusal) → (if b then other else Some NoOrigin) ≡ None → b ≡ true
declared true other e = refl
declared false other e = absurd (cc (e))

-- only an origin of the program can have broken an announcement
module _ (P : Program) (records : List Record) (allowed : AreAllowed P records) where
  is_own : (origin : ℕ) → IsBroken (set_of records) origin → origin < P.origins
  is_own origin broken =
      let said = Announce origin broken.0 broken.1 broken.2 in
      let fits : refusal_of P said ≡ None = all_taken P records allowed said broken.3 in
      (Decides-ltb origin P.origins).0 (declared (is_declared P origin) _ fits)

  -- only where the program has joint announcements can one be broken
  has_some : IsBrokenJointly (set_of records) → has_joint P.form ≡ true
  has_some broken =
      let said = Joint broken.0 broken.1 broken.2 in
      declared (has_joint P.form) _ (all_taken P records allowed said broken.3)

  -- so where none of these did none did, and no joint one is broken where the program has none such, or none is
  pub none_broken : (a : Answers) → AreAnswers P (set_of records) a → ((origin : ℕ) → origin < P.origins → a.broken origin ≡ false)
      → (has_joint P.form && a.broken_jointly) ≡ false → IsHonest (set_of records)
  none_broken a h none jointly = record {
    each = λ origin broken. both_ways (a.broken origin) (none origin (is_own origin broken)) ((h.broken origin).1 broken);
    jointly = λ broken.
        let both : (has_joint P.form && a.broken_jointly) ≡ true =
        (λ i. has_some broken i && a.broken_jointly) ∙ h.broken_jointly.1 broken in
        both_ways (has_joint P.form && a.broken_jointly) jointly both;
  }

-- fronts of fronts
pub front_of_front : {X : Type 0} (xs ys zs : List X) → StartsWith xs ys → StartsWith ys zs → StartsWith xs zs
front_of_front xs ys zs p q = (q.0 ++ p.0, p.1 ∙ ap (λ l. l ++ p.0) q.1 ∙ append_assoc zs q.0 p.0)

-- a front is not longer
pub not_longer : {X : Type 0} (xs ys : List X) → StartsWith xs ys → length ys ≤ length xs
not_longer xs ys s = omega (arith, ap length s.1, length-append ys s.0)

-- a front, and what is behind it
pub whole : {X : Type 0} (xs ys : List X) → StartsWith xs ys → ys ++ drop (length ys) xs ≡ xs
whole xs ys s =
    ap (λ l. ys ++ drop (length ys) l) s.1 ∙ ap (λ l. ys ++ l) (drop_at ys s.0 (length ys) refl) ∙ sym s.1

-- what the program releases over the set begins with these outputs
abbrev pub BeginReleased : Program → Records → List Out → Type 0
BeginReleased P S outputs = (a : Answers) → AreAnswers P S a → StartsWith a.released outputs

-- what is released over a log that goes on, by an honest set, begins with what began it before
pub still_begun : (P : Program) (records before : List Record) (rows : List Out) (b : Answers)
    → ((S T U : Records) (a b : Answers) → IsHonest U → AreTaken P U → IsWithin S T → IsWithin T U → AreAnswers P S a → AreAnswers P T b
    → StartsWith b.released a.released)
    → ((a : Answers) × AreAnswers P (set_of before) a) → AreAllowed P records → IsHonest (set_of records) → StartsWith records before
    → BeginReleased P (set_of before) rows → AreAnswers P (set_of records) b → StartsWith b.released rows
still_begun P records before rows b stays some allowed honest begun shown h =
    front_of_front b.released some.0.released rows
    (stays (set_of before) (set_of records) (set_of records) some.0 b honest (all_taken P records allowed)
    (begun_within records before begun) (λ r has. has) some.1 h)
    (shown some.0 some.1)

-- the released list is that of any answers of the set
pub one_released : (P : Program) (S : Records) (released : List Out)
    → ((a b : Answers) → AreAnswers P S a → AreAnswers P S b → a ≡ b) → IsReleased P S released → (a : Answers) → AreAnswers P S a
    → released ≡ a.released
one_released P S released one rel a h = rel.2 ∙ ap (λ b. b.released) (one rel.0 a rel.1 h)

-- ---- what becomes of what was shown

-- `==` of outputs decides whether they are equal
same_moment : (a b : Moment) → Decides (nat_eq a.time b.time && nat_eq a.microstep b.microstep) (a ≡ b)
same_moment a b =
    Decides-like _ (λ p i. record { time = p.0 i; microstep = p.1 i })
    (λ e. (ap (λ (t : Moment). t.time) e, ap (λ (t : Moment). t.microstep) e))
    (Decides-and _ _ (Decides-eqb a.time b.time) (Decides-eqb a.microstep b.microstep))

pub same_out : (a b : Out) → Decides (eq-value.it a b) (a ≡ b)
same_out a b =
    Decides-like _ (λ p i. record { tag = p.0 i; port = p.1.0 i; value = p.1.1 i })
    (λ e. (ap (λ (o : Out). o.tag) e, (ap (λ (o : Out). o.port) e, ap (λ (o : Out). o.value) e)))
    (Decides-and _ _ (same_moment a.tag b.tag) (Decides-and _ _ (Decides-eqb a.port b.port) (Decides-int_eq a.value b.value)))

-- it was frozen before
pub stays_frozen : (released : List Out) (s : ShownState) → s.frozen ≡ true → Shows released s s
stays_frozen released s frozen = record {
  stays = λ h. refl;
  grows = λ live. absurd (cc (frozen, live));
  freezes = λ live. absurd (cc (frozen, live));
}

-- it is frozen now
pub freezes_now : (released : List Out) (s : ShownState) → s.frozen ≡ false → ¬ StartsWith released s.rows
    → Shows released s (record { rows = s.rows; frozen = true })
freezes_now released s live other = record {
  stays = λ frozen. absurd (cc (frozen, live));
  grows = λ h begins. absurd (other begins);
  freezes = λ h k. refl;
}

-- it goes on
pub goes_on_now : (released : List Out) (s : ShownState) → s.frozen ≡ false → StartsWith released s.rows
    → Shows released s (record { rows = s.rows ++ drop (length s.rows) released; frozen = false })
goes_on_now released s live begins = record {
  stays = λ frozen. absurd (cc (frozen, live));
  grows = λ h k. ap (λ rows. record { rows = rows; frozen = false }) (whole released s.rows begins);
  freezes = λ h other. absurd (other begins);
}

-- what a call that looked at the rows and at what is released told of them, where these rows began what was released over
-- an earlier log
module _ (P : Program) (records before : List Record) (s : ShownState) (released rows : List Out) (went : Bool) (same : rows ≡ s.rows)
    (live : s.frozen ≡ false) (one : (a b : Answers) → AreAnswers P (set_of records) a → AreAnswers P (set_of records) b → a ≡ b)
    (rel : IsReleased P (set_of records) released) (begun : StartsWith records before) (shown : AreShownOf P before s)
    (told : (before : List Record) → StartsWith records before → BeginReleased P (set_of before) rows → IsTrue went ↔ StartsWith released rows) where
  answer : IsTrue went ↔ StartsWith released rows
  answer = told before begun (subst (BeginReleased P (set_of before)) (sym same) (shown live))

  pub freezes : went ≡ false → (a : Answers) → AreAnswers P (set_of records) a → Shows a.released s (record { rows = s.rows; frozen = true })
  freezes said_not a h =
      let list = one_released P (set_of records) released one rel a h in
      freezes_now a.released s live
      (λ begins. both_ways went said_not (answer.1 (subst (λ l. StartsWith l rows) (sym list) (subst (StartsWith a.released) (sym same) begins))))

  pub begins_now : went ≡ true → (a : Answers) → AreAnswers P (set_of records) a → StartsWith a.released s.rows
  begins_now said_so a h =
      subst (StartsWith a.released) same (subst (λ l. StartsWith l rows) (one_released P (set_of records) released one rel a h) (answer.0 said_so))

  pub goes : went ≡ true → (a : Answers) → AreAnswers P (set_of records) a
      → Shows a.released s (record { rows = rows ++ drop (length rows) released; frozen = false })
  goes said_so a h =
      subst (λ (l : List Out). Shows a.released s (record { rows = l; frozen = false }))
      (ap (λ l. s.rows ++ drop (length s.rows) l) (sym (one_released P (set_of records) released one rel a h))
      ∙ ap (λ l. l ++ drop (length l) released) (sym same))
      (goes_on_now a.released s live (begins_now said_so a h))

  pub still_shown : went ≡ true → (a : Answers) → AreAnswers P (set_of records) a
      → StartsWith a.released (rows ++ drop (length rows) released)
  still_shown said_so a h =
      let list = one_released P (set_of records) released one rel a h in
      let all : rows ++ drop (length rows) released ≡ released = whole released rows (answer.0 said_so) in
      subst (StartsWith a.released) (sym (all ∙ list)) (itself a.released)
    where
      itself : (xs : List Out) → StartsWith xs xs
      itself xs = ([], sym (append-nil xs))
