-- A record is judged to be one thing.
use Rattle.std.proofs.Common.{◌≡◌, inl, inr, ℕ, ℤ, Bool, true, List, Contains, IsTrue, refl, sym, subst}
use Rattle.std.specs.Prelude.{◌↔◌}
use Rattle.std.proofs.lemmas.Bool.{both_ways, false_from_ne_true}
use Rattle.warp_tag.specs.Moment.{Moment}
use Rattle.warp_tag.specs.Table.{is_lesser}
use Rattle.warp_tag.proofs.Payloads.{not_lesser_self, same_payload}
use Rattle.warp_step.specs.Program.{Program}
use Rattle.warp_record.specs.declared.record.Record.{Record}
use Rattle.warp_record.specs.declared.record.Record.TheVariants.{Event, Withdraw, Announce, Joint}
use Rattle.warp_table.specs.NameCounts.{HasSomeEvent}
use Rattle.warp_table.specs.Records.{IsIn, Records, set_of}
use Rattle.warp_table.proofs.Sets.{in_set}
use Rattle.warp_replica.specs.Gives.{IsNew}
use Rattle.warp_keep.specs.Kept.{MayCome, SpeaksOfKept}
use Rattle.warp_keep.specs.Judging.{Differs, IsAnyAnnouncement, Judges, IsLate}
use Rattle.warp_keep.specs.declared.judging.Judgement.{Judgement}
use Rattle.warp_keep.specs.declared.judging.Judgement.TheVariants.{Open, Kept, Late, Differs as OfTwo}

-- a lesser payload is another one
lesser_is_other : (p q : ℕ × ℤ) → is_lesser p q ≡ true → p ≡ q → ⊥
lesser_is_other p q lesser same =
    both_ways (is_lesser p p) (not_lesser_self p) (subst (λ (r : ℕ × ℤ). is_lesser p r ≡ true) (sym same) lesser)

-- payloads that are not two are one
one_payload : (p q : ℕ × ℤ) → ((p ≡ q → ⊥) → ⊥) → p ≡ q
one_payload p q not_two =
    same_payload p q
    (false_from_ne_true (is_lesser p q) (λ lesser. not_two (lesser_is_other p q lesser)))
    (false_from_ne_true (is_lesser q p) (λ lesser. not_two (λ same. lesser_is_other q p lesser (sym same))))

-- what is no announcement, not late and does not differ may come
pub may_come : (S : Records) (said : Record) → (IsAnyAnnouncement said → ⊥) → (IsLate S said → ⊥) → (Differs S said → ⊥) → MayCome S said
may_come S (Event o t input value) named timely same = (timely, λ other has. one_payload other (input, value) (λ differ. same (other, has, differ)))
may_come S (Withdraw o t) named timely same = timely
may_come S (Announce o h e w) named timely same = absurd (named tt)
may_come S (Joint h e w) named timely same = absurd (named tt)

-- a new event differs where its name has an event
pub differs_event : (log : List Record) (o : ℕ) (t : Moment) (input : ℕ) (value : ℤ) (has : Bool) → (Contains log (Event o t input value) → ⊥) → IsTrue has ↔ HasSomeEvent (set_of log) o t → IsTrue has ↔ Differs (set_of log) (Event o t input value)
differs_event log o t input value has absent tells = (
  λ h. (
      let there = tells.0 h in
      (there.0, there.1, λ same. absent ((in_set log (Event o t input value)).1 (subst (λ (p : ℕ × ℤ). IsIn (set_of log) (Event o t p.0 p.1)) same there.1)))
      ),
  λ d. tells.1 (d.0, d.1),
)

-- what is late, or differs, may not come and is no announcement
late_not : (S : Records) (said : Record) → IsLate S said → MayCome S said → ⊥
late_not S (Event o t input value) late may = may.0 late
late_not S (Withdraw o t) late may = may late
late_not S (Announce o h e w) late may = late
late_not S (Joint h e w) late may = late

differs_not : (S : Records) (said : Record) → Differs S said → MayCome S said → ⊥
differs_not S (Event o t input value) differs may = differs.2 (may.1 differs.0 differs.1)
differs_not S (Withdraw o t) differs may = differs
differs_not S (Announce o h e w) differs may = differs
differs_not S (Joint h e w) differs may = differs

late_named : (S : Records) (said : Record) → IsLate S said → IsAnyAnnouncement said → ⊥
late_named S (Event o t input value) late announces = announces
late_named S (Withdraw o t) late announces = announces
late_named S (Announce o h e w) late announces = late
late_named S (Joint h e w) late announces = late

differs_named : (S : Records) (said : Record) → Differs S said → IsAnyAnnouncement said → ⊥
differs_named S (Event o t input value) differs announces = announces
differs_named S (Withdraw o t) differs announces = announces
differs_named S (Announce o h e w) differs announces = differs
differs_named S (Joint h e w) differs announces = differs

module _ (keeps : ℕ → Bool) (P : Program) (log : List Record) (said : Record) where
  -- what is open, and new and of a kept origin, may come
  pub open_may : IsNew P log said → SpeaksOfKept keeps said → Judges keeps P log said Open → MayCome (set_of log) said
  open_may new speaks open_to = elim open_to [
    | inl refused ↦ absurd (refused new.0)
    | inr rest ↦ elim rest [
      | inl silent ↦ absurd (silent speaks)
      | inr named ↦ elim named.1 [
        | inl there ↦ absurd (new.1 there)
        | inr may ↦ may
      ]
    ]
  ]

  pub late_may_not : Judges keeps P log said Late → MayCome (set_of log) said → ⊥
  late_may_not late = late_not (set_of log) said late.2

  pub differs_may_not : Judges keeps P log said OfTwo → MayCome (set_of log) said → ⊥
  differs_may_not differs = differs_not (set_of log) said differs.3

  open_not_kept : Judges keeps P log said Open → Judges keeps P log said Kept → ⊥
  open_not_kept open_to kept = elim open_to [
    | inl refused ↦ refused kept.0
    | inr rest ↦ elim rest [
      | inl silent ↦ silent kept.1
      | inr named ↦ named.0 kept.2
    ]
  ]

  pub one_judged : (a b : Judgement) → Judges keeps P log said a → Judges keeps P log said b → a ≡ b
  one_judged Open Open h k = refl
  one_judged Open Kept h k = absurd (open_not_kept h k)
  one_judged Open Late h k = absurd (late_may_not k (open_may k.0 k.1 h))
  one_judged Open OfTwo h k = absurd (differs_may_not k (open_may k.0 k.1 h))
  one_judged Kept Open h k = absurd (open_not_kept k h)
  one_judged Kept Kept h k = refl
  one_judged Kept Late h k = absurd (late_named (set_of log) said k.2 h.2)
  one_judged Kept OfTwo h k = absurd (differs_named (set_of log) said k.3 h.2)
  one_judged Late Open h k = absurd (late_may_not h (open_may h.0 h.1 k))
  one_judged Late Kept h k = absurd (late_named (set_of log) said h.2 k.2)
  one_judged Late Late h k = refl
  one_judged Late OfTwo h k = absurd (k.2 h.2)
  one_judged OfTwo Open h k = absurd (differs_may_not h (open_may h.0 h.1 k))
  one_judged OfTwo Kept h k = absurd (differs_named (set_of log) said h.3 k.2)
  one_judged OfTwo Late h k = absurd (h.2 k.2)
  one_judged OfTwo OfTwo h k = refl
