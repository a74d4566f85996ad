-- No name of a kept origin gets a second payload. Records that came in pieces.
use Rattle.std.proofs.Common.{◌≡◌, inl, inr, ℕ, ℤ, Bool, Some, List, [], ◌∷◌, ◌++◌, IsTrue, sym, ap, subst, ◌∙◌}
use Rattle.std.specs.Prelude.{◌↔◌}
use Rattle.std.proofs.lemmas.List.{append_assoc, append-nil}
use Rattle.warp_tag.specs.Moment.{Moment}
use Rattle.warp_record.specs.Record.{origin_of, tag_of}
use Rattle.warp_record.specs.declared.record.Record.{Record}
use Rattle.warp_record.specs.declared.record.Record.TheVariants.{Event, Withdraw, Announce, Joint}
use Rattle.warp_table.specs.Records.{IsIn, Records, set_of}
use Rattle.warp_table.specs.Names.{HasEvent, HasTwoPayloads, origin_or_first}
use Rattle.warp_table.proofs.Heard.{IsWithOne, with_one}
use Rattle.warp_keep.specs.Kept.{GoesOn, MayCome, NoneBehind}
use Rattle.warp_keep.proofs.Unbroken.{speaks_own}

-- one more record that is no event gives no name two payloads
no_event : (S T : Records) (one : Record) (origin : ℕ) (tag : Moment) → IsWithOne S one T → ((payload : ℕ × ℤ) → Event origin tag payload.0 payload.1 ≡ one → ⊥) → (HasTwoPayloads S origin tag → ⊥) → HasTwoPayloads T origin tag → ⊥
no_event S T one origin tag more other single two = single (two.0, two.1, old two.0 two.2, old two.1 two.3, two.4)
  where
    old : (payload : ℕ × ℤ) → IsIn T (Event origin tag payload.0 payload.1) → IsIn S (Event origin tag payload.0 payload.1)
    old payload h = elim ((more.each (Event origin tag payload.0 payload.1)).0 h) [
      | inl it ↦ it
      | inr e ↦ absurd (other payload e)
    ]

-- one more record that may come gives no name two payloads
single_more : (S T : Records) (one : Record) (origin : ℕ) (tag : Moment) → IsWithOne S one T → (origin_of one ≡ Some origin → MayCome S one) → (HasTwoPayloads S origin tag → ⊥) → HasTwoPayloads T origin tag → ⊥
single_more S T (Event o t input value) origin tag more may single two = elim ((more.each (Event origin tag two.0.0 two.0.1)).0 two.2) [
  | inl left ↦ elim ((more.each (Event origin tag two.1.0 two.1.1)).0 two.3) [
    | inl right ↦ single (two.0, two.1, left, right, two.4)
    | inr e ↦
        let own : origin ≡ o = ap origin_or_first e in
        let here : tag ≡ t = ap tag_of e in
        let there : HasEvent S o t two.0 = subst (λ (x : ℕ). IsIn S (Event x t two.0.0 two.0.1)) own (subst (λ (x : Moment). IsIn S (Event origin x two.0.0 two.0.1)) here left) in
        let same : two.0 ≡ (input, value) = (may (sym (ap origin_of e))).1 two.0 there in
        let other : (two.1.0, two.1.1) ≡ (input, value) = cc in
        two.4 (same ∙ sym other)
  ]
  | inr e ↦ elim ((more.each (Event origin tag two.1.0 two.1.1)).0 two.3) [
    | inl right ↦
        let own : origin ≡ o = ap origin_or_first e in
        let here : tag ≡ t = ap tag_of e in
        let there : HasEvent S o t two.1 = subst (λ (x : ℕ). IsIn S (Event x t two.1.0 two.1.1)) own (subst (λ (x : Moment). IsIn S (Event origin x two.1.0 two.1.1)) here right) in
        let same : two.1 ≡ (input, value) = (may (sym (ap origin_of e))).1 two.1 there in
        let other : (two.0.0, two.0.1) ≡ (input, value) = cc in
        two.4 (other ∙ sym same)
    | inr d ↦
        let left : (two.0.0, two.0.1) ≡ (input, value) = cc in
        let right : (two.1.0, two.1.1) ≡ (input, value) = cc in
        two.4 (left ∙ sym right)
  ]
]
single_more S T (Withdraw o t) origin tag more may single two = no_event S T (Withdraw o t) origin tag more (λ payload e. cc) single two
single_more S T (Announce o h e w) origin tag more may single two = no_event S T (Announce o h e w) origin tag more (λ payload e. cc) single two
single_more S T (Joint h e w) origin tag more may single two = no_event S T (Joint h e w) origin tag more (λ payload e. cc) single two

none_double : (keeps : ℕ → Bool) (log more : List Record) (origin : ℕ) (tag : Moment) → IsTrue (keeps origin) → (HasTwoPayloads (set_of log) origin tag → ⊥) → NoneBehind keeps log more → HasTwoPayloads (set_of (log ++ more)) origin tag → ⊥
none_double keeps log [] origin tag kept single behind = subst (λ (l : List Record). HasTwoPayloads (set_of l) origin tag → ⊥) (sym (append-nil log)) single
none_double keeps log (said ∷ more) origin tag kept single behind =
    subst (λ (l : List Record). HasTwoPayloads (set_of l) origin tag → ⊥) (append_assoc log (said ∷ []) more)
    (none_double keeps (log ++ said ∷ []) more origin tag kept
    (single_more (set_of log) (set_of (log ++ said ∷ [])) said origin tag (with_one log said) (λ e. behind.0 (speaks_own keeps origin said kept e)) single)
    behind.1)

pub kept_single : (keeps : ℕ → Bool) (first log : List Record) (origin : ℕ) (tag : Moment) → IsTrue (keeps origin) → GoesOn keeps first log → (HasTwoPayloads (set_of first) origin tag → ⊥) → HasTwoPayloads (set_of log) origin tag → ⊥
kept_single keeps first log origin tag kept on single =
    subst (λ (l : List Record). HasTwoPayloads (set_of l) origin tag → ⊥) (sym on.1) (none_double keeps first on.0 origin tag kept single on.2)

pub pieces : (keeps : ℕ → Bool) (log more rest : List Record) → NoneBehind keeps log (more ++ rest) ↔ (NoneBehind keeps log more × NoneBehind keeps (log ++ more) rest)
pieces keeps log [] rest = (
  λ h. (tt, subst (λ (l : List Record). NoneBehind keeps l rest) (sym (append-nil log)) h),
  λ h. subst (λ (l : List Record). NoneBehind keeps l rest) (append-nil log) h.1,
)
pieces keeps log (said ∷ more) rest =
    let inner = pieces keeps (log ++ said ∷ []) more rest in (
      λ h. (let r = inner.0 h.1 in ((h.0, r.0), subst (λ (l : List Record). NoneBehind keeps l rest) (append_assoc log (said ∷ []) more) r.1)),
      λ h. (h.0.0, inner.1 (h.0.1, subst (λ (l : List Record). NoneBehind keeps l rest) (sym (append_assoc log (said ∷ []) more)) h.1)),
    )
