-- One record more breaks no kept origin.
use Rattle.std.proofs.Common.{◌≡◌, inl, inr, ℕ, ℤ, ◌+◌, Bool, Some, List, [], ◌∷◌, ◌++◌, IsTrue, refl, sym, ap, subst}
use Rattle.std.proofs.lemmas.List.{append_assoc, append-nil}
use Rattle.warp_tag.specs.Moment.{Moment, is_before}
use Rattle.warp_record.specs.Record.{origin_of, tag_of}
use Rattle.warp_record.specs.declared.record.Record.{Record}
use Rattle.warp_record.specs.declared.record.Record.TheVariants.{Event, Withdraw, Announce, Joint}
use Rattle.warp_table.specs.Records.{IsIn, Records, set_of}
use Rattle.warp_table.specs.Names.{HasEvent, HasWithdrawal, origin_or_first}
use Rattle.warp_table.specs.Announced.{IsBroken, events_below, withdrawals_below}
use Rattle.warp_table.proofs.Counts.{still_counted}
use Rattle.warp_table.proofs.Heard.{IsWithOne, with_one}
use Rattle.warp_keep.specs.Kept.{MayCome, NoneBehind, SaysAll, SpeaksOfKept}

-- two sets, the first with all events and withdrawals of an origin before a tag that the other has
pub record HasAllBelow (S T : Records) (origin : ℕ) (end : Moment) : Type 0 where
  pub events : (tag : Moment) (payload : ℕ × ℤ) → IsTrue (is_before tag end) → HasEvent T origin tag payload → HasEvent S origin tag payload
  pub withdrawals : (tag : Moment) → IsTrue (is_before tag end) → HasWithdrawal T origin tag → HasWithdrawal S origin tag

-- then an announcement that says no less than the one has says no less than the other has
all_said : (S T : Records) (origin : ℕ) (end : Moment) (events withdrawn : ℕ) → HasAllBelow S T origin end → SaysAll S origin end events withdrawn → SaysAll T origin end events withdrawn
all_said S T origin end events withdrawn has says = record {
  no_more = λ more. says.no_more (still_counted (events + 1) (events_below T origin end) (events_below S origin end) (λ tag h. (h.0, (h.1.0, has.events tag h.1.0 h.0 h.1.1))) more);
  no_more_withdrawn = λ more. says.no_more_withdrawn (still_counted (withdrawn + 1) (withdrawals_below T origin end) (withdrawals_below S origin end) (λ tag h. (h.0, has.withdrawals tag h.0 h.1)) more);
  single = λ tag before two. says.single tag before (two.0, two.1, has.events tag two.0 before two.2, has.events tag two.1 before two.3, two.4);
}

-- an announcement of an origin that is not broken says no less than the set has
says_of : (S : Records) (origin : ℕ) (end : Moment) (events withdrawn : ℕ) → (IsBroken S origin → ⊥) → IsIn S (Announce origin end events withdrawn) → SaysAll S origin end events withdrawn
says_of S origin end events withdrawn whole announced = record {
  no_more = λ more. whole (end, events, withdrawn, announced, inl more);
  no_more_withdrawn = λ more. whole (end, events, withdrawn, announced, inr (inl more));
  single = λ tag before two. whole (end, events, withdrawn, announced, inr (inr (tag, before, two)));
}

-- and where all say no less it is not broken
not_broken : (S : Records) (origin : ℕ) → ((end : Moment) (events withdrawn : ℕ) → IsIn S (Announce origin end events withdrawn) → SaysAll S origin end events withdrawn) → IsBroken S origin → ⊥
not_broken S origin says broken =
    let all = says broken.0 broken.1 broken.2 broken.3 in
    elim broken.4 [
      | inl more ↦ all.no_more more
      | inr rest ↦ elim rest [
        | inl more ↦ all.no_more_withdrawn more
        | inr two ↦ all.single two.0 two.1 two.2
      ]
    ]

-- what was there of an origin before a tag is all that is there with one more record, where that is none of its names before it
pub below_same : (S T : Records) (one : Record) → IsWithOne S one T → (origin : ℕ) (end : Moment) → ((tag : Moment) (payload : ℕ × ℤ) → IsTrue (is_before tag end) → Event origin tag payload.0 payload.1 ≡ one → ⊥) → ((tag : Moment) → IsTrue (is_before tag end) → Withdraw origin tag ≡ one → ⊥) → HasAllBelow S T origin end
below_same S T one more origin end no_event no_withdrawal = record {
  events = λ tag payload before has. elim ((more.each (Event origin tag payload.0 payload.1)).0 has) [
    | inl old ↦ old
    | inr e ↦ absurd (no_event tag payload before e)
  ];
  withdrawals = λ tag before has. elim ((more.each (Withdraw origin tag)).0 has) [
    | inl old ↦ old
    | inr e ↦ absurd (no_withdrawal tag before e)
  ];
}

-- one more record of another origin, or one that may come, breaks nothing
pub one_more : (S T : Records) (one : Record) (origin : ℕ) → IsWithOne S one T → (origin_of one ≡ Some origin → MayCome S one) → (IsBroken S origin → ⊥) → IsBroken T origin → ⊥
one_more S T (Event o t input value) origin more may whole = not_broken T origin says
  where
    says : (end : Moment) (events withdrawn : ℕ) → IsIn T (Announce origin end events withdrawn) → SaysAll T origin end events withdrawn
    says end events withdrawn announced = elim ((more.each (Announce origin end events withdrawn)).0 announced) [
      | inl old ↦ all_said S T origin end events withdrawn (below_same S T (Event o t input value) more origin end
          (λ tag payload before e. (may (sym (ap origin_of e))).0 (end, inl (events, withdrawn, subst (λ (x : ℕ). IsIn S (Announce x end events withdrawn)) (ap origin_or_first e) old), subst (λ (x : Moment). IsTrue (is_before x end)) (ap tag_of e) before))
          (λ tag before e. cc)) (says_of S origin end events withdrawn whole old)
      | inr e ↦ cc
    ]
one_more S T (Withdraw o t) origin more may whole = not_broken T origin says
  where
    says : (end : Moment) (events withdrawn : ℕ) → IsIn T (Announce origin end events withdrawn) → SaysAll T origin end events withdrawn
    says end events withdrawn announced = elim ((more.each (Announce origin end events withdrawn)).0 announced) [
      | inl old ↦ all_said S T origin end events withdrawn (below_same S T (Withdraw o t) more origin end
          (λ tag payload before e. cc)
          (λ tag before e. may (sym (ap origin_of e)) (end, inl (events, withdrawn, subst (λ (x : ℕ). IsIn S (Announce x end events withdrawn)) (ap origin_or_first e) old), subst (λ (x : Moment). IsTrue (is_before x end)) (ap tag_of e) before))) (says_of S origin end events withdrawn whole old)
      | inr e ↦ cc
    ]
one_more S T (Announce o h e w) origin more may whole = not_broken T origin says
  where
    same : (end : Moment) → HasAllBelow S T origin end
    same end = below_same S T (Announce o h e w) more origin end (λ tag payload before e. cc) (λ tag before e. cc)

    says : (end : Moment) (events withdrawn : ℕ) → IsIn T (Announce origin end events withdrawn) → SaysAll T origin end events withdrawn
    says end events withdrawn announced = all_said S T origin end events withdrawn (same end) (elim ((more.each (Announce origin end events withdrawn)).0 announced) [
      | inl old ↦ says_of S origin end events withdrawn whole old
      | inr e ↦ subst (λ (r : Record). MayCome S r) (sym e) (may (sym (ap origin_of e)))
    ])
one_more S T (Joint h e w) origin more may whole = not_broken T origin says
  where
    says : (end : Moment) (events withdrawn : ℕ) → IsIn T (Announce origin end events withdrawn) → SaysAll T origin end events withdrawn
    says end events withdrawn announced = elim ((more.each (Announce origin end events withdrawn)).0 announced) [
      | inl old ↦ all_said S T origin end events withdrawn (below_same S T (Joint h e w) more origin end (λ tag payload before e. cc) (λ tag before e. cc)) (says_of S origin end events withdrawn whole old)
      | inr e ↦ cc
    ]

-- what is one kept origin's speaks of a kept one
pub speaks_own : (keeps : ℕ → Bool) (origin : ℕ) (said : Record) → IsTrue (keeps origin) → origin_of said ≡ Some origin → SpeaksOfKept keeps said
speaks_own keeps origin (Event o t input value) kept e = let is : origin ≡ o = cc in subst (λ (x : ℕ). IsTrue (keeps x)) is kept
speaks_own keeps origin (Withdraw o t) kept e = let is : origin ≡ o = cc in subst (λ (x : ℕ). IsTrue (keeps x)) is kept
speaks_own keeps origin (Announce o h n w) kept e = let is : origin ≡ o = cc in subst (λ (x : ℕ). IsTrue (keeps x)) is kept
speaks_own keeps origin (Joint h n w) kept e = (origin, kept)

-- records behind a log, of which each that speaks of a kept origin may come
pub none_broken : (keeps : ℕ → Bool) (log more : List Record) (origin : ℕ) → IsTrue (keeps origin) → (IsBroken (set_of log) origin → ⊥) → NoneBehind keeps log more → IsBroken (set_of (log ++ more)) origin → ⊥
none_broken keeps log [] origin kept whole behind = subst (λ (l : List Record). IsBroken (set_of l) origin → ⊥) (sym (append-nil log)) whole
none_broken keeps log (said ∷ more) origin kept whole behind =
    subst (λ (l : List Record). IsBroken (set_of l) origin → ⊥) (append_assoc log (said ∷ []) more)
    (none_broken keeps (log ++ said ∷ []) more origin kept
    (one_more (set_of log) (set_of (log ++ said ∷ [])) said origin (with_one log said) (λ e. behind.0 (speaks_own keeps origin said kept e)) whole)
    behind.1)

-- what has nothing of an origin but from a set that does not break it
pub part_whole : (S T : Records) (origin : ℕ) → (IsBroken T origin → ⊥) → ((said : Record) → IsIn S said → origin_of said ≡ Some origin → IsIn T said) → IsBroken S origin → ⊥
part_whole S T origin whole has = not_broken S origin (λ end events withdrawn announced.
    all_said T S origin end events withdrawn
    (record { events = λ tag payload before h. has (Event origin tag payload.0 payload.1) h refl; withdrawals = λ tag before h. has (Withdraw origin tag) h refl })
    (says_of T origin end events withdrawn whole (has (Announce origin end events withdrawn) announced refl)))
