-- The names of all origins, counted by what is heard of each origin.
use Rattle.std.proofs.Common.{◌≡◌, ◌≢◌, inl, inr, ℕ, ℤ, zero, suc, ◌+◌, ◌<◌, ◌≤◌, Bool, true, List, [], ◌∷◌, ◌++◌, length, filter, get_or, map, take, Contains, IsTrue, refl, sym, ap, subst, ◌∙◌, arith}
use Rattle.std.specs.Prelude.{◌↔◌}
use Rattle.std.specs.Cmp.{IsEquivalence}
use Rattle.std.specs.List.{All, AllPairs}
use Rattle.std.proofs.lemmas.Bool.Decides.{Decides-like, same_from_decides}
use Rattle.std.proofs.lemmas.List.{get_or_past, get_or-take, length-append, length-map, length-take-le}
use Rattle.std.proofs.lemmas.List.Elements.{All-append, All-contains, All-map, All-weaker, Contains-append_cases, Contains-append_left, Contains-append_right, Contains-get_or, filter-append}
use Rattle.std.proofs.lemmas.List.Kept.{AllPairs-cons, AllPairs-filter}
use Rattle.std.proofs.lemmas.Map.Made.{IsDistinct-from_AllPairs, is_member-Decides, length-le_from_is_member}
use Rattle.warp_tag.specs.Moment.{Moment, is_before}
use Rattle.warp_record.specs.declared.record.Record.{Record}
use Rattle.warp_record.specs.declared.record.Record.TheVariants as said_of
use Rattle.warp_table.specs.Announced.{beginning}
use Rattle.warp_table.specs.Closed.{AreJointCountsBefore, AreSoManyNames}
use Rattle.warp_table.specs.Joint.{AtLeastNames, all_events_below, all_withdrawals_below}
use Rattle.warp_table.specs.Names.{HasEvent, HasWithdrawal}
use Rattle.warp_table.specs.Records.{set_of}
use Rattle.warp_table.specs.declared.tally.EventOrWithdrawal.{EventOrWithdrawal}
use Rattle.warp_table.specs.declared.tally.EventOrWithdrawal.TheVariants.{Event, Withdrawal}
use Rattle.warp_table.specs.inner.Heard.{AreAscending, AreHeard, Heard, count_before, heard_at, nothing_heard}
use Rattle.warp_table.specs.inner.Joint.{all_tags}
use Rattle.warp_table.specs.inner.Tally.{tags_of}
use Rattle.warp_table.proofs.Heard.{apart}
use Rattle.warp_table.proofs.JointCounts.{is_one_name, one_name}
use Rattle.warp_table.proofs.Members.{AllPairs-first, AllPairs-tail, Contains-here, Contains-there, Contains-map, Contains-from_map, Contains-nil, kept_passes, passes_kept}
use Rattle.warp_table.proofs.Sets.{in_set}

-- sameness of names is an equivalence
one_name_equiv : IsEquivalence is_one_name
one_name_equiv = record {
  refl = λ m. (one_name m m).1 refl;
  symm = λ m n. same_from_decides (is_one_name m n) (is_one_name n m) (one_name m n) (Decides-like (is_one_name n m) sym sym (one_name n m));
  congr = λ m n o e. ap (λ a. is_one_name a o) ((one_name m n).0 e);
}

-- each two of both lists are so, where each two of each are, and each of the one with each of the other
pairs_append : {X : Type 0} (R : X → X → Type 0) (xs ys : List X) → AllPairs R xs → AllPairs R ys → ((x : X) → Contains xs x → All (R x) ys) → AllPairs R (xs ++ ys)
pairs_append R [] ys left right both = right
pairs_append R (x ∷ xs) ys left right both =
    AllPairs-cons R x (xs ++ ys) (All-append (R x) xs ys (AllPairs-first R x xs left) (both x (Contains-here x xs)))
    (pairs_append R xs ys (AllPairs-tail R x xs left) right (λ y has. both y (Contains-there x xs y has)))

-- the name of an origin at a tag
abbrev name_at : ℕ → Moment → ℕ × Moment
name_at origin tag = (origin, tag)

-- tags in order are names apart
named_apart : (origin : ℕ) (tags : List Moment) → AreAscending tags → AllPairs (λ m n. m ≢ n) (map (name_at origin) tags)
named_apart origin [] ascending = λ i j d lt l. absurd (omega arith)
named_apart origin (t ∷ tags) ascending =
    AllPairs-cons (λ (m n : ℕ × Moment). m ≢ n) (origin, t) (map (name_at origin) tags)
    (All-map (λ (n : ℕ × Moment). name_at origin t ≢ n) (name_at origin) tags
    (All-weaker (λ u. IsTrue (is_before t u)) (λ u. name_at origin t ≢ name_at origin u) (λ u b e. apart t u b (ap (λ (n : ℕ × Moment). n.1) e)) tags
    (AllPairs-first (λ u v. IsTrue (is_before u v)) t tags ascending)))
    (named_apart origin tags (AllPairs-tail (λ u v. IsTrue (is_before u v)) t tags ascending))

-- no tag of an origin of which nothing is heard
pub no_tags : (kind : EventOrWithdrawal) → tags_of kind nothing_heard ≡ []
no_tags Event = refl
no_tags Withdrawal = refl

pub none_at : (origin : ℕ) → heard_at [] origin ≡ nothing_heard
none_at origin = get_or_past [] origin nothing_heard (omega arith)

module _ (kind : EventOrWithdrawal) (p : Moment → Bool) where
  -- the names of origins from one on, of those whose tags pass a test
  abbrev names_in : ℕ → List Heard → List (ℕ × Moment)
  names_in origin [] = []
  names_in origin (h ∷ hs) = map (name_at origin) (filter p (tags_of kind h)) ++ names_in (origin + 1) hs

  -- they are as many as the tags
  length-names_in : (origin : ℕ) (hs : List Heard) → length (names_in origin hs) ≡ length (filter p (all_tags kind hs))
  length-names_in origin [] = refl
  length-names_in origin (h ∷ hs) =
      let own : List Moment = filter p (tags_of kind h) in
      let left : length (map (name_at origin) own ++ names_in (origin + 1) hs) ≡ length (map (name_at origin) own) + length (names_in (origin + 1) hs) = length-append _ _ in
      let mapped : length (map (name_at origin) own) ≡ length own = length-map own (name_at origin) in
      let rest : length (names_in (origin + 1) hs) ≡ length (filter p (all_tags kind hs)) = length-names_in (origin + 1) hs in
      let right : length (filter p (tags_of kind h ++ all_tags kind hs)) ≡ length (own ++ filter p (all_tags kind hs)) = ap (λ (l : List Moment). length l) (filter-append p (tags_of kind h) (all_tags kind hs)) in
      let parts : length (own ++ filter p (all_tags kind hs)) ≡ length own + length (filter p (all_tags kind hs)) = length-append _ _ in
      omega (arith, left, mapped, rest, right, parts)

  -- each is of an origin's tags
  from_names_in : (origin : ℕ) (hs : List Heard) (name : ℕ × Moment) → Contains (names_in origin hs) name → (k : ℕ) × (name.0 ≡ origin + k) × Contains (tags_of kind (heard_at hs k)) name.1 × IsTrue (p name.1)
  from_names_in origin [] name has = absurd (Contains-nil name has)
  from_names_in origin (h ∷ hs) name has = elim (Contains-append_cases (map (name_at origin) (filter p (tags_of kind h))) (names_in (origin + 1) hs) name has) [
    | inl own ↦ (
        let from = Contains-from_map (name_at origin) (filter p (tags_of kind h)) name own in
        let kept = kept_passes p (tags_of kind h) from.0 from.1 in
        let first : name.0 ≡ origin = sym (ap (λ (n : ℕ × Moment). n.0) from.2) in
        let second : from.0 ≡ name.1 = ap (λ (n : ℕ × Moment). n.1) from.2 in
        (0, omega (arith, first), subst (λ (t : Moment). Contains (tags_of kind h) t) second kept.0, subst (λ (t : Moment). IsTrue (p t)) second kept.1)
        )
    | inr later ↦ (
        let rest = from_names_in (origin + 1) hs name later in
        (suc rest.0, omega (arith, rest.1), rest.2, rest.3)
        )
  ]

  -- and each such tag is there
  to_names_in : (origin : ℕ) (hs : List Heard) (k m : ℕ) (tag : Moment) → m ≡ origin + k → Contains (tags_of kind (heard_at hs k)) tag → IsTrue (p tag) → Contains (names_in origin hs) (m, tag)
  to_names_in origin [] k m tag is has pass =
      absurd (Contains-nil tag (subst (λ (tags : List Moment). Contains tags tag) (ap (tags_of kind) (none_at k) ∙ no_tags kind) has))
  to_names_in origin (h ∷ hs) zero m tag is has pass =
      let first : m ≡ origin = omega (arith, is) in
      subst (λ (o : ℕ). Contains (names_in origin (h ∷ hs)) (o, tag)) (sym first)
      (Contains-append_left (map (name_at origin) (filter p (tags_of kind h))) (names_in (origin + 1) hs) (origin, tag)
      (Contains-map (name_at origin) (filter p (tags_of kind h)) tag (passes_kept p (tags_of kind h) tag has pass)))
  to_names_in origin (h ∷ hs) (suc k) m tag is has pass =
      Contains-append_right (map (name_at origin) (filter p (tags_of kind h))) (names_in (origin + 1) hs) (m, tag)
      (to_names_in (origin + 1) hs k m tag (omega (arith, is)) has pass)

  -- no name stands there twice
  names_in_apart : (origin : ℕ) (hs : List Heard) → ((k : ℕ) → AreAscending (tags_of kind (heard_at hs k))) → AllPairs (λ m n. m ≢ n) (names_in origin hs)
  names_in_apart origin [] ascending = λ i j d lt l. absurd (omega arith)
  names_in_apart origin (h ∷ hs) ascending =
      pairs_append (λ (m n : ℕ × Moment). m ≢ n) (map (name_at origin) (filter p (tags_of kind h))) (names_in (origin + 1) hs)
      (named_apart origin (filter p (tags_of kind h)) (AllPairs-filter (λ t u. IsTrue (is_before t u)) p (tags_of kind h) (ascending 0)))
      (names_in_apart (origin + 1) hs (λ k. ascending (suc k)))
      (λ name own k d l e.
      let mine = Contains-from_map (name_at origin) (filter p (tags_of kind h)) name own in
      let first : name.0 ≡ origin = sym (ap (λ (n : ℕ × Moment). n.0) mine.2) in
      let other = from_names_in (origin + 1) hs (get_or (names_in (origin + 1) hs) k d) (Contains-get_or (names_in (origin + 1) hs) k d l) in
      let same : name.0 ≡ (get_or (names_in (origin + 1) hs) k d).0 = ap (λ (n : ℕ × Moment). n.0) e in
      omega (arith, first, other.1, same))

-- so many names at least are such exactly if there are so many in a list of just these
pub at_least_listed : (are : ℕ × Moment → Type 0) (names : List (ℕ × Moment)) → AllPairs (λ m n. m ≢ n) names → ((name : ℕ × Moment) → Contains names name ↔ are name) → (count : ℕ) → AtLeastNames count are ↔ (count ≤ length names)
at_least_listed are names differ each count = (there, back)
  where
    there : AtLeastNames count are → count ≤ length names
    there h =
        let few : length h.0 ≤ length names = length-le_from_is_member one_name_equiv h.0 names (IsDistinct-from_AllPairs one_name h.0 h.1)
        (λ name m.
        let listed : Contains h.0 name = (is_member-Decides one_name h.0 name).0 m in
        (is_member-Decides one_name names name).1 ((each name).1 (All-contains are h.0 name h.2 listed))) in
        omega (arith, h.3, few)

    back : count ≤ length names → AtLeastNames count are
    back h =
        let long : length (take count names) ≡ count = length-take-le count names h in (
          take count names,
          λ i j d lt l. (
              let within : j < count = omega (arith, long) in
              rw (get_or-take count names j d within, get_or-take count names i d (omega arith))
              (differ i j d lt (omega (arith, h)))
              ),
          λ k d l. (
              let within : k < count = omega (arith, long) in
              rw (get_or-take count names k d within)
              ((each (get_or names k d)).0 (Contains-get_or names k d (omega (arith, h))))
              ),
          long,
        )

-- what is heard of an origin's names of a kind, by what these are
module _ (kind : EventOrWithdrawal) (heards : List Heard) (is : ℕ → Moment → Type 0) (ascending : (origin : ℕ) → AreAscending (tags_of kind (heard_at heards origin)))
    (each : (origin : ℕ) (tag : Moment) → Contains (tags_of kind (heard_at heards origin)) tag ↔ is origin tag) where
  -- so many names are before an end as tags are
  so_many_tags : (end : Moment) → AreSoManyNames (count_before end (all_tags kind heards)) (λ name. IsTrue (is_before name.1 end) × is name.0 name.1)
  so_many_tags end =
      let before : Moment → Bool = (λ t. is_before t end) in
      let names : List (ℕ × Moment) = names_in kind before 0 heards in (
        names,
        names_in_apart kind before 0 heards ascending,
        (λ name. (
          λ has. (
              let from = from_names_in kind before 0 heards name has in
              let at : from.0 ≡ name.0 = omega (arith, from.1) in
              (from.3, (each name.0 name.1).0 (subst (λ (o : ℕ). Contains (tags_of kind (heard_at heards o)) name.1) at from.2))
              ),
          λ h. to_names_in kind before 0 heards name.0 name.0 name.1 (omega arith) ((each name.0 name.1).1 h.1) h.0,
        )),
        length-names_in kind before 0 heards,
      )

  -- so many names at least are before an end exactly if so many tags are
  at_least_tags : (end : Moment) (count : ℕ) → AtLeastNames count (λ name. IsTrue (is_before name.1 end) × is name.0 name.1) ↔ (count ≤ count_before end (all_tags kind heards))
  at_least_tags end count =
      let so = so_many_tags end in
      let told = at_least_listed (λ name. IsTrue (is_before name.1 end) × is name.0 name.1) so.0 so.1 so.2 count in
      (λ h. (let few = told.0 h in omega (arith, few, so.3)), λ h. told.1 (omega (arith, h, so.3)))

  filter_all : (tags : List Moment) → length (filter (λ t. true) tags) ≡ length tags
  filter_all [] = refl
  filter_all (t ∷ tags) = ap (λ (n : ℕ). suc n) (filter_all tags)

  -- there are no more tags than a list has things with just their names
  few_tags : (others : List (ℕ × Moment)) → ((origin : ℕ) (tag : Moment) → is origin tag → Contains others (origin, tag)) → length (all_tags kind heards) ≤ length others
  few_tags others listed =
      let any : Moment → Bool = (λ t. true) in
      let names : List (ℕ × Moment) = names_in kind any 0 heards in
      let same : length names ≡ length (filter any (all_tags kind heards)) = length-names_in kind any 0 heards in
      let whole : length (filter any (all_tags kind heards)) ≡ length (all_tags kind heards) = filter_all (all_tags kind heards) in
      let few : length names ≤ length others = length-le_from_is_member one_name_equiv names others (IsDistinct-from_AllPairs one_name names (names_in_apart kind any 0 heards ascending))
      (λ name m.
      let has : Contains names name = (is_member-Decides one_name names name).0 m in
      let from = from_names_in kind any 0 heards name has in
      let at : from.0 ≡ name.0 = omega (arith, from.1) in
      (is_member-Decides one_name others name).1
      (listed name.0 name.1 ((each name.0 name.1).0 (subst (λ (o : ℕ). Contains (tags_of kind (heard_at heards o)) name.1) at from.2)))) in
      omega (arith, few, same, whole)

-- the name of a record, of which a joint or own announcement has none
abbrev name_of : Record → ℕ × Moment
name_of (said_of.Event origin tag input value) = (origin, tag)
name_of (said_of.Withdraw origin tag) = (origin, tag)
name_of (said_of.Announce origin tag events withdrawn) = (0, beginning)
name_of (said_of.Joint tag events withdrawn) = (0, beginning)

module _ (records : List Record) (heards : List Heard) (heard : AreHeard records heards) where
  pub events_counted : (end : Moment) (count : ℕ) → AtLeastNames count (all_events_below (set_of records) end) ↔ (count ≤ count_before end (all_tags Event heards))
  events_counted = at_least_tags Event heards (λ origin tag. (payload : ℕ × ℤ) × HasEvent (set_of records) origin tag payload) (λ origin. (heard.each origin).ordered_events) (λ origin. (heard.each origin).events)

  pub withdrawals_counted : (end : Moment) (count : ℕ) → AtLeastNames count (all_withdrawals_below (set_of records) end) ↔ (count ≤ count_before end (all_tags Withdrawal heards))
  withdrawals_counted = at_least_tags Withdrawal heards (λ origin tag. HasWithdrawal (set_of records) origin tag) (λ origin. (heard.each origin).ordered_withdrawn) (λ origin. (heard.each origin).withdrawn)

  -- so many names are before an end, of those that have an event and of those that have a withdrawal
  events_before : (end : Moment) → AreSoManyNames (count_before end (all_tags Event heards)) (all_events_below (set_of records) end)
  events_before = so_many_tags Event heards (λ origin tag. (payload : ℕ × ℤ) × HasEvent (set_of records) origin tag payload) (λ origin. (heard.each origin).ordered_events) (λ origin. (heard.each origin).events)

  withdrawals_before : (end : Moment) → AreSoManyNames (count_before end (all_tags Withdrawal heards)) (all_withdrawals_below (set_of records) end)
  withdrawals_before = so_many_tags Withdrawal heards (λ origin tag. HasWithdrawal (set_of records) origin tag) (λ origin. (heard.each origin).ordered_withdrawn) (λ origin. (heard.each origin).withdrawn)

  pub joint_counts : (end : Moment) → AreJointCountsBefore (set_of records) end (count_before end (all_tags Event heards)) (count_before end (all_tags Withdrawal heards))
  joint_counts end = record { events = events_before end; withdrawn = withdrawals_before end }

  pub few_events : length (all_tags Event heards) ≤ length records
  few_events =
      let few = few_tags Event heards (λ origin tag. (payload : ℕ × ℤ) × HasEvent (set_of records) origin tag payload) (λ origin. (heard.each origin).ordered_events) (λ origin. (heard.each origin).events) (map name_of records)
      (λ origin tag h. Contains-map name_of records (said_of.Event origin tag h.0.0 h.0.1) ((in_set records (said_of.Event origin tag h.0.0 h.0.1)).1 h.1)) in
      omega (arith, few, length-map records name_of)

  pub few_withdrawals : length (all_tags Withdrawal heards) ≤ length records
  few_withdrawals =
      let few = few_tags Withdrawal heards (λ origin tag. HasWithdrawal (set_of records) origin tag) (λ origin. (heard.each origin).ordered_withdrawn) (λ origin. (heard.each origin).withdrawn) (map name_of records)
      (λ origin tag h. Contains-map name_of records (said_of.Withdraw origin tag) ((in_set records (said_of.Withdraw origin tag)).1 h)) in
      omega (arith, few, length-map records name_of)
