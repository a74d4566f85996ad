-- How many names an origin has and how far they go, by what is heard of it and by what is kept of its names.
use Rattle.std.proofs.Common.{◌≡◌, inl, inr, ℕ, ◌<◌, ◌≤◌, suc, ◌-◌, true, false, is_some, Option, Some, None, List, [], ◌∷◌, ◌++◌, length, get_or, drop, take, Contains, IsTrue, refl, sym, ap, subst, ◌∙◌, arith}
use Rattle.std.specs.Prelude.{◌↔◌}
use Rattle.std.specs.Map.{lookup}
use Rattle.std.specs.Option.{option_map}
use Rattle.std.proofs.lemmas.Bool.{cases_Bool, false≢true}
use Rattle.std.proofs.lemmas.List.{append-nil}
use Rattle.std.proofs.lemmas.List.Elements.{Contains-append_left, Contains-append_right}
use Rattle.std.proofs.lemmas.Map.Made.{IsDistinct-from_AllPairs, is_member-Decides, length-le_from_is_member}
use Rattle.warp_tag.specs.Moment.{Moment, is_before, is_same}
use Rattle.warp_tag.proofs.Tags.{same_moment}
use Rattle.warp_record.specs.declared.record.Record.{Record}
use Rattle.warp_table.specs.Announced.{beginning}
use Rattle.warp_table.specs.NameCounts.{AreCounts, AreSoMany, HasName, HasSomeEvent, IsLastName}
use Rattle.warp_table.specs.Names.{HasWithdrawal, Tells}
use Rattle.warp_table.specs.Records.{Records, set_of}
use Rattle.warp_table.specs.declared.names.Name.{Name}
use Rattle.warp_table.specs.declared.table.NameCounts.{NameCounts}
use Rattle.warp_table.specs.declared.rows.Known.{Known}
use Rattle.warp_table.specs.declared.rows.NameRow.{NameRow}
use Rattle.warp_table.specs.inner.Blocks.{AreBlocks, flat}
use Rattle.warp_table.specs.inner.Heard.{AreAscending, Heard, IsHeard}
use Rattle.warp_table.specs.inner.Kept.{KeepsNames, entries_of, entry_of, is_named}
use Rattle.warp_table.specs.inner.NamesByOrigin.{row_of}
use Rattle.warp_table.proofs.BlockLists.{parted}
use Rattle.warp_table.proofs.Heard.{apart, same_tag_equiv}
use Rattle.warp_table.proofs.Horizons.{none_before_beginning}
use Rattle.warp_table.proofs.KnownNames.{looked_up}
use Rattle.warp_table.proofs.Members.{Contains-cases, Contains-nil}
use Rattle.warp_table.proofs.Sets.{same_tag}

-- So many names

-- tags in order are that many
pub listed_once : (are : Moment → Type 0) (tags : List Moment) → AreAscending tags → ((tag : Moment) → Contains tags tag ↔ are tag) → AreSoMany (length tags) are
listed_once are tags ascending each = (tags, λ i j d before within. apart (get_or tags i d) (get_or tags j d) (ascending i j d before within), each, refl)

module _ (S : Records) (origin : ℕ) (heard : Heard) (h : IsHeard S origin heard) where
  pub events_heard : AreSoMany (length heard.events) (HasSomeEvent S origin)
  events_heard = listed_once (HasSomeEvent S origin) heard.events h.ordered_events h.events

  pub withdrawals_heard : AreSoMany (length heard.withdrawn) (HasWithdrawal S origin)
  withdrawals_heard = listed_once (HasWithdrawal S origin) heard.withdrawn h.ordered_withdrawn h.withdrawn

-- The last name

-- a row says something of its tag
pub row_says : (rows : List NameRow) (row : NameRow) → Contains rows row → is_some (row_of row.tag rows) ≡ true
row_says [] row has = absurd (Contains-nil row has)
row_says (r ∷ rows) row has = elim (cases_Bool (is_same row.tag r.tag)) [
  | inl same ↦ rw same refl
  | inr differs ↦ rw differs (elim (Contains-cases r rows row has) [
    | inl is ↦ absurd (false≢true (sym differs ∙ (same_tag row.tag r.tag).1 (ap (λ (q : NameRow). q.tag) (sym is))))
    | inr there ↦ row_says rows row there
  ])
]

-- what a block has all blocks have
pub in_flat : {B X : Type 0} (items : B → List X) (bs : List B) (n : ℕ) (d : B) (x : X) → n < length bs → Contains (items (get_or bs n d)) x → Contains (flat items bs) x
in_flat items bs n d x within has =
    subst (λ (l : List _). Contains l x) (sym (parted items bs n d within))
    (Contains-append_right (flat items (take n bs)) (items (get_or bs n d) ++ flat items (drop (suc n) bs)) x
    (Contains-append_left (items (get_or bs n d)) (flat items (drop (suc n) bs)) x has))

-- where the last block has nothing all blocks have nothing
pub none_in_last : {B X : Type 0} (items : B → List X) (bs : List B) (d : B) → 0 < length bs → length (items (get_or bs (length bs - 1) d)) ≡ 0 → AreBlocks items bs → flat items bs ≡ []
none_in_last items [] d some none kept = refl
none_in_last items (b ∷ []) d some none kept = append-nil (items b) ∙ nothing (items b) none
  where
    nothing : {X : Type 0} (xs : List X) → length xs ≡ 0 → xs ≡ []
    nothing [] e = refl
    nothing (x ∷ xs) e = absurd (omega (arith, e))
none_in_last items (b ∷ c ∷ bs) d some none kept =
    let at : suc (length bs) ≡ length (b ∷ c ∷ bs) - 1 = omega arith in
    let here : length (items (get_or (b ∷ c ∷ bs) (suc (length bs)) d)) ≡ 0 = ap (λ n. length (items (get_or (b ∷ c ∷ bs) n d))) at ∙ none in
    absurd (omega (arith, here, kept (length bs) d (omega arith)))

-- something is known of a name exactly if a record of it is there
module _ (records : List Record) (names : List (Name × Known)) (h : KeepsNames records (entries_of records names)) (origin : ℕ) where
  pub told : (tag : Moment) → Tells (set_of records) origin tag (option_map (entry_of records (record { origin = origin; tag = tag })) (lookup (is_named origin tag) names))
  told tag = subst (Tells (set_of records) origin tag) (looked_up records (record { origin = origin; tag = tag }) names) (h.each origin tag)

  known_has : (tag : Moment) (found : Option Known) → is_some found ≡ true
      → Tells (set_of records) origin tag (option_map (entry_of records (record { origin = origin; tag = tag })) found) → HasName (set_of records) origin tag
  known_has tag None some t = absurd (false≢true some)
  known_has tag (Some known) some t = t.some

  none_has : (tag : Moment) → lookup (is_named origin tag) names ≡ None → HasName (set_of records) origin tag → ⊥
  none_has tag none has =
      let nothing : Tells (set_of records) origin tag None =
      subst (λ (found : Option Known). Tells (set_of records) origin tag (option_map (entry_of records (record { origin = origin; tag = tag })) found)) none (told tag) in
      nothing has.0 has.1 has.2

  pub last_some : (last : Moment) → is_some (lookup (is_named origin last) names) ≡ true
      → ((other : Moment) → IsTrue (is_before last other) → lookup (is_named origin other) names ≡ None) → IsLastName (set_of records) origin last
  last_some last some none = record {
    some = inl (known_has last (lookup (is_named origin last) names) some (told last));
    greatest = λ other has. elim (cases_Bool (is_before last other)) [
      | inl later ↦ absurd (none_has other (none other later) has)
      | inr behind ↦ behind
    ];
  }

  pub last_none : ((other : Moment) → lookup (is_named origin other) names ≡ None) → IsLastName (set_of records) origin beginning
  last_none none = record {
    some = inr refl;
    greatest = λ other has. absurd (none_has other (none other) has);
  }

-- A set has one count

no_more : (are : Moment → Type 0) (m n : ℕ) → AreSoMany m are → AreSoMany n are → m ≤ n
no_more are m n a b =
    let few : length a.0 ≤ length b.0 = length-le_from_is_member same_tag_equiv a.0 b.0 (IsDistinct-from_AllPairs same_tag a.0 a.1)
    (λ t has. (is_member-Decides same_tag b.0 t).1 ((b.2 t).1 ((a.2 t).0 ((is_member-Decides same_tag a.0 t).0 has)))) in
    omega (arith, few, a.3, b.3)

as_many : (are : Moment → Type 0) (m n : ℕ) → AreSoMany m are → AreSoMany n are → m ≡ n
as_many are m n a b = omega (arith, no_more are m n a b, no_more are n m b a)

not_later : (S : Records) (origin : ℕ) (a b : Moment) → IsLastName S origin a → IsLastName S origin b → is_before b a ≡ false
not_later S origin a b first other = elim first.some [
  | inl named ↦ other.greatest a named
  | inr begins ↦ subst (λ (t : Moment). is_before b t ≡ false) (sym begins) (none_before_beginning b)
]

pub one_count : (S : Records) (origin : ℕ) (a b : NameCounts) → AreCounts S origin a → AreCounts S origin b → a ≡ b
one_count S origin a b first other =
    let events : a.events ≡ b.events = as_many (HasSomeEvent S origin) a.events b.events first.events other.events in
    let withdrawn : a.withdrawn ≡ b.withdrawn = as_many (HasWithdrawal S origin) a.withdrawn b.withdrawn first.withdrawn other.withdrawn in
    let last : a.last ≡ b.last =
    same_moment a.last b.last (not_later S origin b.last a.last other.last first.last) (not_later S origin a.last b.last first.last other.last) in
    λ i. record { events = events i; withdrawn = withdrawn i; last = last i }
