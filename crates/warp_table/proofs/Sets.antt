-- Sets of records: what is in the set of a list, that lists of the same records have one set, and that a set has one size.
use Rattle.std.proofs.Common.{◌≡◌, ℕ, ◌==◌, ◌&&◌, List, ◌++◌, Contains, refl, sym, ap, ◌∙◌}
use Rattle.std.specs.Prelude.{◌↔◌}
use Rattle.std.specs.Bool.{Decides}
use Rattle.std.specs.Cmp.{IsEquivalence}
use Rattle.std.specs.Ordering.{int_eq}
use Rattle.std.proofs.lemmas.Bool.Decides.{Decides-and, Decides-eqb, Decides-int_eq, Decides-like, same_from_decides}
use Rattle.std.proofs.lemmas.List.Folds.{list_any-append}
use Rattle.std.proofs.lemmas.Map.Made.{IsDistinct-from_AllPairs, is_member-Decides, length-from_same_keys}
use Rattle.warp_tag.specs.Moment.{Moment, is_same}
use Rattle.warp_record.specs.declared.record.Record.{Record}
use Rattle.warp_record.specs.declared.record.Record.TheVariants.{Event, Withdraw, Announce, Joint}
use Rattle.warp_table.specs.Records.{HasSize, IsIn, Records, same_record, set_of, union}

-- a test of sameness of tags holds of one tag alone
pub same_tag : (t u : Moment) → Decides (is_same t u) (t ≡ u)
same_tag t u =
    Decides-like (is_same t u) (λ e i. record { time = e.0 i; microstep = e.1 i }) (λ e. (ap (λ v. v.time) e, ap (λ v. v.microstep) e))
    (Decides-and (t.time == u.time) (t.microstep == u.microstep) (Decides-eqb t.time u.time) (Decides-eqb t.microstep u.microstep))

-- of one name alone
pub same_name : (o p : ℕ) (t s : Moment) → Decides (o == p && is_same t s) ((o ≡ p) × (t ≡ s))
same_name o p t s = Decides-and (o == p) (is_same t s) (Decides-eqb o p) (same_tag t s)

-- and of one record alone
pub same_record-Decides : (a b : Record) → Decides (same_record a b) (a ≡ b)
same_record-Decides (Event o t input value) (Event p s other_input other_value) =
    Decides-like (same_record (Event o t input value) (Event p s other_input other_value))
    (λ e i. Event (e.0.0.0 i) (e.0.0.1 i) (e.0.1 i) (e.1 i)) (λ e. (((cc, cc), cc), cc))
    (Decides-and (o == p && is_same t s && input == other_input) (int_eq value other_value)
    (Decides-and (o == p && is_same t s) (input == other_input) (same_name o p t s) (Decides-eqb input other_input)) (Decides-int_eq value other_value))
same_record-Decides (Withdraw o t) (Withdraw p s) =
    Decides-like (same_record (Withdraw o t) (Withdraw p s)) (λ e i. Withdraw (e.0 i) (e.1 i)) (λ e. (cc, cc)) (same_name o p t s)
same_record-Decides (Announce o t events withdrawn) (Announce p s other_events other_withdrawn) =
    Decides-like (same_record (Announce o t events withdrawn) (Announce p s other_events other_withdrawn))
    (λ e i. Announce (e.0.0.0 i) (e.0.0.1 i) (e.0.1 i) (e.1 i)) (λ e. (((cc, cc), cc), cc))
    (Decides-and (o == p && is_same t s && events == other_events) (withdrawn == other_withdrawn)
    (Decides-and (o == p && is_same t s) (events == other_events) (same_name o p t s) (Decides-eqb events other_events)) (Decides-eqb withdrawn other_withdrawn))
same_record-Decides (Joint t events withdrawn) (Joint s other_events other_withdrawn) =
    Decides-like (same_record (Joint t events withdrawn) (Joint s other_events other_withdrawn))
    (λ e i. Joint (e.0.0 i) (e.0.1 i) (e.1 i)) (λ e. ((cc, cc), cc))
    (Decides-and (is_same t s && events == other_events) (withdrawn == other_withdrawn)
    (Decides-and (is_same t s) (events == other_events) (same_tag t s) (Decides-eqb events other_events)) (Decides-eqb withdrawn other_withdrawn))
same_record-Decides (Event o t input value) (Joint s events withdrawn) = (λ e. cc, λ e. cc)
same_record-Decides (Withdraw o t) (Joint s events withdrawn) = (λ e. cc, λ e. cc)
same_record-Decides (Announce o t events withdrawn) (Joint s other_events other_withdrawn) = (λ e. cc, λ e. cc)
same_record-Decides (Joint t events withdrawn) (Event p s input value) = (λ e. cc, λ e. cc)
same_record-Decides (Joint t events withdrawn) (Withdraw p s) = (λ e. cc, λ e. cc)
same_record-Decides (Joint t events withdrawn) (Announce p s other_events other_withdrawn) = (λ e. cc, λ e. cc)
same_record-Decides (Event o t input value) (Withdraw p s) = (λ e. cc, λ e. cc)
same_record-Decides (Event o t input value) (Announce p s events withdrawn) = (λ e. cc, λ e. cc)
same_record-Decides (Withdraw o t) (Event p s input value) = (λ e. cc, λ e. cc)
same_record-Decides (Withdraw o t) (Announce p s events withdrawn) = (λ e. cc, λ e. cc)
same_record-Decides (Announce o t events withdrawn) (Event p s input value) = (λ e. cc, λ e. cc)
same_record-Decides (Announce o t events withdrawn) (Withdraw p s) = (λ e. cc, λ e. cc)

-- the set of a list has just the list's records
pub in_set : (records : List Record) (said : Record) → Contains records said ↔ IsIn (set_of records) said
in_set records said = let d = is_member-Decides same_record-Decides records said in (d.1, d.0)

-- lists of the same records have one set
pub one_set : (a b : List Record) → ((said : Record) → Contains a said ↔ Contains b said) → set_of a ≡ set_of b
one_set a b same =
    let each : (said : Record) → set_of a said ≡ set_of b said = (λ said. same_from_decides (set_of a said) (set_of b said) (is_member-Decides same_record-Decides a said) (Decides-like (set_of b said) (same said).1 (same said).0 (is_member-Decides same_record-Decides b said))) in
    λ i said. each said i

-- the set of two lists is that of the one and that of the other, joined
pub set_append : (a b : List Record) → set_of (a ++ b) ≡ union (set_of a) (set_of b)
set_append a b = λ i said. list_any-append (same_record said) a b i

-- sameness of records is an equivalence
same_record_equiv : IsEquivalence same_record
same_record_equiv = record {
  refl = λ x. (same_record-Decides x x).1 refl;
  symm = λ x y. same_from_decides (same_record x y) (same_record y x) (same_record-Decides x y) (Decides-like (same_record y x) sym sym (same_record-Decides y x));
  congr = λ x y z e. ap (λ a. same_record a z) ((same_record-Decides x y).0 e);
}

-- a set has one size
pub one_size : (S : Records) (m n : ℕ) → HasSize S m → HasSize S n → m ≡ n
one_size S m n a b =
    let same : set_of a.0 ≡ set_of b.0 = a.2 ∙ sym b.2 in
    sym a.3
    ∙ length-from_same_keys same_record_equiv a.0 b.0 (IsDistinct-from_AllPairs same_record-Decides a.0 a.1) (IsDistinct-from_AllPairs same_record-Decides b.0 b.1) (λ said. ap (λ S. S said) same)
    ∙ b.3
