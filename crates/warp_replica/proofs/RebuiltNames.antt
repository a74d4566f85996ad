-- The names of a log, gathered one after another, and put into a run one after another.
use Rattle.std.proofs.Common.{◌≡◌, ℕ, ◌+◌, ◌*◌, ◌<◌, ◌≤◌, List, [], ◌∷◌, ◌++◌, All, Contains, drop, filter, fold}
use Rattle.std.proofs.Common.{get_or, length, map, slice_get, take, Some, refl, sym, ap, subst, ◌∙◌, arith}
use Rattle.std.proofs.lemmas.List.{drop_all, drop_more, length-take, map-append, take_all, take_more}
use Rattle.std.proofs.lemmas.List.Elements.{All-contains, All-push}
use Rattle.std.proofs.lemmas.List.Sums.{count_by-le-length, length-filter}
use Rattle.std.proofs.lemmas.Option.{get_or_from_slice_get, slice_get_within}
use Rattle.warp_tag.specs.Limits.{most_names, most_records, widest}
use Rattle.warp_tag.specs.Moment.{Moment}
use Rattle.warp_tag.specs.declared.entry.Entry.{Entry}
use Rattle.warp_record.specs.declared.record.Record.{Record}
use Rattle.warp_record.specs.declared.record.Record.TheVariants.{Event, Withdraw, Announce, Joint}
use Rattle.warp_step.specs.Program.{Program}
use Rattle.warp_line.specs.Timeline.{Standing}
use Rattle.warp_table.specs.Names.{Tells}
use Rattle.warp_table.specs.Records.{set_of}
use Rattle.warp_table.specs.LogNames.{is_other, names_of}
use Rattle.warp_table.proofs.ListedNames.{names_each}
use Rattle.warp_table.proofs.Members.{Contains-from_map}
use Rattle.warp_table.proofs.Told.{told_once}
use Rattle.warp_replica.specs.Rebuilding.{StandsWith, with_name}
use Rattle.warp_replica.proofs.RebuiltTables.{name_longer}

-- the name of an entry
abbrev pub name_of : Entry → ℕ × Moment
name_of e = (e.origin, e.tag)

-- what the set of a log tells of each of these
abbrev pub AreTold : List Record → List Entry → Type 0
AreTold records names = All (λ (e : Entry). Tells (set_of records) e.origin e.tag (Some e)) names

-- these are of the first so many names of a log
pub record AreFirst (records : List Record) (count : ℕ) (names : List Entry) : Type 0 where
  pub named : map name_of names ≡ take count (names_of records)
  pub told : AreTold records names

pub first_none : (records : List Record) → AreFirst records 0 []
first_none records = record { named = refl; told = λ k d below. absurd (omega (arith, below)) }

pub first_more : (records : List Record) (count : ℕ) (names : List Entry) (e : Entry) → AreFirst records count names
    → slice_get (names_of records) count ≡ Some (name_of e) → Tells (set_of records) e.origin e.tag (Some e) → AreFirst records (count + 1) (names ++ e ∷ [])
first_more records count names e so at told =
    let within = slice_get_within (names_of records) count (name_of e) at in
    let next = take_more (names_of records) count (name_of e) within
    ∙ ap (λ (n : ℕ × Moment). take count (names_of records) ++ n ∷ []) (get_or_from_slice_get (names_of records) count (name_of e) (name_of e) at) in
    record {
      named = map-append name_of names (e ∷ []) ∙ ap (λ (l : List (ℕ × Moment)). l ++ name_of e ∷ []) so.named ∙ sym next;
      told = All-push (λ (x : Entry). Tells (set_of records) x.origin x.tag (Some x)) names e so.told told;
    }

length-map_of : (names : List Entry) → length (map name_of names) ≡ length names
length-map_of [] = refl
length-map_of (e ∷ names) = omega (arith, length-map_of names)

-- so many at most
pub first_few : (records : List Record) (count : ℕ) (names : List Entry) → AreFirst records count names → length names ≤ count
first_few records count names so =
    let size : length (map name_of names) ≡ length (take count (names_of records)) = ap length so.named in
    omega (arith, length-map_of names, size, length-take count (names_of records))

-- a log has no more names than records
fewer : (name : ℕ × Moment) (names : List (ℕ × Moment)) → length (filter (is_other name) names) ≤ length names
fewer name names = omega (arith, length-filter (is_other name) names, count_by-le-length (is_other name) names)

pub few_names : (records : List Record) → length (names_of records) ≤ length records
few_names [] = omega arith
few_names (Event o t input value ∷ records) = omega (arith, few_names records, fewer (o, t) (names_of records))
few_names (Withdraw o t ∷ records) = omega (arith, few_names records, fewer (o, t) (names_of records))
few_names (Announce o t events withdrawn ∷ records) = omega (arith, few_names records)
few_names (Joint t events withdrawn ∷ records) = omega (arith, few_names records)

-- where the log has no more, what the set tells of a name is among them
pub first_all : (records : List Record) (count : ℕ) (names : List Entry) → AreFirst records count names → length (names_of records) ≤ count
    → (o : ℕ) (t : Moment) (e : Entry) → Tells (set_of records) o t (Some e) → Contains names e
first_all records count names so whole o t e told =
    let all : map name_of names ≡ names_of records = so.named ∙ take_all count (names_of records) whole in
    let has = subst (λ (l : List (ℕ × Moment)). Contains l (o, t)) (sym all) ((names_each records o t).1 told.some) in
    let one = Contains-from_map name_of names (o, t) has in
    let its = All-contains (λ (x : Entry). Tells (set_of records) x.origin x.tag (Some x)) names one.0 so.told one.1 in
    let same : Some one.0 ≡ Some e = told_once (set_of records) o t (Some one.0) (Some e)
    (subst (λ (n : ℕ × Moment). Tells (set_of records) n.0 n.1 (Some one.0)) one.2 its) told in
    let is : one.0 ≡ e = cc in
    subst (Contains names) is one.1

-- the names before a place are in a run
pub record AreIn {T : Type 0} (stands_for : T → Standing → Type 0) (P : Program) (names : List Entry) (count : ℕ) (value : T) : Type 0 where
  pub table : List Entry
  pub stands : StandsWith stands_for value P table
  pub rest : fold with_name table (drop count names) ≡ fold with_name [] names
  pub size : length table ≤ 2 * count

module _ {T : Type 0} (stands_for : T → Standing → Type 0) (P : Program) (names : List Entry) where
  pub in_none : (value : T) → stands_for value (record { program = P; table = []; done = [] }) → AreIn stands_for P names 0 value
  in_none value stands = record { table = []; stands = ([], stands); rest = refl; size = omega arith }

  -- there is room for the next one
  pub in_room : (count : ℕ) (value : T) → AreIn stands_for P names count value → count < most_records widest
      → (table : List Entry) × StandsWith stands_for value P table × (length table + 1 < most_names)
  in_room count value so few = (so.table, so.stands, omega (arith, so.size, few))

  pub in_more : (count : ℕ) (value new : T) (name : Entry) → AreIn stands_for P names count value → count < length names → get_or names count name ≡ name
      → ((table : List Entry) → StandsWith stands_for value P table → StandsWith stands_for new P (with_name table name))
      → AreIn stands_for P names (count + 1) new
  in_more count value new name so within is put = record {
    table = with_name so.table name;
    stands = put so.table so.stands;
    rest = sym (ap (fold with_name so.table) (drop_more names count name within ∙ ap (λ (e : Entry). e ∷ drop (count + 1) names) is)) ∙ so.rest;
    size = omega (arith, so.size, name_longer so.table name);
  }

  pub in_all : (count : ℕ) (value : T) → AreIn stands_for P names count value → length names ≤ count → StandsWith stands_for value P (fold with_name [] names)
  in_all count value so whole =
      let none : drop count names ≡ [] = drop_all count names whole in
      subst (StandsWith stands_for value P) (sym (ap (fold with_name so.table) none) ∙ so.rest) so.stands
