-- The places past a tag, and those through it.
use Rattle.std.proofs.Common.{◌≡◌, ℕ, ◌+◌, ◌-◌, Bool, true, false, not, List, [], ◌∷◌, ◌++◌, length, refl, sym, ap, ◌∙◌, subst, arith, filter, drop, append_assoc, Some, None}
use Rattle.std.specs.List.{AllByRecursion}
use Rattle.std.proofs.lemmas.List.{length-append, drop_at, map-append}
use Rattle.warp_tag.specs.Moment.{Moment, is_before}
use Rattle.warp_tag.specs.Table.{IsTable}
use Rattle.warp_tag.specs.declared.entry.Entry.{Entry}
use Rattle.warp_tag.proofs.Lists.{All-weaker, All-append, some_not_none, same_some}
use Rattle.warp_tag.proofs.Names.{before_tag}
use Rattle.warp_arena.specs.Places.{Place, Contents, entries_of, entry_of, first_node, places_past, places_through}
use Rattle.warp_arena.proofs.Tables.{Precedes, IsTable-rest, All-unmap, filter_front, filter_back}
use Rattle.warp_arena.proofs.Reading.{entry_of-here}
use Rattle.warp_arena.proofs.Inserted.{same_contents}

-- what was freed so far: a front that is not after the tag
pub record Freed (tag : Moment) (start now' : Contents) : Type 0 where
  pub front : List Place
  pub parts : start.places ≡ front ++ now'.places
  pub through : AllByRecursion (λ p. is_before tag p.entry.tag ≡ false) front
  pub others : now' ≡ record start { places = now'.places; free = start.free + length front }

-- the first place, by its handle
first_place : (ps : List Place) (i : ℕ) (d : Entry) → Some i ≡ first_node ps → entry_of i ps ≡ Some d → (p : Place) × (qs : List Place) × (ps ≡ p ∷ qs) × (p.entry ≡ d)
first_place [] i d first entry = absurd (some_not_none i first)
first_place (p ∷ qs) i d first entry =
    (p, qs, refl, same_some p.entry d (sym (entry_of-here p qs i (sym (same_some i p.node first))) ∙ entry))

-- one more is freed
pub Freed-more : (tag : Moment) (start now' : Contents) → Freed tag start now' → (d : Entry) (i : ℕ) → Some i ≡ first_node now'.places → entry_of i now'.places ≡ Some d → is_before tag d.tag ≡ false → (next : Contents) → next ≡ record now' { places = drop 1 now'.places; free = now'.free + 1 } → Freed tag start next
Freed-more tag start now' f d i first entry h next e =
    let r = first_place now'.places i d first entry in
    let p : Place = r.0 in
    let rest : next.places ≡ r.1 = ap (λ v. v.places) e ∙ ap (drop 1) r.2 in
    record {
      front = f.front ++ p ∷ [];
      parts = f.parts ∙ ap (λ ps. f.front ++ ps) r.2 ∙ sym (append_assoc f.front (p ∷ []) r.1) ∙ ap (λ ps. (f.front ++ p ∷ []) ++ ps) (sym rest);
      through =
          All-append (λ q. is_before tag q.entry.tag ≡ false) f.front (p ∷ []) f.through
          (ap (λ x. is_before tag x.tag) r.3 ∙ h, tt);
      others =
          same_contents (ap (λ v. v.origins) e ∙ ap (λ v. v.origins) f.others) refl
          (omega (arith, ap (λ v. v.free) e, ap (λ v. v.free) f.others, length-append f.front (p ∷ [])))
          (ap (λ v. v.room) e ∙ ap (λ v. v.room) f.others);
    }

-- what is left, where its first place is after the tag or it is empty
pub record Stops (tag : Moment) (start now' : Contents) (n : ℕ) : Type 0 where
  pub places : now' ≡ record start { places = places_past tag start.places; free = start.free + n }
  pub count : n ≡ length (places_through tag start.places)
  pub front : now'.places ≡ drop n start.places

stops_by : (tag : Moment) (start now' : Contents) (f : Freed tag start now') → AllByRecursion (λ p. is_before tag p.entry.tag ≡ true) now'.places → (n : ℕ) → n ≡ length f.front → Stops tag start now' n
stops_by tag start now' f past n e =
    let later : Place → Bool = λ p. is_before tag p.entry.tag in
    record {
      places =
          same_contents (ap (λ v. v.origins) f.others)
          (sym (ap (filter later) f.parts ∙ filter_back later f.front now'.places f.through past))
          (ap (λ v. v.free) f.others ∙ ap (λ k. start.free + k) (sym e)) (ap (λ v. v.room) f.others);
      count = e ∙ ap length (sym (ap (filter (λ p. not (later p))) f.parts ∙ filter_front later f.front now'.places f.through past));
      front = sym (ap (drop n) f.parts ∙ drop_at f.front now'.places n (sym e));
    }

all_later : (tag : Moment) (ps : List Place) → IsTable (entries_of ps) → (i : ℕ) (d : Entry) → Some i ≡ first_node ps → entry_of i ps ≡ Some d → is_before tag d.tag ≡ true → AllByRecursion (λ p. is_before tag p.entry.tag ≡ true) ps
all_later tag [] t i d first entry h = tt
all_later tag (p ∷ ps) t i d first entry h =
    let here : is_before tag p.entry.tag ≡ true =
    ap (λ x. is_before tag x.tag) (same_some p.entry d (sym (entry_of-here p ps i (sym (same_some i p.node first))) ∙ entry)) ∙ h in (
      here,
      All-weaker (λ q. Precedes p.entry q.entry) (λ q. is_before tag q.entry.tag ≡ true) (λ q k. before_tag tag p.entry q.entry here k) ps
          (All-unmap (λ x. Precedes p.entry x) (λ (q : Place). q.entry) ps t.0),
    )

counted : (tag : Moment) (start now' : Contents) (f : Freed tag start now') (n : ℕ) → n ≡ length start.places - length now'.places → n ≡ length f.front
counted tag start now' f n e = omega (arith, e, ap length f.parts, length-append f.front now'.places)

pub stops_at : (tag : Moment) (start now' : Contents) → Freed tag start now' → IsTable (entries_of start.places) → (i : ℕ) (d : Entry) → Some i ≡ first_node now'.places → entry_of i now'.places ≡ Some d → is_before tag d.tag ≡ true → (n : ℕ) → n ≡ length start.places - length now'.places → Stops tag start now' n
stops_at tag start now' f t i d first entry h n e =
    let rest : IsTable (entries_of now'.places) =
    IsTable-rest (entries_of f.front) (entries_of now'.places)
    (subst IsTable (ap entries_of f.parts ∙ map-append (λ (q : Place). q.entry) f.front now'.places) t) in
    stops_by tag start now' f (all_later tag now'.places rest i d first entry h) n (counted tag start now' f n e)

all_of_none : (tag : Moment) (ps : List Place) → None ≡ first_node ps → AllByRecursion (λ p. is_before tag p.entry.tag ≡ true) ps
all_of_none tag [] none = tt
all_of_none tag (p ∷ ps) none = absurd (some_not_none p.node (sym none))

pub stops_empty : (tag : Moment) (start now' : Contents) → Freed tag start now' → None ≡ first_node now'.places → (n : ℕ) → n ≡ length start.places - length now'.places → Stops tag start now' n
stops_empty tag start now' f none n e =
    stops_by tag start now' f (all_of_none tag now'.places none) n (counted tag start now' f n e)
