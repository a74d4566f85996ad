-- The laws from an arena's places to the table of its entries.
use Rattle.std.proofs.Common.{◌≡◌, ◌≢◌, ℕ, true, false, cond, eqb, List, [], ◌∷◌, refl, sym, ap, ◌∙◌, inl, inr, map, find, nat_eq, Option, Some, None}
use Rattle.std.specs.List.{AllByRecursion, IsDistinct}
use Rattle.std.specs.Option.{option_map, option_and_then, is_some}
use Rattle.std.proofs.lemmas.Bool.{cases_Bool, cases_eq, eq-eqb, ne_eqb, false≢true}
use Rattle.warp_tag.specs.Moment.{Moment}
use Rattle.warp_tag.specs.Table.{name_before, has_name, fresh, known, IsTable}
use Rattle.warp_tag.specs.declared.entry.Entry.{Entry}
use Rattle.warp_tag.proofs.Lists.{All-weaker, some_not_none, same_some}
use Rattle.warp_tag.proofs.Names.{ahead, ahead_not_before, named_not_before, named_is}
use Rattle.warp_arena.specs.Places.{Place, entries_of, entry_of, node_of, with_place, with_change}
use Rattle.warp_arena.specs.Laws.{FindsKnown, ChangesFound, ChangesNew}
use Rattle.warp_arena.proofs.Tables.{Precedes, All-unmap}
use Rattle.warp_arena.proofs.Reading.{entry_of-here, entry_of-other}

-- no place has this handle
abbrev IsNew : ℕ → List Place → Type 0
IsNew node places = AllByRecursion (λ p. p.node ≢ node) places

-- the handles of these places are apart
abbrev AreApart : List Place → Type 0
AreApart places = IsDistinct nat_eq (map (λ (p : Place). p.node) places)

new_behind : (p : Place) (ps : List Place) → AreApart (p ∷ ps) → IsNew p.node ps
unfolding IsDistinct
new_behind p ps d =
    All-weaker (λ (q : Place). eqb p.node q.node ≡ false) (λ (q : Place). q.node ≢ p.node)
    (λ q h e. false≢true (sym h ∙ eq-eqb p.node q.node (sym e))) ps
    (All-unmap (λ n. eqb p.node n ≡ false) (λ (q : Place). q.node) ps d.0)

apart_behind : (p : Place) (ps : List Place) → AreApart (p ∷ ps) → AreApart ps
unfolding IsDistinct
apart_behind p ps d = d.1

node_of-here : (o : ℕ) (g : Moment) (p : Place) (ps : List Place) → has_name o g p.entry ≡ true → node_of o g (p ∷ ps) ≡ Some p.node
node_of-here o g p ps h =
    ap (λ b. option_map (λ (q : Place). q.node) (cond b (Some p) (find (λ (q : Place). has_name o g q.entry) ps))) h

node_of-other : (o : ℕ) (g : Moment) (p : Place) (ps : List Place) → has_name o g p.entry ≡ false → node_of o g (p ∷ ps) ≡ node_of o g ps
node_of-other o g p ps h =
    ap (λ b. option_map (λ (q : Place). q.node) (cond b (Some p) (find (λ (q : Place). has_name o g q.entry) ps))) h

-- the place that is found by name: what holds of all places, its handle, its entry
place_found : (P : Place → Type 0) (o : ℕ) (g : Moment) (ps : List Place) → AllByRecursion P ps → (node : ℕ) → node_of o g ps ≡ Some node → (p : Place) × P p × (p.node ≡ node) × (has_name o g p.entry ≡ true)
place_found P o g [] a node h = absurd (some_not_none node (sym h))
place_found P o g (p ∷ ps) a node h =
    elim (cases_Bool (has_name o g p.entry)) [
      | inl so ↦ (p, a.0, same_some p.node node (sym (node_of-here o g p ps so) ∙ h), so)
      | inr not_so ↦ place_found P o g ps a.1 node (sym (node_of-other o g p ps not_so) ∙ h)
    ]

-- a place before the found one has another handle, and its name comes first
other_handle : (o : ℕ) (g : Moment) (p : Place) (ps : List Place) → AreApart (p ∷ ps) → (node : ℕ) → node_of o g ps ≡ Some node → p.node ≢ node
other_handle o g p ps d node h =
    let f = place_found (λ q. q.node ≢ p.node) o g ps (new_behind p ps d) node h in
    λ e. f.1 (f.2 ∙ sym e)

comes_first : (o : ℕ) (g : Moment) (p : Place) (ps : List Place) → AllByRecursion (λ q. Precedes p.entry q.entry) ps → (node : ℕ) → node_of o g ps ≡ Some node → name_before o g p.entry ≡ false
comes_first o g p ps a node h =
    let f = place_found (λ q. Precedes p.entry q.entry) o g ps a node h in
    let is = named_is o g f.0.entry f.3 in
    let first : ahead o g p.entry ≡ true =
    ap (λ n. name_before p.entry.origin p.entry.tag (fresh n g)) is.0 ∙ ap (λ t. name_before p.entry.origin p.entry.tag (fresh f.0.entry.origin t)) is.1 ∙ f.1 in
    ahead_not_before o g p.entry first

-- ---- finding

pub finds_known : (o : ℕ) (g : Moment) (ps : List Place) → AreApart ps → FindsKnown o g ps
finds_known o g [] d = record { found = refl; names = refl }
finds_known o g (p ∷ ps) d =
    elim (cases_Bool (has_name o g p.entry)) [
      | inl so ↦
          let es : known o g (entries_of (p ∷ ps)) ≡ Some p.entry = ap (λ b. cond b (Some p.entry) (known o g (entries_of ps))) so in
          let here = node_of-here o g p ps so in
          record {
            found = ap is_some here ∙ sym (ap is_some es);
            names = ap (option_and_then (λ n. entry_of n (p ∷ ps))) here ∙ entry_of-here p ps p.node refl ∙ sym es;
          }
      | inr not_so ↦
          let es : known o g (entries_of (p ∷ ps)) ≡ known o g (entries_of ps) = ap (λ b. cond b (Some p.entry) (known o g (entries_of ps))) not_so in
          let there = node_of-other o g p ps not_so in
          let rest = finds_known o g ps (apart_behind p ps d) in
          record {
            found = ap is_some there ∙ rest.found ∙ sym (ap is_some es);
            names = ap (option_and_then (λ n. entry_of n (p ∷ ps))) there ∙ same_behind o g p ps d (node_of o g ps) (λ n e. e) ∙ rest.names ∙ sym es;
          }
    ] where
      same_behind : (o : ℕ) (g : Moment) (p : Place) (ps : List Place) → AreApart (p ∷ ps) → (found : Option ℕ) → ((n : ℕ) → found ≡ Some n → node_of o g ps ≡ Some n) → option_and_then (λ n. entry_of n (p ∷ ps)) found ≡ option_and_then (λ n. entry_of n ps) found
      same_behind o g p ps d None f = refl
      same_behind o g p ps d (Some n) f = entry_of-other p ps n (other_handle o g p ps d n (f n refl))

-- ---- changes

change_new : (f : Entry → Entry) (node : ℕ) (ps : List Place) → IsNew node ps → with_change f node ps ≡ ps
change_new f node [] a = refl
change_new f node (p ∷ ps) a = rw (ne_eqb p.node node a.0) (ap (λ qs. p ∷ qs) (change_new f node ps a.1))

entries_here : (f : Entry → Entry) (p : Place) (ps : List Place) → entries_of (with_change f p.node (p ∷ ps)) ≡ f p.entry ∷ entries_of (with_change f p.node ps)
entries_here f p ps = rw (eq-eqb p.node p.node refl) refl

entries_other : (f : Entry → Entry) (node : ℕ) (p : Place) (ps : List Place) → p.node ≢ node → entries_of (with_change f node (p ∷ ps)) ≡ p.entry ∷ entries_of (with_change f node ps)
entries_other f node p ps n = rw (ne_eqb p.node node n) refl

pub changes_found : (f : Entry → Entry) (o : ℕ) (g : Moment) (ps : List Place) → IsTable (entries_of ps) → AreApart ps → ChangesFound f o g ps
changes_found f o g [] t d node h = absurd (some_not_none node (sym h))
changes_found f o g (p ∷ ps) t d node h =
    let all : AllByRecursion (λ q. Precedes p.entry q.entry) ps = All-unmap (λ e. Precedes p.entry e) (λ (q : Place). q.entry) ps t.0 in
    elim (cases_Bool (has_name o g p.entry)) [
      | inl so ↦
          let is : node ≡ p.node = sym (same_some p.node node (sym (node_of-here o g p ps so) ∙ h)) in
          ap (λ n. entries_of (with_change f n (p ∷ ps))) is
          ∙ entries_here f p ps
          ∙ ap (λ qs. f p.entry ∷ entries_of qs) (change_new f p.node ps (new_behind p ps d))
          ∙ rw (named_not_before o g p.entry so, so) refl
      | inr not_so ↦
          let rest : node_of o g ps ≡ Some node = sym (node_of-other o g p ps not_so) ∙ h in
          entries_other f node p ps (other_handle o g p ps d node rest)
          ∙ ap (λ es. p.entry ∷ es) (changes_found f o g ps t.1 (apart_behind p ps d) node rest)
          ∙ rw (comes_first o g p ps all node rest, not_so) refl
    ]

all_new : (node : ℕ) (ps : List Place) → entry_of node ps ≡ None → IsNew node ps
all_new node [] h = tt
all_new node (p ∷ ps) h =
    elim (cases_eq p.node node) [
      | inl same ↦ absurd (some_not_none p.entry (sym (entry_of-here p ps node same) ∙ h))
      | inr other ↦ (other, all_new node ps (sym (entry_of-other p ps node other) ∙ h))
    ]

pub changes_new : (f : Entry → Entry) (o : ℕ) (g : Moment) (ps : List Place) → ChangesNew f o g ps
changes_new f o g [] node h k = entries_here f (record { node = node; entry = fresh o g }) []
changes_new f o g (q ∷ qs) node h k =
    let new = all_new node (q ∷ qs) k in
    let p : Place = record { node = node; entry = fresh o g } in
    elim (cases_Bool (name_before o g q.entry)) [
      | inl so ↦
          ap (λ b. entries_of (with_change f node (cond b (p ∷ q ∷ qs) (q ∷ with_place p qs)))) so
          ∙ entries_here f p (q ∷ qs)
          ∙ ap (λ ps. f (fresh o g) ∷ entries_of ps) (change_new f node (q ∷ qs) new)
          ∙ rw so refl
      | inr not_so ↦
          elim (cases_Bool (has_name o g q.entry)) [
            | inl named ↦ absurd (some_not_none q.node (sym (node_of-here o g q qs named) ∙ h))
            | inr other ↦
                ap (λ b. entries_of (with_change f node (cond b (p ∷ q ∷ qs) (q ∷ with_place p qs)))) not_so
                ∙ entries_other f node q (with_place p qs) new.0
                ∙ ap (λ es. q.entry ∷ es) (changes_new f o g qs node (sym (node_of-other o g q qs other) ∙ h) (sym (entry_of-other q qs node new.0) ∙ k))
                ∙ rw (not_so, other) refl
          ]
    ]
