-- What handles name after a change, and that the handles which calls answer name something.
use Rattle.std.proofs.Common.{◌≡◌, ◌≢◌, ℕ, true, false, cond, eqb, List, [], ◌∷◌, ◌++◌, refl, sym, ap, ◌∙◌, subst, inl, inr, map, find, nat_eq, Some, None, IsSome}
use Rattle.std.specs.List.{AllByRecursion, IsDistinct}
use Rattle.std.specs.Option.{option_map, is_some}
use Rattle.std.proofs.lemmas.Bool.{cases_eq, cases_Bool, eq-eqb, ne_eqb, false≢true}
use Rattle.warp_tag.specs.Moment.{Moment, is_before}
use Rattle.warp_tag.specs.Table.{name_before, has_name}
use Rattle.warp_tag.specs.declared.entry.Entry.{Entry}
use Rattle.warp_tag.proofs.Lists.{some_not_none, same_some}
use Rattle.warp_arena.specs.Places.{Place, entry_of, node_of, with_place, with_change}
use Rattle.warp_arena.proofs.Reading.{entry_of-here, entry_of-other, some_more}

-- ---- a place comes in

pub entry_of-with_place_other : (p : Place) (ps : List Place) (m : ℕ) → m ≢ p.node → entry_of m (with_place p ps) ≡ entry_of m ps
entry_of-with_place_other p [] m n = entry_of-other p [] m (λ e. n (sym e))
entry_of-with_place_other p (q ∷ qs) m n =
    elim (cases_Bool (name_before p.entry.origin p.entry.tag q.entry)) [
      | inl so ↦
          ap (λ b. entry_of m (cond b (p ∷ q ∷ qs) (q ∷ with_place p qs))) so ∙ entry_of-other p (q ∷ qs) m (λ e. n (sym e))
      | inr not_so ↦
          ap (λ b. entry_of m (cond b (p ∷ q ∷ qs) (q ∷ with_place p qs))) not_so
          ∙ elim (cases_eq q.node m) [
            | inl same ↦ entry_of-here q (with_place p qs) m same ∙ sym (entry_of-here q qs m same)
            | inr other ↦
                entry_of-other q (with_place p qs) m other ∙ entry_of-with_place_other p qs m n ∙ sym (entry_of-other q qs m other)
          ]
    ]

pub entry_of-with_place_same : (p : Place) (ps : List Place) → entry_of p.node ps ≡ None → entry_of p.node (with_place p ps) ≡ Some p.entry
entry_of-with_place_same p [] h = entry_of-here p [] p.node refl
entry_of-with_place_same p (q ∷ qs) h =
    elim (cases_Bool (name_before p.entry.origin p.entry.tag q.entry)) [
      | inl so ↦
          ap (λ b. entry_of p.node (cond b (p ∷ q ∷ qs) (q ∷ with_place p qs))) so ∙ entry_of-here p (q ∷ qs) p.node refl
      | inr not_so ↦
          ap (λ b. entry_of p.node (cond b (p ∷ q ∷ qs) (q ∷ with_place p qs))) not_so
          ∙ elim (cases_eq q.node p.node) [
            | inl same ↦ absurd (some_not_none q.entry (sym (entry_of-here q qs p.node same) ∙ h))
            | inr other ↦
                entry_of-other q (with_place p qs) p.node other
                ∙ entry_of-with_place_same p qs (sym (entry_of-other q qs p.node other) ∙ h)
          ]
    ]

-- ---- an entry changes

pub entry_of-with_change_other : (change : Entry → Entry) (n : ℕ) (ps : List Place) (m : ℕ) → m ≢ n → entry_of m (with_change change n ps) ≡ entry_of m ps
entry_of-with_change_other change n [] m d = refl
entry_of-with_change_other change n (q ∷ qs) m d =
    let q' : Place = record { node = q.node; entry = change q.entry } in
    let rest : List Place = with_change change n qs in
    elim (cases_eq q.node n) [
      | inl same ↦
          let other : q.node ≢ m = λ e. d (sym e ∙ same) in
          ap (λ b. entry_of m (cond b q' q ∷ rest)) (eq-eqb q.node n same)
          ∙ entry_of-other q' rest m other ∙ entry_of-with_change_other change n qs m d ∙ sym (entry_of-other q qs m other)
      | inr apart ↦
          ap (λ b. entry_of m (cond b q' q ∷ rest)) (ne_eqb q.node n apart)
          ∙ elim (cases_eq q.node m) [
            | inl same ↦ entry_of-here q rest m same ∙ sym (entry_of-here q qs m same)
            | inr other ↦ entry_of-other q rest m other ∙ entry_of-with_change_other change n qs m d ∙ sym (entry_of-other q qs m other)
          ]
    ]

pub entry_of-with_change_same : (change : Entry → Entry) (n : ℕ) (ps : List Place) → entry_of n (with_change change n ps) ≡ option_map change (entry_of n ps)
entry_of-with_change_same change n [] = refl
entry_of-with_change_same change n (q ∷ qs) =
    let q' : Place = record { node = q.node; entry = change q.entry } in
    let rest : List Place = with_change change n qs in
    elim (cases_eq q.node n) [
      | inl same ↦
          ap (λ b. entry_of n (cond b q' q ∷ rest)) (eq-eqb q.node n same)
          ∙ entry_of-here q' rest n same ∙ sym (ap (option_map change) (entry_of-here q qs n same))
      | inr apart ↦
          ap (λ b. entry_of n (cond b q' q ∷ rest)) (ne_eqb q.node n apart)
          ∙ entry_of-other q rest n apart ∙ entry_of-with_change_same change n qs ∙ sym (ap (option_map change) (entry_of-other q qs n apart))
    ]

-- ---- handles that are apart

all_named : (P : ℕ → Type 0) (ps : List Place) (m : ℕ) → AllByRecursion P (map (λ (p : Place). p.node) ps) → IsSome (entry_of m ps) → P m
all_named P [] m a h = absurd (false≢true h)
all_named P (p ∷ ps) m a h =
    elim (cases_eq p.node m) [
      | inl same ↦ subst P same a.0
      | inr other ↦ all_named P ps m a.1 (sym (ap is_some (entry_of-other p ps m other)) ∙ h)
    ]

some_append : (front back : List Place) (m : ℕ) → IsSome (entry_of m back) → IsSome (entry_of m (front ++ back))
some_append [] back m h = h
some_append (p ∷ front) back m h = some_more p (front ++ back) m (some_append front back m h)

-- behind a front that went, each handle names what it named
pub entry_of-back : (front back : List Place) → IsDistinct nat_eq (map (λ (p : Place). p.node) (front ++ back)) → (m : ℕ) → IsSome (entry_of m back) → entry_of m back ≡ entry_of m (front ++ back)
unfolding IsDistinct
entry_of-back [] back d m h = refl
entry_of-back (p ∷ front) back d m h =
    let apart : p.node ≢ m = λ e. false≢true (sym (all_named (λ y. eqb p.node y ≡ false) (front ++ back) m d.0 (some_append front back m h)) ∙ eq-eqb p.node m e) in
    entry_of-back front back d.1 m h ∙ sym (entry_of-other p (front ++ back) m apart)

-- the handle of a name names an entry of that name
pub entry_of-node_of : (o : ℕ) (g : Moment) (ps : List Place) → IsDistinct nat_eq (map (λ (p : Place). p.node) ps) → (m : ℕ) → Some m ≡ node_of o g ps → (e : Entry) × (entry_of m ps ≡ Some e) × (has_name o g e ≡ true)
unfolding IsDistinct
entry_of-node_of o g [] d m e = absurd (some_not_none m e)
entry_of-node_of o g (p ∷ ps) d m e =
    elim (cases_Bool (has_name o g p.entry)) [
      | inl so ↦
          let here : Some m ≡ Some p.node = e ∙ ap (λ b. option_map (λ (q : Place). q.node) (cond b (Some p) (find (λ (q : Place). has_name o g q.entry) ps))) so in
          (p.entry, entry_of-here p ps m (sym (same_some m p.node here)), so)
      | inr not_so ↦
          let rest : Some m ≡ node_of o g ps = e ∙ ap (λ b. option_map (λ (q : Place). q.node) (cond b (Some p) (find (λ (q : Place). has_name o g q.entry) ps))) not_so in
          let r = entry_of-node_of o g ps d.1 m rest in
          let apart : p.node ≢ m = λ h. false≢true (sym (all_named (λ y. eqb p.node y ≡ false) ps m d.0 (ap is_some r.1)) ∙ eq-eqb p.node m h) in
          (r.0, entry_of-other p ps m apart ∙ r.1, r.2)
    ]

-- a handle behind a front that went, whose entry the front does not have
pub entry_of-later : (tag : Moment) (front back : List Place) → AllByRecursion (λ p. is_before tag p.entry.tag ≡ false) front → (m : ℕ) (e : Entry) → entry_of m (front ++ back) ≡ Some e → is_before tag e.tag ≡ true → entry_of m back ≡ Some e
entry_of-later tag [] back through m e h later = h
entry_of-later tag (p ∷ front) back through m e h later =
    elim (cases_eq p.node m) [
      | inl same ↦
          let is : p.entry ≡ e = same_some p.entry e (sym (entry_of-here p (front ++ back) m same) ∙ h) in
          absurd (false≢true (sym through.0 ∙ ap (λ (d : Entry). is_before tag d.tag) is ∙ later))
      | inr other ↦ entry_of-later tag front back through.1 m e (sym (entry_of-other p (front ++ back) m other) ∙ h) later
    ]
