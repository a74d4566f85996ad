-- The cursor, where a name comes into an arena.
use Rattle.std.proofs.Common.{◌≡◌, ◌≢◌, ℕ, ℤ, ◌-◌, Bool, true, false, cond, eqb, List, [], ◌∷◌, ◌++◌, refl, sym, ap, ◌∙◌, subst, inl, inr, map, nat_eq, Option, Some, None, IfSome, IsSome, unwrap_or}
use Rattle.std.specs.List.{AllByRecursion, IsDistinct}
use Rattle.std.specs.Option.{is_some, option_and_then}
use Rattle.std.proofs.lemmas.Bool.{cases_Bool, cases_eq, eq-eqb, ne_eqb, false≢true}
use Rattle.warp_tag.specs.Moment.{Moment}
use Rattle.warp_tag.specs.Table.{IsTable, changed, fresh, known, has_name, name_before, with_event}
use Rattle.warp_tag.specs.declared.entry.Entry.{Entry}
use Rattle.warp_tag.proofs.Known.{known_past}
use Rattle.warp_tag.proofs.Lists.{All-right, filter-here, filter-past, find_none}
use Rattle.warp_tag.proofs.Names.{ahead_not_before, behind}
use Rattle.warp_step.specs.Run.{is_after}
use Rattle.warp_arena.specs.Laws.{FindsKnown, ChangesNew}
use Rattle.warp_arena.specs.Places.{Place, Contents, IsBehindAll, Reaches, named, IsOrdered, entries_of, entry_of, node_of, first_node, left_at, places_from, places_before, places_after, with_place, with_change}
use Rattle.warp_arena.proofs.Tables.{All-unmap, filter_back}
use Rattle.warp_arena.proofs.Reading.{entry_of-here, entry_of-other, some_more}
use Rattle.warp_run.specs.Walk.{ahead}
use Rattle.warp_run.specs.Warp.{ChangedFrom, NamesAt}
use Rattle.warp_run.specs.declared.warp.Warp.{Warp}
use Rattle.warp_run.proofs.PlacesWalks.{place, after_name, later_behind}
use Rattle.warp_run.proofs.PlacesBack.{split_at, heads_at}

-- what there is, and that there is nothing
some_is : {X : Type 0} (o : Option X) → IsSome o → (x : X) × (o ≡ Some x)
some_is None h = absurd (false≢true h)
some_is (Some x) h = (x, refl)

pub none_is : {X : Type 0} (o : Option X) → is_some o ≡ false → o ≡ None
none_is None h = refl
none_is (Some x) h = absurd (false≢true (sym h))

-- ---- where a walk along what is ahead stands

-- a handle that is not among these names none of them
named_apart : (n : ℕ) (ps : List Place) → AllByRecursion (λ m. eqb n m ≡ false) (map (λ (q : Place). q.node) ps)
    → (m : ℕ) → IsSome (entry_of m ps) → n ≢ m
named_apart n [] a m h = absurd (false≢true h)
named_apart n (p ∷ ps) a m h =
    elim (cases_eq p.node m) [
      | inl same ↦ λ e. false≢true (sym a.0 ∙ eq-eqb n p.node (e ∙ sym same))
      | inr other ↦ named_apart n ps a.1 m (sym (ap is_some (entry_of-other p ps m other)) ∙ h)
    ]

-- a walk behind one more place
one_more : (p : Place) (ps rest : List Place) (at : Option ℕ) → AllByRecursion (λ m. eqb p.node m ≡ false) (map (λ (q : Place). q.node) ps)
    → Reaches ps rest at → Reaches (p ∷ ps) rest at
one_more p ps rest None a r = record { handle = r.handle; used = tt; left = r.left }
one_more p ps rest (Some m) a r =
    record {
      handle = r.handle;
      used = some_more p ps m r.used;
      left = ap (λ b. cond b (p ∷ ps) (places_from m ps)) (ne_eqb p.node m (named_apart p.node ps a m r.used)) ∙ r.left;
    }

-- the first handle of what is ahead is where a walk along it stands
pub reaches_ahead : (last : Option Moment) (ps : List Place) → IsTable (entries_of ps) → IsDistinct nat_eq (map (λ (q : Place). q.node) ps)
    → Reaches ps (ahead last ps) (first_node (ahead last ps))
unfolding IsDistinct
reaches_ahead last [] t d = record { handle = refl; used = tt; left = refl }
reaches_ahead last (p ∷ ps) t d =
    elim (cases_Bool (is_after last p.entry.tag)) [
      | inl so ↦
          subst (λ qs. Reaches (p ∷ ps) qs (first_node qs)) (sym (filter_back (λ (q : Place). is_after last q.entry.tag) [] (p ∷ ps) tt (later_behind last p ps t so)))
          (record {
            handle = refl;
            used = ap is_some (entry_of-here p ps p.node refl);
            left = ap (λ b. cond b (p ∷ ps) (places_from p.node ps)) (eq-eqb p.node p.node refl);
          })
      | inr not_so ↦
          subst (λ qs. Reaches (p ∷ ps) qs (first_node qs)) (sym (filter-past (λ (q : Place). is_after last q.entry.tag) p ps not_so))
          (one_more p ps (ahead last ps) (first_node (ahead last ps)) d.0 (reaches_ahead last ps t.1 d.1))
    ]

-- ---- one more place

-- a place that is not ahead changes nothing there
ahead_without : (last : Option Moment) (p : Place) (ps : List Place)
    → is_after last p.entry.tag ≡ false → ahead last (with_place p ps) ≡ ahead last ps
ahead_without last p [] h = filter-past (λ (q : Place). is_after last q.entry.tag) p [] h
ahead_without last p (q ∷ qs) h =
    let here : Place → Bool = λ x. is_after last x.entry.tag in
    elim (cases_Bool (name_before p.entry.origin p.entry.tag q.entry)) [
      | inl b ↦ rw b (filter-past here p (q ∷ qs) h)
      | inr b ↦ rw b (ap (λ xs. cond (here q) (q ∷ xs) xs) (ahead_without last p qs h))
    ]

-- one that is ahead comes in there
ahead_with : (last : Option Moment) (p : Place) (ps : List Place)
    → is_after last p.entry.tag ≡ true → ahead last (with_place p ps) ≡ with_place p (ahead last ps)
ahead_with last p [] h = filter-here (λ (q : Place). is_after last q.entry.tag) p [] h
ahead_with last p (q ∷ qs) h =
    let here : Place → Bool = λ x. is_after last x.entry.tag in
    let o : ℕ = p.entry.origin in
    let g : Moment = p.entry.tag in
    elim (cases_Bool (name_before o g q.entry)) [
      | inl b ↦
          let rest : ahead last (q ∷ qs) ≡ q ∷ ahead last qs = filter-here here q qs (after_name last o g q.entry h b) in
          ap (λ t. ahead last (cond t (p ∷ q ∷ qs) (q ∷ with_place p qs))) b
          ∙ filter-here here p (q ∷ qs) h ∙ ap (λ xs. p ∷ xs) rest
          ∙ sym (ap (with_place p) rest ∙ ap (λ t. cond t (p ∷ q ∷ ahead last qs) (q ∷ with_place p (ahead last qs))) b)
      | inr b ↦
          ap (λ t. ahead last (cond t (p ∷ q ∷ qs) (q ∷ with_place p qs))) b
          ∙ elim (cases_Bool (here q)) [
            | inl k ↦
                filter-here here q (with_place p qs) k ∙ ap (λ xs. q ∷ xs) (ahead_with last p qs h)
                ∙ sym (ap (with_place p) (filter-here here q qs k)
                ∙ ap (λ t. cond t (p ∷ q ∷ ahead last qs) (q ∷ with_place p (ahead last qs))) b)
            | inr k ↦
                filter-past here q (with_place p qs) k ∙ ahead_with last p qs h ∙ sym (ap (with_place p) (filter-past here q qs k))
          ]
    ]

-- ---- the cursor, where a name comes in of which nothing is known

module _ (last : Option Moment) (o : ℕ) (g : Moment) (v : Option (ℕ × ℤ)) (node : ℕ) (ps : List Place) (cursor : Option ℕ)
    (r : Reaches ps (ahead last ps) cursor)
  where
    abbrev New : Place
    New = place node (named o g v)

    -- the name is not after the last row
    pub stays_before : is_after last g ≡ false → cursor ≡ first_node (ahead last (with_place New ps))
    stays_before h = r.handle ∙ ap first_node (sym (ahead_without last New ps h))

    module _ (h : is_after last g ≡ true) where
      first_with : (rest : List Place) → ahead last ps ≡ rest → first_node (ahead last (with_place New ps)) ≡ first_node (with_place New rest)
      first_with rest is = ap first_node (ahead_with last New ps h ∙ ap (with_place New) is)

      -- nothing was ahead
      pub comes_alone : cursor ≡ None → Some node ≡ first_node (ahead last (with_place New ps))
      comes_alone none = sym (first_with [] (sym r.left ∙ ap (λ at. left_at at ps) none))

      module _ (at : ℕ) (e : Entry) (is : cursor ≡ Some at) (named : entry_of at ps ≡ Some e) where
        abbrev Behind : List Place
        Behind = places_after at ps

        first_by : (b : Bool) → name_before o g e ≡ b
            → first_node (ahead last (with_place New ps)) ≡ first_node (cond b (New ∷ place at e ∷ Behind) (place at e ∷ with_place New Behind))
        first_by b so =
            first_with (place at e ∷ Behind) (sym r.left ∙ ap (λ x. left_at x ps) is ∙ heads_at at e ps named)
            ∙ ap (λ t. first_node (cond t (New ∷ place at e ∷ Behind) (place at e ∷ with_place New Behind))) so

        -- the cursor's name comes before
        pub stays_first : name_before e.origin e.tag (fresh o g) ≡ true → cursor ≡ first_node (ahead last (with_place New ps))
        stays_first before = is ∙ sym (first_by false (ahead_not_before o g e before))

        -- it does not, and so the new name comes first
        pub comes_first : known o g (entries_of ps) ≡ None → name_before e.origin e.tag (fresh o g) ≡ false
            → Some node ≡ first_node (ahead last (with_place New ps))
        comes_first unknown not_before =
            let Other : Place → Type 0 = λ q. has_name o g q.entry ≡ false in
            let others : AllByRecursion Other (places_before at ps ++ places_from at ps) =
            subst (AllByRecursion Other) (split_at at ps)
            (All-unmap (λ x. has_name o g x ≡ false) (λ (q : Place). q.entry) ps (find_none (has_name o g) (entries_of ps) unknown)) in
            let other : has_name o g e ≡ false =
            (subst (AllByRecursion Other) (heads_at at e ps named) (All-right Other (places_before at ps) (places_from at ps) others)).0 in
            sym (first_by true (behind o g e not_before other))

      -- the name is behind all others, so the cursor stays where it is at a place
      pub stays_behind : IsBehindAll o g ps → is_some cursor ≡ true → cursor ≡ first_node (ahead last (with_place New ps))
      stays_behind behind some =
          let at = some_is cursor some in
          let e = some_is (entry_of at.0 ps) (subst (λ x. IfSome x (λ n. IsSome (entry_of n ps))) at.1 r.used) in
          stays_first at.0 e.0 at.1 e.1 (behind at.0 e.0 e.1)

-- what a handle that was there names
pub named_before : (ps new : List Place) (node at : ℕ) (e : Entry)
    → entry_of node ps ≡ None → ((m : ℕ) → m ≢ node → entry_of m new ≡ entry_of m ps)
    → IsSome (entry_of at ps) → entry_of at new ≡ Some e → entry_of at ps ≡ Some e
named_before ps new node at e none others h is =
    let other : at ≢ node = λ same. false≢true (sym (ap is_some (ap (λ n. entry_of n ps) same ∙ none)) ∙ h) in
    sym (others at other) ∙ is

-- where no handle is found, nothing is known
pub unknown : (o : ℕ) (g : Moment) (ps : List Place) → FindsKnown o g ps → node_of o g ps ≡ None → known o g (entries_of ps) ≡ None
unknown o g ps finds none = sym finds.names ∙ ap (option_and_then (λ n. entry_of n ps)) none

-- a name of which nothing is known has come in, and the cursor is the first handle of what is ahead
pub names_new : (old : Warp) (o : ℕ) (g : Moment) (node : ℕ) (a : Contents) (to : Option ℕ)
    → a ≡ record old.arena { places = with_place (place node (fresh o g)) old.arena.places; free = old.arena.free - 1 }
    → entry_of node old.arena.places ≡ None → entry_of node a.places ≡ Some (fresh o g)
    → FindsKnown o g old.arena.places → node_of o g old.arena.places ≡ None
    → ((f : Entry → Entry) → ChangesNew f o g old.arena.places) → IsOrdered a
    → to ≡ first_node (ahead old.tip.last (with_place (place node (fresh o g)) old.arena.places))
    → NamesAt old (record old { arena = a; cursor = to }) o g node
names_new old o g node a to is none here finds absent changes order handle =
    let new : a.places ≡ with_place (place node (fresh o g)) old.arena.places = ap (λ x. x.places) is in
    record {
      others = refl;
      origins = ap (λ x. x.origins) is;
      entry = here ∙ ap (λ k. Some (unwrap_or k (fresh o g))) (sym (unknown o g old.arena.places finds absent));
      change = λ f. ap (λ qs. entries_of (with_change f node qs)) new ∙ changes f node absent none;
      cursor =
          subst (Reaches a.places (ahead old.tip.last a.places)) (ap (λ qs. first_node (ahead old.tip.last qs)) new ∙ sym handle)
          (reaches_ahead old.tip.last a.places order.table order.handles);
    }

-- a name comes in with an event: the table has the event of the name, where nothing is known of it
comes_with : (o : ℕ) (g : Moment) (i : ℕ) (x : ℤ) (node : ℕ) (ps : List Place) → known o g (entries_of ps) ≡ None
    → entries_of (with_place (place node (named o g (Some (i, x)))) ps) ≡ changed (with_event i x) o g (entries_of ps)
comes_with o g i x node [] h = refl
comes_with o g i x node (q ∷ qs) h =
    let p : Place = place node (named o g (Some (i, x))) in
    let f : Entry → Entry = with_event i x in
    let es : List Entry = entries_of qs in
    let rest : List Entry = cond (has_name o g q.entry) (f q.entry ∷ es) (q.entry ∷ changed f o g es) in
    elim (cases_Bool (name_before o g q.entry)) [
      | inl b ↦
          ap (λ t. entries_of (cond t (p ∷ q ∷ qs) (q ∷ with_place p qs))) b
          ∙ sym (ap (λ t. cond t (f (fresh o g) ∷ q.entry ∷ es) rest) b)
      | inr b ↦
          let other : has_name o g q.entry ≡ false = (find_none (has_name o g) (q.entry ∷ es) h).0 in
          ap (λ t. entries_of (cond t (p ∷ q ∷ qs) (q ∷ with_place p qs))) b
          ∙ ap (λ ds. q.entry ∷ ds) (comes_with o g i x node qs (sym (known_past o g q.entry es other) ∙ h))
          ∙ sym (ap (λ t. cond t (f (fresh o g) ∷ q.entry ∷ es) rest) b
          ∙ ap (λ t. cond t (f q.entry ∷ es) (q.entry ∷ changed f o g es)) other)
    ]

-- a name of which nothing is known has come in with an event, and the cursor is the first handle of what is ahead
pub changed_new : (old : Warp) (o : ℕ) (g : Moment) (i : ℕ) (x : ℤ) (node : ℕ) (a : Contents) (to : Option ℕ)
    → a ≡ record old.arena { places = with_place (place node (named o g (Some (i, x)))) old.arena.places; free = old.arena.free - 1 }
    → FindsKnown o g old.arena.places → node_of o g old.arena.places ≡ None → IsOrdered a
    → to ≡ first_node (ahead old.tip.last (with_place (place node (named o g (Some (i, x)))) old.arena.places))
    → ChangedFrom (fresh o g) (with_event i x) old (record old { arena = a; cursor = to }) o g
changed_new old o g i x node a to is finds absent order handle =
    let new : a.places ≡ with_place (place node (named o g (Some (i, x)))) old.arena.places = ap (λ y. y.places) is in
    let nothing = unknown o g old.arena.places finds absent in
    record {
      others = refl;
      origins = ap (λ y. y.origins) is;
      before = ap (λ k. unwrap_or k (fresh o g)) nothing;
      table = ap entries_of new ∙ comes_with o g i x node old.arena.places nothing;
      cursor =
          subst (Reaches a.places (ahead old.tip.last a.places)) (ap (λ qs. first_node (ahead old.tip.last qs)) new ∙ sym handle)
          (reaches_ahead old.tip.last a.places order.table order.handles);
    }
