-- What the calls that read a node find there.
use Rattle.std.proofs.Common.{◌≡◌, ◌≢◌, ℕ, ◌+◌, ◌<◌, cond, eqb, List, [], ◌∷◌, ◌++◌, length, refl, sym, ap, ◌∙◌, subst, inl, inr, map, append_assoc, drop, Option, Some, None, IsSome, IfSome, MatchOption, find, unwrap_or}
use Rattle.std.specs.List.{AllByRecursion}
use Rattle.std.specs.Option.{option_map, is_some}
use Rattle.std.proofs.lemmas.Bool.{cases_eq, eq-eqb, ne_eqb, false≢true}
use Rattle.std.proofs.lemmas.List.{drop-drop}
use Rattle.warp_tag.specs.declared.entry.Entry.{Entry}
use Rattle.warp_tag.proofs.Lists.{All-weaker, All-left, All-right, All-filter}
use Rattle.warp_arena.specs.declared.arena.Arena.TheInside.{Inside}
use Rattle.warp_arena.specs.declared.node.Links.{Links}
use Rattle.warp_arena.specs.declared.node.TheConstants.{NO_NODE}
use Rattle.warp_arena.specs.Places.{Place, Reaches, places_of, entry_of, origin_of, first_node, last_node, left_at, places_from, places_after, places_before}
use Rattle.warp_arena.specs.Shape.{IsWhole, members, place_at, Spells, last_or, first_or, next_in, prev_in}
use Rattle.warp_arena.proofs.Rings.{IsOff, IsApart, IsOff-front, IsChain-split, by_last, last_or-push}
use Rattle.warp_arena.proofs.Tables.{places_of-members}
use Rattle.warp_arena.proofs.Shapes.{members-append, members_here}
use Rattle.warp_arena.proofs.Listing.{Listed, next_in-at, prev_in-at}
use Rattle.warp_arena.proofs.Walks.{threads, used, owned, Listed-tags, Listed-origin}

-- the index stands in the list
pub record Found (i : ℕ) (is : List ℕ) : Type 0 where
  pub front : List ℕ
  pub back : List ℕ
  pub parts : is ≡ front ++ i ∷ back
  pub off : IsOff i front

pub entry_of-here : (p : Place) (ps : List Place) (i : ℕ) → p.node ≡ i → entry_of i (p ∷ ps) ≡ Some p.entry
entry_of-here p ps i e = ap (λ b. option_map (λ (q : Place). q.entry) (cond b (Some p) (find (λ q. eqb q.node i) ps))) (eq-eqb p.node i e)

pub entry_of-other : (p : Place) (ps : List Place) (i : ℕ) → p.node ≢ i → entry_of i (p ∷ ps) ≡ entry_of i ps
entry_of-other p ps i n = ap (λ b. option_map (λ (q : Place). q.entry) (cond b (Some p) (find (λ q. eqb q.node i) ps))) (ne_eqb p.node i n)

pub some_more : (q : Place) (qs : List Place) (m : ℕ) → IsSome (entry_of m qs) → IsSome (entry_of m (q ∷ qs))
some_more q qs m h =
    elim (cases_eq q.node m) [
      | inl same ↦ ap is_some (entry_of-here q qs m same)
      | inr other ↦ ap is_some (entry_of-other q qs m other) ∙ h
    ]

module _ (entry : ℕ → Entry) where
  pub Found-from : (i : ℕ) (is : List ℕ) → IsSome (entry_of i (map (place_at entry) is)) → Found i is
  Found-from i [] h = absurd (false≢true h)
  Found-from i (j ∷ is) h =
      elim (cases_eq j i) [
        | inl same ↦ record { front = []; back = is; parts = ap (λ k. k ∷ is) same; off = tt }
        | inr other ↦
            let f = Found-from i is (subst IsSome (entry_of-other (place_at entry j) (map (place_at entry) is) i other) h) in
            record { front = j ∷ f.front; back = f.back; parts = ap (λ js. j ∷ js) f.parts; off = (other, f.off) }
      ]

  pub entry_of-at : (i : ℕ) (front back : List ℕ) → IsOff i front → entry_of i (map (place_at entry) (front ++ i ∷ back)) ≡ Some (entry i)
  entry_of-at i [] back off = entry_of-here (place_at entry i) (map (place_at entry) back) i refl
  entry_of-at i (j ∷ front) back off =
      entry_of-other (place_at entry j) (map (place_at entry) (front ++ i ∷ back)) i off.0 ∙ entry_of-at i front back off.1

  pub places_from-at : (i : ℕ) (front back : List ℕ) → IsOff i front → places_from i (map (place_at entry) (front ++ i ∷ back)) ≡ map (place_at entry) (i ∷ back)
  places_from-at i [] back off = rw (eq-eqb i i refl) refl
  places_from-at i (j ∷ front) back off = rw (ne_eqb j i off.0) (places_from-at i front back off.1)

  pub places_before-at : (i : ℕ) (front back : List ℕ) → IsOff i front → places_before i (map (place_at entry) (front ++ i ∷ back)) ≡ map (place_at entry) front
  places_before-at i [] back off =
      ap (λ b. cond b [] (place_at entry i ∷ places_before i (map (place_at entry) back))) (eq-eqb i i refl)
  places_before-at i (j ∷ front) back off =
      let ps = map (place_at entry) (front ++ i ∷ back) in
      ap (λ b. cond b [] (place_at entry j ∷ places_before i ps)) (ne_eqb j i off.0)
      ∙ ap (λ qs. place_at entry j ∷ qs) (places_before-at i front back off.1)

  -- the handle of a link
  pub handle_first : (is : List ℕ) (h : ℕ) → h ≡ first_or is NO_NODE → IsOff NO_NODE is → cond (eqb h NO_NODE) None (Some h) ≡ first_node (map (place_at entry) is)
  handle_first [] h e off = ap (λ b. cond b None (Some h)) (eq-eqb h NO_NODE e)
  handle_first (i ∷ is) h e off =
      ap (λ k. cond (eqb k NO_NODE) None (Some k)) e ∙ ap (λ b. cond b None (Some i)) (ne_eqb i NO_NODE off.0)

  last_node-push : (is : List ℕ) (k : ℕ) → last_node (map (place_at entry) (is ++ k ∷ [])) ≡ Some k
  last_node-push [] k = refl
  last_node-push (i ∷ []) k = refl
  last_node-push (i ∷ j ∷ is) k = last_node-push (j ∷ is) k

  pub handle_last : (is : List ℕ) (h : ℕ) → h ≡ last_or NO_NODE is → IsOff NO_NODE is → cond (eqb h NO_NODE) None (Some h) ≡ last_node (map (place_at entry) is)
  handle_last is h e off =
      elim (by_last is) [
        | inl none ↦
            ap (λ b. cond b None (Some h)) (eq-eqb h NO_NODE (e ∙ ap (last_or NO_NODE) none))
            ∙ sym (ap (λ js. last_node (map (place_at entry) js)) none)
        | inr some ↦
            let k : ℕ = some.1 in
            let here : h ≡ k = e ∙ ap (last_or NO_NODE) some.2 ∙ last_or-push NO_NODE some.0 k in
            let not_none : k ≢ NO_NODE = (All-right (λ i. i ≢ NO_NODE) some.0 (k ∷ []) (subst (IsOff NO_NODE) some.2 off)).0 in
            ap (λ m. cond (eqb m NO_NODE) None (Some m)) here
            ∙ ap (λ b. cond b None (Some k)) (ne_eqb k NO_NODE not_none)
            ∙ sym (ap (λ js. last_node (map (place_at entry) js)) some.2 ∙ last_node-push some.0 k)
      ]

  -- each index of a list is named among its places
  pub all_named : (is : List ℕ) → AllByRecursion (λ j. IsSome (entry_of j (map (place_at entry) is))) is
  all_named [] = tt
  all_named (i ∷ is) = (
    ap is_some (entry_of-here (place_at entry i) (map (place_at entry) is) i refl),
    All-weaker (λ j. IsSome (entry_of j (map (place_at entry) is))) (λ j. IsSome (entry_of j (map (place_at entry) (i ∷ is))))
        (λ j h. some_more (place_at entry i) (map (place_at entry) is) j h) is (all_named is),
  )

  pub first_holds_of : (P : ℕ → Type 0) (is : List ℕ) → AllByRecursion P is → IfSome (first_node (map (place_at entry) is)) P
  first_holds_of P [] a = tt
  first_holds_of P (i ∷ is) a = a.0

  pub last_holds_of : (P : ℕ → Type 0) (is : List ℕ) → AllByRecursion P is → IfSome (last_node (map (place_at entry) is)) P
  last_holds_of P [] a = tt
  last_holds_of P (i ∷ []) a = a.0
  last_holds_of P (i ∷ j ∷ is) a = last_holds_of P (j ∷ is) a.1

  left_first : (front back : List ℕ) → IsApart (front ++ back) → left_at (first_node (map (place_at entry) back)) (map (place_at entry) (front ++ back)) ≡ map (place_at entry) back
  left_first front [] apart = refl
  left_first front (i ∷ back) apart = places_from-at i front back (IsOff-front i front back apart)

  -- where a back of the places is left, its first handle is where the walk stands
  pub Reaches-back : (whole front back : List ℕ) → whole ≡ front ++ back → IsApart whole → (r : Option ℕ) → r ≡ first_node (map (place_at entry) back) → Reaches (map (place_at entry) whole) (map (place_at entry) back) r
  Reaches-back whole front back parts apart r e =
      let P : ℕ → Type 0 = λ j. IsSome (entry_of j (map (place_at entry) whole)) in
      let named : AllByRecursion P (front ++ back) = subst (AllByRecursion P) parts (all_named whole) in
      record {
        handle = e;
        used = subst (λ x. IfSome x P) (sym e) (first_holds_of P back (All-right P front back named));
        left =
            ap (λ x. left_at x (map (place_at entry) whole)) e
            ∙ ap (λ is. left_at (first_node (map (place_at entry) back)) (map (place_at entry) is)) parts
            ∙ left_first front back (subst IsApart parts apart);
      }

-- what the links of a node of a list say
pub record LinksAt (size : ℕ) (links : Links) (i : ℕ) (front back : List ℕ) : Type 0 where
  pub below : i < size
  pub before : IsOff NO_NODE front
  pub behind : IsOff NO_NODE back
  pub no_end : i ≢ NO_NODE
  pub next_is : links.next ≡ first_or back NO_NODE
  pub prev_is : links.prev ≡ last_or NO_NODE front

links_at : (size : ℕ) (ends : Links) (links : ℕ → Links) (is : List ℕ) → Listed size ends links is → (i : ℕ) (front back : List ℕ) → is ≡ front ++ i ∷ back → LinksAt size (links i) i front back
links_at size ends links is l i front back parts =
    let none : IsOff NO_NODE (front ++ i ∷ back) = subst (IsOff NO_NODE) parts l.none in
    let from : IsOff NO_NODE (i ∷ back) = All-right (λ j. j ≢ NO_NODE) front (i ∷ back) none in
    let chain : Spells ends links (front ++ i ∷ back) = subst (Spells ends links) parts l.chain in
    record {
      below = (All-right (λ j. j < size) front (i ∷ back) (subst (AllByRecursion (λ j. j < size)) parts l.below)).0;
      before = All-left (λ j. j ≢ NO_NODE) front (i ∷ back) none;
      behind = from.1;
      no_end = from.0;
      next_is =
          sym (next_in-at ends links i from.0)
          ∙ ap (next_in ends links) (sym (last_or-push NO_NODE front i))
          ∙ (IsChain-split (next_in ends links) (prev_in ends links) NO_NODE (front ++ i ∷ []) back NO_NODE
          (subst (Spells ends links) (sym (append_assoc front (i ∷ []) back)) chain)).0;
      prev_is =
          sym (prev_in-at ends links i from.0)
          ∙ (IsChain-split (next_in ends links) (prev_in ends links) NO_NODE front (i ∷ back) NO_NODE chain).1;
    }

-- the places of an arena
abbrev pub places : Inside → List Place
places a = map (place_at (threads a).entry) (used a)

module _ (a : Inside) (w : IsWhole (threads a) a.used) (i : ℕ) (h : IsSome (entry_of i (places a))) where
  pub found : Found i (used a)
  found = Found-from (threads a).entry i (used a) h

  tag_links : LinksAt (length a.nodes.items) ((threads a).links i) i found.front found.back
  tag_links = links_at (length a.nodes.items) a.ends (threads a).links (used a) (Listed-tags a w) i found.front found.back found.parts

  pub used_found_below : i < length a.nodes.items
  used_found_below = tag_links.below

  -- it is no list's end
  pub used_found_no_end : i ≢ NO_NODE
  used_found_no_end = tag_links.no_end

  pub entry_found : entry_of i (places a) ≡ Some ((threads a).entry i)
  entry_found =
      ap (λ is. entry_of i (map (place_at (threads a).entry) is)) found.parts
      ∙ entry_of-at (threads a).entry i found.front found.back found.off

  whole_is : used a ≡ (found.front ++ i ∷ []) ++ found.back
  whole_is = found.parts ∙ sym (append_assoc found.front (i ∷ []) found.back)

  pub from_found : places_from i (places a) ≡ map (place_at (threads a).entry) (i ∷ found.back)
  from_found =
      ap (λ is. places_from i (map (place_at (threads a).entry) is)) found.parts
      ∙ places_from-at (threads a).entry i found.front found.back found.off

  pub after_found : places_after i (places a) ≡ map (place_at (threads a).entry) found.back
  after_found = ap (drop 1) from_found

  pub head_found : places_from i (places a) ≡ place_at (threads a).entry i ∷ places_after i (places a)
  head_found = from_found ∙ ap (λ ps. place_at (threads a).entry i ∷ ps) (sym after_found)

  pub next_found : (k : ℕ) → k ≡ ((threads a).links i).next → Reaches (places a) (places_after i (places a)) (cond (eqb k NO_NODE) None (Some k))
  next_found k e =
      subst (λ ps. Reaches (places a) ps (cond (eqb k NO_NODE) None (Some k))) (sym after_found)
      (Reaches-back (threads a).entry (used a) (found.front ++ i ∷ []) found.back whole_is (Listed-tags a w).apart (cond (eqb k NO_NODE) None (Some k))
      (handle_first (threads a).entry found.back k (e ∙ tag_links.next_is) tag_links.behind))

  -- what the link back says
  pub record PrevFound (r : Option ℕ) : Type 0 where
    pub handle : r ≡ last_node (places_before i (places a))
    pub used : IfSome r (λ at. IsSome (entry_of at (places a)))
    pub left : MatchOption r (places_from i (places a) ≡ places a) (λ at. places_after at (places a) ≡ places_from i (places a))

  prev_left : (r : Option ℕ) → r ≡ last_node (map (place_at (threads a).entry) found.front) → MatchOption r (places_from i (places a) ≡ places a) (λ at. places_after at (places a) ≡ places_from i (places a))
  prev_left r e =
      let place : ℕ → Place = place_at (threads a).entry in
      let M : Option ℕ → Type 0 = λ x. MatchOption x (places_from i (places a) ≡ places a) (λ at. places_after at (places a) ≡ places_from i (places a)) in
      elim (by_last found.front) [
        | inl none ↦ subst M (sym (e ∙ ap (λ is. last_node (map place is)) none))
            (from_found ∙ sym (ap (map place) (found.parts ∙ ap (λ is. is ++ i ∷ found.back) none)))
        | inr some ↦
            let k : ℕ = some.1 in
            let parts : used a ≡ some.0 ++ k ∷ i ∷ found.back =
            found.parts ∙ ap (λ is. is ++ i ∷ found.back) some.2 ∙ append_assoc some.0 (k ∷ []) (i ∷ found.back) in
            let off = IsOff-front k some.0 (i ∷ found.back) (subst IsApart parts (Listed-tags a w).apart) in
            subst M (sym (e ∙ ap (λ is. last_node (map place is)) some.2 ∙ last_node-push (threads a).entry some.0 k))
            (ap (λ is. places_after k (map place is)) parts ∙ ap (drop 1) (places_from-at (threads a).entry k some.0 (i ∷ found.back) off) ∙ sym from_found)
      ]

  pub prev_found : (k : ℕ) → k ≡ ((threads a).links i).prev → PrevFound (cond (eqb k NO_NODE) None (Some k))
  prev_found k e =
      let P : ℕ → Type 0 = λ j. IsSome (entry_of j (places a)) in
      let last = handle_last (threads a).entry found.front k (e ∙ tag_links.prev_is) tag_links.before in
      record {
        handle =
            last
            ∙ ap last_node (sym (ap (λ is. places_before i (map (place_at (threads a).entry) is)) found.parts ∙ places_before-at (threads a).entry i found.front found.back found.off));
        used =
            subst (λ r. IfSome r P) (sym last) (last_holds_of (threads a).entry P found.front
            (All-left P found.front (i ∷ found.back) (subst (AllByRecursion P) found.parts (all_named (threads a).entry (used a)))));
        left = prev_left (cond (eqb k NO_NODE) None (Some k)) last;
      }

  -- what the link in the origin's list says
  pub record OwnFound (r : Option ℕ) : Type 0 where
    pub handle : r ≡ first_node (places_of (origin_of i (places a)) (places_after i (places a)))
    pub used : IfSome r (λ at. IsSome (entry_of at (places a)))

  pub next_of_origin_found : (k : ℕ) → k ≡ ((threads a).own_links i).next → OwnFound (cond (eqb k NO_NODE) None (Some k))
  next_of_origin_found k e =
      let entry : ℕ → Entry = (threads a).entry in
      let o : ℕ = (entry i).origin in
      let D : ℕ → Type 0 = λ j. (entry j).origin < length a.by_origin.items in
      let P : ℕ → Type 0 = λ j. IsSome (entry_of j (places a)) in
      let declared : o < length a.by_origin.items = (All-right D found.front (i ∷ found.back) (subst (AllByRecursion D) found.parts w.shape.declared)).0 in
      let ms : List ℕ = members entry o found.front in
      let ns : List ℕ = members entry o found.back in
      let parts : owned a o ≡ ms ++ i ∷ ns =
      ap (members entry o) found.parts
      ∙ members-append entry o found.front (i ∷ found.back)
      ∙ ap (λ is. ms ++ is) (members_here entry o i found.back refl) in
      let links = links_at (length a.nodes.items) ((threads a).own_ends o) (threads a).own_links (owned a o) (Listed-origin a w o declared) i ms ns parts in
      let origin : origin_of i (places a) ≡ o = ap (λ d. unwrap_or (option_map (λ (x : Entry). x.origin) d) 0) entry_found in
      let first = handle_first entry ns k (e ∙ links.next_is) links.behind in
      record {
        handle = first ∙ ap first_node (sym (
            ap (λ q. places_of q (places_after i (places a))) origin
            ∙ ap (places_of o) after_found
            ∙ places_of-members entry o found.back));
        used =
            subst (λ r. IfSome r P) (sym first) (first_holds_of entry P ns (All-filter P (λ j. eqb (entry j).origin o) found.back
            (All-right P found.front (i ∷ found.back) (subst (AllByRecursion P) found.parts (all_named entry (used a)))).1));
      }

-- one step of a walk along all places
pub Reaches-next : (ps : List Place) (k node : ℕ) (at r : Option ℕ) → at ≡ Some node → Reaches ps (drop k ps) at → Reaches ps (places_after node ps) r → Reaches ps (drop (k + 1) ps) r
Reaches-next ps k node at r is here there =
    subst (λ qs. Reaches ps qs r) (ap (drop 1) (sym (ap (λ x. left_at x ps) is) ∙ here.left) ∙ drop-drop 1 k ps) there
