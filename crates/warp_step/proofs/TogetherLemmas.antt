-- The first entries at a tag taken together: timers of one period that land behind all entries.
use Rattle.std.proofs.Common.{◌≡◌, inl, inr, ℕ, ℤ, zero, suc, ◌+◌, ◌<◌, ◌≤◌, Bool, true, false, not, ◌==◌, nat_lt, IsTrue, List, [], ◌∷◌, ◌++◌, length, map, take, drop, get_or, refl, sym, ap, ◌∙◌, subst, arith, append_assoc, append-nil}
use Rattle.std.specs.Prelude.{pos, if◌then◌else◌}
use Rattle.std.specs.List.{list_all, list_any, AllByRecursion}
use Rattle.std.proofs.lemmas.Bool.{and_from, and_parts, cases_Bool, eqb-true, lt-ltb}
use Rattle.std.proofs.lemmas.Bool.Decides.{nat_tests}
use Rattle.std.proofs.lemmas.List.{get_or-drop, get_or_append_left, length-append, length-drop, map-append, take-append-drop}
use Rattle.warp_tag.specs.Limits.{most_pending}
use Rattle.warp_tag.specs.Moment.{Moment, is_before, is_same}
use Rattle.warp_tag.specs.Landing.{landing}
use Rattle.warp_tag.specs.declared.tag.Landing.{Landing}
use Rattle.warp_tag.specs.declared.tag.Landing.TheVariants.{At}
use Rattle.warp_body.specs.Presence.{Presence, target_before, with_value}
use Rattle.warp_body.specs.declared.place.Target.{Target}
use Rattle.warp_body.specs.declared.place.Target.TheVariants as to
use Rattle.warp_step.specs.Program.{Program, top_of}
use Rattle.warp_step.specs.Snapshot.{Snapshot, AreInOrder, entered, entered_where, has_key, key_before, landed, with_entry}
use Rattle.warp_step.specs.Step.{arrived_entries, without_entries}
use Rattle.warp_step.specs.inner.Again.{again, again_each, is_alike, later_entry, target_period}
use Rattle.warp_step.specs.inner.Taken.{SoFar, here, targets, with_front}
use Rattle.warp_step.specs.declared.pending.Waiting.{Waiting}
use Rattle.warp_step.proofs.AgainLemmas.{Rising, rising}
use Rattle.warp_step.proofs.PendingLemmas.{ahead, ahead_not_at, ahead_not_before, entry}
use Rattle.warp_step.proofs.TagsOfStep.{kept_at}
use Rattle.warp_step.proofs.TakenLemmas.{again_later, all_left, others, parted}
use Rattle.warp_step.proofs.FrontLemmas.{arrived_more}

-- where all are ahead, a new entry comes in last
with_last : (t : Moment) (k : Target) (v : ℤ) (ws : List Waiting) → IsTrue (list_all (ahead t k) ws)
    → (with_entry t k v ws ≡ ws ++ entry t k v ∷ []) × (list_any (has_key t k) ws ≡ false)
with_last t k v [] all = (refl, refl)
with_last t k v (w ∷ ws) all =
    let both = and_parts (ahead t k w) (list_all (ahead t k) ws) all in
    let rest = with_last t k v ws both.1 in
    rw (ahead_not_before t k w both.0, ahead_not_at t k w both.0) (ap (λ (xs : List Waiting). w ∷ xs) rest.0, rest.1)

entered_last : (t : Moment) (k : Target) (v : ℤ) (s : Snapshot) → IsTrue (list_all (ahead t k) s.pending) → length s.pending < most_pending
    → entered t k v s ≡ record s { pending = s.pending ++ entry t k v ∷ [] }
entered_last t k v s all room =
    let last = with_last t k v s.pending all in
    let fits : nat_lt (length s.pending) most_pending ≡ true = lt-ltb (length s.pending) most_pending room in
    rw (last.1, fits) (ap (λ (xs : List Waiting). record s { pending = xs }) last.0)

-- a target is again by its period
again_is : (P : Program) (t : Moment) (k : Target) (s : Snapshot)
    → again P t k s ≡ (if nat_lt 0 (target_period P k) then landed P t (target_period P k) k (pos 0) s else s)
again_is P t to.Startup s = refl
again_is P t (to.Timer n) s = refl
again_is P t (to.Action n) s = refl
again_is P t (to.Port n) s = refl

again_last : (P : Program) (t u : Moment) (p : ℕ) (k : Target) (s : Snapshot) → target_period P k ≡ p → nat_lt 0 p ≡ true → landing P.stop (top_of P) t p ≡ At u
    → IsTrue (list_all (ahead u k) s.pending) → length s.pending < most_pending → again P t k s ≡ record s { pending = s.pending ++ entry u k (pos 0) ∷ [] }
again_last P t u p k s period some lands all room =
    again_is P t k s ∙ ap (λ (q : ℕ). if nat_lt 0 q then landed P t q k (pos 0) s else s) period
    ∙ ap (λ (b : Bool). if b then landed P t p k (pos 0) s else s) some
    ∙ ap (λ (l : Landing). entered_where l k (pos 0) s) lands
    ∙ entered_last u k (pos 0) s all room

-- what holds of all and of one more
all_and_last : (q : Waiting → Bool) (ws : List Waiting) (x : Waiting) → IsTrue (list_all q ws) → IsTrue (q x) → IsTrue (list_all q (ws ++ x ∷ []))
all_and_last q [] x all own = and_from (q x) true own refl
all_and_last q (w ∷ ws) x all own =
    let both = and_parts (q w) (list_all q ws) all in
    and_from (q w) (list_all q (ws ++ x ∷ [])) both.0 (all_and_last q ws x both.1 own)

-- all entries are ahead of each of the targets at a tag
abbrev Ahead : Moment → List Target → List Waiting → Type 0
Ahead u ks ws = AllByRecursion (λ k. IsTrue (list_all (ahead u k) ws)) ks

at_ahead : (u : Moment) (j k : Target) (v : ℤ) → target_before j k ≡ true → ahead u k (entry u j v) ≡ true
at_ahead u j k v h = grind (arith, nat_tests)

ahead_next : (u : Moment) (j : Target) (v : ℤ) (ks : List Target) (ws : List Waiting) → AllByRecursion (λ k. IsTrue (target_before j k)) ks → Ahead u ks ws
    → Ahead u ks (ws ++ entry u j v ∷ [])
ahead_next u j v [] ws before all = tt
ahead_next u j v (k ∷ ks) ws before all =
    (all_and_last (ahead u k) ws (entry u j v) all.0 (at_ahead u j k v before.0), ahead_next u j v ks ws before.1 all.1)

-- targets with one period, rising, are again behind all, one after another
again_together : (P : Program) (t u : Moment) (p : ℕ) (ks : List Target) (s : Snapshot) → IsTrue (list_all (λ k. target_period P k == p) ks) → nat_lt 0 p ≡ true
    → landing P.stop (top_of P) t p ≡ At u → Rising ks → Ahead u ks s.pending → length s.pending + length ks ≤ most_pending
    → again_each P t ks s ≡ record s { pending = s.pending ++ map (λ k. entry u k (pos 0)) ks }
again_together P t u p [] s periods some lands order all room = ap (λ (xs : List Waiting). record s { pending = xs }) (sym (append-nil s.pending))
again_together P t u p (k ∷ ks) s periods some lands order all room =
    let both = and_parts (target_period P k == p) (list_all (λ j. target_period P j == p) ks) periods in
    let one = again_last P t u p k s (eqb-true (target_period P k) p both.0) some lands all.0 (omega (arith, room)) in
    let x = entry u k (pos 0) in
    let next : Snapshot = record s { pending = s.pending ++ x ∷ [] } in
    let long : length next.pending ≡ length s.pending + 1 = length-append s.pending (x ∷ []) in
    ap (again_each P t ks) one
    ∙ again_together P t u p ks next both.1 some lands order.1 (ahead_next u k (pos 0) ks s.pending order.0 all.1) (omega (arith, room, long))
    ∙ ap (λ (xs : List Waiting). record s { pending = xs }) (append_assoc s.pending (x ∷ []) (map (λ j. entry u j (pos 0)) ks))

-- entries of which the last is before a tag are
tag_trans : (w v : Waiting) (u : Moment) → key_before w.tag w.target v ≡ true → is_before v.tag u ≡ true → is_before w.tag u ≡ true
tag_trans w v u h g = grind (arith, nat_tests)

first_earlier : (u : Moment) (w : Waiting) (v : Waiting) (ws : List Waiting) → AreInOrder (w ∷ v ∷ ws) → IsTrue (list_all (λ x. is_before x.tag u) (v ∷ ws)) → is_before w.tag u ≡ true
first_earlier u w v ws ordered all = tag_trans w v u ordered.0.0 (and_parts (is_before v.tag u) (list_all (λ x. is_before x.tag u) ws) all).0

pub all_earlier : (u : Moment) (ws : List Waiting) (n : ℕ) (d : Waiting) → AreInOrder ws → length ws ≡ n + 1 → is_before (get_or ws n d).tag u ≡ true
    → IsTrue (list_all (λ w. is_before w.tag u) ws)
all_earlier u [] n d ordered long h = refl
all_earlier u (w ∷ []) zero d ordered long h = and_from (is_before w.tag u) true h refl
all_earlier u (w ∷ []) (suc n) d ordered long h = absurd (omega (arith, long))
all_earlier u (w ∷ v ∷ ws) zero d ordered long h = absurd (omega (arith, long))
all_earlier u (w ∷ v ∷ ws) (suc n) d ordered long h =
    let rest = all_earlier u (v ∷ ws) n d ordered.1 (omega (arith, long)) h in
    and_from (is_before w.tag u) (list_all (λ x. is_before x.tag u) (v ∷ ws)) (first_earlier u w v ws ordered rest) rest

-- entries before a tag are ahead of each target there
before_ahead : (u : Moment) (k : Target) (w : Waiting) → is_before w.tag u ≡ true → ahead u k w ≡ true
before_ahead u k w h = rw h refl

all_before_ahead : (u : Moment) (k : Target) (ws : List Waiting) → IsTrue (list_all (λ w. is_before w.tag u) ws) → IsTrue (list_all (ahead u k) ws)
all_before_ahead u k [] all = refl
all_before_ahead u k (w ∷ ws) all =
    let both = and_parts (is_before w.tag u) (list_all (λ x. is_before x.tag u) ws) all in
    and_from (ahead u k w) (list_all (ahead u k) ws) (before_ahead u k w both.0) (all_before_ahead u k ws both.1)

each_ahead : (u : Moment) (ks : List Target) (ws : List Waiting) → IsTrue (list_all (λ w. is_before w.tag u) ws) → Ahead u ks ws
each_ahead u [] ws all = tt
each_ahead u (k ∷ ks) ws all = (all_before_ahead u k ws all, each_ahead u ks ws all)

-- what is alike is at the tag, and has the period
alike_here : (P : Program) (t : Moment) (p : ℕ) (ws : List Waiting) → IsTrue (list_all (is_alike P t p) ws) → IsTrue (list_all (λ w. is_same w.tag t) ws)
alike_here P t p [] all = refl
alike_here P t p (w ∷ ws) all =
    let both = and_parts (is_alike P t p w) (list_all (is_alike P t p) ws) all in
    and_from (is_same w.tag t) (list_all (λ x. is_same x.tag t) ws) (and_parts (is_same w.tag t) (target_period P w.target == p) both.0).0 (alike_here P t p ws both.1)

alike_periods : (P : Program) (t : Moment) (p : ℕ) (ws : List Waiting) → IsTrue (list_all (is_alike P t p) ws)
    → IsTrue (list_all (λ k. target_period P k == p) (targets ws))
alike_periods P t p [] all = refl
alike_periods P t p (w ∷ ws) all =
    let both = and_parts (is_alike P t p w) (list_all (is_alike P t p) ws) all in
    and_from (target_period P w.target == p) (list_all (λ k. target_period P k == p) (targets ws)) (and_parts (is_same w.tag t) (target_period P w.target == p) both.0).1
    (alike_periods P t p ws both.1)

entries_are : (u : Moment) (ws : List Waiting) → map (λ k. entry u k (pos 0)) (targets ws) ≡ map (later_entry u) ws
entries_are u [] = refl
entries_are u (w ∷ ws) = ap (λ (xs : List Waiting). later_entry u w ∷ xs) (entries_are u ws)

targets_long : (ws : List Waiting) → length (targets ws) ≡ length ws
targets_long [] = refl
targets_long (w ∷ ws) = ap suc (targets_long ws)

-- a front that is at the tag is one of the entries at it
front_here : (t : Moment) (ws : List Waiting) (n : ℕ) → AreInOrder ws → IsTrue (list_all (λ w. not (is_before w.tag t)) ws)
    → IsTrue (list_all (λ w. is_same w.tag t) (take n ws)) → (take n (here t ws) ≡ take n ws) × (drop n ws ≡ drop n (here t ws) ++ others t ws)
front_here t ws zero ordered early all = (refl, parted t ws ordered early)
front_here t [] (suc n) ordered early all = (refl, refl)
front_here t (w ∷ ws) (suc n) ordered early all =
    let both = and_parts (is_same w.tag t) (list_all (λ v. is_same v.tag t) (take n ws)) all in
    let first = and_parts (not (is_before w.tag t)) (list_all (λ v. not (is_before v.tag t)) ws) early in
    let rest = front_here t ws n ordered.1 first.1 both.1 in
    rw both.0 (ap (λ (xs : List Waiting). w ∷ xs) rest.0, rest.1)

above_front : (t : Moment) (k : Target) (ws : List Waiting) (n : ℕ) → AllByRecursion (λ v. IsTrue (key_before t k v)) ws → AllByRecursion (λ v. IsTrue (key_before t k v)) (take n ws)
above_front t k ws zero all = tt
above_front t k [] (suc n) all = tt
above_front t k (w ∷ ws) (suc n) all = (all.0, above_front t k ws n all.1)

order_front : (ws : List Waiting) (n : ℕ) → AreInOrder ws → AreInOrder (take n ws)
order_front ws zero ordered = tt
order_front [] (suc n) ordered = tt
order_front (w ∷ ws) (suc n) ordered = (above_front w.tag w.target ws n ordered.0, order_front ws n ordered.1)

-- what is left of entries before a tag is before it
others_pass : (q : Waiting → Bool) (t : Moment) (ws : List Waiting) → IsTrue (list_all q ws) → IsTrue (list_all q (others t ws))
others_pass q t [] all = refl
others_pass q t (w ∷ ws) all =
    let both = and_parts (q w) (list_all q ws) all in
    let rest = others_pass q t ws both.1 in
    elim (cases_Bool (is_same w.tag t)) [
      | inl at ↦ rw at rest
      | inr other ↦ rw other (and_from (q w) (list_all q (others t ws)) both.0 rest)
    ]

-- what is again is later
each_later : (P : Program) (t : Moment) (ks : List Target) (s : Snapshot) → IsTrue (list_all (λ w. is_before t w.tag) s.pending)
    → IsTrue (list_all (λ w. is_before t w.tag) (again_each P t ks s).pending)
each_later P t [] s later = later
each_later P t (k ∷ ks) s later = each_later P t ks (again P t k s) (again_later P t k s later)

-- so many entries, alike, are taken together
pub together : (P : Program) (t u : Moment) (p n : ℕ) (old now : Snapshot) (before after : Presence) → AreInOrder old.pending
    → IsTrue (list_all (λ w. not (is_before w.tag t)) old.pending) → IsTrue (list_all (λ w. is_before w.tag u) old.pending) → n ≤ length old.pending
    → length old.pending ≤ most_pending → 0 < p → landing P.stop (top_of P) t p ≡ At u → IsTrue (list_all (is_alike P t p) (take n old.pending))
    → now ≡ record old { pending = drop n old.pending ++ map (later_entry u) (take n old.pending) } → after ≡ arrived_entries (take n old.pending) before
    → SoFar P t old n now before after
together P t u p n old now before after ordered early earlier within few some lands alike is arrives =
    let ws = old.pending in
    let D = here t ws in
    let O = others t ws in
    let base = without_entries t old in
    let same = alike_here P t p (take n ws) alike in
    let front = front_here t ws n ordered early same in
    let M = map (later_entry u) (take n ws) in
    let ks = targets (take n ws) in
    let whole : length ws ≡ length (take n ws) + length (drop n ws) =
    ap length (sym (take-append-drop n ws)) ∙ length-append (take n ws) (drop n ws) in
    let rest : length (drop n ws) ≡ length (drop n D) + length O = ap length front.1 ∙ length-append (drop n D) O in
    let many : length ks ≡ length (take n ws) = targets_long (take n ws) in
    let again_is : again_each P t ks base ≡ record base { pending = O ++ M } =
    again_together P t u p ks base (alike_periods P t p (take n ws) alike) (lt-ltb 0 p some) lands (rising t (take n ws) (order_front ws n ordered) same)
    (each_ahead u ks O (others_pass (λ w. is_before w.tag u) t ws earlier)) (omega (arith, whole, rest, many, few))
    ∙ ap (λ (xs : List Waiting). record base { pending = O ++ xs }) (entries_are u (take n ws)) in
    let taken : again_each P t (targets (take n D)) base ≡ record base { pending = O ++ M } =
    ap (λ (xs : List Waiting). again_each P t (targets xs) base) front.0 ∙ again_is in
    let parts : drop n ws ++ M ≡ drop n D ++ (O ++ M) = ap (λ (xs : List Waiting). xs ++ M) front.1 ∙ append_assoc (drop n D) O M in
    record {
      state = is ∙ ap (λ (xs : List Waiting). record old { pending = xs }) parts ∙ ap (with_front (drop n D)) (sym taken);
      later = each_later P t (targets (take n D)) base (kept_at (λ v. not (is_before v t)) (λ v. is_before t v) t (λ v a b. grind (arith, nat_tests)) ws early);
      present = arrives ∙ ap (λ (xs : List Waiting). arrived_entries xs before) (sym front.0);
    }

-- one more entry put behind others
module _ (P : Program) (t u : Moment) (p : ℕ) where
  pub record Shifted (all : List Waiting) (count : ℕ) (now : List Waiting) (before after : Presence) : Type 0 where
    pub few : count ≤ length all
    pub entries : now ≡ all ++ map (later_entry u) (take count all)
    pub alike : IsTrue (list_all (is_alike P t p) (take count all))
    pub present : after ≡ arrived_entries (take count all) before

  pub none_shifted : (all : List Waiting) (before : Presence) → Shifted all 0 all before before
  none_shifted all before = record { few = omega arith; entries = sym (append-nil all); alike = refl; present = refl }

  -- what is read behind so many is the next one
  pub next_is : (all : List Waiting) (count : ℕ) (now : List Waiting) (before after : Presence) (w : Waiting) → Shifted all count now before after → count < length all
      → w ≡ get_or now count w → w ≡ get_or all count w
  next_is all count now before after w so lt is =
      is ∙ ap (λ (xs : List Waiting). get_or xs count w) so.entries ∙ get_or_append_left all (map (later_entry u) (take count all)) w count lt

  take_one_more : (xs : List Waiting) (n : ℕ) (d : Waiting) → n < length xs → take (n + 1) xs ≡ take n xs ++ get_or xs n d ∷ []
  take_one_more [] n d lt = absurd (omega arith)
  take_one_more (x ∷ xs) zero d lt = refl
  take_one_more (x ∷ xs) (suc n) d lt =
      let more : suc n + 1 ≡ suc (n + 1) = omega arith in
      rw more (ap (λ (ys : List Waiting). x ∷ ys) (take_one_more xs n d (omega arith)))

  pub more_shifted : (all : List Waiting) (count : ℕ) (now next : List Waiting) (before after then_after : Presence) (w : Waiting) → Shifted all count now before after
      → count < length all → w ≡ get_or all count w → is_alike P t p w ≡ true → next ≡ now ++ later_entry u w ∷ []
      → then_after ≡ with_value w.target w.value after → Shifted all (count + 1) next before then_after
  more_shifted all count now next before after then_after w so lt is alike put arrives =
      let more : take (count + 1) all ≡ take count all ++ w ∷ [] = take_one_more all count w lt ∙ ap (λ (x : Waiting). take count all ++ x ∷ []) (sym is) in
      record {
        few = omega (arith, lt);
        entries = put ∙ ap (λ (xs : List Waiting). xs ++ later_entry u w ∷ []) so.entries
            ∙ append_assoc all (map (later_entry u) (take count all)) (later_entry u w ∷ [])
            ∙ ap (λ (xs : List Waiting). all ++ xs) (sym (map-append (later_entry u) (take count all) (w ∷ [])) ∙ ap (map (later_entry u)) (sym more));
        alike = subst (λ (xs : List Waiting). IsTrue (list_all (is_alike P t p) xs)) (sym more) (all_and_last (is_alike P t p) (take count all) w so.alike alike);
        present = arrives ∙ ap (with_value w.target w.value) so.present
            ∙ ap (λ (x : Waiting). with_value x.target x.value (arrived_entries (take count all) before)) is ∙ sym (arrived_more all count w before lt);
      }

  -- what is read at the place of the next one
  pub read_next : (xs ys : List Waiting) (s count : ℕ) (before after : Presence) (w : Waiting)
      → Shifted (drop s xs) count (drop s ys) before after → s + count < length xs
      → w ≡ get_or ys (s + count) w → (count < length (drop s xs)) × (w ≡ get_or (drop s xs) count w)
  read_next xs ys s count before after w so lt is =
      let within : count < length (drop s xs) = omega (arith, length-drop s xs, lt) in
      (within, next_is (drop s xs) count (drop s ys) before after w so within (is ∙ sym (get_or-drop s ys count w)))

pub drop_front_of : (n : ℕ) (xs ys : List Waiting) → n ≤ length xs → drop n (xs ++ ys) ≡ drop n xs ++ ys
drop_front_of zero xs ys le = refl
drop_front_of (suc n) [] ys le = absurd (omega (arith, le))
drop_front_of (suc n) (x ∷ xs) ys le = drop_front_of n xs ys (omega (arith, le))

-- what goes behind the others keeps the order
at_order : (t u : Moment) (w v : Waiting) → is_same w.tag t ≡ true → is_same v.tag t ≡ true → key_before w.tag w.target v ≡ true → key_before u w.target (later_entry u v) ≡ true
at_order t u w v h g k = grind (arith, nat_tests)

above_later : (t u : Moment) (w : Waiting) (ws : List Waiting) → is_same w.tag t ≡ true → IsTrue (list_all (λ v. is_same v.tag t) ws)
    → AllByRecursion (λ v. IsTrue (key_before w.tag w.target v)) ws → AllByRecursion (λ v. IsTrue (key_before u w.target v)) (map (later_entry u) ws)
above_later t u w [] own all above = tt
above_later t u w (v ∷ ws) own all above =
    let both = and_parts (is_same v.tag t) (list_all (λ x. is_same x.tag t) ws) all in
    (at_order t u w v own both.0 above.0, above_later t u w ws own both.1 above.1)

order_later : (t u : Moment) (ws : List Waiting) → AreInOrder ws → IsTrue (list_all (λ v. is_same v.tag t) ws) → AreInOrder (map (later_entry u) ws)
order_later t u [] ordered all = tt
order_later t u (w ∷ ws) ordered all =
    let both = and_parts (is_same w.tag t) (list_all (λ x. is_same x.tag t) ws) all in
    (above_later t u w ws both.0 both.1 ordered.0, order_later t u ws ordered.1 both.1)

before_later : (u : Moment) (w v : Waiting) → is_before w.tag u ≡ true → key_before w.tag w.target (later_entry u v) ≡ true
before_later u w v h = rw h refl

above_behind : (u : Moment) (w : Waiting) (xs ys : List Waiting) → is_before w.tag u ≡ true → AllByRecursion (λ v. IsTrue (key_before w.tag w.target v)) xs
    → AllByRecursion (λ v. IsTrue (key_before w.tag w.target v)) (xs ++ map (later_entry u) ys)
above_behind u w [] [] own above = tt
above_behind u w [] (y ∷ ys) own above = (before_later u w y own, above_behind u w [] ys own above)
above_behind u w (x ∷ xs) ys own above = (above.0, above_behind u w xs ys own above.1)

order_behind : (u : Moment) (xs ys : List Waiting) → AreInOrder xs → IsTrue (list_all (λ w. is_before w.tag u) xs) → AreInOrder (map (later_entry u) ys)
    → AreInOrder (xs ++ map (later_entry u) ys)
order_behind u [] ys ordered all later = later
order_behind u (w ∷ xs) ys ordered all later =
    let both = and_parts (is_before w.tag u) (list_all (λ x. is_before x.tag u) xs) all in
    (above_behind u w xs ys both.0 ordered.0, order_behind u xs ys ordered.1 both.1 later)

order_back : (ws : List Waiting) (n : ℕ) → AreInOrder ws → AreInOrder (drop n ws)
order_back ws zero ordered = ordered
order_back [] (suc n) ordered = tt
order_back (w ∷ ws) (suc n) ordered = order_back ws n ordered.1

pub order_together : (P : Program) (t u : Moment) (p n : ℕ) (ws new : List Waiting) → AreInOrder ws → IsTrue (list_all (λ w. is_before w.tag u) ws)
    → IsTrue (list_all (is_alike P t p) (take n ws)) → new ≡ drop n ws ++ map (later_entry u) (take n ws) → AreInOrder new
order_together P t u p n ws new ordered earlier alike is =
    subst AreInOrder (sym is)
    (order_behind u (drop n ws) (take n ws) (order_back ws n ordered) (all_left (λ w. is_before w.tag u) ws n earlier)
    (order_later t u (take n ws) (order_front ws n ordered) (alike_here P t p (take n ws) alike)))
