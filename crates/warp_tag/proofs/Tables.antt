-- A table of names: where a name has its place, and what a change of what is known of one name does.
use Rattle.std.proofs.Common.{◌≡◌, inl, inr, ℕ, zero, suc, ◌+◌, ◌<◌, ◌≤◌, Bool, true, false, List, [], ◌∷◌, get_or, length, set, ap, sym, ◌∙◌, refl, subst, arith, Option, Some, None}
use Rattle.std.specs.Prelude.{if◌then◌else◌, ℤ}
use Rattle.std.specs.List.{cons_option, list_all, prefix_len, insert}
use Rattle.std.proofs.lemmas.Bool.{cases_Bool}
use Rattle.warp_tag.specs.Moment.{Moment}
use Rattle.warp_tag.specs.declared.entry.Entry.{Entry}
use Rattle.warp_tag.specs.Table.{IsTable, Event, name_before, has_name, fresh, changed, is_lesser, with_event, with_withdrawal, live_event, live}
use Rattle.warp_tag.proofs.Names.{ahead, Above, ahead_not_before, ahead_not_named, named_not_before, behind, else_ahead, name_before_trans, ahead_trans, named_is}

-- an entry that is not ahead ends the front
pub stops : (o : ℕ) (t : Moment) (es : List Entry) (i : ℕ) (d : Entry) → i < length es → ahead o t (get_or es i d) ≡ false → prefix_len (ahead o t) es ≤ i
stops o t [] i d h k = absurd (omega arith)
stops o t (e ∷ es) zero d h k = rw k (omega arith)
stops o t (e ∷ es) (suc i) d h k = elim (cases_Bool (ahead o t e)) [
  | inl a ↦ let rest : prefix_len (ahead o t) es ≤ i = stops o t es i d (omega arith) k in rw a (omega arith)
  | inr a ↦ rw a (omega arith)
]

-- what comes before an entry of those above it that is ahead, is ahead
pub above_ahead : (o : ℕ) (t : Moment) (e : Entry) (es : List Entry) (i : ℕ) (d : Entry) → Above e.origin e.tag es → i < length es → ahead o t (get_or es i d) ≡ true → ahead o t e ≡ true
above_ahead o t e [] i d all h k = absurd (omega arith)
above_ahead o t e (x ∷ es) zero d all h k = ahead_trans o t e x all.0 k
above_ahead o t e (x ∷ es) (suc i) d all h k = above_ahead o t e es i d all.1 (omega arith) k

-- in a table an entry that is ahead stands in the front
pub passes_front : (o : ℕ) (t : Moment) (es : List Entry) (i : ℕ) (d : Entry) → IsTable es → i < length es → ahead o t (get_or es i d) ≡ true → i < prefix_len (ahead o t) es
passes_front o t [] i d table h k = absurd (omega arith)
passes_front o t (e ∷ es) zero d table h k = rw k (omega arith)
passes_front o t (e ∷ es) (suc i) d table h k =
    let a : ahead o t e ≡ true = above_ahead o t e es i d table.0 (omega arith) k in
    let rest : i < prefix_len (ahead o t) es = passes_front o t es i d table.1 (omega arith) k in
    rw a (omega arith)

-- the front is no longer than the table
pub front_le : (o : ℕ) (t : Moment) (es : List Entry) → prefix_len (ahead o t) es ≤ length es
front_le o t [] = omega arith
front_le o t (e ∷ es) = elim (cases_Bool (ahead o t e)) [
  | inl a ↦ let rest : prefix_len (ahead o t) es ≤ length es = front_le o t es in rw a (omega arith)
  | inr a ↦ rw a (omega arith)
]

-- the entry that a change of what is known of a name starts from
abbrev pub before_change : ℕ → Moment → List Entry → Entry
before_change o t [] = fresh o t
before_change o t (e ∷ es) = if name_before o t e then fresh o t else (if has_name o t e then e else before_change o t es)

-- one more entry that is ahead
changed_ahead : (f : Entry → Entry) (o : ℕ) (t : Moment) (e : Entry) (es : List Entry) → ahead o t e ≡ true → changed f o t (e ∷ es) ≡ e ∷ changed f o t es
changed_ahead f o t e es a = rw (ahead_not_before o t e a, ahead_not_named o t e a) refl

-- and the change starts from the same entry
before_change_ahead : (o : ℕ) (t : Moment) (e : Entry) (es : List Entry) → ahead o t e ≡ true → before_change o t (e ∷ es) ≡ before_change o t es
before_change_ahead o t e es a = rw (ahead_not_before o t e a, ahead_not_named o t e a) refl

-- the front of one more entry that is ahead
front_ahead : (o : ℕ) (t : Moment) (e : Entry) (es : List Entry) (n : ℕ) → suc n ≡ prefix_len (ahead o t) (e ∷ es) → (ahead o t e ≡ true) × (n ≡ prefix_len (ahead o t) es)
front_ahead o t e es n p = elim (cases_Bool (ahead o t e)) [
  | inl a ↦ (a, (let q = rw a at p in omega arith))
  | inr a ↦ absurd (let q = rw a at p in omega arith)
]

-- an entry that no front stands before is not ahead
front_none : (o : ℕ) (t : Moment) (e : Entry) (es : List Entry) → zero ≡ prefix_len (ahead o t) (e ∷ es) → ahead o t e ≡ false
front_none o t e es p = elim (cases_Bool (ahead o t e)) [
  | inl a ↦ absurd (let q = rw a at p in omega arith)
  | inr a ↦ a
]

-- where the entry behind the front is of the name, it is changed
pub changed_named : (f : Entry → Entry) (o : ℕ) (t : Moment) (es : List Entry) (n : ℕ) (d : Entry) → n ≡ prefix_len (ahead o t) es → n < length es → has_name o t (get_or es n d) ≡ true → (changed f o t es ≡ set es n (f (get_or es n d))) × (before_change o t es ≡ get_or es n d)
changed_named f o t [] n d p h k = absurd (omega arith)
changed_named f o t (e ∷ es) zero d p h k = rw (named_not_before o t e k, k) (refl, refl)
changed_named f o t (e ∷ es) (suc n) d p h k =
    let q = front_ahead o t e es n p in
    let rest = changed_named f o t es n d q.1 (omega arith) k in
    (changed_ahead f o t e es q.0 ∙ ap (λ xs. e ∷ xs) rest.0, before_change_ahead o t e es q.0 ∙ rest.1)

-- where it is not, or there is none, the name comes in new
pub changed_new : (f : Entry → Entry) (o : ℕ) (t : Moment) (es : List Entry) (n : ℕ) → n ≡ prefix_len (ahead o t) es → ((d : Entry) → n < length es → has_name o t (get_or es n d) ≡ false) → (changed f o t es ≡ insert es n (f (fresh o t))) × (before_change o t es ≡ fresh o t)
changed_new f o t [] zero p k = (refl, refl)
changed_new f o t [] (suc n) p k = absurd (omega arith)
changed_new f o t (e ∷ es) zero p k =
    let other : has_name o t e ≡ false = k e (omega arith) in
    rw (behind o t e (front_none o t e es p) other) (refl, refl)
changed_new f o t (e ∷ es) (suc n) p k =
    let q = front_ahead o t e es n p in
    let rest = changed_new f o t es n q.1 (λ d h. k d (omega arith)) in
    (changed_ahead f o t e es q.0 ∙ ap (λ xs. e ∷ xs) rest.0, before_change_ahead o t e es q.0 ∙ rest.1)

-- a change adds at most one name
pub length-changed : (f : Entry → Entry) (o : ℕ) (t : Moment) (es : List Entry) → length (changed f o t es) ≤ length es + 1
length-changed f o t [] = omega arith
length-changed f o t (e ∷ es) = elim (cases_Bool (name_before o t e)) [
  | inl b ↦ rw b (omega arith)
  | inr b ↦ elim (cases_Bool (has_name o t e)) [
    | inl n ↦ rw (b, n) (omega arith)
    | inr n ↦ (let rest : length (changed f o t es) ≤ length es + 1 = length-changed f o t es in rw (b, n) (omega arith))
  ]
]

-- a change that keeps names
abbrev pub KeepsNames : (Entry → Entry) → Type 0
KeepsNames f = (e : Entry) → ((f e).origin ≡ e.origin) × ((f e).tag ≡ e.tag)

-- what comes after an entry comes after what is before that
pub above_trans : (o : ℕ) (t : Moment) (e : Entry) (es : List Entry) → name_before o t e ≡ true → Above e.origin e.tag es → Above o t es
above_trans o t e [] h all = tt
above_trans o t e (x ∷ es) h all = (name_before_trans o t e x h all.0, above_trans o t e es h all.1)

-- the name that comes before an entry comes before what a change makes of it
kept_before : (f : Entry → Entry) → KeepsNames f → (o : ℕ) (t : Moment) (e : Entry) → name_before o t e ≡ true → name_before o t (f e) ≡ true
kept_before f names o t e h = rw ((names e).0, (names e).1) h

kept_above : (f : Entry → Entry) → KeepsNames f → (e : Entry) (es : List Entry) → Above e.origin e.tag es → Above (f e).origin (f e).tag es
kept_above f names e es h = rw ((names e).0, (names e).1) h

-- a change comes in above what is before its name
above_changed : (f : Entry → Entry) → KeepsNames f → (c : ℕ) (s : Moment) (o : ℕ) (t : Moment) (es : List Entry) → Above c s es → name_before c s (fresh o t) ≡ true → Above c s (changed f o t es)
above_changed f names c s o t [] all h = (kept_before f names c s (fresh o t) h, tt)
above_changed f names c s o t (e ∷ es) all h = elim (cases_Bool (name_before o t e)) [
  | inl b ↦ rw b (kept_before f names c s (fresh o t) h, all)
  | inr b ↦ elim (cases_Bool (has_name o t e)) [
    | inl n ↦ rw (b, n) (kept_before f names c s e all.0, all.1)
    | inr n ↦ rw (b, n) (all.0, above_changed f names c s o t es all.1 h)
  ]
]

-- a change that keeps names keeps the order
pub table_changed : (f : Entry → Entry) → KeepsNames f → (o : ℕ) (t : Moment) (es : List Entry) → IsTable es → IsTable (changed f o t es)
table_changed f names o t [] table = (tt, tt)
table_changed f names o t (e ∷ es) table = elim (cases_Bool (name_before o t e)) [
  | inl b ↦ rw b (kept_above f names (fresh o t) (e ∷ es) (b, above_trans o t e es b table.0), table)
  | inr b ↦ elim (cases_Bool (has_name o t e)) [
    | inl n ↦ rw (b, n) (kept_above f names e es table.0, table.1)
    | inr n ↦ rw (b, n) (above_changed f names e.origin e.tag o t es table.0 (else_ahead o t e b n), table_changed f names o t es table.1)
  ]
]

-- what may stand at the head of a list shows in the list
cons_option_same : {A : Type 0} (a b : Option A) (xs : List A) → cons_option a xs ≡ cons_option b xs → a ≡ b
cons_option_same None None xs h = refl
cons_option_same None (Some b) xs h = absurd (let e : length xs ≡ length (b ∷ xs) = ap length h in omega arith)
cons_option_same (Some a) None xs h = absurd (let e : length (a ∷ xs) ≡ length xs = ap length h in omega arith)
cons_option_same (Some a) (Some b) xs h = cc

-- and the rest of the list shows behind it
cons_option_rest : {A : Type 0} (a : Option A) (xs ys : List A) → cons_option a xs ≡ cons_option a ys → xs ≡ ys
cons_option_rest None xs ys h = h
cons_option_rest (Some a) xs ys h = cc

-- where what counts of the name stays, the live events stay
pub live_stays : (f : Entry → Entry) (o : ℕ) (t : Moment) (es : List Entry) → live_event (f (before_change o t es)) ≡ live_event (before_change o t es) → live (changed f o t es) ≡ live es
live_stays f o t [] h = ap (λ a. cons_option a []) h
live_stays f o t (e ∷ es) h = elim (cases_Bool (name_before o t e)) [
  | inl b ↦ rw b (ap (λ a. cons_option a (live (e ∷ es))) (rw b at h))
  | inr b ↦ elim (cases_Bool (has_name o t e)) [
    | inl n ↦ rw (b, n) (ap (λ a. cons_option a (live es)) (rw (b, n) at h))
    | inr n ↦ rw (b, n) (ap (λ xs. cons_option (live_event e) xs) (live_stays f o t es (rw (b, n) at h)))
  ]
]

-- and only there
pub live_shows : (f : Entry → Entry) (o : ℕ) (t : Moment) (es : List Entry) → live (changed f o t es) ≡ live es → live_event (f (before_change o t es)) ≡ live_event (before_change o t es)
live_shows f o t [] h = cons_option_same (live_event (f (fresh o t))) None [] h
live_shows f o t (e ∷ es) h = elim (cases_Bool (name_before o t e)) [
  | inl b ↦ rw b (cons_option_same (live_event (f (fresh o t))) None (live (e ∷ es)) (rw b at h))
  | inr b ↦ elim (cases_Bool (has_name o t e)) [
    | inl n ↦ rw (b, n) (cons_option_same (live_event (f e)) (live_event e) (live es) (rw (b, n) at h))
    | inr n ↦ rw (b, n) (live_shows f o t es (cons_option_rest (live_event e) (live (changed f o t es)) (live es) (rw (b, n) at h)))
  ]
]

-- where a value is there, it passes
abbrev pub passes : (Event → Bool) → Option Event → Bool
passes p None = true
passes p (Some x) = p x

-- the tests of a list and of what may stand at its head
all_cons_option : (p : Event → Bool) (a : Option Event) (xs : List Event) → passes p a ≡ true → list_all p xs ≡ true → list_all p (cons_option a xs) ≡ true
all_cons_option p None xs h k = k
all_cons_option p (Some a) xs h k = rw (h, k) refl

all_head : (p : Event → Bool) (a : Option Event) (xs : List Event) → list_all p (cons_option a xs) ≡ true → passes p a ≡ true
all_head p None xs h = refl
all_head p (Some a) xs h = elim (cases_Bool (p a)) [ inl k ↦ k | inr k ↦ let no : false ≡ true = rw k at h in cc ]

all_rest : (p : Event → Bool) (a : Option Event) (xs : List Event) → list_all p (cons_option a xs) ≡ true → list_all p xs ≡ true
all_rest p None xs h = h
all_rest p (Some a) xs h = elim (cases_Bool (p a)) [ inl k ↦ rw k at h | inr k ↦ let no : false ≡ true = rw k at h in cc ]

-- a name of which nothing is known, or an entry of that name: its event passes where what came does
event_passes : (p : Event → Bool) (o : ℕ) (t : Moment) (input : ℕ) (value : ℤ) (event : Option (ℕ × ℤ)) (withdrawn : Bool) → passes p (live_event (record { origin = o; tag = t; event = event; withdrawn = withdrawn })) ≡ true → p (record { origin = o; tag = t; input = input; value = value }) ≡ true → passes p (live_event (with_event input value (record { origin = o; tag = t; event = event; withdrawn = withdrawn }))) ≡ true
event_passes p o t input value event true h k = refl
event_passes p o t input value None false h k = k
event_passes p o t input value (Some q) false h k = elim (cases_Bool (is_lesser q (input, value))) [
  | inl l ↦ rw l k
  | inr l ↦ rw l h
]

-- the same of an entry with that origin and tag
entry_passes : (p : Event → Bool) (o : ℕ) (t : Moment) (input : ℕ) (value : ℤ) (e : Entry) → o ≡ e.origin → t ≡ e.tag → passes p (live_event e) ≡ true → p (record { origin = o; tag = t; input = input; value = value }) ≡ true → passes p (live_event (with_event input value e)) ≡ true
entry_passes p o t input value e a b h k =
    let own : p (record { origin = e.origin; tag = e.tag; input = input; value = value }) ≡ true = rw (← a, ← b) k in
    event_passes p e.origin e.tag input value e.event e.withdrawn h own

-- the live events pass where they did, after an event that passes
pub events_pass : (p : Event → Bool) (o : ℕ) (t : Moment) (input : ℕ) (value : ℤ) (es : List Entry) → list_all p (live es) ≡ true → p (record { origin = o; tag = t; input = input; value = value }) ≡ true → list_all p (live (changed (with_event input value) o t es)) ≡ true
events_pass p o t input value [] h k = rw k refl
events_pass p o t input value (e ∷ es) h k = elim (cases_Bool (name_before o t e)) [
  | inl b ↦ rw b (rw k h)
  | inr b ↦ elim (cases_Bool (has_name o t e)) [
    | inl n ↦
        let is = named_is o t e n in
        let own : passes p (live_event (with_event input value e)) ≡ true = entry_passes p o t input value e is.0 is.1 (all_head p (live_event e) (live es) h) k in
        rw (b, n) (all_cons_option p (live_event (with_event input value e)) (live es) own (all_rest p (live_event e) (live es) h))
    | inr n ↦ rw (b, n) (all_cons_option p (live_event e) (live (changed (with_event input value) o t es)) (all_head p (live_event e) (live es) h) (events_pass p o t input value es (all_rest p (live_event e) (live es) h) k))
  ]
]

-- and after a withdrawal
pub withdrawal_passes : (p : Event → Bool) (o : ℕ) (t : Moment) (es : List Entry) → list_all p (live es) ≡ true → list_all p (live (changed with_withdrawal o t es)) ≡ true
withdrawal_passes p o t [] h = refl
withdrawal_passes p o t (e ∷ es) h = elim (cases_Bool (name_before o t e)) [
  | inl b ↦ rw b h
  | inr b ↦ elim (cases_Bool (has_name o t e)) [
    | inl n ↦ rw (b, n) (all_rest p (live_event e) (live es) h)
    | inr n ↦ rw (b, n) (all_cons_option p (live_event e) (live (changed with_withdrawal o t es)) (all_head p (live_event e) (live es) h) (withdrawal_passes p o t es (all_rest p (live_event e) (live es) h)))
  ]
]

-- an event keeps the name, and so does a withdrawal
pub with_event_names : (input : ℕ) (value : ℤ) → KeepsNames (with_event input value)
with_event_names input value e = (refl, refl)

pub with_withdrawal_names : KeepsNames with_withdrawal
with_withdrawal_names e = (refl, refl)

-- what is read at an index does not hang on the default
read_as : (es : List Entry) (n : ℕ) (x d : Entry) → n < length es → x ≡ get_or es n x → get_or es n d ≡ x
read_as [] n x d h r = absurd (omega arith)
read_as (e ∷ es) zero x d h r = sym r
read_as (e ∷ es) (suc n) x d h r = read_as es n x d (omega arith) r

-- the entry at the place is of the name and is changed there
pub changed_there : (f : Entry → Entry) (o : ℕ) (t : Moment) (es : List Entry) (n : ℕ) (x y z : Entry) → n ≡ prefix_len (ahead o t) es → n < length es → x ≡ get_or es n x → has_name o t x ≡ true → y ≡ get_or es n y → z ≡ f y → (set es n z ≡ changed f o t es) × (before_change o t es ≡ y)
changed_there f o t es n x y z p h rx k ry made =
    let ex : get_or es n y ≡ x = read_as es n x y h rx in
    let ey : get_or es n y ≡ y = sym ry in
    let has : has_name o t (get_or es n y) ≡ true = subst (λ (v : Entry). has_name o t v ≡ true) (sym ex) k in
    let r = changed_named f o t es n y p h has in
    (sym (r.0 ∙ ap (λ v. set es n v) (ap f ey ∙ sym made)), r.1 ∙ ey)

-- no entry stands at the place, or one of another name: the name comes in new there
pub changed_here : (f : Entry → Entry) (o : ℕ) (t : Moment) (es : List Entry) (n : ℕ) → n ≡ prefix_len (ahead o t) es → ((n < length es) → (x : Entry) × (x ≡ get_or es n x) × (has_name o t x ≡ false)) → (insert es n (f (fresh o t)) ≡ changed f o t es) × (before_change o t es ≡ fresh o t)
changed_here f o t es n p other =
    let r = changed_new f o t es n p (λ d h. let w = other h in subst (λ (v : Entry). has_name o t v ≡ false) (sym (read_as es n w.0 d h w.1)) w.2) in
    (sym r.0, r.1)

-- what counts of the name stays, or shows, where the change starts from this entry
pub live_stays_at : (f : Entry → Entry) (o : ℕ) (t : Moment) (es : List Entry) (y : Entry) → before_change o t es ≡ y → live_event (f y) ≡ live_event y → live (changed f o t es) ≡ live es
live_stays_at f o t es y e h = live_stays f o t es (rw e h)

pub live_shows_at : (f : Entry → Entry) (o : ℕ) (t : Moment) (es : List Entry) (y : Entry) → before_change o t es ≡ y → live (changed f o t es) ≡ live es → live_event (f y) ≡ live_event y
live_shows_at f o t es y e h = rw e at (live_shows f o t es h)
