-- A name entered in a table at its place, and what a note of that name does there.
use Rattle.std.proofs.Common.{◌≡◌, ℕ, zero, suc, ◌<◌, ◌≤◌, true, false, List, [], ◌∷◌, Some, get_or, length, set, slice_get, unwrap_or, ap, sym, subst, ◌∙◌, refl, arith}
use Rattle.std.specs.List.{insert, prefix_len}
use Rattle.std.proofs.lemmas.List.Edits.{get_or-insert_at, length-insert}
use Rattle.std.proofs.lemmas.Option.{get_or_from_slice_get, slice_get-get_or}
use Rattle.warp_tag.specs.Moment.{Moment}
use Rattle.warp_tag.specs.declared.entry.Entry.{Entry}
use Rattle.warp_tag.specs.Table.{IsTable, has_name, fresh, known, changed, live_event, live}
use Rattle.warp_tag.proofs.Known.{before_change_known}
use Rattle.warp_tag.proofs.Names.{ahead}
use Rattle.warp_tag.proofs.Tables.{KeepsNames, before_change, changed_there, changed_here, table_changed, live_stays_at, live_shows_at}

-- what is known of the name, or that nothing is
abbrev pub entry_of : ℕ → Moment → List Entry → Entry
entry_of o t es = unwrap_or (known o t es) (fresh o t)

-- at the place stands the entry of the name, and a change written there changes what is known of it
pub record IsEntered (o : ℕ) (t : Moment) (old new : List Entry) (at : ℕ) : Type 0 where
  pub entry : slice_get new at ≡ Some (entry_of o t old)
  pub change : (f : Entry → Entry) → set new at (f (entry_of o t old)) ≡ changed f o t old

set-insert : {X : Type 0} (xs : List X) (i : ℕ) (x y : X) → i ≤ length xs → set (insert xs i x) i y ≡ insert xs i y
set-insert [] zero x y h = refl
set-insert [] (suc i) x y h = absurd (omega arith)
set-insert (a ∷ xs) zero x y h = refl
set-insert (a ∷ xs) (suc i) x y h = ap (λ zs. a ∷ zs) (set-insert xs i x y (omega arith))

-- the entry at the place is of the name
pub entered_there : (o : ℕ) (t : Moment) (es : List Entry) (n : ℕ) (x : Entry) → IsTable es → n ≡ prefix_len (ahead o t) es → n < length es → x ≡ get_or es n x → has_name o t x ≡ true → IsEntered o t es es n
entered_there o t es n x table p h read named =
    let r = λ (f : Entry → Entry). changed_there f o t es n x x (f x) p h read named read refl in
    let is : x ≡ entry_of o t es = sym (r (λ e. e)).1 ∙ before_change_known o t es table in
    record {
      entry = slice_get-get_or es n x h ∙ ap Some (sym read ∙ is);
      change = λ f. ap (λ e. set es n (f e)) (sym is) ∙ (r f).0;
    }

-- there is none, or one of another name: the name comes in new
pub entered_here : (o : ℕ) (t : Moment) (es : List Entry) (n : ℕ) → IsTable es → n ≡ prefix_len (ahead o t) es → n ≤ length es → ((n < length es) → (x : Entry) × (x ≡ get_or es n x) × (has_name o t x ≡ false)) → IsEntered o t es (insert es n (fresh o t)) n
entered_here o t es n table p h other =
    let r = λ (f : Entry → Entry). changed_here f o t es n p other in
    let is : fresh o t ≡ entry_of o t es = sym (r (λ e. e)).1 ∙ before_change_known o t es table in
    let long = length-insert es n (fresh o t) h in
    let within : n < length (insert es n (fresh o t)) = omega arith in
    record {
      entry = slice_get-get_or (insert es n (fresh o t)) n (fresh o t) within ∙ ap Some (get_or-insert_at es n (fresh o t) (fresh o t) h ∙ is);
      change = λ f. set-insert es n (fresh o t) (f (entry_of o t es)) h ∙ ap (λ e. insert es n (f e)) (sym is) ∙ (r f).0;
    }

-- what a note of one name does to a table and to its live events
pub record Noted (f : Entry → Entry) (o : ℕ) (t : Moment) (old new : List Entry) (y z : Entry) : Type 0 where
  pub table : new ≡ changed f o t old
  pub ordered : IsTable new
  pub stays : live_event z ≡ live_event y → live new ≡ live old
  pub shows : live new ≡ live old → live_event z ≡ live_event y

-- the entry that is read at the place is changed there
pub noted : (f : Entry → Entry) → KeepsNames f → (o : ℕ) (t : Moment) (old new : List Entry) (at : ℕ) (y z : Entry) → IsTable old
    → slice_get new at ≡ Some (entry_of o t old) → ((g : Entry → Entry) → set new at (g (entry_of o t old)) ≡ changed g o t old)
    → y ≡ get_or new at y → z ≡ f y → Noted f o t old (set new at z) y z
noted f names o t old new at y z table entry change read made =
    let is : y ≡ entry_of o t old = read ∙ get_or_from_slice_get new at (entry_of o t old) y entry in
    let from : before_change o t old ≡ y = before_change_known o t old table ∙ sym is in
    let whole : set new at z ≡ changed f o t old = ap (λ e. set new at e) (made ∙ ap f is) ∙ change f in
    record {
      table = whole;
      ordered = subst IsTable (sym whole) (table_changed f names o t old table);
      stays = λ h. ap live whole ∙ live_stays_at f o t old y from (ap live_event (sym made) ∙ h);
      shows = λ h. ap live_event made ∙ live_shows_at f o t old y from (ap live (sym whole) ∙ h);
    }
