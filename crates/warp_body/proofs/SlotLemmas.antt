-- Places, each with the moment at which its value was put there.
use Rattle.std.proofs.Common.{Option, subst, sym, ◌==◌, ◌&&◌, nat_lt, ◌≡◌, ℕ, ℤ, zero, suc, ◌<◌, IsTrue, List, [], ◌∷◌, length, set, replicate, refl, ap, ◌∙◌, arith, None, Some, nat_le}
use Rattle.std.proofs.lemmas.Bool.Decides.{nat_tests}
use Rattle.std.proofs.lemmas.List.{map-set, length-map}
use Rattle.std.specs.List.{list_all}
use Rattle.warp_tag.specs.Moment.{Moment}
use Rattle.warp_body.specs.declared.slots.Slot.{Slot}
use Rattle.warp_body.specs.inner.Slots.{empty, slot, slots, are_past, presence_at}
use Rattle.warp_body.specs.Presence.{places_of, nothing_present, are_sources}

slot_now : (m : ℕ) (v : ℤ) → slot m (record { stamp = m; value = v }) ≡ Some v
slot_now m v = grind (arith, nat_tests)

-- a value that was put before a later moment is absent then
pub slot_past : (m n : ℕ) (s : Slot) → IsTrue (nat_le s.stamp m) → m < n → slot n s ≡ None
slot_past m n s h lt = grind (arith, nat_tests)

-- a place that is written is present with the value
pub slots_set : (m : ℕ) (ps : List Slot) (n : ℕ) (v : ℤ) → slots m (set ps n (record { stamp = m; value = v })) ≡ set (slots m ps) n (Some v)
slots_set m ps n v = map-set (slot m) ps n (record { stamp = m; value = v }) ∙ ap (λ o. set (slots m ps) n o) (slot_now m v)

-- and it was put there at no later moment
pub past_set : (m : ℕ) (ps : List Slot) (n : ℕ) (v : ℤ) → IsTrue (are_past m ps) → IsTrue (are_past m (set ps n (record { stamp = m; value = v })))
past_set m [] n v h = h
past_set m (p ∷ ps) zero v h = grind (arith, nat_tests)
past_set m (p ∷ ps) (suc n) v h = let rest = past_set m ps n v in grind (arith, nat_tests)

-- at a later moment all are absent
pub slots_later : (m n : ℕ) (ps : List Slot) → IsTrue (are_past m ps) → m < n → slots n ps ≡ replicate (length ps) None
slots_later m n [] h lt = refl
slots_later m n (p ∷ ps) h lt = let here = slot_past m n p in let rest = slots_later m n ps in grind (arith, nat_tests)

pub past_later : (m n : ℕ) (ps : List Slot) → IsTrue (are_past m ps) → m < n → IsTrue (are_past n ps)
past_later m n [] h lt = refl
past_later m n (p ∷ ps) h lt = let rest = past_later m n ps in grind (arith, nat_tests)

-- places where nothing was put
pub past_empty : (m n : ℕ) → IsTrue (are_past m (replicate n empty))
past_empty m zero = refl
past_empty m (suc n) = let rest = past_empty m n in grind (arith, nat_tests)

pub slots_empty : (n : ℕ) → slots 1 (replicate n empty) ≡ replicate n None
slots_empty zero = refl
slots_empty (suc n) = ap (λ rest. None ∷ rest) (slots_empty n)

pub past_emptied : (m n : ℕ) (ps : List Slot) → ps ≡ replicate n empty → IsTrue (are_past m ps)
past_emptied m n ps is = subst (λ (qs : List Slot). IsTrue (are_past m qs)) (sym is) (past_empty m n)

pub slots_emptied : (n : ℕ) (ps : List Slot) → ps ≡ replicate n empty → slots 1 ps ≡ replicate n None
slots_emptied n ps is = ap (slots 1) is ∙ slots_empty n

-- sources of so many ports are those of as many other ports
pub sources_same : (old new : List (Option ℤ)) (sources : List ℕ)
    → length old ≡ length new → IsTrue (are_sources old sources) → IsTrue (are_sources new sources)
sources_same old new sources same h =
    subst (λ (n : ℕ). IsTrue (length sources == n && list_all (λ p. nat_lt p n) sources)) same h

-- so many sources that are below their number are those of so many ports
pub sources_fit : (n : ℕ) (ports : List (Option ℤ)) (sources : List ℕ) → length ports ≡ n → length sources ≡ n
    → IsTrue (list_all (λ p. nat_lt p n) sources) → IsTrue (are_sources ports sources)
sources_fit n ports sources count same below =
    let all : IsTrue (length sources == n && list_all (λ p. nat_lt p n) sources) = grind (arith, nat_tests) in
    subst (λ (k : ℕ). IsTrue (length sources == k && list_all (λ p. nat_lt p k) sources)) (sym count) all

-- at a later moment as many as there are of them are absent
none_as_many : (m n : ℕ) (ps : List Slot) → IsTrue (are_past m ps) → m < n → slots n ps ≡ replicate (length (slots m ps)) None
none_as_many m n ps h lt = slots_later m n ps h lt ∙ ap (λ (k : ℕ). replicate k None) (sym (length-map ps (slot m)))

-- and nothing is present
pub none_later : (tag : Moment) (m n : ℕ) (startup : Slot) (timers actions ports : List Slot) (sources : List ℕ)
    → IsTrue (nat_le startup.stamp m) → IsTrue (are_past m timers) → IsTrue (are_past m actions) → IsTrue (are_past m ports) → m < n
    → presence_at tag n startup timers actions ports sources ≡ nothing_present tag (places_of (presence_at tag m startup timers actions ports sources)) sources
none_later tag m n startup timers actions ports sources hs ht ha hp lt =
    let s = slot_past m n startup hs lt in
    let t = none_as_many m n timers ht lt in
    let a = none_as_many m n actions ha lt in
    let p = none_as_many m n ports hp lt in
    λ i. record { tag = tag; startup = s i; timers = t i; actions = a i; ports = p i; sources = sources }

-- and in empty places neither
pub none_empty : (tag : Moment) (nt na np : ℕ) (startup : Slot) (timers actions ports : List Slot) (sources : List ℕ)
    → startup ≡ empty → timers ≡ replicate nt empty → actions ≡ replicate na empty → ports ≡ replicate np empty
    → presence_at tag 1 startup timers actions ports sources ≡ nothing_present tag (record { timers = nt; actions = na; ports = np }) sources
none_empty tag nt na np startup timers actions ports sources es et ea ep =
    let s : slot 1 startup ≡ None = ap (slot 1) es in
    let t = slots_emptied nt timers et in
    let a = slots_emptied na actions ea in
    let p = slots_emptied np ports ep in
    λ i. record { tag = tag; startup = s i; timers = t i; actions = a i; ports = p i; sources = sources }
