-- What steps of a journal come to: the limit is said by one of them, and only grows.
use Rattle.std.proofs.Common.{◌≡◌, ◌⊎◌, ◌∙◌, ℕ, ◌≤◌, Bool, true, false, List, [], ◌∷◌, refl, sym, subst, inl, inr, arith}
use Rattle.std.specs.Prelude.{if◌then◌else◌, max, nat_le}
use Rattle.warp_service.specs.declared.lengths.Tells.{Tells}
use Rattle.warp_service.specs.declared.lengths.Tells.TheVariants.{All, Written, Synced}
use Rattle.warp_service.specs.Lengths.{IsSaid, LengthStep, LengthsState, Says, after_step, after_steps, is_trusted, limit_of, longest, replaced_by}
use Rattle.warp_service.specs.Lengths.LengthStep.{Wrote, Brought, Waited, Failing, Replaced, Failed}

max_is : (a b : ℕ) → (max a b ≡ a) ⊎ (max a b ≡ b)
max_is a b = grind arith

more : (b : Bool) (a c : ℕ) → a ≤ (if b then max a c else a)
more true a c = omega arith
more false a c = omega arith

trusted : (file : ℕ) (l : LengthsState) → is_trusted file l ≡ true → (file ≡ l.file) × (l.failing ≡ false)
trusted file l h = grind (h, arith)

written_by : (t : Tells) (b : Bool) (w s c : ℕ) → (longest t (if b then max w c else w) s ≡ longest t w s)
    ⊎ ((t ≡ Written) × (b ≡ true) × (c ≡ longest t (if b then max w c else w) s))
written_by All b w s c = inl refl
written_by Synced b w s c = inl refl
written_by Written false w s c = inl refl
written_by Written true w s c = elim (max_is w c) [ inl e ↦ inl e | inr e ↦ inr (refl, refl, sym e) ]

synced_by : (t : Tells) (b : Bool) (w s c : ℕ) → (longest t (if b then max w c else w) (if b then max s c else s) ≡ longest t w s)
    ⊎ ((b ≡ true) × (c ≡ longest t (if b then max w c else w) (if b then max s c else s)))
synced_by t false w s c = inl refl
synced_by All true w s c = inl refl
synced_by Written true w s c = elim (max_is w c) [ inl e ↦ inl e | inr e ↦ inr (refl, sym e) ]
synced_by Synced true w s c = elim (max_is s c) [ inl e ↦ inl e | inr e ↦ inr (refl, sym e) ]

fresh_by : (t : Tells) (c w s : ℕ) → (longest t c c ≡ longest t w s) ⊎ (c ≡ longest t c c)
fresh_by All c w s = inl refl
fresh_by Written c w s = inr refl
fresh_by Synced c w s = inr refl

said_fresh : (b : Bool) (file count : ℕ) (l : LengthsState) → let l' = (if b then replaced_by file count l else l) in
    (limit_of l' ≡ limit_of l) ⊎ (count ≡ limit_of l')
said_fresh true file count l = fresh_by l.tells count l.written l.synced
said_fresh false file count l = inl refl

said_step : (step : LengthStep) (l : LengthsState) →
    (limit_of (after_step step l) ≡ limit_of l) ⊎ Says (limit_of (after_step step l)) step l
said_step (Wrote file count) l = elim (written_by l.tells (is_trusted file l) l.written l.synced count)
    [ inl e ↦ inl e | inr h ↦ inr (h.0, (trusted file l h.1).0, (trusted file l h.1).1, h.2) ]
said_step (Brought file count) l = elim (synced_by l.tells (is_trusted file l) l.written l.synced count)
    [ inl e ↦ inl e | inr h ↦ inr ((trusted file l h.0).0, (trusted file l h.0).1, h.1) ]
said_step (Waited file since) l = inl refl
said_step Failing l = inl refl
said_step (Replaced file count) l = said_fresh (nat_le (limit_of l) count) file count l
said_step Failed l = inl refl

pub said : (steps : List LengthStep) (l : LengthsState) →
    (limit_of (after_steps steps l) ≡ limit_of l) ⊎ IsSaid (limit_of (after_steps steps l)) steps l
said [] l = inl refl
said (step ∷ steps) l = elim (said steps (after_step step l)) [
  | inr later ↦ inr (inr later)
  | inl same ↦ elim (said_step step l) [
    | inl e ↦ inl (same ∙ e)
    | inr says ↦ inr (inl (subst (λ n. Says n step l) (sym same) says))
  ]
]

both : (b : Bool) (w s c : ℕ) → s ≤ w → (if b then max s c else s) ≤ (if b then max w c else w)
both true w s c h = omega (arith, h)
both false w s c h = h

wrote_more : (b : Bool) (w s c : ℕ) → s ≤ w → s ≤ (if b then max w c else w)
wrote_more true w s c h = omega (arith, h)
wrote_more false w s c h = h

fresh_both : (b : Bool) (file count : ℕ) (l : LengthsState) → l.synced ≤ l.written → let l' = (if b then replaced_by file count l else l) in
    l'.synced ≤ l'.written
fresh_both true file count l h = omega arith
fresh_both false file count l h = h

synced_step : (step : LengthStep) (l : LengthsState) → l.synced ≤ l.written → (after_step step l).synced ≤ (after_step step l).written
synced_step (Wrote file count) l h = wrote_more (is_trusted file l) l.written l.synced count h
synced_step (Brought file count) l h = both (is_trusted file l) l.written l.synced count h
synced_step (Waited file since) l h = h
synced_step Failing l h = h
synced_step (Replaced file count) l h = fresh_both (nat_le (limit_of l) count) file count l h
synced_step Failed l h = h

pub synced_all : (steps : List LengthStep) (l : LengthsState) → l.synced ≤ l.written →
    (after_steps steps l).synced ≤ (after_steps steps l).written
synced_all [] l h = h
synced_all (step ∷ steps) l h = synced_all steps (after_step step l) (synced_step step l h)

grows_by : (t : Tells) (w s w' s' : ℕ) → w ≤ w' → s ≤ s' → longest t w s ≤ longest t w' s'
grows_by All w s w' s' a b = omega arith
grows_by Written w s w' s' a b = a
grows_by Synced w s w' s' a b = b

fresh_grows : (t : Tells) (w s c : ℕ) → longest t w s ≤ c → longest t w s ≤ longest t c c
fresh_grows All w s c h = omega arith
fresh_grows Written w s c h = h
fresh_grows Synced w s c h = h

le_of : (a b : ℕ) → nat_le a b ≡ true → a ≤ b
le_of a b h = grind (h, arith)

grows_fresh : (b : Bool) (file count : ℕ) (l : LengthsState) → nat_le (limit_of l) count ≡ b →
    limit_of l ≤ limit_of (if b then replaced_by file count l else l)
grows_fresh true file count l h = fresh_grows l.tells l.written l.synced count (le_of (limit_of l) count h)
grows_fresh false file count l h = omega arith

grows_step : (step : LengthStep) (l : LengthsState) → limit_of l ≤ limit_of (after_step step l)
grows_step (Wrote file count) l = grows_by l.tells l.written l.synced _ l.synced (more (is_trusted file l) l.written count) (omega arith)
grows_step (Brought file count) l =
    grows_by l.tells l.written l.synced _ _ (more (is_trusted file l) l.written count) (more (is_trusted file l) l.synced count)
grows_step (Waited file since) l = omega arith
grows_step Failing l = omega arith
grows_step (Replaced file count) l = grows_fresh (nat_le (limit_of l) count) file count l refl
grows_step Failed l = omega arith

pub grows : (steps : List LengthStep) (l : LengthsState) → limit_of l ≤ limit_of (after_steps steps l)
grows [] l = omega arith
grows (step ∷ steps) l = omega (arith, grows_step step l, grows steps (after_step step l))
