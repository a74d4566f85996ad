-- Why a file that was read is refused, and what its version says.
use Rattle.std.proofs.Common.{◌≡◌, ◌⊎◌, ℕ, ℤ, pos, negsuc, ◌<◌, ◌^◌, sym, Bool, true, false, ◌&&◌, ◌||◌, ◌==◌, List, length, Some, inl, inr, refl, ap, ap₂, subst, ◌∙◌, nat_lt, ne_eqb, arith}
use Rattle.std.specs.Ordering.{int_eq}
use Rattle.std.proofs.lemmas.Bool.{or_parts, or_from, and_left, and_right, true≢false, ltb-false, cond-true, cond-false, cases_order}
use Rattle.std.proofs.lemmas.Bool.Decides.{Decides-int_eq}
use Rattle.std.proofs.lemmas.List.{length-map}
use Rattle.warp_tag.specs.Limits.{longest_stop, most_origins}
use Rattle.warp_tag.proofs.Forms.{reactions_widen}
use Rattle.warp_prog.specs.File.{File}
use Rattle.warp_prog.specs.Exceeds.{exceeds_limits}
use Rattle.warp_prog.specs.Limits.{file_form, is_outside}
use Rattle.warp_prog.specs.Version.{first_version, second_version, third_version, last_version}
use Rattle.warp_prog.specs.Numbered.{is_first_version, numbered, unordered, its_reactions, file_front}
use Rattle.warp_prog.specs.Load.{IsFirst, lacks_order}
use Rattle.warp_prog.specs.Undeclared.{is_undeclared}
use Rattle.warp_prog.specs.inner.Cause.{IsNamed}
use Rattle.warp_step.specs.Program.{Program}
use Rattle.warp_step.specs.Order.{file_order}
use Rattle.warp_prog.specs.Backward.{leads_back}
use Rattle.warp_prog.specs.Order.{loader_order, has_no_order}
use Rattle.warp_prog.proofs.OrderLemmas.{short-order}
use Rattle.warp_prog.proofs.Eachs.{length-each}
use Rattle.warp_prog.proofs.RoomLemmas.{limits_kept, totals_kept}

-- there are few reactions
pub few_reactions : (f : File) → exceeds_limits f ≡ false → length (unordered f).reactions < 2 ^ 32
few_reactions f h =
    let form = file_form f in
    let few = (totals_kept form f.reactors (limits_kept f h).totals).reactions in
    let wide = reactions_widen form in
    let size = length-each its_reactions (λ r. length r.reactions) (λ b r. length-map r.reactions _) f.reactors (file_front f) in
    omega (arith, few, wide, size)

-- a file within the limits is of the first version, of the second, of the third or of the last
first-number : (n : ℤ) → int_eq n (pos first_version) ≡ true → n ≡ pos first_version
first-number n h = (Decides-int_eq n (pos first_version)).0 h

later-number : (n : ℤ) → is_outside (pos first_version) (pos last_version) n ≡ false → int_eq n (pos first_version) ≡ false
    → (n ≡ pos second_version) ⊎ ((n ≡ pos third_version) ⊎ (n ≡ pos last_version))
later-number (pos n) h e =
    let parts = or_parts (nat_lt n 1) (nat_lt 4 n) h in
    let low = ltb-false n 1 parts.0 in
    let high = ltb-false 4 n parts.1 in
    elim (cases_order n 2) [
      | inl same ↦ inl (ap pos same)
      | inr (inl less) ↦
          (let one : n ≡ 1 = omega (arith, low, less) in
          absurd (true≢false (sym ((Decides-int_eq (pos n) (pos 1)).1 (ap pos one)) ∙ e)))
      | inr (inr more) ↦ inr (elim (cases_order n 3) [
        | inl same ↦ inl (ap pos same)
        | inr (inl less) ↦ absurd (omega (arith, more, less))
        | inr (inr past) ↦
            (let four : n ≡ 4 = omega (arith, high, past) in
            inr (ap pos four))
      ])
    ]
later-number (negsuc n) h e = absurd (true≢false h)

pub first_version-is : (f : File) → is_first_version f ≡ true → f.version ≡ pos first_version
first_version-is f h = first-number f.version h

pub later_version-is : (f : File) → exceeds_limits f ≡ false → is_first_version f ≡ false →
    (f.version ≡ pos second_version) ⊎ ((f.version ≡ pos third_version) ⊎ (f.version ≡ pos last_version))
later_version-is f h e =
    let numbers = or_parts (is_outside (pos first_version) (pos last_version) f.version || is_outside (pos 0) (pos (longest_stop (file_form f))) f.stop)
    (is_outside (pos 1) (pos (most_origins (file_form f))) f.origins) (limits_kept f h).numbers in
    later-number f.version (or_parts (is_outside (pos first_version) (pos last_version) f.version) (is_outside (pos 0) (pos (longest_stop (file_form f))) f.stop) numbers.0).0 e

-- its fault of order is its first, and a use that is not declared where its reactions have an order
none-of : (j : ℕ) (a b c d e : Bool) → a ≡ false → b ≡ false → c ≡ false → (j == 6 && d) ≡ false → (j == 7 && e) ≡ false →
    ((j == 3 && a) || (j == 4 && b) || (j == 5 && c) || (j == 6 && d) || (j == 7 && e)) ≡ false
none-of j a b c d e ha hb hc hd he =
    or_from _ _ (or_from _ _ (or_from _ _ (or_from _ _ (and_right (j == 3) a ha) (and_right (j == 4) b hb)) (and_right (j == 5) c hc)) hd) he

pub order_first : (f : File) → IsNamed f → lacks_order f ≡ true → IsFirst (Some f) 6
order_first f h e = (
  or_left-here (lacks_order f) (is_undeclared f) e,
  λ j l. none-of j _ _ _ (lacks_order f) (is_undeclared f) h.limits h.names h.twice
      (and_left (j == 6) (lacks_order f) (ne_eqb j 6 (λ s. omega arith))) (and_left (j == 7) (is_undeclared f) (ne_eqb j 7 (λ s. omega arith))),
)
  where
    or_left-here : (d e : Bool) → d ≡ true → (d || false) ≡ true
    or_left-here true e s = refl
    or_left-here false e s = absurd (true≢false (sym s))

pub undeclared_first : (f : File) → IsNamed f → lacks_order f ≡ false → is_undeclared f ≡ true → IsFirst (Some f) 7
undeclared_first f h e u = (
  u,
  λ j l. none-of j _ _ _ (lacks_order f) (is_undeclared f) h.limits h.names h.twice
      (and_right (j == 6) (lacks_order f) e) (and_left (j == 7) (is_undeclared f) (ne_eqb j 7 (λ s. omega arith))),
)

-- the numbered parts with their order
pub few_parts : (f : File) (P : Program) → P ≡ unordered f → exceeds_limits f ≡ false → length P.reactions < 2 ^ 32
few_parts f P e h = subst (λ (Q : Program). length Q.reactions < 2 ^ 32) (sym e) (few_reactions f h)

pub first_parts : (f : File) (P : Program) (o : List ℕ) → P ≡ unordered f → is_first_version f ≡ true → o ≡ file_order P →
    record P { order = o } ≡ numbered f
first_parts f P o e v h =
    ap₂ (λ (Q : Program) (ns : List ℕ). record Q { order = ns }) e
    (h ∙ ap file_order e ∙ sym (cond-true (is_first_version f) (file_order (unordered f)) (loader_order (unordered f)) v))

pub second_parts : (f : File) (P : Program) (o : List ℕ) → P ≡ unordered f → is_first_version f ≡ false → o ≡ loader_order P →
    record P { order = o } ≡ numbered f
second_parts f P o e v h =
    ap₂ (λ (Q : Program) (ns : List ℕ). record Q { order = ns }) e
    (h ∙ ap loader_order e ∙ sym (cond-false (is_first_version f) (file_order (unordered f)) (loader_order (unordered f)) v))

-- what is asked of the order by each version
pub first_lacks : (f : File) → is_first_version f ≡ true → lacks_order f ≡ leads_back f
first_lacks f v = cond-true (is_first_version f) (leads_back f) (has_no_order (unordered f)) v

pub second_lacks : (f : File) (P : Program) (o : List ℕ) (n : ℕ) → P ≡ unordered f → is_first_version f ≡ false → o ≡ loader_order P →
    n ≡ length P.reactions → lacks_order f ≡ nat_lt (length o) n
second_lacks f P o n e v h k =
    cond-false (is_first_version f) (leads_back f) (has_no_order (unordered f)) v
    ∙ sym (ap has_no_order e) ∙ sym (short-order P) ∙ sym (ap₂ (λ (ns : List ℕ) (m : ℕ). nat_lt (length ns) m) h k)
