-- A walk along places of which one entry changes and keeps its name.
use Rattle.std.proofs.Common.{◌≡◌, ℕ, cond, List, [], ◌∷◌, ap, sym, subst, ◌∙◌, refl, inl, inr, Option, Some, None, IfSome, IsSome, ◌==◌}
use Rattle.std.specs.Option.{is_some, option_map}
use Rattle.std.proofs.lemmas.Bool.{cases_Bool, cases_eq}
use Rattle.warp_tag.specs.Moment.{Moment}
use Rattle.warp_tag.specs.declared.entry.Entry.{Entry}
use Rattle.warp_tag.proofs.Lists.{filter-here, filter-past}
use Rattle.warp_tag.proofs.Tables.{KeepsNames}
use Rattle.warp_step.specs.Run.{is_after}
use Rattle.warp_arena.specs.Places.{Place, Reaches, entry_of, first_node, left_at, places_from, with_change}
use Rattle.warp_arena.proofs.Handles.{entry_of-with_change_other, entry_of-with_change_same}
use Rattle.warp_run.specs.Walk.{ahead}

module _ (f : Entry → Entry) (node : ℕ) where
  -- a place after the change
  abbrev place : Place → Place
  place p = cond (p.node == node) (record { node = p.node; entry = f p.entry }) p

  same_node : (p : Place) → (place p).node ≡ p.node
  same_node p = elim (cases_Bool (p.node == node)) [ inl h ↦ rw h refl | inr h ↦ rw h refl ]

  same_tag : KeepsNames f → (p : Place) → (place p).entry.tag ≡ p.entry.tag
  same_tag names p = elim (cases_Bool (p.node == node)) [ inl h ↦ rw h (names p.entry).1 | inr h ↦ rw h refl ]

  first_changed : (ps : List Place) → first_node (with_change f node ps) ≡ first_node ps
  first_changed [] = refl
  first_changed (p ∷ ps) = ap Some (same_node p)

  from_changed : (m : ℕ) (ps : List Place) → places_from m (with_change f node ps) ≡ with_change f node (places_from m ps)
  from_changed m [] = refl
  from_changed m (p ∷ ps) =
      ap (λ k. cond (k == m) (with_change f node (p ∷ ps)) (places_from m (with_change f node ps))) (same_node p)
      ∙ elim (cases_Bool (p.node == m)) [ inl h ↦ rw h refl | inr h ↦ rw h (from_changed m ps) ]

  left_changed : (at : Option ℕ) (ps : List Place) → left_at at (with_change f node ps) ≡ with_change f node (left_at at ps)
  left_changed None ps = refl
  left_changed (Some m) ps = from_changed m ps

  some_mapped : (o : Option Entry) → is_some (option_map f o) ≡ is_some o
  some_mapped None = refl
  some_mapped (Some e) = refl

  used_changed : (at : Option ℕ) (ps : List Place) → IfSome at (λ m. IsSome (entry_of m ps))
      → IfSome at (λ m. IsSome (entry_of m (with_change f node ps)))
  used_changed None ps h = tt
  used_changed (Some m) ps h = elim (cases_eq m node) [
    | inl same ↦
        subst (λ k. IsSome (entry_of k ps) → IsSome (entry_of k (with_change f node ps))) (sym same)
        (λ k. ap is_some (entry_of-with_change_same f node ps) ∙ some_mapped (entry_of node ps) ∙ k) h
    | inr other ↦ ap is_some (entry_of-with_change_other f node ps m other) ∙ h
  ]

  ahead_changed : KeepsNames f → (last : Option Moment) (ps : List Place) → ahead last (with_change f node ps) ≡ with_change f node (ahead last ps)
  ahead_changed names last [] = refl
  ahead_changed names last (p ∷ ps) =
      let test : is_after last (place p).entry.tag ≡ is_after last p.entry.tag = ap (is_after last) (same_tag names p) in
      elim (cases_Bool (is_after last p.entry.tag)) [
        | inl h ↦
            filter-here (λ q. is_after last q.entry.tag) (place p) (with_change f node ps) (test ∙ h)
            ∙ ap (λ qs. place p ∷ qs) (ahead_changed names last ps)
            ∙ ap (with_change f node) (sym (filter-here (λ q. is_after last q.entry.tag) p ps h))
        | inr h ↦
            filter-past (λ q. is_after last q.entry.tag) (place p) (with_change f node ps) (test ∙ h)
            ∙ ahead_changed names last ps
            ∙ ap (with_change f node) (sym (filter-past (λ q. is_after last q.entry.tag) p ps h))
      ]

  -- a walk that stands at the first place after a tag stands there after the change
  pub ahead_stays : KeepsNames f → (last : Option Moment) (ps : List Place) (at : Option ℕ) → Reaches ps (ahead last ps) at
      → Reaches (with_change f node ps) (ahead last (with_change f node ps)) at
  ahead_stays names last ps at h =
      let rest : ahead last (with_change f node ps) ≡ with_change f node (ahead last ps) = ahead_changed names last ps in
      record {
        handle = h.handle ∙ sym (first_changed (ahead last ps)) ∙ ap first_node (sym rest);
        used = used_changed at ps h.used;
        left = left_changed at ps ∙ ap (with_change f node) h.left ∙ sym rest;
      }
