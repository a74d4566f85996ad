-- Targets, each once: what holds of all of them, and which are among them.
use Rattle.std.proofs.Common.{◌≡◌, Bool, true, false, ◌&&◌, ◌==◌, List, [], ◌∷◌, ◌++◌, map, ap₂, sym, subst, ◌∙◌, refl, inl, inr, bytes_eq, eqb-true, eq-eqb}
use Rattle.std.specs.List.{list_all}
use Rattle.std.proofs.lemmas.Bool.{true≢false, and_from, and_parts, or_cases, or_left, or_right, cond_both}
use Rattle.std.proofs.lemmas.List.Folds.{list_all-append, list_any-append}
use Rattle.std.proofs.lemmas.Slice.Eq.{bytes_eq-Decides}
use Rattle.warp_body.specs.Presence.{is_target, kind_of, number_of}
use Rattle.warp_body.specs.Codes.{target_at, target_at-own}
use Rattle.warp_body.specs.declared.place.Target.{Target}
use Rattle.warp_step.specs.Valid.{names}
use Rattle.warp_prog.specs.File.{Word}
use Rattle.warp_prog.specs.Uses.{is_among}
use Rattle.warp_prog.specs.Numbered.{once, once_after}

-- targets that are the same are one
pub same_target : (s t : Target) → is_target s t ≡ true → s ≡ t
same_target s t h =
    let parts = and_parts (kind_of s == kind_of t) (number_of s == number_of t) h in
    sym (target_at-own s) ∙ ap₂ target_at (eqb-true (kind_of s) (kind_of t) parts.0) (eqb-true (number_of s) (number_of t) parts.1) ∙ target_at-own t

pub own_target : (t : Target) → is_target t t ≡ true
own_target t = and_from (kind_of t == kind_of t) (number_of t == number_of t) (eq-eqb (kind_of t) (kind_of t) refl) (eq-eqb (number_of t) (number_of t) refl)

-- names that are the same are one
pub same_name : (a b : Word) → bytes_eq a b ≡ true → a ≡ b
same_name a b h = (bytes_eq-Decides a b).0 h

pub own_name : (a : Word) → bytes_eq a a ≡ true
own_name a = (bytes_eq-Decides a a).1 refl

-- what holds of all that were seen and of all targets holds of each, once
pub once-all : (q : Target → Bool) (ts seen : List Target) → list_all q seen ≡ true → list_all q ts ≡ true → list_all q (once_after seen ts) ≡ true
once-all q [] seen a h = a
once-all q (t ∷ ts) seen a h =
    let parts = and_parts (q t) (list_all q ts) h in
    once-all q ts _
    (cond_both (names seen t) seen (seen ++ t ∷ []) (λ xs. list_all q xs ≡ true) (λ e. a)
    (λ e. list_all-append q seen (t ∷ []) ∙ and_from (list_all q seen) (q t && true) a (and_from (q t) true parts.0 refl)))
    parts.1

-- a target that was seen stays
pub once-seen : (s : Target) (ts seen : List Target) → names seen s ≡ true → names (once_after seen ts) s ≡ true
once-seen s [] seen h = h
once-seen s (t ∷ ts) seen h =
    once-seen s ts _
    (cond_both (names seen t) seen (seen ++ t ∷ []) (λ xs. names xs s ≡ true) (λ e. h)
    (λ e. list_any-append (is_target s) seen (t ∷ []) ∙ or_left (names seen s) (names (t ∷ []) s) h))

-- a target that is listed is there
pub once-listed : (s : Target) (ts seen : List Target) → names ts s ≡ true → names (once_after seen ts) s ≡ true
once-listed s [] seen h = absurd (true≢false (sym h))
once-listed s (t ∷ ts) seen h =
    elim (or_cases (is_target s t) (names ts s) h) [
      | inl first ↦
          once-seen s ts _
          (cond_both (names seen t) seen (seen ++ t ∷ []) (λ xs. names xs s ≡ true)
          (λ e. subst (λ u. names seen u ≡ true) (sym (same_target s t first)) e)
          (λ e. list_any-append (is_target s) seen (t ∷ []) ∙ or_right (names seen s) (names (t ∷ []) s) (or_left (is_target s t) false first)))
      | inr later ↦ once-listed s ts _ later
    ]

-- what a listed name stands for is among what all of them stand for
pub among-map : (g : Word → Target) (name : Word) (ns : List Word) → is_among ns name ≡ true → names (map g ns) (g name) ≡ true
among-map g name [] h = absurd (true≢false (sym h))
among-map g name (n ∷ ns) h =
    elim (or_cases (bytes_eq name n) (is_among ns name) h) [
      | inl here ↦ or_left _ _ (subst (λ m. is_target (g name) (g m) ≡ true) (same_name name n here) (own_target (g name)))
      | inr there ↦ or_right (is_target (g name) (g n)) _ (among-map g name ns there)
    ]

-- and so once each
pub once-among : (g : Word → Target) (name : Word) (ns : List Word) → is_among ns name ≡ true → names (once (map g ns)) (g name) ≡ true
once-among g name ns h = once-listed (g name) (map g ns) [] (among-map g name ns h)

-- what holds of what any name stands for holds of each
pub once-every : (q : Target → Bool) (g : Word → Target) (ok : Word → Bool) → ((name : Word) → ok name ≡ true → q (g name) ≡ true) → (ns : List Word) →
    list_all ok ns ≡ true → list_all q (once (map g ns)) ≡ true
once-every q g ok f ns h = once-all q (map g ns) [] refl (every ns h)
  where
    every : (ns : List Word) → list_all ok ns ≡ true → list_all q (map g ns) ≡ true
    every [] h = refl
    every (n ∷ ns) h = let parts = and_parts (ok n) (list_all ok ns) h in and_from (q (g n)) (list_all q (map g ns)) (f n parts.0) (every ns parts.1)
