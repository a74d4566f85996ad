-- The sources of a program's ports: one a port, and each is a port.
use Rattle.std.proofs.Common.{◌≡◌, ℕ, ◌+◌, ◌<◌, ◌≤◌, List, [], ◌∷◌, length, map, nat_lt, ◌==◌, ◌&&◌, arith, IsTrue, refl, sym, ◌∙◌, subst, inl, inr, is_none}
use Rattle.std.specs.List.{list_all}
use Rattle.std.proofs.lemmas.Bool.{cases_Bool, and_parts, and_from, lt-ltb, cond-true, cond-false}
use Rattle.std.proofs.lemmas.List.{length-map}
use Rattle.warp_step.specs.Program.{Program}
use Rattle.warp_step.specs.Step.{numbers, source_of, sources_of}
use Rattle.warp_step.specs.Valid.{is_valid, link_fits}
use Rattle.warp_step.specs.declared.parts.Link.{Link}
use Rattle.warp_step.specs.declared.parts.Port.{Port}
use Rattle.warp_step.proofs.ValidLemmas.{link_source, validity}

-- the source of a port is a port
source_within : (P : Program) (links : List Link) (port : ℕ) → IsTrue (list_all (link_fits P) links) → port < length P.ports → source_of links port < length P.ports
source_within P [] port h lt = lt
source_within P (l ∷ ls) port h lt =
    let both = and_parts (link_fits P l) (list_all (link_fits P) ls) h in
    let leads = is_none l.delay && l.target == port in
    elim (cases_Bool leads) [
      | inl here ↦ subst (λ (n : ℕ). n < length P.ports) (sym (cond-true leads l.source (source_of ls port) here)) (link_source P l both.0)
      | inr there ↦ subst (λ (n : ℕ). n < length P.ports) (sym (cond-false leads l.source (source_of ls port) there)) (source_within P ls port both.1 lt)
    ]

length-numbers : {X : Type 0} (n : ℕ) (xs : List X) → length (numbers n xs) ≡ length xs
length-numbers n [] = refl
length-numbers n (x ∷ xs) = let rest : length (numbers (n + 1) xs) ≡ length xs = length-numbers (n + 1) xs in omega arith

sources_from : (P : Program) (n : ℕ) (ports : List Port) → IsTrue (list_all (link_fits P) P.links) → n + length ports ≤ length P.ports
    → IsTrue (list_all (λ p. nat_lt p (length P.ports)) (map (source_of P.links) (numbers n ports)))
sources_from P n [] h few = refl
sources_from P n (p ∷ ps) h few =
    let own : source_of P.links n < length P.ports = source_within P P.links n h (omega arith) in
    and_from _ _ (lt-ltb _ _ own) (sources_from P (n + 1) ps h (omega arith))

-- one source a port
pub length-sources_of : (P : Program) → length (sources_of P) ≡ length P.ports
length-sources_of P = length-map (numbers 0 P.ports) (source_of P.links) ∙ length-numbers 0 P.ports

-- each source is a port
pub sources_within : (P : Program) → IsTrue (is_valid P) → IsTrue (list_all (λ p. nat_lt p (length P.ports)) (sources_of P))
sources_within P h = sources_from P 0 P.ports (validity P h).links (omega arith)
