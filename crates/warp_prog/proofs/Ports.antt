-- The ports that references name: where they stand, of which reactor they are, and that no two references name one.
use Rattle.std.proofs.Common.{◌≡◌, ℕ, zero, suc, ◌+◌, Bool, true, false, not, ◌&&◌, ◌||◌, ◌==◌, List, [], ◌∷◌, ◌++◌, length, map, drop, ap, ap₂, sym, subst, subst₂, ◌∙◌, refl, inl, inr, bytes_eq, length-append, eq-eqb, eqb-true, add_assoc, add-zero, slice_get}
use Rattle.std.specs.Bool.{if◌then◌else◌}
use Rattle.std.specs.List.{list_any}
use Rattle.std.specs.Option.{option_map_or}
use Rattle.std.proofs.lemmas.Bool.{cases_Bool, true≢false, and_from, and_parts, or_parts, or_cases, or_from, cond-true, cond-false}
use Rattle.std.proofs.lemmas.List.{length-map, map-append}
use Rattle.std.proofs.lemmas.Simd.{map-map}
use Rattle.warp_step.specs.Program.{Program}
use Rattle.warp_step.specs.Valid.{has, reactor_of}
use Rattle.warp_step.specs.declared.parts.Port.{Port}
use Rattle.warp_prog.specs.File.{Word, ReactorPart}
use Rattle.warp_prog.specs.Backward.{place}
use Rattle.warp_prog.specs.Twice.{repeats, same_port}
use Rattle.warp_prog.specs.Uses.{is_among}
use Rattle.warp_prog.specs.Numbered.{past, in_each, its_ports, place_among, input_number, output_number, port_number}
use Rattle.warp_prog.specs.declared.file.PortName.{PortName}
use Rattle.warp_prog.specs.declared.scope.Before.{Before}
use Rattle.warp_prog.proofs.Has.{drop-past, has-first, has-second, has-less, has-both, has-fact}
use Rattle.warp_prog.proofs.Stands.{has-left}
use Rattle.warp_prog.proofs.OnceLemmas.{same_name, own_name}
use Rattle.warp_prog.proofs.Distinct.{apart-first}

-- a port with the reference that names it
pub record NamedPort : Type 0 where
  pub port : Port
  pub at : PortName

abbrev pub named : Before → ReactorPart → Bool → Word → NamedPort
named b r kind name = record { port = record { reactor = b.reactors; is_input = kind }; at = record { reactor = r.name; port = name } }

abbrev pub its_named : Before → ReactorPart → List NamedPort
its_named b r = map (named b r true) r.inputs ++ map (named b r false) r.outputs

length-named : (b : Before) (r : ReactorPart) → length (its_named b r) ≡ length r.inputs + length r.outputs
length-named b r = simp (length-append, length-map)

map-each : (f : NamedPort → Port) (b : Before) (rs : List ReactorPart) → ((b : Before) (r : ReactorPart) → map f (its_named b r) ≡ its_ports b r) →
    map f (in_each its_named b rs) ≡ in_each its_ports b rs
map-each f b [] e = refl
map-each f b (r ∷ rs) e = map-append f (its_named b r) (in_each its_named (past b r) rs) ∙ ap₂ (λ x y. x ++ y) (e b r) (map-each f (past b r) rs e)

-- the ports are those that references name
pub ports-named : (b : Before) (rs : List ReactorPart) → map (λ e. e.port) (in_each its_named b rs) ≡ in_each its_ports b rs
ports-named b rs = map-each (λ e. e.port) b rs (λ b r. simp (map-append, map-map))

-- ports do not depend on where cells are numbered
pub ports-alike : (rs : List ReactorPart) (b c : Before) → b.reactors ≡ c.reactors → in_each its_ports b rs ≡ in_each its_ports c rs
ports-alike [] b c same = refl
ports-alike (r ∷ rs) b c same =
    ap₂ (λ xs ys. xs ++ ys)
    (ap (λ k. map (λ (n : Word). record { reactor = k; is_input = true }) r.inputs ++ map (λ (n : Word). record { reactor = k; is_input = false }) r.outputs) same)
    (ports-alike rs (past b r) (past c r) (ap (λ k. k + 1) same))

-- what the first of these reactors that has a name passes
abbrev pub at-first : (ReactorPart → Bool) → List ReactorPart → Word → Bool
at-first t [] name = false
at-first t (r ∷ rs) name = if bytes_eq name r.name then t r else at-first t rs name

unnamed : (t : ReactorPart → Bool) (rs : List ReactorPart) (name : Word) → is_among (map (λ r. r.name) rs) name ≡ false →
    list_any (λ r. bytes_eq name r.name && t r) rs ≡ false
unnamed t [] name h = refl
unnamed t (r ∷ rs) name h =
    let parts = or_parts (bytes_eq name r.name) (is_among (map (λ r. r.name) rs) name) h in
    or_from _ _ (ap (λ b. b && t r) parts.0) (unnamed t rs name parts.1)

-- where no two reactors share a name, one that has a name and passes is the first of the name
pub the-first : (t : ReactorPart → Bool) (rs : List ReactorPart) (name : Word) → repeats bytes_eq (map (λ r. r.name) rs) ≡ false →
    list_any (λ r. bytes_eq name r.name && t r) rs ≡ true → at-first t rs name ≡ true
the-first t [] name d h = h
the-first t (r ∷ rs) name d h =
    let apart = apart-first bytes_eq r.name (map (λ r. r.name) rs) (own_name r.name) d in
    elim (cases_Bool (bytes_eq name r.name)) [
      | inl so ↦ cond-true (bytes_eq name r.name) (t r) (at-first t rs name) so
          ∙ elim (or_cases (bytes_eq name r.name && t r) (list_any (λ r. bytes_eq name r.name && t r) rs) h) [
            | inl here ↦ (and_parts (bytes_eq name r.name) (t r) here).1
            | inr there ↦ absurd (true≢false (sym there
                ∙ unnamed t rs name (subst (λ n. is_among (map (λ r. r.name) rs) n ≡ false) (sym (same_name name r.name so)) apart.0)))
          ]
      | inr not_so ↦ cond-false (bytes_eq name r.name) (t r) (at-first t rs name) not_so
          ∙ the-first t rs name apart.1 (sym (ap (λ b. (b && t r) || list_any (λ r. bytes_eq name r.name && t r) rs) not_so) ∙ h)
    ]

-- a port that a reference names, of this kind and of the reactor of this number
abbrev pub is_named : (Bool → Bool) → PortName → ℕ → NamedPort → Bool
is_named kind p k e = same_port p e.at && (kind e.port.is_input && e.port.reactor == k)

-- where these are all named ports after so many, a name of the first reactor has its port
abbrev pub Finds : (Before → ReactorPart → Word → ℕ) → (ReactorPart → List Word) → (Bool → Bool) → Type 0
Finds number its kind = (all : List NamedPort) (b : Before) (r : ReactorPart) (rest : List NamedPort) (p : PortName) →
    drop b.ports all ≡ its_named b r ++ rest → bytes_eq p.reactor r.name ≡ true → is_among (its r) p.port ≡ true →
    has all (number b r p.port) (is_named kind p b.reactors) ≡ true

-- and so has a reference
pub finds-each : (number : Before → ReactorPart → Word → ℕ) (its : ReactorPart → List Word) (kind : Bool → Bool) → Finds number its kind →
    (p : PortName) (all : List NamedPort) (rs : List ReactorPart) (b : Before) → drop b.ports all ≡ in_each its_named b rs →
    at-first (λ r. is_among (its r) p.port) rs p.reactor ≡ true →
    has all (port_number number b rs p) (is_named kind p (b.reactors + place rs p.reactor)) ≡ true
finds-each number its kind here p all [] b e h = absurd (true≢false (sym h))
finds-each number its kind here p all (r ∷ rs) b e h =
    elim (cases_Bool (bytes_eq p.reactor r.name)) [
      | inl so ↦
          (let found : has all (number b r p.port) (is_named kind p b.reactors) ≡ true =
          here all b r (in_each its_named (past b r) rs) p e so
          (sym (cond-true (bytes_eq p.reactor r.name) (is_among (its r) p.port) (at-first (λ r. is_among (its r) p.port) rs p.reactor) so) ∙ h) in
          subst₂ (λ n k. has all n (is_named kind p k) ≡ true)
          (sym (cond-true (bytes_eq p.reactor r.name) (number b r p.port) (port_number number (past b r) rs p) so))
          (sym (ap (λ k. b.reactors + k) (cond-true (bytes_eq p.reactor r.name) 0 (1 + place rs p.reactor) so) ∙ add-zero b.reactors))
          found)
      | inr not_so ↦
          (let found : has all (port_number number (past b r) rs p) (is_named kind p ((b.reactors + 1) + place rs p.reactor)) ≡ true =
          finds-each number its kind here p all rs (past b r)
          (drop-past all (its_named b r) (in_each its_named (past b r) rs) b.ports (length r.inputs + length r.outputs) e (length-named b r))
          (sym (cond-false (bytes_eq p.reactor r.name) (is_among (its r) p.port) (at-first (λ r. is_among (its r) p.port) rs p.reactor) not_so) ∙ h) in
          subst₂ (λ n k. has all n (is_named kind p k) ≡ true)
          (sym (cond-false (bytes_eq p.reactor r.name) (number b r p.port) (port_number number (past b r) rs p) not_so))
          (add_assoc b.reactors 1 (place rs p.reactor) ∙ sym (ap (λ k. b.reactors + k) (cond-false (bytes_eq p.reactor r.name) 0 (1 + place rs p.reactor) not_so)))
          found)
    ]

same : (n : ℕ) → (n == n) ≡ true
same n = eq-eqb n n refl

-- inputs and outputs do
pub finds-input : Finds input_number (λ r. r.inputs) (λ k. k)
finds-input all b r rest p e so h =
    has-left all (its_named b r ++ rest) b.ports (place_among r.inputs p.port) (is_named (λ k. k) p b.reactors) e
    (has-first (named b r true) (named b r false) (is_named (λ k. k) p b.reactors) r.inputs r.outputs rest p.port
    (λ n o. and_from _ _ (and_from _ _ so o) (same b.reactors)) h)

pub finds-output : Finds output_number (λ r. r.outputs) (λ k. not k)
finds-output all b r rest p e so h =
    has-left all (its_named b r ++ rest) b.ports (length r.inputs + place_among r.outputs p.port) (is_named (λ k. not k) p b.reactors) e
    (has-second (named b r true) (named b r false) (is_named (λ k. not k) p b.reactors) r.inputs r.outputs rest p.port
    (λ n o. and_from _ _ (and_from _ _ so o) (same b.reactors)) h)

-- two references to one named port are to the same port
pub one-name : (p q : PortName) (all : List NamedPort) (n : ℕ) → has all n (λ e. same_port p e.at) ≡ true → has all n (λ e. same_port q e.at) ≡ true → same_port p q ≡ true
one-name p q all n h k =
    has-fact (same_port p q) all n
    (has-less (λ e. same_port p e.at && same_port q e.at) (λ e. same_port p q)
    (λ e both. (let ps = and_parts (same_port p e.at) (same_port q e.at) both in
    let first = and_parts (bytes_eq p.reactor e.at.reactor) (bytes_eq p.port e.at.port) ps.0 in
    let second = and_parts (bytes_eq q.reactor e.at.reactor) (bytes_eq q.port e.at.port) ps.1 in
    and_from _ _
    (subst (λ w. bytes_eq p.reactor w ≡ true) (sym (same_name q.reactor e.at.reactor second.0)) first.0)
    (subst (λ w. bytes_eq p.port w ≡ true) (sym (same_name q.port e.at.port second.1)) first.1)))
    all n (has-both (λ e. same_port p e.at) (λ e. same_port q e.at) all n h k))

-- the reactor of a port that is there
pub reactor-is : (P : Program) (n k : ℕ) → has P.ports n (λ p. p.reactor == k) ≡ true → reactor_of P n ≡ k
reactor-is P n k h = by P.ports n h
  where
    by : (ps : List Port) (n : ℕ) → has ps n (λ p. p.reactor == k) ≡ true → option_map_or (λ p. p.reactor) (slice_get ps n) 0 ≡ k
    by [] n h = absurd (true≢false (sym h))
    by (p ∷ ps) zero h = eqb-true p.reactor k h
    by (p ∷ ps) (suc n) h = by ps n h
