-- The links, program inputs and program outputs of a file without fault fit its program.
use Rattle.std.proofs.Common.{◌≡◌, ℕ, ℤ, Bool, true, false, not, ◌&&◌, ◌||◌, ◌==◌, Option, Some, None, option_map, is_none, List, ◌++◌, map, ap, ap₂, sym, subst, ◌∙◌, refl, unsigned_abs, bytes_eq, nat_le, nat_lt, zero-add, lt-ltb, leb-false}
use Rattle.std.specs.List.{list_any, list_all}
use Rattle.std.proofs.lemmas.Bool.{and_from, and_parts}
use Rattle.std.proofs.lemmas.List.{map-append}
use Rattle.std.proofs.lemmas.Simd.{map-map}
use Rattle.warp_tag.specs.Limits.{longest_period}
use Rattle.warp_step.specs.Valid.{has, reactor_of, link_fits, leads_on, input_fits, fed, is_distinct}
use Rattle.warp_step.specs.Order.{leads_later}
use Rattle.warp_step.specs.declared.parts.Port.{Port}
use Rattle.warp_prog.specs.File.{Word, File, ReactorPart}
use Rattle.warp_prog.specs.Backward.{place, is_backward}
use Rattle.warp_prog.specs.Limits.{file_form, delay_exceeds, link_exceeds, origin_exceeds}
use Rattle.warp_prog.specs.Names.{is_input, is_output}
use Rattle.warp_prog.specs.Twice.{repeats, same_port, targets}
use Rattle.warp_prog.specs.Uses.{is_among}
use Rattle.warp_prog.specs.Numbered.{file_front, nothing_before, in_each, numbered, numbered_link, numbered_input, input_number, output_number, port_number, source_number, target_number}
use Rattle.warp_prog.specs.declared.file.PortName.{PortName}
use Rattle.warp_prog.specs.declared.file.LinkPart.{LinkPart}
use Rattle.warp_prog.specs.declared.file.InputPart.{InputPart}
use Rattle.warp_prog.proofs.Has.{has-map, has-less}
use Rattle.warp_prog.proofs.OnceLemmas.{own_name}
use Rattle.warp_prog.proofs.Ranges.{in-range, is-origin}
use Rattle.warp_prog.proofs.Distinct.{distinct-numbers}
use Rattle.warp_prog.proofs.Ports.{NamedPort, its_named, ports-alike, ports-named, the-first, is_named, Finds, finds-each, finds-input, finds-output, one-name, reactor-is}

own_port : (p : PortName) → same_port p p ≡ true
own_port p = and_from _ _ (own_name p.reactor) (own_name p.port)

module _ (f : File) (d : repeats bytes_eq (map (λ (r : ReactorPart). r.name) f.reactors) ≡ false) where
  found : (number : _) (its : ReactorPart → List Word) (kind : Bool → Bool) → Finds number its kind → (p : PortName) →
      list_any (λ r. bytes_eq p.reactor r.name && is_among (its r) p.port) f.reactors ≡ true →
      has (in_each its_named (nothing_before 0) f.reactors) (port_number number (nothing_before 0) f.reactors p) (is_named kind p (place f.reactors p.reactor)) ≡ true
  found number its kind finds p h =
      subst (λ k. has (in_each its_named (nothing_before 0) f.reactors) (port_number number (nothing_before 0) f.reactors p) (is_named kind p k) ≡ true) (zero-add (place f.reactors p.reactor))
      (finds-each number its kind finds p (in_each its_named (nothing_before 0) f.reactors) f.reactors (nothing_before 0) refl
      (the-first (λ r. is_among (its r) p.port) f.reactors p.reactor d h))

  -- a test of the port in the program, from one of the named port
  in-program : (n : ℕ) (q : Port → Bool) → has (in_each its_named (nothing_before 0) f.reactors) n (λ e. q e.port) ≡ true → has (numbered f).ports n q ≡ true
  in-program n q h =
      subst (λ ps. has ps n q ≡ true) (ports-named (nothing_before 0) f.reactors ∙ ports-alike f.reactors (nothing_before 0) (file_front f) refl)
      (has-map (λ (e : NamedPort). e.port) (in_each its_named (nothing_before 0) f.reactors) n q ∙ h)

  module _ (number : _) (its : ReactorPart → List Word) (kind : Bool → Bool) (finds : Finds number its kind) (p : PortName)
      (h : list_any (λ r. bytes_eq p.reactor r.name && is_among (its r) p.port) f.reactors ≡ true) where
    -- it is of its kind, and of the reactor in its place
    pub of-kind : has (numbered f).ports (port_number number (nothing_before 0) f.reactors p) (λ e. kind e.is_input) ≡ true
    of-kind =
        in-program (port_number number (nothing_before 0) f.reactors p) (λ e. kind e.is_input)
        (has-less (is_named kind p (place f.reactors p.reactor)) (λ e. kind e.port.is_input)
        (λ e a. (and_parts (kind e.port.is_input) (e.port.reactor == place f.reactors p.reactor)
        (and_parts (same_port p e.at) (kind e.port.is_input && e.port.reactor == place f.reactors p.reactor) a).1).0)
        (in_each its_named (nothing_before 0) f.reactors) (port_number number (nothing_before 0) f.reactors p) (found number its kind finds p h))

    pub of-reactor : reactor_of (numbered f) (port_number number (nothing_before 0) f.reactors p) ≡ place f.reactors p.reactor
    of-reactor =
        reactor-is (numbered f) (port_number number (nothing_before 0) f.reactors p) (place f.reactors p.reactor)
        (in-program (port_number number (nothing_before 0) f.reactors p) (λ e. e.reactor == place f.reactors p.reactor)
        (has-less (is_named kind p (place f.reactors p.reactor)) (λ e. e.port.reactor == place f.reactors p.reactor)
        (λ e a. (and_parts (kind e.port.is_input) (e.port.reactor == place f.reactors p.reactor)
        (and_parts (same_port p e.at) (kind e.port.is_input && e.port.reactor == place f.reactors p.reactor) a).1).1)
        (in_each its_named (nothing_before 0) f.reactors) (port_number number (nothing_before 0) f.reactors p) (found number its kind finds p h)))

    pub by-name : has (in_each its_named (nothing_before 0) f.reactors) (port_number number (nothing_before 0) f.reactors p) (λ e. same_port p e.at) ≡ true
    by-name =
        has-less (is_named kind p (place f.reactors p.reactor)) (λ e. same_port p e.at)
        (λ e a. (and_parts (same_port p e.at) (kind e.port.is_input && e.port.reactor == place f.reactors p.reactor) a).0)
        (in_each its_named (nothing_before 0) f.reactors) (port_number number (nothing_before 0) f.reactors p) (found number its kind finds p h)

  -- two references with one number are to the same port
  pub one-number : (number : _) (its : ReactorPart → List Word) (kind : Bool → Bool) → Finds number its kind → (p q : PortName) →
      list_any (λ r. bytes_eq p.reactor r.name && is_among (its r) p.port) f.reactors ≡ true →
      list_any (λ r. bytes_eq q.reactor r.name && is_among (its r) q.port) f.reactors ≡ true →
      port_number number (nothing_before 0) f.reactors q ≡ port_number number (nothing_before 0) f.reactors p → same_port p q ≡ true
  one-number number its kind finds p q h k e =
      one-name p q (in_each its_named (nothing_before 0) f.reactors) (port_number number (nothing_before 0) f.reactors p) (by-name number its kind finds p h)
      (subst (λ n. has (in_each its_named (nothing_before 0) f.reactors) n (λ e. same_port q e.at) ≡ true) e (by-name number its kind finds q k))

  -- a link
  leads : (l : LinkPart) (delay : Option ℤ) → delay_exceeds (file_form f) delay ≡ false →
      leads_on (numbered f) (numbered_link f.reactors l) (option_map unsigned_abs delay) ≡ true
  leads l (Some n) limit = (in-range 0 (longest_period (file_form f)) n limit).1
  leads l None limit = refl

  pub link-fits : (l : LinkPart) → link_exceeds (file_form f) l ≡ false →
      (is_output f.reactors l.source && is_input f.reactors l.target) ≡ true → link_fits (numbered f) (numbered_link f.reactors l) ≡ true
  link-fits l limit known =
      let ports = and_parts (is_output f.reactors l.source) (is_input f.reactors l.target) known in
      and_from _ _ (and_from _ _ (of-kind output_number (λ r. r.outputs) (λ k. not k) finds-output l.source ports.0)
      (of-kind input_number (λ r. r.inputs) (λ k. k) finds-input l.target ports.1)) (leads l l.delay limit)

  -- one that leads on, to a reactor that stands later
  later : (l : LinkPart) (delay : Option ℤ) →
      (is_none delay && nat_le (place f.reactors l.target.reactor) (place f.reactors l.source.reactor)) ≡ false →
      is_output f.reactors l.source ≡ true → is_input f.reactors l.target ≡ true →
      (not (is_none (option_map unsigned_abs delay)) || nat_lt (reactor_of (numbered f) (source_number f.reactors l.source)) (reactor_of (numbered f) (target_number f.reactors l.target))) ≡ true
  later l (Some n) back o i = refl
  later l None back o i =
      ap₂ nat_lt (of-reactor output_number (λ r. r.outputs) (λ k. not k) finds-output l.source o) (of-reactor input_number (λ r. r.inputs) (λ k. k) finds-input l.target i)
      ∙ lt-ltb (place f.reactors l.source.reactor) (place f.reactors l.target.reactor)
      (leb-false (place f.reactors l.target.reactor) (place f.reactors l.source.reactor) back)

  pub link-later : (l : LinkPart) → is_backward f.reactors l ≡ false → (is_output f.reactors l.source && is_input f.reactors l.target) ≡ true →
      leads_later (numbered f) (numbered_link f.reactors l) ≡ true
  link-later l back known =
      let ports = and_parts (is_output f.reactors l.source) (is_input f.reactors l.target) known in
      later l l.delay back ports.0 ports.1

  -- a program input
  pub input-fits : (i : InputPart) → origin_exceeds f.origins i.origin ≡ false → is_input f.reactors i.port ≡ true →
      input_fits (numbered f) (numbered_input f.reactors i) ≡ true
  input-fits i limit known =
      and_from _ _ (is-origin f.origins i.origin limit) (of-kind input_number (λ r. r.inputs) (λ k. k) finds-input i.port known)

  -- a program output
  pub output-fits : (p : PortName) → is_output f.reactors p ≡ true → has (numbered f).ports (source_number f.reactors p) (λ e. not e.is_input) ≡ true
  output-fits p known = of-kind output_number (λ r. r.outputs) (λ k. not k) finds-output p known

  -- no output is listed twice
  pub outputs-distinct : list_all (is_output f.reactors) f.outputs ≡ true → repeats same_port f.outputs ≡ false →
      is_distinct (map (source_number f.reactors) f.outputs) ≡ true
  outputs-distinct known once =
      distinct-numbers same_port own_port (source_number f.reactors) (is_output f.reactors)
      (λ p q h k e. one-number output_number (λ r. r.outputs) (λ k. not k) finds-output p q h k e) f.outputs known once

  -- no input has two sources
  fed-targets : fed (numbered f) ≡ map (target_number f.reactors) (targets f.links f.inputs)
  fed-targets =
      ap₂ (λ xs ys. xs ++ ys)
      (map-map (λ l. l.target) (numbered_link f.reactors) f.links ∙ sym (map-map (target_number f.reactors) (λ (l : LinkPart). l.target) f.links))
      (map-map (λ i. i.port) (numbered_input f.reactors) f.inputs ∙ sym (map-map (target_number f.reactors) (λ (i : InputPart). i.port) f.inputs))
      ∙ sym (map-append (target_number f.reactors) (map (λ (l : LinkPart). l.target) f.links) (map (λ (i : InputPart). i.port) f.inputs))

  pub fed-distinct : list_all (is_input f.reactors) (targets f.links f.inputs) ≡ true → repeats same_port (targets f.links f.inputs) ≡ false → is_distinct (fed (numbered f)) ≡ true
  fed-distinct known once =
      ap is_distinct fed-targets
      ∙ distinct-numbers same_port own_port (target_number f.reactors) (is_input f.reactors)
      (λ p q h k e. one-number input_number (λ r. r.inputs) (λ k. k) finds-input p q h k e) (targets f.links f.inputs) known once
