-- A reaction of a file without fault fits its program.
use Rattle.std.proofs.Common.{◌≡◌, Bool, true, false, ◌||◌, List, ◌∷◌, map, sym, subst, ◌∙◌, inl, inr, bytes_eq, nat_le}
use Rattle.std.proofs.lemmas.Bool.{and_from, or_parts, or_cases, or_left, or_right, cond-true, cond-false, ltb-false, le-leb}
use Rattle.std.proofs.lemmas.List.Folds.{list_any-append}
use Rattle.warp_tag.specs.Limits.{longest_period, most_wishes}
use Rattle.warp_tag.specs.declared.form.Form.{Form}
use Rattle.warp_body.specs.Presence.{is_target}
use Rattle.warp_body.specs.declared.place.Target.{Target}
use Rattle.warp_body.specs.declared.place.Target.TheVariants as to
use Rattle.warp_step.specs.Program.{Program}
use Rattle.warp_step.specs.Valid.{names, is_readable, is_writable, rule_fits}
use Rattle.warp_prog.specs.File.{Word, ReactorPart, ReactionPart}
use Rattle.warp_prog.specs.Limits.{body_exceeds, body_delays, body_wishes, period_exceeds}
use Rattle.warp_prog.specs.Names.{is_known, reaction_unknown}
use Rattle.warp_prog.specs.Undeclared.{is_declared, reaction_undeclared}
use Rattle.warp_prog.specs.Twice.{repeats, all_names}
use Rattle.warp_prog.specs.Uses.{body_uses, is_among, action_names, is_trigger}
use Rattle.warp_prog.specs.Numbered.{numbered_reaction, readable, writable, output_number, action_number, once}
use Rattle.warp_prog.specs.declared.scope.Before.{Before}
use Rattle.warp_prog.proofs.Stands.{Stands, reactor-there, has_variable, has_cells, is_read, is_written}
use Rattle.warp_prog.proofs.OnceLemmas.{once-among, once-every}
use Rattle.warp_prog.proofs.Ranges.{all-pass, all-both, all-since, in-range}
use Rattle.warp_prog.proofs.Bodies.{Allows, is_period, body-may, schedules-body}
use Rattle.warp_prog.proofs.Distinct.{no-output}

-- a reaction that is within the limits of a form, whose names are known and whose uses are declared
pub record IsSound (form : Form) (r : ReactorPart) (n : ReactionPart) : Type 0 where
  pub within : body_exceeds form n.body ≡ false
  pub known : reaction_unknown r n ≡ false
  pub declared : reaction_undeclared r n ≡ false

module _ (P : Program) (b : Before) (r : ReactorPart) (rs : List ReactorPart) (s : Stands P b (r ∷ rs)) (d : repeats bytes_eq (all_names r) ≡ false) where
  allows : (n : ReactionPart) → Allows P b r n (numbered_reaction b r n)
  allows n = record {
    own = λ name h. has_variable P b r rs s name h;
    cells = λ name h. has_cells P b r rs s name h;
    read = λ name h.
        (let target : Target = readable b r name in
        let on : List Target = once (map (readable b r) n.triggers) in
        let reads : List Target = once (map (readable b r) n.reads) in
        list_any-append (is_target target) on reads
        ∙ elim (or_cases (is_among n.triggers name) (is_among n.reads name) h) [
          | inl listed ↦ or_left (names on target) (names reads target) (once-among (readable b r) name n.triggers listed)
          | inr listed ↦ or_right (names on target) (names reads target) (once-among (readable b r) name n.reads listed)
        ]);
    put = λ name o w.
        subst (λ t. names (once (map (writable b r) n.writes)) t ≡ true) (cond-true (is_among r.outputs name) (to.Port (output_number b r name)) (to.Action (action_number b r name)) o)
        (once-among (writable b r) name n.writes w);
    schedule = λ name a w.
        subst (λ t. names (once (map (writable b r) n.writes)) t ≡ true)
        (cond-false (is_among r.outputs name) (to.Port (output_number b r name)) (to.Action (action_number b r name)) (no-output r name d a))
        (once-among (writable b r) name n.writes w);
  }

  pub reaction-fits : (n : ReactionPart) → IsSound P.form r n → rule_fits P (numbered_reaction b r n) ≡ true
  reaction-fits n sound =
      let body = or_parts _ _ sound.known in
      let writes = or_parts _ _ body.0 in
      let on = or_parts _ _ writes.0 in
      let wishes = or_parts _ _ sound.within in
      let delays = or_parts _ _ (or_parts _ _ wishes.0).0 in
      let triggers = once-every (is_readable P b.reactors) (readable b r) (is_trigger r) (λ name e. is_read P b r rs s name) n.triggers (all-pass (is_trigger r) n.triggers on.0) in
      let reads = once-every (is_readable P b.reactors) (readable b r) (is_trigger r) (λ name e. is_read P b r rs s name) n.reads (all-pass (is_trigger r) n.reads on.1) in
      let ok : Word → Bool = λ name. is_among r.outputs name || is_among (action_names r) name in
      let written = once-every (is_writable P b.reactors) (writable b r) ok (λ name e. is_written P b r rs s name e) n.writes (all-pass ok n.writes writes.1) in
      let uses = all-both (is_known r) (is_declared r n) (body_uses n.body) (all-pass (is_known r) (body_uses n.body) body.1)
      (all-pass (is_declared r n) (body_uses n.body) sound.declared) in
      let periods = all-since (period_exceeds P.form) (is_period P.form) (λ x e. (in-range 0 (longest_period P.form) x e).1) (body_delays n.body) delays.1 in
      let may = body-may P b r n (numbered_reaction b r n) (allows n) n.body uses periods in
      let few = subst (λ k. nat_le k most_wishes ≡ true) (sym (schedules-body b r n.body)) (le-leb (body_wishes n.body) most_wishes (ltb-false most_wishes (body_wishes n.body) wishes.1)) in
      and_from _ _ (and_from _ _ (and_from _ _ (and_from _ _ (and_from _ _ (reactor-there P b r rs s) triggers) reads) written) may) few
