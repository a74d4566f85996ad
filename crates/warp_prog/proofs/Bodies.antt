-- A body whose uses are known and declared does what its reaction may.
use Rattle.std.proofs.Common.{◌≡◌, ◌+◌, ◌*◌, ℤ, Bool, true, ◌&&◌, ◌||◌, ◌++◌, ap, ap₂, sym, ◌∙◌, refl, unsigned_abs, nat_le}
use Rattle.std.specs.List.{list_all}
use Rattle.std.proofs.lemmas.Bool.{and_from, and_parts, cond_both}
use Rattle.warp_tag.specs.Limits.{longest_period}
use Rattle.warp_tag.specs.declared.form.Form.{Form}
use Rattle.warp_body.specs.Term.{VariableAt, ValueAt}
use Rattle.warp_body.specs.Effect.{schedules_of, schedules_of_one}
use Rattle.warp_body.specs.declared.place.Target.TheVariants as to
use Rattle.warp_step.specs.Program.{Program, Rule}
use Rattle.warp_step.specs.Valid.{names, owns_cells, owns_variable, term_may, statement_may, body_may}
use Rattle.warp_prog.specs.File.{Word, ReactorPart, ReactionPart}
use Rattle.warp_prog.specs.File.{NamedTerm, Literal, Named, PresentNamed, OneNamed, TwoNamed, ChoiceNamed, ProductNamed, CellNamed, TimeNamed, MicrostepNamed}
use Rattle.warp_prog.specs.File.{NamedStatement, SetNamed, PutNamed, ScheduleNamed, ChooseNamed, SetCellNamed, RepeatNamed, NamedBody, NamedDone, NamedThen}
use Rattle.warp_prog.specs.Limits.{statement_delays, body_delays, statement_wishes, body_wishes}
use Rattle.warp_prog.specs.Names.{is_known}
use Rattle.warp_prog.specs.Undeclared.{is_declared, may_read}
use Rattle.warp_prog.specs.Uses.{Use, Reads, Asks, Sets, Puts, Schedules, Indexes, term_uses, statement_uses, body_uses, is_among, variable_names, array_names, action_names}
use Rattle.warp_prog.specs.Numbered.{numbered_term, numbered_statement, numbered_body, readable, variable_number, first_cell, cell_count, output_number, action_number}
use Rattle.warp_prog.specs.declared.scope.Before.{Before}
use Rattle.warp_prog.proofs.Ranges.{all-parts}

-- what a rule allows to the names of a reaction
pub record Allows (P : Program) (b : Before) (r : ReactorPart) (n : ReactionPart) (rule : Rule) : Type 0 where
  pub own : (name : Word) → is_among (variable_names r) name ≡ true → owns_variable P rule.reactor (variable_number b r name) ≡ true
  pub cells : (name : Word) → is_among (array_names r) name ≡ true → owns_cells P rule.reactor (first_cell b r name) (cell_count r name) ≡ true
  pub read : (name : Word) → may_read n name ≡ true → names (rule.triggers ++ rule.reads) (readable b r name) ≡ true
  pub put : (name : Word) → is_among r.outputs name ≡ true → is_among n.writes name ≡ true → names rule.writes (to.Port (output_number b r name)) ≡ true
  pub schedule : (name : Word) → is_among (action_names r) name ≡ true → is_among n.writes name ≡ true →
      names rule.writes (to.Action (action_number b r name)) ≡ true

-- a use that is known and declared
abbrev pub is_right : ReactorPart → ReactionPart → Use → Bool
is_right r n u = is_known r u && is_declared r n u

-- a delay in the range of a form
abbrev pub is_period : Form → ℤ → Bool
is_period form d = nat_le (unsigned_abs d) (longest_period form)

module _ (P : Program) (b : Before) (r : ReactorPart) (n : ReactionPart) (rule : Rule) (allows : Allows P b r n rule) where
  pub term-may : (e : NamedTerm) → list_all (is_right r n) (term_uses e) ≡ true → term_may P rule (numbered_term b r e) ≡ true
  term-may (Literal k) h = refl
  term-may (Named name) h =
      let right = (and_parts (is_right r n (Reads name)) true h).0 in
      let declared = (and_parts (is_known r (Reads name)) (is_declared r n (Reads name)) right).1 in
      cond_both (is_among (variable_names r) name) (VariableAt (variable_number b r name)) (ValueAt (readable b r name)) (λ t. term_may P rule t ≡ true)
      (λ own. allows.own name own)
      (λ other. allows.read name (sym (ap (λ o. o || may_read n name) other) ∙ declared))
  term-may (PresentNamed name) h =
      let right = (and_parts (is_right r n (Asks name)) true h).0 in
      allows.read name (and_parts (is_known r (Asks name)) (is_declared r n (Asks name)) right).1
  term-may (OneNamed op e) h = term-may e h
  term-may (TwoNamed op e f) h =
      let parts = all-parts (is_right r n) (term_uses e) (term_uses f) h in
      and_from _ _ (term-may e parts.0) (term-may f parts.1)
  term-may (ChoiceNamed c e f) h =
      let first = all-parts (is_right r n) (term_uses c) (term_uses e ++ term_uses f) h in
      let rest = all-parts (is_right r n) (term_uses e) (term_uses f) first.1 in
      and_from _ _ (and_from _ _ (term-may c first.0) (term-may e rest.0)) (term-may f rest.1)
  term-may (ProductNamed c e f) h =
      let first = all-parts (is_right r n) (term_uses c) (term_uses e ++ term_uses f) h in
      let rest = all-parts (is_right r n) (term_uses e) (term_uses f) first.1 in
      and_from _ _ (and_from _ _ (term-may c first.0) (term-may e rest.0)) (term-may f rest.1)
  term-may (CellNamed name index) h =
      let parts = and_parts (is_right r n (Indexes name)) (list_all (is_right r n) (term_uses index)) h in
      let known = (and_parts (is_known r (Indexes name)) true parts.0).0 in
      and_from _ _ (allows.cells name known) (term-may index parts.1)
  term-may TimeNamed h = refl
  term-may MicrostepNamed h = refl

  mutual
    pub statement-may : (s : NamedStatement) → list_all (is_right r n) (statement_uses s) ≡ true → list_all (is_period P.form) (statement_delays s) ≡ true →
        statement_may P rule (numbered_statement b r s) ≡ true
    statement-may (SetNamed name e) h d =
        let parts = and_parts (is_right r n (Sets name)) (list_all (is_right r n) (term_uses e)) h in
        let known = (and_parts (is_known r (Sets name)) true parts.0).0 in
        and_from _ _ (allows.own name known) (term-may e parts.1)
    statement-may (PutNamed name e) h d =
        let parts = and_parts (is_right r n (Puts name)) (list_all (is_right r n) (term_uses e)) h in
        let right = and_parts (is_known r (Puts name)) (is_declared r n (Puts name)) parts.0 in
        and_from _ _ (allows.put name right.0 right.1) (term-may e parts.1)
    statement-may (ScheduleNamed name delay e) h d =
        let parts = and_parts (is_right r n (Schedules name)) (list_all (is_right r n) (term_uses e)) h in
        let right = and_parts (is_known r (Schedules name)) (is_declared r n (Schedules name)) parts.0 in
        and_from _ _ (and_from _ _ (allows.schedule name right.0 right.1) (and_parts (is_period P.form delay) true d).0) (term-may e parts.1)
    statement-may (ChooseNamed e first second) h d =
        let test = all-parts (is_right r n) (term_uses e) (body_uses first ++ body_uses second) h in
        let lists = all-parts (is_right r n) (body_uses first) (body_uses second) test.1 in
        let delays = all-parts (is_period P.form) (body_delays first) (body_delays second) d in
        and_from _ _ (and_from _ _ (term-may e test.0) (body-may first lists.0 delays.0)) (body-may second lists.1 delays.1)
    statement-may (SetCellNamed name index e) h d =
        let parts = and_parts (is_right r n (Indexes name)) (list_all (is_right r n) (term_uses index ++ term_uses e)) h in
        let known = (and_parts (is_known r (Indexes name)) true parts.0).0 in
        let both = all-parts (is_right r n) (term_uses index) (term_uses e) parts.1 in
        and_from _ _ (and_from _ _ (allows.cells name known) (term-may index both.0)) (term-may e both.1)
    statement-may (RepeatNamed most e body) h d =
        let parts = all-parts (is_right r n) (term_uses e) (body_uses body) h in
        and_from _ _ (term-may e parts.0) (body-may body parts.1 d)

    pub body-may : (body : NamedBody) → list_all (is_right r n) (body_uses body) ≡ true → list_all (is_period P.form) (body_delays body) ≡ true →
        body_may P rule (numbered_body b r body) ≡ true
    body-may NamedDone h d = refl
    body-may (NamedThen s ss) h d =
        let uses = all-parts (is_right r n) (statement_uses s) (body_uses ss) h in
        let delays = all-parts (is_period P.form) (statement_delays s) (body_delays ss) d in
        and_from _ _ (statement-may s uses.0 delays.0) (body-may ss uses.1 delays.1)

-- it schedules as often as is written, in a loop as often as it may turn
mutual
  pub schedules-statement : (b : Before) (r : ReactorPart) (s : NamedStatement) → schedules_of_one (numbered_statement b r s) ≡ statement_wishes s
  schedules-statement b r (SetNamed name e) = refl
  schedules-statement b r (PutNamed name e) = refl
  schedules-statement b r (ScheduleNamed name delay e) = refl
  schedules-statement b r (ChooseNamed e first second) = ap₂ (λ x y. x + y) (schedules-body b r first) (schedules-body b r second)
  schedules-statement b r (SetCellNamed name index e) = refl
  schedules-statement b r (RepeatNamed most e body) = ap (λ x. unsigned_abs most * x) (schedules-body b r body)

  pub schedules-body : (b : Before) (r : ReactorPart) (body : NamedBody) → schedules_of (numbered_body b r body) ≡ body_wishes body
  schedules-body b r NamedDone = refl
  schedules-body b r (NamedThen s ss) = ap₂ (λ x y. x + y) (schedules-statement b r s) (schedules-body b r ss)
