-- field by field, as the search computes long
use Rattle.std.proofs.Common.{◌≡◌, ℕ, ap, sym, ◌∙◌}
use Rattle.warp_body.specs.Term.{VariableAt, term_of}
use Rattle.warp_body.specs.Effect.{Statement, SetVariable, PutOutput, Done, Then, statement_of, statements_of, statement_step}
use Rattle.warp_body.specs.declared.expr.Expr.{Expr, Variable}
use Rattle.warp_body.specs.declared.stmt.Stmt.{Set, Put, fold-roll-Stmt}
use Rattle.warp_body.specs.declared.stmt.Stmt.TheOpen.{Stmt-F}
use Rattle.warp_body.specs.declared.stmt.Stmt.TheVariants.{rolls-Set, rolls-Put}
use Rattle.warp_step.proofs.builtin_twice.reaction_of.Goals as goal

of_set : (k : ℕ) (e : Expr) → statement_of (Set k e) ≡ SetVariable k (term_of e)
of_set k e = ap statement_of (sym (rolls-Set k e)) ∙ fold-roll-Stmt Statement statement_step (Stmt-F.Set k e)

of_put : (port : ℕ) (e : Expr) → statement_of (Put port e) ≡ PutOutput port (term_of e)
of_put port e = ap statement_of (sym (rolls-Put port e)) ∙ fold-roll-Stmt Statement statement_step (Stmt-F.Put port e)

pub returns : goal.returns
returns c =
    let triggers = c.in_ok-triggers.ensures.items in
    let reads = c.new.ensures.items in
    let writes = c.in_ok-writes.ensures.items in
    let body : statements_of c.in_ok-body.body.items ≡ Then (SetVariable 0 (term_of c.args.value)) (Then (PutOutput 2 (VariableAt 0)) Done) =
    ap statements_of c.in_ok-body.ensures.items
    ∙ ap (λ (s : Statement). Then s (Then (statement_of (Put 2 (Variable 0))) Done)) (of_set 0 c.args.value)
    ∙ ap (λ (s : Statement). Then (SetVariable 0 (term_of c.args.value)) (Then s Done)) (of_put 2 (Variable 0)) in
    λ i. record { reactor = 0; triggers = triggers i; reads = reads i; writes = writes i; body = body i }
