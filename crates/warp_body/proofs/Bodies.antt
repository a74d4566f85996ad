-- A body has the statements of which it is made.
use Rattle.std.proofs.Common.{◌≡◌, ℕ, List, [], ◌∷◌, refl, sym, ap, ◌∙◌}
use Rattle.warp_body.specs.Term.{term_of}
use Rattle.warp_body.specs.Effect.{Statement, ScheduleAction, Body, Done, Then, body_of, statement_of, statement_step}
use Rattle.warp_body.specs.declared.expr.Expr.{Expr}
use Rattle.warp_body.specs.declared.stmt.Stmt.{Schedule, fold-roll-Stmt}
use Rattle.warp_body.specs.declared.stmt.Stmt.TheOpen.{Stmt-F}
use Rattle.warp_body.specs.declared.stmt.Stmt.TheVariants.{rolls-Schedule}

-- the statements of a body
abbrev statements : Body → List Statement
statements Done = []
statements (Then s ss) = s ∷ statements ss

statements-body_of : (ss : List Statement) → statements (body_of ss) ≡ ss
statements-body_of [] = refl
statements-body_of (s ∷ ss) = ap (λ rest. s ∷ rest) (statements-body_of ss)

-- equal bodies are made of equal statements
pub body_of-injective : (ss ts : List Statement) → body_of ss ≡ body_of ts → ss ≡ ts
body_of-injective ss ts h = sym (statements-body_of ss) ∙ ap statements h ∙ statements-body_of ts

-- what a scheduling spells
pub schedule_is : (action delay : ℕ) (e : Expr) → statement_of (Schedule action delay e) ≡ ScheduleAction action delay (term_of e)
schedule_is action delay e =
    ap statement_of (sym (rolls-Schedule action delay e)) ∙ fold-roll-Stmt Statement statement_step (Stmt-F.Schedule action delay e)
