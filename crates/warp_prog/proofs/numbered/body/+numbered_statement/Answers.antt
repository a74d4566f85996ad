-- all statements are numbered
use Rattle.std.proofs.Common.{◌≡◌, ◌∷◌, [], ◌++◌, ◌∙◌, ap, sym, map, rules, take, unsigned_abs}
use Rattle.std.proofs.lemmas.List.{map-append, map_more, take_all}
use Rattle.warp_body.specs.Effect.{body_of, statement_of}
use Rattle.warp_prog.specs.File.{ChooseNamed, RepeatNamed}
use Rattle.warp_prog.specs.Numbered.{numbered_body, numbered_statement, numbered_term}
use Rattle.warp_prog.specs.View.{body_tree, reactor_tree, statement_tree, term_tree}
use Rattle.warp_prog.specs.declared.file.Statement.{Statement, the_lemmas}
use Rattle.warp_prog.proofs.Loops.{loop_at}
use Rattle.warp_prog.proofs.Numbers.{numbered_each}
use Rattle.warp_prog.proofs.numbered.body.+numbered_statement.Goals as goal

pub numbered_body-returns : goal.numbered_body-returns
numbered_body-returns t c =
    let b = c.args.before.now in
    let r = reactor_tree c.args.reactor.now in
    ap body_of c.loop-statement.invariant
    ∙ ap (λ ss. body_of (map (λ s. numbered_statement b r (statement_tree s)) ss)) (take_all c.loop-statement.statement-index c.args.body.now c.loop-statement-test.false)
    ∙ numbered_each b r c.args.body.now

pub numbered_body-loop-statement-preserved : goal.numbered_body-loop-statement-preserved
numbered_body-loop-statement-preserved t c =
    let l = c.loop-statement in
    let number = λ (s : Statement). numbered_statement c.args.before.now (reactor_tree c.args.reactor.now) (statement_tree s) in
    ap (map statement_of) c.in_ok-push.ensures.items
    ∙ map-append statement_of l.numbered.items (c.in_ok-next.next ∷ [])
    ∙ ap (λ ss. ss ++ statement_of c.in_ok-next.next ∷ []) l.invariant
    ∙ ap (λ s. map number (take l.statement-index c.args.body.now) ++ s ∷ []) (c.in_ok-next.ensures ∙ ap number c.statement-item.is)
    ∙ sym (map_more number c.args.body.now l.statement-index c.statement-item.result c.loop-statement-test.true)

pub numbered_body-numbered_statement-requires : goal.numbered_body-numbered_statement-requires
numbered_body-numbered_statement-requires t c = (
  search (rules, the_lemmas),
  (c.requires.room, loop_at c.args.body.now c.loop-statement.statement-index c.statement-item.result c.loop-statement-test.true c.statement-item.is c.requires.loops),
)

pub numbered_statement-returns-in-If : goal.numbered_statement-returns-in-If
numbered_statement-returns-in-If t c =
    let b = c.args.before.now in
    let r = reactor_tree c.args.reactor.now in
    let test = c.in-If.condition in
    let first = c.in-If.first in
    let second = c.in-If.second in
    let spelled : statement_tree c.args.statement.now ≡ ChooseNamed (term_tree test) (body_tree (map statement_tree first.items)) (body_tree (map statement_tree second.items)) =
    search (rules, the_lemmas) in
    let made = c.choice.ensures (numbered_term b r (term_tree test)) (numbered_body b r (body_tree (map statement_tree c.deref.result.now)))
    (numbered_body b r (body_tree (map statement_tree c.deref-in-If.result.now))) c.numbered_term-condition.ensures c.numbered_body-first.ensures c.numbered_body-second.ensures in
    rw (spelled, ← c.deref.ensures.value, ← c.deref-in-If.ensures.value) made

pub numbered_statement-returns-in-While : goal.numbered_statement-returns-in-While
numbered_statement-returns-in-While t c =
    let b = c.args.before.now in
    let r = reactor_tree c.args.reactor.now in
    let most = c.in-While.most in
    let test = c.in-While.test in
    let turn = c.in-While.turn in
    let spelled : statement_tree c.args.statement.now ≡ RepeatNamed most (term_tree test) (body_tree (map statement_tree turn.items)) = search (rules, the_lemmas) in
    let size : c.unsigned_abs-in-While.result ≡ unsigned_abs most = search rules in
    let made = c.repeat.ensures (numbered_term b r (term_tree test)) (numbered_body b r (body_tree (map statement_tree c.deref-in-While.result.now)))
    c.numbered_term-test.ensures c.numbered_body-turn.ensures in
    rw (spelled, ← c.deref-in-While.ensures.value, ← size) made
