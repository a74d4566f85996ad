use Rattle.std.proofs.Common.{◌≡◌, ◌∷◌, [], codes, get_or, drop, List, ℕ, ap, sym, ◌∙◌, true≢false}
use Rattle.std.proofs.lemmas.Option.{IfSome_then}
use Rattle.warp_record.proofs.LineWords.{IfNone_then}
use Rattle.warp_record.proofs.RecordTexts.{joint_words}
use Rattle.warp_record.proofs.WordTexts.{texts}
use Rattle.warp_record.proofs.record.read_joint.Goals as goal

pub returns-then-not-has_joint-clause-none : goal.returns-then-not-has_joint-clause-none
returns-then-not-has_joint-clause-none c = λ said fits are.
    let told = joint_words c.args.form c.args.word.now (c.args.time.now ∷ c.args.micro.now ∷ texts c.args.operands.now) said fits are in
    true≢false (sym told.3.form_has ∙ sym c.has_joint.ensures ∙ c.if-not-has_joint.true)

pub returns-then-not-is_keyword-clause-none : goal.returns-then-not-is_keyword-clause-none
returns-then-not-is_keyword-clause-none c = λ said fits are.
    let told = joint_words c.args.form c.args.word.now (c.args.time.now ∷ c.args.micro.now ∷ texts c.args.operands.now) said fits are in
    true≢false (sym (c.is_keyword.ensures.1 told.4) ∙ c.if-not-is_keyword.true)

pub returns-clause-found : goal.returns-clause-found
returns-clause-found c =
    let key : c.args.word.now ≡ codes "announce" = c.is_keyword.ensures.0 c.if-not-is_keyword.false in
    IfSome_then c.joint_of.result c.joint_of.ensures.found
    (λ said is. (is.0, ap (λ (word : List ℕ). word ∷ codes "*" ∷ c.args.time.now ∷ c.args.micro.now ∷ texts c.args.operands.now) key ∙ is.1))

pub returns-clause-none : goal.returns-clause-none
returns-clause-none c =
    IfNone_then c.joint_of.result c.joint_of.ensures.none
    (λ none said fits are.
    let told = joint_words c.args.form c.args.word.now (c.args.time.now ∷ c.args.micro.now ∷ texts c.args.operands.now) said fits are in
    none told.0 told.1 told.2 told.3.tag_fits told.3.events_fit told.3.withdrawn_fit
    (ap (λ (ws : List (List ℕ)). get_or ws 0 []) told.5) (ap (λ (ws : List (List ℕ)). get_or ws 1 []) told.5) (ap (λ (ws : List (List ℕ)). drop 2 ws) told.5))
