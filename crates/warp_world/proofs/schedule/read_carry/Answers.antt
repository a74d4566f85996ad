use Rattle.std.proofs.Common.{◌≤◌, ℕ, List, [], get_or, ap, ◌∙◌, subst, sym}
use Rattle.warp_record.proofs.WordTexts.{texts, three_texts}
use Rattle.warp_world.proofs.MoveReadings.{carry_words}
use Rattle.warp_world.proofs.schedule.read_carry.Goals as goal

pub returns-in_err-from-clause-none : goal.returns-in_err-from-clause-none
returns-in_err-from-clause-none c =
    rw c.from_residual.ensures
    (λ next fits are.
    let told = carry_words c.args.form (texts c.args.words.now) next fits are in
    let same = sym (three_texts c.args.words.now c.in-len3.len_at_least c.in-len3.len_below) ∙ told.6 in
    c.in_err-from.ensures.none told.0 told.3 (ap (λ (ws : List (List ℕ)). get_or ws 0 []) same))

pub returns-in_err-place-clause-none : goal.returns-in_err-place-clause-none
returns-in_err-place-clause-none c =
    rw c.from_residual-in_err-place.ensures
    (λ next fits are.
    let told = carry_words c.args.form (texts c.args.words.now) next fits are in
    let same = sym (three_texts c.args.words.now c.in-len3.len_at_least c.in-len3.len_below) ∙ told.6 in
    let within = subst (λ most. told.1 ≤ most) (sym c.most_records.ensures.value) told.4 in
    c.in_err-place.ensures.none told.1 within (ap (λ (ws : List (List ℕ)). get_or ws 1 []) same))

pub returns-in_err-to-clause-none : goal.returns-in_err-to-clause-none
returns-in_err-to-clause-none c =
    rw c.from_residual-in_err-to.ensures
    (λ next fits are.
    let told = carry_words c.args.form (texts c.args.words.now) next fits are in
    let same = sym (three_texts c.args.words.now c.in-len3.len_at_least c.in-len3.len_below) ∙ told.6 in
    c.in_err-to.ensures.none told.2 told.5 (ap (λ (ws : List (List ℕ)). get_or ws 2 []) same))
