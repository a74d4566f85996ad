-- Loops that turn no more often than they may: of a reactor, of each of its reactions, and of each statement in a list.
use Rattle.std.proofs.Common.{◌≡◌, ℕ, zero, suc, ◌<◌, ◌≤◌, nat_lt, Bool, false, ◌||◌, List, [], ◌∷◌, length, map, get_or, ℤ, ap, sym, ◌∙◌, unsigned_abs, arith}
use Rattle.std.specs.List.{list_any}
use Rattle.std.proofs.lemmas.Bool.{or_parts, leb-true}
use Rattle.std.proofs.lemmas.List.Folds.{list_any-append}
use Rattle.warp_tag.specs.Limits.{most_wishes}
use Rattle.warp_tag.specs.declared.form.Form.{Form}
use Rattle.warp_prog.specs.File.{NamedStatement, ChooseNamed, RepeatNamed, NamedBody, NamedThen, NamedTerm, ReactorPart, ReactionPart}
use Rattle.warp_prog.specs.Limits.{action_exceeds, array_exceeds, body_depth, body_delays, body_mosts, body_terms, body_wishes, deepest, is_too_deep, most_exceeds, most_turns, period_exceeds, reaction_exceeds, reactor_exceeds, statement_mosts, timer_exceeds}
use Rattle.warp_prog.specs.View.{body_tree, statement_tree}
use Rattle.warp_prog.specs.declared.file.Statement.{Statement}
use Rattle.warp_prog.specs.inner.Room.{loop_exceeds, loops_exceed, its_loops_exceed}
use Rattle.warp_prog.proofs.Distinct.{any-less}
use Rattle.warp_prog.proofs.Ranges.{in-range}

-- of none of these the test is true, so not of the one at this place, as it is seen
pub none_at : {X Y : Type 0} (p : Y → Bool) (seen : X → Y) (xs : List X) (i : ℕ) (x : X) → i < length xs → x ≡ get_or xs i x → list_any p (map seen xs) ≡ false
    → p (seen x) ≡ false
none_at p seen [] i x within here h = absurd (omega (arith, within))
none_at p seen (y ∷ ys) zero x within here h = ap (λ z. p (seen z)) here ∙ (or_parts (p (seen y)) (list_any p (map seen ys)) h).0
none_at p seen (y ∷ ys) (suc i) x within here h = none_at p seen ys i x (omega (arith, within)) here (or_parts (p (seen y)) (list_any p (map seen ys)) h).1

-- the first statement of a list, and the others
in_list : (s : NamedStatement) (b : NamedBody) → loops_exceed (NamedThen s b) ≡ false → (loop_exceeds s ≡ false) × (loops_exceed b ≡ false)
in_list s b h = or_parts (loop_exceeds s) (loops_exceed b) (sym (list_any-append most_exceeds (statement_mosts s) (body_mosts b)) ∙ h)

-- the statement at this place
pub loop_at : (ss : List Statement) (i : ℕ) (s : Statement) → i < length ss → s ≡ get_or ss i s → loops_exceed (body_tree (map statement_tree ss)) ≡ false
    → loop_exceeds (statement_tree s) ≡ false
loop_at [] i s within here h = absurd (omega (arith, within))
loop_at (t ∷ ts) zero s within here h =
    ap (λ u. loop_exceeds (statement_tree u)) here ∙ (in_list (statement_tree t) (body_tree (map statement_tree ts)) h).0
loop_at (t ∷ ts) (suc i) s within here h = loop_at ts i s (omega (arith, within)) here (in_list (statement_tree t) (body_tree (map statement_tree ts)) h).1

-- both lists of a choice
pub in_choice : (e : NamedTerm) (a b : NamedBody) → loop_exceeds (ChooseNamed e a b) ≡ false → (loops_exceed a ≡ false) × (loops_exceed b ≡ false)
in_choice e a b h = or_parts (loops_exceed a) (loops_exceed b) (sym (list_any-append most_exceeds (body_mosts a) (body_mosts b)) ∙ h)

-- the turns of a loop, and its list
pub in_loop : (most : ℤ) (e : NamedTerm) (b : NamedBody) → loop_exceeds (RepeatNamed most e b) ≡ false → (unsigned_abs most ≤ most_turns) × (loops_exceed b ≡ false)
in_loop most e b h =
    let parts = or_parts (most_exceeds most) (loops_exceed b) h in
    (leb-true (unsigned_abs most) most_turns (in-range 1 most_turns most parts.0).1, parts.1)

in_reaction : (form : Form) (n : ReactionPart) → reaction_exceeds form n ≡ false → loops_exceed n.body ≡ false
in_reaction form n h =
    let b = n.body in
    let others = list_any is_too_deep (body_terms b) || nat_lt deepest (body_depth b) || list_any (period_exceeds form) (body_delays b) in
    (or_parts others (loops_exceed b) (or_parts (others || loops_exceed b) (nat_lt most_wishes (body_wishes b)) h).0).1

-- the loops of reactors within the limits
in_reactor : (form : Form) (r : ReactorPart) → reactor_exceeds form r ≡ false → its_loops_exceed r ≡ false
in_reactor form r h =
    let others = list_any array_exceeds r.arrays || list_any (action_exceeds form) r.actions || list_any (timer_exceeds form) r.timers in
    any-less (reaction_exceeds form) (λ (n : ReactionPart). loops_exceed n.body) (in_reaction form) r.reactions
    (or_parts others (list_any (reaction_exceeds form) r.reactions) h).1

pub loops_fit : (form : Form) (rs : List ReactorPart) → list_any (reactor_exceeds form) rs ≡ false → list_any its_loops_exceed rs ≡ false
loops_fit form rs h = any-less (reactor_exceeds form) its_loops_exceed (in_reactor form) rs h
