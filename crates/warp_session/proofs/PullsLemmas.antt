-- Lemmas on what the replies of a pull led to.
use Rattle.std.proofs.Common.{◌≡◌, ℕ, ◌+◌, ◌<◌, ◌≤◌, max, List, [], ◌∷◌, ◌++◌, Option, append-nil, refl, subst, sym, ◌∙◌, arith}
use Rattle.warp_tag.specs.declared.form.Form.{Form}
use Rattle.warp_record.specs.declared.line.Line.{Line}
use Rattle.warp_record.specs.declared.reply.Refusal.{Refusal}
use Rattle.warp_record.specs.declared.reply.Reply.{Reply}
use Rattle.warp_exchange.specs.declared.puller.Pulled.{Pulled}
use Rattle.warp_exchange.specs.declared.puller.Pulled.TheVariants as pulled
use Rattle.warp_exchange.specs.Pulls.{Pulls}
use Rattle.warp_session.specs.declared.pulling.PullEnd.{PullEnd}
use Rattle.warp_session.specs.declared.pulling.PullEnd.TheVariants as end
use Rattle.warp_session.specs.Pull.{Heard, PullsAll, levels_with, last_levels, GoesOn, AllGoOn, AreTurns, EndsPull, IsBegun, most_turns}
use Rattle.warp_session.specs.inner.Pulling.{EndsBehind, IsCut}

-- one question more, its reply, and its outcome
abbrev pub more : List Heard → ℕ → Option Reply → Pulled → List Heard
more heard place reply outcome = heard ++ record { place = place; reply = reply; pulled = outcome } ∷ []

pub PullsAll-more : {S : Type 0} (gives : S → Line → Reply → S → Type 0) (s mid s' : S) (next place place' : ℕ) (heard : List Heard) (reply : Option Reply) (outcome : Pulled)
    → PullsAll gives s next heard place mid → Pulls gives mid place reply (record { pulled = outcome; next = place' }) s'
    → PullsAll gives s next (more heard place reply outcome) place' s'
PullsAll-more gives s mid s' next place place' [] reply outcome before step = (
  before.0,
  place',
  s',
  subst (λ t. Pulls gives t next reply (record { pulled = outcome; next = place' }) s') before.1
      (subst (λ n. Pulls gives mid n reply (record { pulled = outcome; next = place' }) s') before.0 step),
  (refl, refl),
)
PullsAll-more gives s mid s' next place place' (h ∷ heard) reply outcome before step =
    (before.0, before.1, before.2, before.3, PullsAll-more gives before.2 mid s' before.1 place place' heard reply outcome before.4 step)

pub last_levels-more : (n : ℕ) (heard : List Heard) (place : ℕ) (reply : Option Reply) (outcome : Pulled)
    → last_levels n (more heard place reply outcome) ≡ levels_with (last_levels n heard) outcome
last_levels-more n [] place reply outcome = refl
last_levels-more n (h ∷ heard) place reply outcome = last_levels-more (levels_with n h.pulled) heard place reply outcome

pub AllGoOn-more : (quiet n : ℕ) (heard : List Heard) (place : ℕ) (reply : Option Reply) (outcome : Pulled)
    → AllGoOn quiet n heard → GoesOn quiet (levels_with (last_levels n heard) outcome) outcome → AllGoOn quiet n (more heard place reply outcome)
AllGoOn-more quiet n [] place reply outcome before goes = (goes, tt)
AllGoOn-more quiet n (h ∷ heard) place reply outcome before goes =
    (before.0, AllGoOn-more quiet (levels_with n h.pulled) heard place reply outcome before.1 goes)

-- pulling goes on behind fewer Levels in a row than were asked for
one_level : (quiet n : ℕ) (outcome : Pulled) → n < max quiet 1 → GoesOn quiet (levels_with n outcome) outcome → levels_with n outcome < max quiet 1
one_level quiet n pulled.Got few goes = omega arith
one_level quiet n pulled.Level few goes = omega (arith, goes)
one_level quiet n (pulled.Held refusal) few goes = omega arith
one_level quiet n pulled.Strange few goes = omega arith

few_levels : (quiet n : ℕ) (heard : List Heard) → n < max quiet 1 → AllGoOn quiet n heard → last_levels n heard < max quiet 1
few_levels quiet n [] few goes = few
few_levels quiet n (h ∷ heard) few goes =
    few_levels quiet (levels_with n h.pulled) heard (one_level quiet n h.pulled few goes.0) goes.1

-- an outcome that ends it stands last
pub ends_behind : (quiet levels : ℕ) (heard : List Heard) (place : ℕ) (reply : Option Reply) (outcome : Pulled) (ended : PullEnd)
    → AllGoOn quiet 0 heard → levels ≡ levels_with (last_levels 0 heard) outcome → EndsBehind quiet levels outcome ended
    → EndsPull quiet (more heard place reply outcome) ended
ends_behind quiet levels heard place reply pulled.Got ended goes count h = absurd h
ends_behind quiet levels heard place reply pulled.Level ended goes count h =
    let few = few_levels quiet 0 heard (omega arith) goes in
    subst (EndsPull quiet (more heard place reply pulled.Level)) (sym h.0) (
      (heard, record { place = place; reply = reply; pulled = pulled.Level }, refl, refl, goes),
      last_levels-more 0 heard place reply pulled.Level ∙ omega (arith, few, count, h.1),
    )
ends_behind quiet levels heard place reply (pulled.Held refusal) ended goes count h =
    subst (EndsPull quiet (more heard place reply (pulled.Held refusal))) (sym h.0)
    ((heard, record { place = place; reply = reply; pulled = pulled.Held refusal }, refl, refl, goes), h.1)
ends_behind quiet levels heard place reply pulled.Strange ended goes count h =
    subst (EndsPull quiet (more heard place reply pulled.Strange)) (sym h)
    (heard, record { place = place; reply = reply; pulled = pulled.Strange }, refl, refl, goes)

quiet_no_end : end.Quiet ≡ end.End → ⊥
quiet_no_end is = cc

strange_no_end : end.Strange ≡ end.End → ⊥
strange_no_end is = cc

held_no_end : (refusal : Refusal) → end.Held refusal ≡ end.End → ⊥
held_no_end refusal is = cc

-- an outcome does not end it as the end of the bytes does
pub behind_no_end : (quiet levels : ℕ) (outcome : Pulled) (ended : PullEnd) → EndsBehind quiet levels outcome ended → ended ≡ end.End → ⊥
behind_no_end quiet levels pulled.Got ended h is = absurd h
behind_no_end quiet levels pulled.Level ended h is = quiet_no_end (sym h.0 ∙ is)
behind_no_end quiet levels (pulled.Held refusal) ended h is = held_no_end refusal (sym h.0 ∙ is)
behind_no_end quiet levels pulled.Strange ended h is = strange_no_end (sym h ∙ is)

-- where the connection ended it, pulling went on behind all outcomes
pub ends_cut : (quiet : ℕ) (heard : List Heard) (ended : PullEnd) → AllGoOn quiet 0 heard → IsCut ended → EndsPull quiet heard ended
ends_cut quiet heard end.Fault goes cut = goes
ends_cut quiet heard end.End goes cut = goes
ends_cut quiet heard end.Quiet goes cut = absurd cut
ends_cut quiet heard end.Strange goes cut = absurd cut
ends_cut quiet heard (end.Held refusal) goes cut = absurd cut
ends_cut quiet heard end.TooManyTurns goes cut = absurd cut
ends_cut quiet heard end.NoMemory goes cut = absurd cut

-- one outcome more makes at most one Level more
pub levels_few : (levels count turn : ℕ) (outcome : Pulled) → levels ≡ levels_with count outcome → count ≤ turn → levels ≤ turn + 1
levels_few levels count turn pulled.Level is few = omega arith
levels_few levels count turn pulled.Got is few = omega arith
levels_few levels count turn (pulled.Held refusal) is few = omega arith
levels_few levels count turn pulled.Strange is few = omega arith

-- ---- questions that have no reply

-- where the connection ended it, while all of the question was written
pub begun_whole : (asked front : List ℕ) (ended : PullEnd) → IsCut ended → front ≡ asked → IsBegun ended asked 1 front
begun_whole asked front end.Fault cut whole = (refl, ([], sym whole ∙ sym (append-nil front)))
begun_whole asked front end.End cut whole = (refl, whole)
begun_whole asked front end.Quiet cut whole = absurd cut
begun_whole asked front end.Strange cut whole = absurd cut
begun_whole asked front (end.Held refusal) cut whole = absurd cut
begun_whole asked front end.TooManyTurns cut whole = absurd cut
begun_whole asked front end.NoMemory cut whole = absurd cut

-- where an outcome ended it
pub begun_behind : (quiet levels : ℕ) (outcome : Pulled) (asked front : List ℕ) (ended : PullEnd) → EndsBehind quiet levels outcome ended
    → front ≡ [] → IsBegun ended asked 0 front
begun_behind quiet levels pulled.Got asked front ended h none = absurd h
begun_behind quiet levels pulled.Level asked front ended h none = subst (λ (e : PullEnd). IsBegun e asked 0 front) (sym h.0) (refl, none)
begun_behind quiet levels (pulled.Held refusal) asked front ended h none =
    subst (λ (e : PullEnd). IsBegun e asked 0 front) (sym h.0) (refl, none)
begun_behind quiet levels pulled.Strange asked front ended h none = subst (λ (e : PullEnd). IsBegun e asked 0 front) (sym h) (refl, none)

-- ---- turns

-- where the connection ended it, there were no more than it may have
pub turns_cut : (f : Form) (ended : PullEnd) (turns : ℕ) → IsCut ended → 0 < turns → turns ≤ most_turns f → AreTurns f ended turns
turns_cut f end.Fault turns cut some few = (some, few)
turns_cut f end.End turns cut some few = (some, few)
turns_cut f end.Quiet turns cut some few = absurd cut
turns_cut f end.Strange turns cut some few = absurd cut
turns_cut f (end.Held refusal) turns cut some few = absurd cut
turns_cut f end.TooManyTurns turns cut some few = absurd cut
turns_cut f end.NoMemory turns cut some few = absurd cut

-- nor where an outcome did
pub turns_behind : (f : Form) (quiet levels : ℕ) (outcome : Pulled) (ended : PullEnd) (turns : ℕ) → EndsBehind quiet levels outcome ended
    → 0 < turns → turns ≤ most_turns f → AreTurns f ended turns
turns_behind f quiet levels pulled.Got ended turns h some few = absurd h
turns_behind f quiet levels pulled.Level ended turns h some few = subst (λ (e : PullEnd). AreTurns f e turns) (sym h.0) (some, few)
turns_behind f quiet levels (pulled.Held refusal) ended turns h some few = subst (λ (e : PullEnd). AreTurns f e turns) (sym h.0) (some, few)
turns_behind f quiet levels pulled.Strange ended turns h some few = subst (λ (e : PullEnd). AreTurns f e turns) (sym h) (some, few)
