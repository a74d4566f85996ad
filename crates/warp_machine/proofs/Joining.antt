-- Steps, and then more.
use Rattle.std.proofs.Common.{◌≡◌, ◌⊎◌, ℕ, Bool, List, [], ◌∷◌, ◌++◌, Option, Some, None, take, drop, refl, sym, ap, ◌∙◌, subst, inl, inr, append_assoc}
use Rattle.std.proofs.lemmas.List.{append-nil, take-append-drop}
use Rattle.warp_replica.specs.Answered.{TimelineFacts}
use Rattle.warp_hub.specs.declared.rights.Rights.TheVariants as rights
use Rattle.warp_hub.specs.declared.tokens.Entry.{Entry}
use Rattle.warp_watch.specs.declared.client_id.ClientId.{ClientId}
use Rattle.warp_clients.specs.Client.{Heard, Wrote, bytes_for}
use Rattle.warp_clients.specs.Crowd.{IsThere}
use Rattle.warp_clients.specs.Steps.{AreInner, ClientsState, Does, Enters, Fails, IsInner, Joins, Leaves, Limits, Renews, Step, StepDoes, Turned}
use Rattle.warp_clients.proofs.Moving.{run_none, run_on, run_one, runs_join}
use Rattle.warp_machine.specs.Moving.{AreAmong, HearsEach, HearsOf, IsAny, IsFollowing, IsHearing, IsPassing, Lived, MayLeave, MayWriteOf, Moved, MovedWith, Stepped, TurnsAway, all_of}

pub by_step : {T : Type 0} (facts : TimelineFacts T) (step : Step) (s s' : ClientsState T) → IsInner step → StepDoes facts step s s' → Moved facts s s'
by_step facts step s s' inner does = record { run = run_one facts step s s' inner does }

pub stays : {T : Type 0} (facts : TimelineFacts T) (s s' : ClientsState T) → s' ≡ s → Moved facts s s'
stays facts s s' same = record { run = run_none facts s s' same }

pub joined : {T : Type 0} (facts : TimelineFacts T) (s s1 s2 : ClientsState T) → Moved facts s s1 → Moved facts s1 s2 → Moved facts s s2
joined facts s s1 s2 one two = record { run = run_on facts s s1 s2 one.run two.run }

-- by a step, or not at all
pub may_step : {T : Type 0} (facts : TimelineFacts T) (step : Step) (s s' : ClientsState T) → IsInner step → (s' ≡ s) ⊎ StepDoes facts step s s'
    → Moved facts s s'
may_step facts step s s' inner (inl same) = stays facts s s' same
may_step facts step s s' inner (inr does) = by_step facts step s s' inner does

-- steps, and then nothing; nothing, and then steps
pub kept_on : {T : Type 0} (facts : TimelineFacts T) (s s1 s2 : ClientsState T) → Moved facts s s1 → s2 ≡ s1 → Moved facts s s2
kept_on facts s s1 s2 moved same = joined facts s s1 s2 moved (stays facts s1 s2 same)

pub kept_first : {T : Type 0} (facts : TimelineFacts T) (s s1 s2 : ClientsState T) → s1 ≡ s → Moved facts s1 s2 → Moved facts s s2
kept_first facts s s1 s2 same moved = joined facts s s1 s2 (stays facts s s1 same) moved

-- a client goes, or it was not there
pub left : {T : Type 0} (facts : TimelineFacts T) (who : ClientId) (s s' : ClientsState T) → MayLeave facts who s s' → Moved facts s s'
left facts who s s' (inl same) = stays facts s s' same
left facts who s s' (inr leaves) = by_step facts (Leaves who) s s' tt leaves.does

-- nobody comes

pub not_come : {T : Type 0} (facts : TimelineFacts T) (s s' : ClientsState T)
    → (s' ≡ s) ⊎ ((who : ClientId) × StepDoes facts (Turned who) s s') → TurnsAway facts s s'
not_come facts s s' (inl same) = inl same
not_come facts s s' (inr turned) = inr (inl (turned.0, record { does = turned.1 }))

pub away_first : {T : Type 0} (facts : TimelineFacts T) (s s1 s2 : ClientsState T) → s1 ≡ s → TurnsAway facts s1 s2 → TurnsAway facts s s2
away_first {T} facts s s1 s2 same away = subst (λ (x : ClientsState T). TurnsAway facts x s2) same away

-- one came, and goes
pub away_again : {T : Type 0} (facts : TimelineFacts T) (who : ClientId) (s s1 s2 s3 s4 : ClientsState T) → s1 ≡ s
    → Stepped facts (Joins who) s1 s2 → s3 ≡ s2 → MayLeave facts who s3 s4 → TurnsAway facts s s4
away_again {T} facts who s s1 s2 s3 s4 same joins kept leaves = inr (inr (
  who,
  s2,
  subst (λ (x : ClientsState T). Stepped facts (Joins who) x s2) same joins,
  subst (λ (x : ClientsState T). MayLeave facts who x s4) kept leaves,
))

pub leaves_first : {T : Type 0} (facts : TimelineFacts T) (who : ClientId) (s s1 s2 : ClientsState T) → s1 ≡ s → MayLeave facts who s1 s2
    → MayLeave facts who s s2
leaves_first {T} facts who s s1 s2 same leaves = subst (λ (x : ClientsState T). MayLeave facts who x s2) same leaves

pub leaves_on : {T : Type 0} (facts : TimelineFacts T) (who : ClientId) (s s1 s2 : ClientsState T) → MayLeave facts who s s1 → s2 ≡ s1
    → MayLeave facts who s s2
leaves_on {T} facts who s s1 s2 leaves same = subst (λ (x : ClientsState T). MayLeave facts who s x) (sym same) leaves

-- how much may be told, and whether records are refused
pub told_steps : {T : Type 0} (facts : TimelineFacts T) (limit : ℕ) (failing : Bool) (s s1 s2 s3 : ClientsState T) → s1 ≡ s
    → StepDoes facts (Limits limit) s1 s2 → StepDoes facts (Fails failing) s2 s3
    → (between : ClientsState T) × Stepped facts (Limits limit) s between × Stepped facts (Fails failing) between s3
told_steps {T} facts limit failing s s1 s2 s3 same limits fails = (
  s2,
  subst (λ (x : ClientsState T). Stepped facts (Limits limit) x s2) same (record { does = limits }),
  record { does = fails },
)

-- other tokens, where there are any

pub renewed : {T : Type 0} (facts : TimelineFacts T) (entries : List Entry) (s s' : ClientsState T)
    → ((before : List Entry) → s.crowd.common.facts.tokens ≡ Some before → StepDoes facts (Renews entries) s s')
    → (s.crowd.common.facts.tokens ≡ None → s' ≡ s) → (s' ≡ s) ⊎ Stepped facts (Renews entries) s s'
renewed {T} facts entries s s' some none = by_tokens s.crowd.common.facts.tokens refl
  where
    by_tokens : (tokens : Option (List Entry)) → s.crowd.common.facts.tokens ≡ tokens → (s' ≡ s) ⊎ Stepped facts (Renews entries) s s'
    by_tokens None is = inl (none is)
    by_tokens (Some before) is = inr (record { does = some before is })

pub renewed_first : {T : Type 0} (facts : TimelineFacts T) (entries : List Entry) (s s1 s2 : ClientsState T) → s1 ≡ s
    → (s2 ≡ s1) ⊎ Stepped facts (Renews entries) s1 s2 → (s2 ≡ s) ⊎ Stepped facts (Renews entries) s s2
renewed_first {T} facts entries s s1 s2 same one =
    subst (λ (x : ClientsState T). (s2 ≡ x) ⊎ Stepped facts (Renews entries) x s2) same one

pub some_renewed : {T : Type 0} (facts : TimelineFacts T) (entries : List Entry) (s s' : ClientsState T)
    → (s' ≡ s) ⊎ Stepped facts (Renews entries) s s' → (s' ≡ s) ⊎ ((found : List Entry) × Stepped facts (Renews found) s s')
some_renewed facts entries s s' (inl same) = inl same
some_renewed facts entries s s' (inr one) = inr (entries, one)

-- such steps among them

among_both : (May : Step → Type 0) (one two : List Step) → AreAmong May one → AreAmong May two → AreAmong May (one ++ two)
among_both May [] two first second = second
among_both May (step ∷ one) two first second = (first.0, among_both May one two first.1 second)

inner_among : (May : Step → Type 0) (steps : List Step) → AreInner steps → AreAmong May steps
inner_among May [] inner = tt
inner_among May (step ∷ steps) inner = (inl inner.0, inner_among May steps inner.1)

pub moved_with : {T : Type 0} (facts : TimelineFacts T) (May : Step → Type 0) (s s' : ClientsState T) → Moved facts s s' → MovedWith facts May s s'
moved_with facts May s s' moved =
    record { steps = moved.run.0; each = inner_among May moved.run.0 moved.run.1; runs = moved.run.2 }

pub stays_with : {T : Type 0} (facts : TimelineFacts T) (May : Step → Type 0) (s s' : ClientsState T) → s' ≡ s → MovedWith facts May s s'
stays_with facts May s s' same = record { steps = []; each = tt; runs = same }

pub step_with : {T : Type 0} (facts : TimelineFacts T) (May : Step → Type 0) (step : Step) (s s' : ClientsState T) → May step
    → Stepped facts step s s' → MovedWith facts May s s'
step_with facts May step s s' may stepped = record { steps = step ∷ []; each = (inr may, tt); runs = (s', stepped.does, refl) }

pub joined_with : {T : Type 0} (facts : TimelineFacts T) (May : Step → Type 0) (s s1 s2 : ClientsState T) → MovedWith facts May s s1
    → MovedWith facts May s1 s2 → MovedWith facts May s s2
joined_with facts May s s1 s2 one two = record {
  steps = one.steps ++ two.steps;
  each = among_both May one.steps two.steps one.each two.each;
  runs = runs_join facts one.steps two.steps s s1 s2 one.runs two.runs;
}

pub with_first : {T : Type 0} (facts : TimelineFacts T) (May : Step → Type 0) (s s1 s2 : ClientsState T) → s1 ≡ s
    → MovedWith facts May s1 s2 → MovedWith facts May s s2
with_first {T} facts May s s1 s2 same moved = subst (λ (x : ClientsState T). MovedWith facts May x s2) same moved

pub with_on : {T : Type 0} (facts : TimelineFacts T) (May : Step → Type 0) (s s1 s2 : ClientsState T) → MovedWith facts May s s1 → s2 ≡ s1
    → MovedWith facts May s s2
with_on {T} facts May s s1 s2 moved same = subst (λ (x : ClientsState T). MovedWith facts May s x) (sym same) moved

-- a client comes that brings a peer's lines
pub follows : {T : Type 0} (facts : TimelineFacts T) (who : ClientId) (s s' : ClientsState T) → Stepped facts (Enters who rights.All) s s'
    → MovedWith facts IsFollowing s s'
follows facts who s s' enters = step_with facts IsFollowing (Enters who rights.All) s s' (who, refl) enters

-- by any steps

among_any : (May : Step → Type 0) (steps : List Step) → AreAmong May steps → AreAmong IsAny steps
among_any May [] each = tt
among_any May (step ∷ steps) (inl inner, each) = (inl inner, among_any May steps each)
among_any May (step ∷ steps) (inr may, each) = (inr tt, among_any May steps each)

pub lived : {T : Type 0} (facts : TimelineFacts T) (May : Step → Type 0) (s s' : ClientsState T) → MovedWith facts May s s' → Lived facts s s'
lived facts May s s' moved = record { steps = moved.steps; each = among_any May moved.steps moved.each; runs = moved.runs }

pub lived_step : {T : Type 0} (facts : TimelineFacts T) (step : Step) (s s' : ClientsState T) → Stepped facts step s s' → Lived facts s s'
lived_step facts step s s' stepped = step_with facts IsAny step s s' tt stepped

pub lived_inner : {T : Type 0} (facts : TimelineFacts T) (s s' : ClientsState T) → Moved facts s s' → Lived facts s s'
lived_inner facts s s' moved = moved_with facts IsAny s s' moved

pub lived_away : {T : Type 0} (facts : TimelineFacts T) (s s' : ClientsState T) → TurnsAway facts s s' → Lived facts s s'
lived_away facts s s' (inl same) = stays_with facts IsAny s s' same
lived_away facts s s' (inr (inl turned)) = lived_step facts (Turned turned.0) s s' turned.1
lived_away facts s s' (inr (inr came)) =
    joined_with facts IsAny s came.1 s' (lived_step facts (Joins came.0) s came.1 came.2)
    (lived_inner facts came.1 s' (left facts came.0 came.1 s' came.3))

among_passing : (steps : List Step) → AreAmong IsHearing steps → AreAmong IsPassing steps
among_passing [] each = tt
among_passing (step ∷ steps) (inl inner, each) = (inl inner, among_passing steps each)
among_passing (step ∷ steps) (inr hears, each) = (inr (inl hears), among_passing steps each)

-- where bytes are heard, some may count as written too
pub passing : {T : Type 0} (facts : TimelineFacts T) (s s' : ClientsState T) → MovedWith facts IsHearing s s' → MovedWith facts IsPassing s s'
passing facts s s' hears = record { steps = hears.steps; each = among_passing hears.steps hears.each; runs = hears.runs }

-- bytes of one client

each_first : {T : Type 0} (facts : TimelineFacts T) (who : ClientId) (pieces : List (List ℕ)) (s s1 s2 : ClientsState T) → Moved facts s s1
    → HearsEach facts who pieces s1 s2 → HearsEach facts who pieces s s2
each_first facts who [] s s1 s2 moved each = joined facts s s1 s2 moved each
each_first facts who (piece ∷ pieces) s s1 s2 moved each = (each.0, each.1, joined facts s s1 each.0 moved each.2, each.3, each.4)

each_both : {T : Type 0} (facts : TimelineFacts T) (who : ClientId) (one two : List (List ℕ)) (s s1 s2 : ClientsState T)
    → HearsEach facts who one s s1 → HearsEach facts who two s1 s2 → HearsEach facts who (one ++ two) s s2
each_both facts who [] two s s1 s2 first second = each_first facts who two s s1 s2 first second
each_both facts who (piece ∷ one) two s s1 s2 first second =
    (first.0, first.1, first.2, first.3, each_both facts who one two first.1 s1 s2 first.4 second)

each_last : {T : Type 0} (facts : TimelineFacts T) (who : ClientId) (pieces : List (List ℕ)) (s s1 s2 : ClientsState T)
    → HearsEach facts who pieces s s1 → Moved facts s1 s2 → HearsEach facts who pieces s s2
each_last facts who [] s s1 s2 each moved = joined facts s s1 s2 each moved
each_last facts who (piece ∷ pieces) s s1 s2 each moved =
    (each.0, each.1, each.2, each.3, each_last facts who pieces each.1 s1 s2 each.4 moved)

all_both : (one two : List (List ℕ)) → all_of (one ++ two) ≡ all_of one ++ all_of two
all_both [] two = refl
all_both (piece ∷ one) two =
    ap (λ (bytes : List ℕ). piece ++ bytes) (all_both one two) ∙ sym (append_assoc piece (all_of one) (all_of two))

-- nothing is heard
pub hears_none : {T : Type 0} (facts : TimelineFacts T) (who : ClientId) (bytes : List ℕ) (s s' : ClientsState T) → Moved facts s s'
    → HearsOf facts who bytes s s'
hears_none facts who bytes s s' moved = record { pieces = []; rest = bytes; all = refl; each = moved }

-- the first so many are heard
pub hears_one : {T : Type 0} (facts : TimelineFacts T) (who : ClientId) (bytes : List ℕ) (count : ℕ) (s s' : ClientsState T)
    → Stepped facts (Does who (Heard (take count bytes))) s s' → HearsOf facts who bytes s s'
hears_one facts who bytes count s s' stepped = record {
  pieces = take count bytes ∷ [];
  rest = drop count bytes;
  all = sym (take-append-drop count bytes) ∙ ap (λ (front : List ℕ). front ++ drop count bytes) (sym (append-nil (take count bytes)));
  each = (s, s', stays facts s s refl, stepped, stays facts s' s' refl);
}

-- and then steps; nothing, and then they are heard
pub hears_on : {T : Type 0} (facts : TimelineFacts T) (who : ClientId) (bytes : List ℕ) (s s1 s2 : ClientsState T) → HearsOf facts who bytes s s1
    → Moved facts s1 s2 → HearsOf facts who bytes s s2
hears_on facts who bytes s s1 s2 hears moved =
    record { pieces = hears.pieces; rest = hears.rest; all = hears.all; each = each_last facts who hears.pieces s s1 s2 hears.each moved }

pub hears_first : {T : Type 0} (facts : TimelineFacts T) (who : ClientId) (bytes : List ℕ) (s s1 s2 : ClientsState T) → Moved facts s s1
    → HearsOf facts who bytes s1 s2 → HearsOf facts who bytes s s2
hears_first facts who bytes s s1 s2 moved hears =
    record { pieces = hears.pieces; rest = hears.rest; all = hears.all; each = each_first facts who hears.pieces s s1 s2 moved hears.each }

-- of these, and more behind them, the first are heard
pub hears_longer : {T : Type 0} (facts : TimelineFacts T) (who : ClientId) (bytes more : List ℕ) (s s' : ClientsState T)
    → HearsOf facts who bytes s s' → HearsOf facts who (bytes ++ more) s s'
hears_longer facts who bytes more s s' hears = record {
  pieces = hears.pieces;
  rest = hears.rest ++ more;
  all = ap (λ (front : List ℕ). front ++ more) hears.all ∙ append_assoc (all_of hears.pieces) hears.rest more;
  each = hears.each;
}

-- the first so many are heard, and then the first of the others
pub hears_more : {T : Type 0} (facts : TimelineFacts T) (who : ClientId) (bytes : List ℕ) (count : ℕ) (s s1 s2 : ClientsState T)
    → Stepped facts (Does who (Heard (take count bytes))) s s1 → HearsOf facts who (drop count bytes) s1 s2 → HearsOf facts who bytes s s2
hears_more facts who bytes count s s1 s2 stepped hears = record {
  pieces = take count bytes ∷ hears.pieces;
  rest = hears.rest;
  all = sym (take-append-drop count bytes) ∙ ap (λ (end : List ℕ). take count bytes ++ end) hears.all
      ∙ sym (append_assoc (take count bytes) (all_of hears.pieces) hears.rest);
  each = (s, s1, stays facts s s refl, stepped, hears.each);
}

each_with : {T : Type 0} (facts : TimelineFacts T) (who : ClientId) (pieces : List (List ℕ)) (s s' : ClientsState T)
    → HearsEach facts who pieces s s' → MovedWith facts IsHearing s s'
each_with facts who [] s s' each = moved_with facts IsHearing s s' each
each_with facts who (piece ∷ pieces) s s' each =
    joined_with facts IsHearing s each.0 s' (moved_with facts IsHearing s each.0 each.2)
    (joined_with facts IsHearing each.0 each.1 s'
    (step_with facts IsHearing (Does who (Heard piece)) each.0 each.1 (who, piece, refl) each.3)
    (each_with facts who pieces each.1 s' each.4))

pub hearing : {T : Type 0} (facts : TimelineFacts T) (who : ClientId) (bytes : List ℕ) (s s' : ClientsState T) → HearsOf facts who bytes s s'
    → MovedWith facts IsHearing s s'
hearing facts who bytes s s' hears = each_with facts who hears.pieces s s' hears.each

-- some count as written

pub may_write : {T : Type 0} (facts : TimelineFacts T) (who : ClientId) (count : ℕ) (s s' : ClientsState T)
    → (s' ≡ s) ⊎ IsThere who (λ c. StepDoes facts (Does who (Wrote (take count (bytes_for c)))) s s') s.crowd.clients
    → MayWriteOf facts who count s s'
may_write facts who count s s' (inl same) = inl (stays facts s s' same)
may_write facts who count s s' (inr w) = inr (record {
  client = w.0;
  there = w.1;
  me = w.2;
  between = s';
  writes = record { does = w.3 };
  moved = stays facts s' s' refl;
})

pub writes_on : {T : Type 0} (facts : TimelineFacts T) (who : ClientId) (count : ℕ) (s s1 s2 : ClientsState T) → MayWriteOf facts who count s s1
    → Moved facts s1 s2 → MayWriteOf facts who count s s2
writes_on facts who count s s1 s2 (inl one) two = inl (joined facts s s1 s2 one two)
writes_on facts who count s s1 s2 (inr w) two = inr (record {
  client = w.client;
  there = w.there;
  me = w.me;
  between = w.between;
  writes = w.writes;
  moved = joined facts w.between s1 s2 w.moved two;
})

pub writes_first : {T : Type 0} (facts : TimelineFacts T) (who : ClientId) (count : ℕ) (s s1 s2 : ClientsState T) → s1 ≡ s
    → MayWriteOf facts who count s1 s2 → MayWriteOf facts who count s s2
writes_first {T} facts who count s s1 s2 same writes = subst (λ (x : ClientsState T). MayWriteOf facts who count x s2) same writes

pub writing : {T : Type 0} (facts : TimelineFacts T) (who : ClientId) (count : ℕ) (s s' : ClientsState T) → MayWriteOf facts who count s s'
    → MovedWith facts IsPassing s s'
writing facts who count s s' (inl moved) = moved_with facts IsPassing s s' moved
writing facts who count s s' (inr w) =
    joined_with facts IsPassing s w.between s'
    (step_with facts IsPassing (Does who (Wrote (take count (bytes_for w.client)))) s w.between
    (inr (who, take count (bytes_for w.client), refl)) w.writes)
    (moved_with facts IsPassing w.between s' w.moved)
