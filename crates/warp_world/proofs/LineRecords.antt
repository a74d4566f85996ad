-- What lines make, where they are the moves of a world: the records that come into the replicas' logs, and no others.
use Rattle.std.proofs.Common.{◌≡◌, ℕ, List, [], ◌∷◌, ◌++◌, slice_get, set, Some, Result, Ok, Err, inl, inr, ◌⊎◌, refl, sym, ap, subst, ◌∙◌}
use Rattle.std.specs.List.{fold}
use Rattle.std.proofs.lemmas.Bool.{cases_eq, or_cases, or_right}
use Rattle.std.proofs.lemmas.List.Sums.{fold-append}
use Rattle.warp_step.specs.Program.{Program}
use Rattle.warp_record.specs.declared.line.Line.{Line}
use Rattle.warp_record.specs.declared.line.Line.TheVariants as line
use Rattle.warp_record.specs.declared.record.Record.{Record}
use Rattle.warp_record.specs.declared.reply.Refusal.{Refusal}
use Rattle.warp_record.specs.declared.reply.Reply.{Reply}
use Rattle.warp_record.specs.declared.reply.Reply.TheVariants as reply
use Rattle.warp_tag.proofs.Lists.{same_some}
use Rattle.warp_table.specs.Announced.{IsWithin}
use Rattle.warp_table.specs.Records.{IsIn, Records, set_of}
use Rattle.warp_table.proofs.Sets.{in_set, set_append}
use Rattle.warp_table.proofs.Members.{Contains-here}
use Rattle.warp_replica.specs.Gives.{Gives, Takes, told}
use Rattle.warp_replica.specs.declared.taking.Took.{Took}
use Rattle.warp_replica.specs.declared.taking.Took.TheVariants.{New, Known}
use Rattle.warp_world.specs.Lines.{GiveAll, LineAt, moves_of, moves_of_all}
use Rattle.warp_world.specs.World.{World, happens, log_of, new_world, world_after}
use Rattle.warp_world.specs.declared.moves.Move.{Move}
use Rattle.warp_world.proofs.GrowingLogs.{set_at_other, set_at_same}
use Rattle.warp_world.proofs.LineMoves.{NotTaken, Stays, collect_stays, known_not, logs, made, refused_not, stays_put}
use Rattle.warp_world.proofs.LogsOfFronts.{begun_within}
use Rattle.warp_world.proofs.SoundLogs.{only_one}

-- the record is in one of these logs
abbrev pub InSome : List (List Record) → Record → Type 0
InSome logs said = (replica : ℕ) × (log : List Record) × (slice_get logs replica ≡ Some log) × IsIn (set_of log) said

-- and stays where a log grows
grown : (logs : List (List Record)) (i : ℕ) (log next : List Record) → slice_get logs i ≡ Some log
    → IsWithin (set_of log) (set_of next) → (said : Record) → InSome logs said → InSome (set logs i next) said
grown logs i log next at wider said (j, old, at_old, here) = elim (cases_eq j i) [
  | inl same ↦
      let is : old ≡ log = same_some old log (sym at_old ∙ ap (slice_get logs) same ∙ at) in
      let there : IsIn (set_of log) said = subst (λ (l : List Record). IsIn (set_of l) said) is here in
      (i, next, set_at_same logs i log next at, wider said there)
  | inr other ↦ (j, old, set_at_other logs i j old next other at_old, here)
]

-- the last one is in the set of a list
last_in : (log : List Record) (said : Record) → IsIn (set_of (log ++ said ∷ [])) said
last_in log said =
    subst (λ (S : Records). IsIn S said) (sym (set_append log (said ∷ [])))
    (or_right (set_of log said) (set_of (said ∷ []) said) ((in_set (said ∷ []) said).0 (Contains-here said [])))

-- what was made before a line or is in the log that it left: it was made before all lines, or is in a log then
one_more : (w : World) (logs : List (List Record)) (i : ℕ) (log next : List Record) → slice_get logs i ≡ Some log
    → IsWithin (set_of log) (set_of next) → (r : Record) (old : Type 0) → (old → IsIn w.made r ⊎ InSome logs r)
    → old ⊎ IsIn (set_of next) r → IsIn w.made r ⊎ InSome (set logs i next) r
one_more w logs i log next at wider r old so_far (inl before) = elim (so_far before) [
  | inl first ↦ inl first
  | inr some ↦ inr (grown logs i log next at wider r some)
]
one_more w logs i log next at wider r old so_far (inr new) = inr (i, next, set_at_same logs i log next at, new)

-- a line at a replica with this log: the log that it leaves has what was in it, and what was made by the line
record Leaves (w later : World) (log after : List Record) : Type 0 where
  wider : IsWithin (set_of log) (set_of after)
  made : (r : Record) → IsIn later.made r → IsIn w.made r ⊎ IsIn (set_of after) r

module _ (P : Program) (w : World) (replica : ℕ) (log after : List Record) (at : log_of w replica ≡ Some log) where
  abbrev LeavesBy : Line → Reply → Type 0
  LeavesBy said answer = Leaves w (fold (happens P) w (moves_of replica said answer)) log after

  leaves_same : (said : Line) (answer : Reply) → Stays P w replica log after said answer → LeavesBy said answer
  leaves_same said answer stays = record {
    wider = subst (λ (l : List Record). IsWithin (set_of log) (set_of l)) (sym stays.0) (λ r h. h);
    made = λ r h. inl (subst (λ (v : World). IsIn v.made r) stays.1 h);
  }

  leaves_more : (said : Record) (place : ℕ) → Gives P log (line.Put said) (reply.Taken place) after
      → LeavesBy (line.Put said) (reply.Taken place)
  leaves_more said place given =
      let comes = made P w replica log at said place after given in
      let last : IsIn (set_of after) said =
      subst (λ (l : List Record). IsIn (set_of l) said) (sym comes.0) (last_in log said) in
      record {
        wider = begun_within after log (said ∷ [], comes.0);
        made = λ r h.
            let joined = subst (λ (v : World). IsIn v.made r) comes.1 h in
            elim (or_cases (w.made r) (set_of (said ∷ []) r) joined) [
              | inl old ↦ inl old
              | inr new ↦ inr (subst (λ (x : Record). IsIn (set_of after) x) (only_one said r new) last)
            ];
      }

  leaves_put : (said : Record) (answer : Reply) (result : Result Took Refusal) → Takes P log said result after
      → answer ≡ told result → LeavesBy (line.Put said) answer
  leaves_put said answer (Ok (New place)) taking is =
      subst (LeavesBy (line.Put said)) (sym is) (leaves_more said place (Ok (New place), taking, refl))
  leaves_put said answer (Ok (Known place)) taking is =
      let other = subst NotTaken (sym is) (known_not place) in
      let stays = stays_put P w replica log after said answer (Ok (Known place)) taking is other in
      leaves_same (line.Put said) answer stays
  leaves_put said answer (Err refusal) taking is =
      let other = subst NotTaken (sym is) (refused_not refusal) in
      let stays = stays_put P w replica log after said answer (Err refusal) taking is other in
      leaves_same (line.Put said) answer stays

  leaves : (said : Line) (answer : Reply) → Gives P log said answer after → LeavesBy said answer
  leaves (line.Put said) answer given = leaves_put said answer given.0 given.1 given.2
  leaves (line.Ask asked) answer given = leaves_same (line.Ask asked) answer (given.1, refl)
  leaves line.Collect answer given = leaves_same line.Collect answer (collect_stays P w replica log after answer given)
  leaves (line.Look look) answer given = leaves_same (line.Look look) answer (given.1, refl)

-- what was made once these lines were given was made before, or is in a log that they left
some_all : (P : Program) (w : World) (lines : List LineAt) (after : List (List Record)) → GiveAll P w.logs lines after
    → (r : Record) → IsIn (fold (happens P) w (moves_of_all lines)).made r → IsIn w.made r ⊎ InSome after r
some_all P w lines after given r h = by w lines given (λ x old. inl old) r h
  where
    by : (v : World) (ls : List LineAt) → GiveAll P v.logs ls after
        → ((x : Record) → IsIn v.made x → IsIn w.made x ⊎ InSome v.logs x)
        → (x : Record) → IsIn (fold (happens P) v (moves_of_all ls)).made x → IsIn w.made x ⊎ InSome after x
    by v [] same so_far x h =
        subst (λ (logs : List (List Record)). IsIn w.made x ⊎ InSome logs x) (sym same) (so_far x h)
    by v (l ∷ ls) (log, next, at, given, rest) so_far x h =
        let moves = moves_of l.replica l.said l.reply in
        let later = fold (happens P) v moves in
        let here : later.logs ≡ set v.logs l.replica next = logs P v l.replica log next at l.said l.reply given in
        let left = leaves P v l.replica log next at l.said l.reply given in
        let onward = subst (λ (logs : List (List Record)). GiveAll P logs ls after) (sym here) rest in
        let all : (y : Record) → IsIn later.made y → IsIn w.made y ⊎ InSome later.logs y =
        (λ y k. subst (λ (logs : List (List Record)). IsIn w.made y ⊎ InSome logs y) (sym here)
        (one_more w v.logs l.replica log next at left.wider y (IsIn v.made y) (so_far y) (left.made y k))) in
        by later ls onward all x
        (subst (λ (u : World). IsIn u.made x) (fold-append (happens P) v moves (moves_of_all ls)) h)

pub made_later : (P : Program) (count : ℕ) (moves : List Move) (lines : List LineAt) (after : List (List Record))
    (r : Record) → GiveAll P (world_after P count moves).logs lines after
    → IsIn (world_after P count (moves ++ moves_of_all lines)).made r
    → IsIn (world_after P count moves).made r ⊎ InSome after r
made_later P count moves lines after r given h =
    some_all P (world_after P count moves) lines after given r
    (subst (λ (u : World). IsIn u.made r) (fold-append (happens P) (new_world count) moves (moves_of_all lines)) h)
