-- The logs of a world after the first of some moves: all their records are among those made by the end, and a log has those
-- that it had earlier, unless its replica was restarted between.
use Rattle.std.proofs.Common.{◌≡◌, ◌≤◌, ℕ, List, ◌++◌, drop, take, Some, Contains, sym, ap, subst, ◌∙◌}
use Rattle.std.specs.List.{fold}
use Rattle.std.proofs.lemmas.Bool.{or_left}
use Rattle.std.proofs.lemmas.List.{take-append-drop, take-take}
use Rattle.std.proofs.lemmas.List.Sums.{fold-append}
use Rattle.warp_tag.specs.Lists.{StartsWith}
use Rattle.warp_tag.proofs.Lists.{same_some}
use Rattle.warp_step.specs.Program.{Program}
use Rattle.warp_record.specs.declared.record.Record.{Record}
use Rattle.warp_table.specs.Announced.{IsWithin}
use Rattle.warp_table.specs.Records.{IsIn, Records, set_of}
use Rattle.warp_table.proofs.Sets.{set_append}
use Rattle.warp_replica.specs.Release.{AreTaken}
use Rattle.warp_world.specs.World.{World, happens, log_of, new_world, world_after}
use Rattle.warp_world.specs.declared.moves.Move.{Move}
use Rattle.warp_world.specs.declared.moves.Move.TheVariants.{Restart}
use Rattle.warp_world.proofs.GrowingLogs.{follows_fold, front_fold}
use Rattle.warp_world.proofs.SoundLogs.{All_at, IsSoundLog, sound_after}

-- a list has the records of each of its fronts
pub begun_within : (late early : List Record) → StartsWith late early → IsWithin (set_of early) (set_of late)
begun_within late early begun said h =
    subst (λ (log : List Record). IsIn (set_of log) said) (sym begun.1)
    (subst (λ (S : Records). IsIn S said) (sym (set_append early begun.0)) (or_left (set_of early said) (set_of begun.0 said) h))

module _ (P : Program) (count : ℕ) (moves : List Move) where
  -- the program takes what was made
  pub made_taken : AreTaken P (world_after P count moves).made
  made_taken = (sound_after P count moves).taken

  -- what was made by any front was made by the end
  made_by_end : (i : ℕ) → IsWithin (world_after P count (take i moves)).made (world_after P count moves).made
  made_by_end i =
      let front = world_after P count (take i moves) in
      subst (λ (ms : List Move). IsWithin front.made (world_after P count ms).made) (take-append-drop i moves)
      (subst (λ (w : World). IsWithin front.made w.made)
      (sym (fold-append (happens P) (new_world count) (take i moves) (drop i moves))) (follows_fold P front (drop i moves)).made)

  -- and so was each record of a log
  pub front_within : (i replica : ℕ) (log : List Record) → log_of (world_after P count (take i moves)) replica ≡ Some log
      → IsWithin (set_of log) (world_after P count moves).made
  front_within i replica log at said h =
      let front = world_after P count (take i moves) in
      let sound = All_at (IsSoundLog P.form front.made) front.logs replica log (sound_after P count (take i moves)).logs at in
      made_by_end i said (sound.within said h)

  -- the moves of a longer front are those of a shorter one, and some more
  world_later : (i j : ℕ) → i ≤ j
      → world_after P count (take j moves) ≡ fold (happens P) (world_after P count (take i moves)) (drop i (take j moves))
  world_later i j le =
      let parts : take j moves ≡ take i moves ++ drop i (take j moves) =
      sym (take-append-drop i (take j moves)) ∙ ap (λ (ms : List Move). ms ++ drop i (take j moves)) (take-take i j moves le) in
      ap (world_after P count) parts ∙ fold-append (happens P) (new_world count) (take i moves) (drop i (take j moves))

  -- a log has the records that it had earlier
  pub early_within : (i j replica : ℕ) (early late : List Record) → i ≤ j → ¬ Contains (drop i (take j moves)) (Restart replica)
      → log_of (world_after P count (take i moves)) replica ≡ Some early
      → log_of (world_after P count (take j moves)) replica ≡ Some late → IsWithin (set_of early) (set_of late)
  early_within i j replica early late le stays at_early at_late =
      let kept = front_fold P replica (world_after P count (take i moves)) (drop i (take j moves)) stays early at_early in
      let is : kept.0 ≡ late =
      same_some kept.0 late (sym kept.1 ∙ ap (λ (w : World). log_of w replica) (sym (world_later i j le)) ∙ at_late) in
      begun_within late early (subst (λ (log : List Record). StartsWith log early) is kept.2)
