-- Where all origins are kept the set is honest, and what is released stays.
use Rattle.std.proofs.Common.{◌⊎◌, ℕ, ◌<◌, Bool, List, [], ◌++◌, IsTrue, refl, sym, subst}
use Rattle.warp_tag.specs.Lists.{StartsWith}
use Rattle.warp_tag.specs.Moment.{Moment}
use Rattle.warp_step.specs.Program.{Program}
use Rattle.warp_record.specs.declared.record.Record.{Record}
use Rattle.warp_record.specs.declared.record.Record.TheVariants.{Announce, Joint}
use Rattle.warp_table.specs.Records.{IsIn, Records, set_of}
use Rattle.warp_table.specs.Announced.{IsBroken, IsHonest, IsWithin}
use Rattle.warp_replica.specs.Answers.{Answers, AreAnswers}
use Rattle.warp_replica.specs.Release.{AreTaken}
use Rattle.warp_replica.proofs.ReleasedLists.{released_agree, released_stays}
use Rattle.warp_keep.specs.Kept.{GoesOn, HasFrom, AreAllKept, NoneBehind}
use Rattle.warp_keep.specs.Judging.{MayBeKept}
use Rattle.warp_keep.proofs.Unbroken.{none_broken, part_whole}
use Rattle.warp_keep.proofs.UnbrokenJointly.{declared_own, may_begin, none_broken_jointly}

-- an origin that broke an announcement in a set of records that the program takes is one of the program's
broken_declared : (P : Program) (S : Records) → AreTaken P S → (origin : ℕ) → IsBroken S origin → origin < P.origins
broken_declared P S taken origin broken =
    let said : Record = Announce origin broken.0 broken.1 broken.2 in
    declared_own P origin said refl (taken said broken.3)

pub kept_log : (P : Program) (keeps : ℕ → Bool) (first log : List Record) → AreAllKept P keeps → AreTaken P (set_of log) → IsHonest (set_of first) → GoesOn keeps first log → IsHonest (set_of log)
kept_log P keeps first log kept taken honest on =
    subst (λ (l : List Record). IsHonest (set_of l)) (sym on.1) (record {
      each = λ origin broken. none_broken keeps first on.0 origin (kept origin (broken_declared P (set_of (first ++ on.0)) taken' origin broken)) (honest.each origin) on.2 broken;
      jointly = none_broken_jointly P keeps first on.0 kept taken' honest.jointly on.2;
    })
  where
    taken' : AreTaken P (set_of (first ++ on.0))
    taken' = subst (λ (l : List Record). AreTaken P (set_of l)) on.1 taken

pub keepers : (P : Program) (U : Records) (keeps : ℕ → ℕ → Bool) (first log : ℕ → List Record) → AreTaken P U →
    ((end : Moment) (events withdrawn : ℕ) → IsIn U (Joint end events withdrawn) → ⊥) →
    ((origin : ℕ) → origin < P.origins → IsTrue (keeps origin origin)) →
    ((origin : ℕ) → origin < P.origins → IsBroken (set_of (first origin)) origin → ⊥) →
    ((origin : ℕ) → origin < P.origins → GoesOn (keeps origin) (first origin) (log origin)) →
    ((origin : ℕ) → origin < P.origins → HasFrom U origin (log origin)) → IsHonest U
keepers P U keeps first log taken no_joint kept whole on has = record {
  each = λ origin broken.
      let below = broken_declared P U taken origin broken in
      let goes = on origin below in
      part_whole U (set_of (log origin)) origin
      (subst (λ (l : List Record). IsBroken (set_of l) origin → ⊥) (sym goes.1) (none_broken (keeps origin) (first origin) goes.0 origin (kept origin below) (whole origin below) goes.2))
      (has origin below) broken;
  jointly = λ broken. no_joint broken.0 broken.1 broken.2 broken.3;
}

pub may_start : (P : Program) (S : Records) → AreTaken P S → ((origin : ℕ) → origin < P.origins → MayBeKept S origin) → IsHonest S
may_start P S taken may = record {
  each = λ origin broken. (may origin (broken_declared P S taken origin broken)).0 broken;
  jointly = may_begin P S taken (λ origin below. (may origin below).1);
}

pub kept_stays : (P : Program) (keeps : ℕ → Bool) (first log : List Record) (S T : Records) (a b : Answers) →
    AreAllKept P keeps → IsHonest (set_of first) → GoesOn keeps first log → AreTaken P (set_of log) →
    IsWithin S T → IsWithin T (set_of log) → AreAnswers P S a → AreAnswers P T b → StartsWith b.released a.released
kept_stays P keeps first log S T a b kept honest on taken inner outer =
    released_stays P S T (set_of log) a b (kept_log P keeps first log kept taken honest on) taken inner outer

pub kept_agree : (P : Program) (keeps : ℕ → Bool) (first log : List Record) (S T : Records) (a b : Answers) →
    AreAllKept P keeps → IsHonest (set_of first) → GoesOn keeps first log → AreTaken P (set_of log) →
    IsWithin S (set_of log) → IsWithin T (set_of log) → AreAnswers P S a → AreAnswers P T b →
    StartsWith b.released a.released ⊎ StartsWith a.released b.released
kept_agree P keeps first log S T a b kept honest on taken one other =
    released_agree P S T (set_of log) a b (kept_log P keeps first log kept taken honest on) taken one other

nothing_said : IsHonest (set_of [])
nothing_said = record {
  each = λ origin broken. absurd cc;
  jointly = λ broken. absurd cc;
}

pub kept_anew : (P : Program) (keeps : ℕ → Bool) (log : List Record) (S T : Records) (a b : Answers) →
    AreAllKept P keeps → NoneBehind keeps [] log → AreTaken P (set_of log) → IsWithin S T → IsWithin T (set_of log) →
    AreAnswers P S a → AreAnswers P T b → StartsWith b.released a.released
kept_anew P keeps log S T a b kept behind taken inner outer =
    kept_stays P keeps [] log S T a b kept nothing_said (log, refl, behind) taken inner outer
