-- What two sets of records release: the same where they are one set, and else, within an honest one, lists of which one begins
-- the other.
use Rattle.std.proofs.Common.{◌≡◌, ◌⊎◌, List, sym, ap, subst, ◌∙◌}
use Rattle.warp_tag.specs.Lists.{StartsWith}
use Rattle.warp_step.specs.Program.{Program}
use Rattle.warp_tag.specs.declared.out.Out.{Out}
use Rattle.warp_table.specs.Announced.{IsHonest, IsWithin}
use Rattle.warp_table.specs.Records.{Records}
use Rattle.warp_replica.specs.Answers.{Answers, AreAnswers, IsReleased}
use Rattle.warp_replica.specs.Release.{AreTaken}
use Rattle.warp_replica.proofs.ReleasedLists.{released_agree, released_stays}
use Rattle.warp_replica.proofs.Replies.{same_answers}

-- both programs are one
module _ (P Q : Program) (S T : Records) (one other : List Out) (runs : P ≡ Q) (h : IsReleased P S one)
    (k : IsReleased Q T other) where
  -- the second answers too are the first program's
  of_first : AreAnswers P T k.0
  of_first = subst (λ (R : Program). AreAnswers R T k.0) (sym runs) k.1

  -- one set releases one list
  pub same_released : S ≡ T → one ≡ other
  same_released same = h.2 ∙ ap (λ (a : Answers). a.released) (same_answers P S T same h.0 k.0 h.1 of_first) ∙ sym k.2

  -- what holds of the lists that the answers have holds of these
  with_lists : (R : List Out → List Out → Type 0) → R h.0.released k.0.released → R one other
  with_lists R holds =
      subst (λ (outs : List Out). R outs other) (sym h.2) (subst (λ (outs : List Out). R h.0.released outs) (sym k.2) holds)

  -- of two sets within an honest one, one list begins the other
  pub either_begins : (all : Records) → IsHonest all → AreTaken P all → IsWithin S all → IsWithin T all
      → StartsWith other one ⊎ StartsWith one other
  either_begins all honest taken within also =
      with_lists (λ outs others. StartsWith others outs ⊎ StartsWith outs others)
      (released_agree P S T all h.0 k.0 honest taken within also h.1 of_first)

  -- and that of the smaller set begins that of the larger one
  pub smaller_begins : (all : Records) → IsHonest all → AreTaken P all → IsWithin S T → IsWithin T all → StartsWith other one
  smaller_begins all honest taken within larger =
      with_lists (λ outs others. StartsWith others outs)
      (released_stays P S T all h.0 k.0 honest taken within larger h.1 of_first)
