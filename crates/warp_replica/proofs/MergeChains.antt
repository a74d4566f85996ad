-- Merging is a chain of takings of the other log's records.
use Rattle.std.proofs.Common.{◌≡◌, ℕ, ◌+◌, Bool, Option, List, [], ◌∷◌, ◌++◌, map, drop, slice_get, take, Some, refl}
use Rattle.std.proofs.Common.{sym, ap, subst, ◌∙◌}
use Rattle.std.proofs.lemmas.List.{map-append, take_more, take-append-drop}
use Rattle.std.proofs.lemmas.Option.{get_or_from_slice_get, slice_get_within}
use Rattle.warp_tag.specs.Moment.{Moment}
use Rattle.warp_record.specs.declared.record.Record.{Record}
use Rattle.warp_line.specs.Timeline.{Standing}
use Rattle.warp_replica.specs.Chain.{Taking, TakesIn, TakeAll, TakeFirst}
use Rattle.warp_replica.specs.Replica.{ReplicaState}
use Rattle.warp_replica.proofs.MergeProgress.{HasMerged}

-- so many records of the other log are in, and were taken one after another
pub record Merging {T : Type 0} (stands_for : T → Standing → Type 0) (floor : T → Option Moment) (slack drops : ℕ)
    (is_settled : T → Bool) (old new : ReplicaState T) (theirs : List Record) (count : ℕ)
    : Type 0 where
  pub far : HasMerged stands_for is_settled old new theirs count
  pub takings : List (Taking T)
  pub all : TakeAll stands_for floor slack drops old takings new
  pub said : map (λ (taking : Taking T). taking.said) takings ≡ take count theirs

module _ {T : Type 0} (stands_for : T → Standing → Type 0) (floor : T → Option Moment) (slack drops : ℕ) where
  -- one more at the end
  chain_more : (r now : ReplicaState T) (takings : List (Taking T)) (one : Taking T)
      → TakeAll stands_for floor slack drops r takings now
      → TakesIn stands_for floor slack drops now one
      → TakeAll stands_for floor slack drops r (takings ++ one ∷ []) one.after
  chain_more r now [] one same takes =
      (subst (λ (x : ReplicaState T). TakesIn stands_for floor slack drops x one) same takes, refl)
  chain_more r now (first ∷ more) one all takes = (all.0, chain_more first.after now more one all.1 takes)

  -- a front of the other log begins it
  first_are : (r last : ReplicaState T) (takings : List (Taking T)) (theirs : List Record) (i : ℕ)
      → TakeAll stands_for floor slack drops r takings last
      → map (λ (taking : Taking T). taking.said) takings ≡ take i theirs
      → TakeFirst stands_for floor slack drops r theirs last
  first_are r last takings theirs i all said = (
    takings,
    all,
    (drop i theirs, sym (take-append-drop i theirs) ∙ ap (λ (l : List Record). l ++ drop i theirs) (sym said)),
  )

  -- with the record at the next place it is a front of one more
  said_more : (takings : List (Taking T)) (one : Taking T) (theirs : List Record) (i : ℕ)
      → slice_get theirs i ≡ Some one.said
      → map (λ (taking : Taking T). taking.said) takings ≡ take i theirs
      → map (λ (taking : Taking T). taking.said) (takings ++ one ∷ []) ≡ take (i + 1) theirs
  said_more takings one theirs i at said =
      let within = slice_get_within theirs i one.said at in
      let next = take_more theirs i one.said within
      ∙ ap (λ (r : Record). take i theirs ++ r ∷ []) (get_or_from_slice_get theirs i one.said one.said at) in
      map-append (λ (taking : Taking T). taking.said) takings (one ∷ [])
      ∙ ap (λ (l : List Record). l ++ one.said ∷ []) said
      ∙ sym next

  module _ (is_settled : T → Bool) (old now : ReplicaState T) (theirs : List Record) (i : ℕ)
      (so : Merging stands_for floor slack drops is_settled old now theirs i) where
    -- all that were taken
    pub taken : TakeFirst stands_for floor slack drops old theirs now
    taken = first_are old now so.takings theirs i so.all so.said

    module _ (one : Taking T) (takes : TakesIn stands_for floor slack drops now one)
        (at : slice_get theirs i ≡ Some one.said) where
      -- and one more, which is in
      pub goes : HasMerged stands_for is_settled old one.after theirs (i + 1)
          → Merging stands_for floor slack drops is_settled old one.after theirs (i + 1)
      goes far = record {
        far = far;
        takings = so.takings ++ one ∷ [];
        all = chain_more old now so.takings one so.all takes;
        said = said_more so.takings one theirs i at so.said;
      }

      -- or at which it stops
      pub stopped : TakeFirst stands_for floor slack drops old theirs one.after
      stopped =
          first_are old one.after (so.takings ++ one ∷ []) theirs (i + 1)
          (chain_more old now so.takings one so.all takes) (said_more so.takings one theirs i at so.said)
