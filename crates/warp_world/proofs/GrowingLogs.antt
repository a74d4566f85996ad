-- Each move leaves made what was made, as many logs as there were, and in front of a log what stood in it, unless it restarts its
-- replica.
use Rattle.std.proofs.Common.{◌≡◌, ◌≢◌, ℕ, Bool, true, false, List, [], ◌∷◌, ◌++◌, length, slice_get, set, Option, Some, None, Contains, if◌then◌else◌, inl, inr, refl, sym, ap, subst, ◌∙◌, arith, append_assoc}
use Rattle.std.specs.List.{fold}
use Rattle.std.proofs.lemmas.Bool.{cases_eq, or_left}
use Rattle.std.proofs.lemmas.List.{append-nil, get_or-set_other, get_or-set_same, length-set}
use Rattle.std.proofs.lemmas.Option.{get_or_from_slice_get, slice_get-get_or, slice_get_within}
use Rattle.warp_tag.specs.Lists.{StartsWith}
use Rattle.warp_tag.proofs.Lists.{same_some}
use Rattle.warp_step.specs.Program.{Program}
use Rattle.warp_record.specs.declared.record.Record.{Record}
use Rattle.warp_table.specs.Announced.{IsWithin}
use Rattle.warp_table.specs.Records.{Records, set_of, union}
use Rattle.warp_table.proofs.Members.{Contains-here, Contains-there}
use Rattle.warp_world.specs.World.{World, after_carry, after_make, log_entry, happens, log_of, takes_in, with_log}
use Rattle.warp_world.specs.declared.moves.Move.{Move}
use Rattle.warp_world.specs.declared.moves.Move.TheVariants.{Make, Carry, Collect, Settle, Restart}

-- how a world may follow another: what was made stays, and there are as many logs
pub record Follows (w later : World) : Type 0 where
  pub made : IsWithin w.made later.made
  pub replicas : length later.logs ≡ length w.logs

follows_same : (w : World) → Follows w w
follows_same w = record { made = λ said h. h; replicas = refl }

follows_on : (w middle later : World) → Follows w middle → Follows middle later → Follows w later
follows_on w middle later f g = record { made = λ said h. g.made said (f.made said h); replicas = g.replicas ∙ f.replicas }

-- of two that one test chooses between
either_follows : (w : World) (test : Bool) (one other : World) → Follows w one → Follows w other → Follows w (if test then one else other)
either_follows w true one other f g = f
either_follows w false one other f g = g

-- with another log of a replica, and with more that was made
follows_with : (w : World) (replica : ℕ) (log : List Record) (made : Records) → IsWithin w.made made
    → Follows w (with_log replica log (record w { made = made }))
follows_with w replica log made wider = record { made = wider; replicas = length-set w.logs replica log }

module _ (P : Program) (w : World) where
  follows_make : (replica : ℕ) (said : Record) (log : Option (List Record)) → Follows w (after_make P replica said w log)
  follows_make replica said None = follows_same w
  follows_make replica said (Some log) =
      let more : Records = union w.made (set_of (said ∷ [])) in
      either_follows w (takes_in P log said) (with_log replica (log ++ said ∷ []) (record w { made = more })) w
      (follows_with w replica (log ++ said ∷ []) more (λ other h. or_left (w.made other) (set_of (said ∷ []) other) h)) (follows_same w)

  follows_carry : (to : ℕ) (said : Option Record) (log : Option (List Record)) → Follows w (after_carry P to w said log)
  follows_carry to None log = follows_same w
  follows_carry to (Some said) None = follows_same w
  follows_carry to (Some said) (Some log) =
      either_follows w (takes_in P log said) (with_log to (log ++ said ∷ []) w) w (follows_with w to (log ++ said ∷ []) w.made (λ other h. h)) (follows_same w)

  -- each move
  follows_happens : (m : Move) → Follows w (happens P w m)
  follows_happens (Make replica said) = follows_make replica said (log_of w replica)
  follows_happens (Carry from place to) = follows_carry to (log_entry w from place) (log_of w to)
  follows_happens (Collect replica) = follows_same w
  follows_happens (Settle replica) = follows_same w
  follows_happens (Restart replica) = follows_with w replica [] w.made (λ other h. h)

-- and all
pub follows_fold : (P : Program) (w : World) (moves : List Move) → Follows w (fold (happens P) w moves)
follows_fold P w [] = follows_same w
follows_fold P w (m ∷ moves) =
    follows_on w (happens P w m) (fold (happens P) (happens P w m) moves) (follows_happens P w m) (follows_fold P (happens P w m) moves)

-- a log that was put in the place of another is there
pub set_at_same : {X : Type 0} (xs : List X) (i : ℕ) (x y : X) → slice_get xs i ≡ Some x → slice_get (set xs i y) i ≡ Some y
set_at_same xs i x y at =
    let within = slice_get_within xs i x at in
    let size = length-set xs i y in
    slice_get-get_or (set xs i y) i y (omega (arith, within, size)) ∙ ap Some (get_or-set_same xs i y y within)

-- and the others stay
pub set_at_other : {X : Type 0} (xs : List X) (i j : ℕ) (x y : X) → j ≢ i → slice_get xs j ≡ Some x → slice_get (set xs i y) j ≡ Some x
set_at_other xs i j x y apart at =
    let within = slice_get_within xs j x at in
    let size = length-set xs i y in
    slice_get-get_or (set xs i y) j x (omega (arith, within, size))
    ∙ ap Some (get_or-set_other xs i j y x apart ∙ get_or_from_slice_get xs j x x at)

-- what a replica's log was is in front of what it is later
abbrev pub KeepsFront : ℕ → World → World → Type 0
KeepsFront replica w later =
    (early : List Record) → log_of w replica ≡ Some early → (late : List Record) × (log_of later replica ≡ Some late) × StartsWith late early

front_same : (replica : ℕ) (w : World) → KeepsFront replica w w
front_same replica w early at = (early, at, ([], sym (append-nil early)))

front_on : (replica : ℕ) (w middle later : World) → KeepsFront replica w middle → KeepsFront replica middle later → KeepsFront replica w later
front_on replica w middle later f g early at =
    let a = f early at in
    let b = g a.0 a.1 in
    (b.0, b.1, (a.2.0 ++ b.2.0, b.2.1 ∙ ap (λ l. l ++ b.2.0) a.2.1 ∙ append_assoc early a.2.0 b.2.0))

either_front : (replica : ℕ) (w : World) (test : Bool) (one other : World) → KeepsFront replica w one → KeepsFront replica w other
    → KeepsFront replica w (if test then one else other)
either_front replica w true one other f g = f
either_front replica w false one other f g = g

-- with another log of a replica that begins with what its log was, or of another replica
front_with : (replica number : ℕ) (w : World) (made : Records) (log : List Record)
    → (number ≡ replica → (early : List Record) → log_of w replica ≡ Some early → StartsWith log early)
    → KeepsFront replica w (with_log number log (record w { made = made }))
front_with replica number w made log begins early at = elim (cases_eq replica number) [
  | inl same ↦ (
    log,
    subst (λ (k : ℕ). slice_get (set w.logs k log) replica ≡ Some log) same (set_at_same w.logs replica early log at),
    begins (sym same) early at,
  )
  | inr other ↦ (early, set_at_other w.logs number replica early log other at, ([], sym (append-nil early)))
]

-- a log begins with what it was before it took a record
one_more : (replica number : ℕ) (w : World) (log : List Record) (said : Record) → log_of w number ≡ Some log → number ≡ replica
    → (early : List Record) → log_of w replica ≡ Some early → StartsWith (log ++ said ∷ []) early
one_more replica number w log said at same early at_early =
    let is : log ≡ early = same_some log early (sym at ∙ ap (log_of w) same ∙ at_early) in
    (said ∷ [], ap (λ l. l ++ said ∷ []) is)

module _ (P : Program) (replica : ℕ) (w : World) where
  front_make : (number : ℕ) (said : Record) (log : Option (List Record)) → log_of w number ≡ log → KeepsFront replica w (after_make P number said w log)
  front_make number said None at = front_same replica w
  front_make number said (Some log) at =
      let more : Records = union w.made (set_of (said ∷ [])) in
      either_front replica w (takes_in P log said) (with_log number (log ++ said ∷ []) (record w { made = more })) w
      (front_with replica number w more (log ++ said ∷ []) (one_more replica number w log said at)) (front_same replica w)

  front_carry : (to : ℕ) (said : Option Record) (log : Option (List Record)) → log_of w to ≡ log → KeepsFront replica w (after_carry P to w said log)
  front_carry to None log at = front_same replica w
  front_carry to (Some said) None at = front_same replica w
  front_carry to (Some said) (Some log) at =
      either_front replica w (takes_in P log said) (with_log to (log ++ said ∷ []) w) w
      (front_with replica to w w.made (log ++ said ∷ []) (one_more replica to w log said at)) (front_same replica w)

  -- each move but a restart
  front_happens : (m : Move) → m ≢ Restart replica → KeepsFront replica w (happens P w m)
  front_happens (Make number said) stays = front_make number said (log_of w number) refl
  front_happens (Carry from place to) stays = front_carry to (log_entry w from place) (log_of w to) refl
  front_happens (Collect number) stays = front_same replica w
  front_happens (Settle number) stays = front_same replica w
  front_happens (Restart number) stays = front_with replica number w w.made [] (λ same. absurd (stays (ap Restart same)))

-- and all, where none restarts the replica
pub front_fold : (P : Program) (replica : ℕ) (w : World) (moves : List Move) → ¬ Contains moves (Restart replica)
    → KeepsFront replica w (fold (happens P) w moves)
front_fold P replica w [] stays = front_same replica w
front_fold P replica w (m ∷ moves) stays =
    let here : m ≢ Restart replica = λ is. stays (subst (λ (n : Move). Contains (m ∷ moves) n) is (Contains-here m moves)) in
    let there : ¬ Contains moves (Restart replica) = λ has. stays (Contains-there m moves (Restart replica) has) in
    front_on replica w (happens P w m) (fold (happens P) (happens P w m) moves) (front_happens P replica w m here) (front_fold P replica (happens P w m) moves there)
