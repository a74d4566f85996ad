-- What a line leaves of a replica's log, its moves leave of it in a world.
use Rattle.std.proofs.Common.{◌≡◌, ◌≢◌, ℕ, ◌<◌, ◌≤◌, Bool, true, false, ◌||◌, List, [], ◌∷◌, ◌++◌, length, set, slice_get, Option, Some, Result, Ok, Err, if◌then◌else◌, inl, inr, refl, sym, ap, subst, ◌∙◌}
use Rattle.std.specs.List.{fold}
use Rattle.std.proofs.lemmas.List.{set-get_or}
use Rattle.std.proofs.lemmas.List.Sums.{fold-append}
use Rattle.std.proofs.lemmas.Option.{get_or_from_slice_get}
use Rattle.warp_tag.specs.Limits.{most_records}
use Rattle.warp_step.specs.Program.{Program}
use Rattle.warp_record.specs.declared.line.Line.{Line}
use Rattle.warp_record.specs.declared.line.Line.TheVariants as line
use Rattle.warp_record.specs.declared.record.Record.{Record}
use Rattle.warp_record.specs.declared.reply.Refusal.{Refusal}
use Rattle.warp_record.specs.declared.reply.Refusal.TheVariants.{NoMemory}
use Rattle.warp_record.specs.declared.reply.Reply.{Reply}
use Rattle.warp_record.specs.declared.reply.Reply.TheVariants as reply
use Rattle.warp_table.specs.Records.{IsIn, Records, set_of, union}
use Rattle.warp_replica.specs.Gives.{Gives, IsNew, Takes, told}
use Rattle.warp_replica.specs.declared.taking.Took.{Took}
use Rattle.warp_replica.specs.declared.taking.Took.TheVariants.{New, Known}
use Rattle.warp_world.specs.Lines.{GiveAll, LineAt, moves_of, moves_of_all}
use Rattle.warp_world.specs.World.{World, after_carry, after_make, happens, log_entry, log_of, new_world, takes_in, with_log, world_after}
use Rattle.warp_world.specs.declared.moves.Move.{Move}
use Rattle.warp_world.specs.declared.moves.Move.TheVariants.{Carry, Make}
use Rattle.warp_world.proofs.SoundLogs.{only_one}
use Rattle.warp_world.proofs.Takings.{known_out, may_take, new_in, refused_out}

-- a record that is put in its own place
set_here : {X : Type 0} (xs : List X) (i : ℕ) (x : X) → slice_get xs i ≡ Some x → set xs i x ≡ xs
set_here xs i x at = ap (set xs i) (sym (get_or_from_slice_get xs i x x at)) ∙ set-get_or xs i x

-- a set with one more that is in it
union_here : (made : Records) (said : Record) → IsIn made said → union made (set_of (said ∷ [])) ≡ made
union_here made said here = let all : (r : Record) → union made (set_of (said ∷ [])) r ≡ made r = each in λ i r. all r i
  where
    joined : (old new : Bool) → (new ≡ true → old ≡ true) → (old || new) ≡ old
    joined true new h = refl
    joined false true h = sym (h refl)
    joined false false h = refl

    each : (r : Record) → union made (set_of (said ∷ [])) r ≡ made r
    each r =
        joined (made r) (set_of (said ∷ []) r)
        (λ new. subst (λ (other : Record). IsIn made other) (only_one said r new) here)

-- a record that is answered `taken` is new to a log with room, and comes behind it
record CameIn (P : Program) (log : List Record) (said : Record) (after : List Record) : Type 0 where
  new : IsNew P log said
  room : length log < most_records P.form
  is : after ≡ log ++ said ∷ []

came_in : (P : Program) (log : List Record) (said : Record) (place : ℕ) (after : List Record)
    (result : Result Took Refusal) → Takes P log said result after → reply.Taken place ≡ told result
    → CameIn P log said after
came_in P log said place after (Ok (New at)) taking same = record { new = taking.0; room = taking.1; is = taking.3 }
came_in P log said place after (Ok (Known at)) taking same = let no : ⊥ = cc in absurd no
came_in P log said place after (Err refusal) taking same = let no : ⊥ = cc in absurd no

-- no record came in by this reply
abbrev pub NotTaken : Reply → Type 0
NotTaken answer = (place : ℕ) → answer ≢ reply.Taken place

pub known_not : (place : ℕ) → NotTaken (reply.Known place)
known_not place other same = let no : ⊥ = cc in no

pub refused_not : (refusal : Refusal) → NotTaken (reply.Refused refusal)
refused_not refusal other same = let no : ⊥ = cc in no

-- the world where a record was made
abbrev with_made : World → Record → World
with_made w said = record w { made = union w.made (set_of (said ∷ [])) }

module _ (P : Program) (w : World) (replica : ℕ) (log : List Record) (at : log_of w replica ≡ Some log)
    (said : Record) where
  -- making and carrying by whether the log takes the record in
  make_by : (taken : Bool) → takes_in P log said ≡ taken
      → happens P w (Make replica said) ≡ (if taken then with_log replica (log ++ said ∷ []) (with_made w said) else w)
  make_by taken is =
      ap (after_make P replica said w) at
      ∙ ap (λ (b : Bool). if b then with_log replica (log ++ said ∷ []) (with_made w said) else w) is

  carry_by : (from place : ℕ) → log_entry w from place ≡ Some said → (taken : Bool) → takes_in P log said ≡ taken
      → happens P w (Carry from place replica) ≡ (if taken then with_log replica (log ++ said ∷ []) w else w)
  carry_by from place found taken is =
      ap (λ (s : Option Record). after_carry P replica w s (log_of w replica)) found
      ∙ ap (after_carry P replica w (Some said)) at
      ∙ ap (λ (b : Bool). if b then with_log replica (log ++ said ∷ []) w else w) is

  made_new : (after : List Record) → CameIn P log said after
      → happens P w (Make replica said) ≡ with_log replica after (with_made w said)
  made_new after in_it =
      make_by true (new_in P log said in_it.new in_it.room)
      ∙ ap (λ (l : List Record). with_log replica l (with_made w said)) (sym in_it.is)

  pub made : (place : ℕ) (after : List Record) → Gives P log (line.Put said) (reply.Taken place) after
      → (after ≡ log ++ said ∷ []) × (happens P w (Make replica said) ≡ with_log replica after (with_made w said))
  made place after given =
      let in_it = came_in P log said place after given.0 given.1 given.2 in
      (in_it.is, made_new after in_it)

  pub made_again : (place : ℕ) (after : List Record) → Gives P log (line.Put said) (reply.Taken place) after
      → IsIn w.made said → happens P w (Make replica said) ≡ with_log replica after w
  made_again place after given here =
      (made place after given).1
      ∙ ap (λ (made : Records). with_log replica after (record w { made = made })) (union_here w.made said here)

  pub carried : (place from entry : ℕ) (after : List Record) → Gives P log (line.Put said) (reply.Taken place) after
      → log_entry w from entry ≡ Some said → happens P w (Carry from entry replica) ≡ with_log replica after w
  carried place from entry after given found =
      let in_it = came_in P log said place after given.0 given.1 given.2 in
      carry_by from entry found true (new_in P log said in_it.new in_it.room)
      ∙ ap (λ (l : List Record). with_log replica l w) (sym in_it.is)

  -- a record that is not taken, and not for want of memory, the log does not take in
  kept_out : (answer : Reply) (after : List Record) (result : Result Took Refusal) → Takes P log said result after
      → answer ≡ told result → NotTaken answer → answer ≢ reply.Refused NoMemory → takes_in P log said ≡ false
  kept_out answer after (Ok (New place)) taking is other ample = absurd (other place is)
  kept_out answer after (Ok (Known place)) taking is other ample = known_out P log said place taking.1
  kept_out answer after (Err refusal) taking is other ample =
      refused_out P log said refusal (λ lacks. ample (is ∙ ap reply.Refused lacks)) taking.0

  pub void : (answer : Reply) (after : List Record) → Gives P log (line.Put said) answer after → NotTaken answer
      → answer ≢ reply.Refused NoMemory
      → (happens P w (Make replica said) ≡ w)
      × ((from entry : ℕ) → log_entry w from entry ≡ Some said → happens P w (Carry from entry replica) ≡ w)
  void answer after given other ample =
      let out = kept_out answer after given.0 given.1 given.2 other ample in
      (make_by false out, λ from entry found. carry_by from entry found false out)

  -- the record may be put there, with a reply that is not for want of memory, and that does what making it does, and
  -- carrying it
  abbrev MayPut : Type 0
  MayPut =
      (answer : Reply) × (after : List Record)
      × Gives P log (line.Put said) answer after × (answer ≢ reply.Refused NoMemory)
      × ((happens P w (Make replica said)).logs ≡ set w.logs replica after)
      × ((from entry : ℕ) → log_entry w from entry ≡ Some said
      → (happens P w (Carry from entry replica)).logs ≡ set w.logs replica after)

  kept : (answer : Reply) (after : List Record) → Gives P log (line.Put said) answer after → after ≡ log
      → NotTaken answer → answer ≢ reply.Refused NoMemory → MayPut
  kept answer after given same other ample =
      let out = void answer after given other ample in
      let here : w.logs ≡ set w.logs replica after =
      sym (ap (set w.logs replica) same ∙ set_here w.logs replica log at) in (
        answer,
        after,
        given,
        ample,
        ap (λ (v : World). v.logs) out.0 ∙ here,
        λ from entry found. ap (λ (v : World). v.logs) (out.1 from entry found) ∙ here,
      )

  may_put_by : (result : Result Took Refusal) (after : List Record) → Takes P log said result after
      → told result ≢ reply.Refused NoMemory → MayPut
  may_put_by (Ok (New place)) after taking ample =
      let given : Gives P log (line.Put said) (reply.Taken place) after = (Ok (New place), taking, refl) in (
        reply.Taken place,
        after,
        given,
        ample,
        ap (λ (v : World). v.logs) (made place after given).1,
        λ from entry found. ap (λ (v : World). v.logs) (carried place from entry after given found),
      )
  may_put_by (Ok (Known place)) after taking ample =
      kept (reply.Known place) after (Ok (Known place), taking, refl) taking.2 (known_not place) ample
  may_put_by (Err refusal) after taking ample =
      kept (reply.Refused refusal) after (Err refusal, taking, refl) taking.1 (refused_not refusal) ample

  pub may_put : length log ≤ most_records P.form → MayPut
  may_put few =
      let may = may_take P log said few in
      may_put_by may.0 may.1 may.2 may.3

module _ (P : Program) (w : World) (replica : ℕ) (log after : List Record) where
  -- what is not answered `taken` leaves the log, and is no move that changes a world
  abbrev pub Stays : Line → Reply → Type 0
  Stays said answer = (after ≡ log) × (fold (happens P) w (moves_of replica said answer) ≡ w)

  pub stays_put : (said : Record) (answer : Reply) (result : Result Took Refusal) → Takes P log said result after
      → answer ≡ told result → NotTaken answer → Stays (line.Put said) answer
  stays_put said answer (Ok (New place)) taking is other = absurd (other place is)
  stays_put said answer (Ok (Known place)) taking is other = subst (Stays (line.Put said)) (sym is) (taking.2, refl)
  stays_put said answer (Err refusal) taking is other = subst (Stays (line.Put said)) (sym is) (taking.1, refl)

  pub collect_stays : (answer : Reply) → Gives P log line.Collect answer after → Stays line.Collect answer
  collect_stays answer given = elim given.0 [
    | inl is ↦ subst (Stays line.Collect) (sym is) (given.1, refl)
    | inr is ↦ subst (Stays line.Collect) (sym is) (given.1, refl)
  ]

  pub answered : (said : Line) (answer : Reply) → Gives P log said answer after → NotTaken answer → Stays said answer
  answered (line.Put said) answer given other = stays_put said answer given.0 given.1 given.2 other
  answered (line.Ask asked) answer given other = (given.1, refl)
  answered line.Collect answer given other = collect_stays answer given
  answered (line.Look look) answer given other = (given.1, refl)

  module _ (at : log_of w replica ≡ Some log) where
    -- the logs, where the log is as it was, and the world too
    logs_stay : (said : Line) (answer : Reply) → Stays said answer
        → (fold (happens P) w (moves_of replica said answer)).logs ≡ set w.logs replica after
    logs_stay said answer stays =
        ap (λ (v : World). v.logs) stays.1 ∙ sym (ap (set w.logs replica) stays.0 ∙ set_here w.logs replica log at)

    logs_put : (said : Record) (answer : Reply) (result : Result Took Refusal) → Takes P log said result after
        → answer ≡ told result
        → (fold (happens P) w (moves_of replica (line.Put said) answer)).logs ≡ set w.logs replica after
    logs_put said answer (Ok (New place)) taking is =
        ap (λ (a : Reply). (fold (happens P) w (moves_of replica (line.Put said) a)).logs) is
        ∙ ap (λ (v : World). v.logs)
        (made_new P w replica log at said after (record { new = taking.0; room = taking.1; is = taking.3 }))
    logs_put said answer (Ok (Known place)) taking is =
        logs_stay (line.Put said) answer
        (stays_put said answer (Ok (Known place)) taking is (subst NotTaken (sym is) (known_not place)))
    logs_put said answer (Err refusal) taking is =
        logs_stay (line.Put said) answer
        (stays_put said answer (Err refusal) taking is (subst NotTaken (sym is) (refused_not refusal)))

    pub logs : (said : Line) (answer : Reply) → Gives P log said answer after
        → (fold (happens P) w (moves_of replica said answer)).logs ≡ set w.logs replica after
    logs (line.Put said) answer given = logs_put said answer given.0 given.1 given.2
    logs (line.Ask asked) answer given = logs_stay (line.Ask asked) answer (given.1, refl)
    logs line.Collect answer given = logs_stay line.Collect answer (collect_stays answer given)
    logs (line.Look look) answer given = logs_stay (line.Look look) answer (given.1, refl)

-- and so what lines leave of logs one after another, all their moves leave of them
logs_all : (P : Program) (w : World) (lines : List LineAt) (after : List (List Record)) → GiveAll P w.logs lines after
    → (fold (happens P) w (moves_of_all lines)).logs ≡ after
logs_all P w [] after same = sym same
logs_all P w (l ∷ lines) after (log, next, at, given, rest) =
    let moves = moves_of l.replica l.said l.reply in
    let later = fold (happens P) w moves in
    let here : later.logs ≡ set w.logs l.replica next = logs P w l.replica log next at l.said l.reply given in
    ap (λ (v : World). v.logs) (fold-append (happens P) w moves (moves_of_all lines))
    ∙ logs_all P later lines after (subst (λ (ls : List (List Record)). GiveAll P ls lines after) (sym here) rest)

pub logs_later : (P : Program) (count : ℕ) (moves : List Move) (lines : List LineAt) (after : List (List Record))
    → GiveAll P (world_after P count moves).logs lines after
    → (world_after P count (moves ++ moves_of_all lines)).logs ≡ after
logs_later P count moves lines after given =
    ap (λ (v : World). v.logs) (fold-append (happens P) (new_world count) moves (moves_of_all lines))
    ∙ logs_all P (world_after P count moves) lines after given
