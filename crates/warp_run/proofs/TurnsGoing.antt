-- Turns one after another, up to the end of the run.
use Rattle.std.proofs.Common.{◌≡◌, ℕ, ◌+◌, ◌-◌, ◌<◌, ◌≤◌, true, false, not, ◌++◌, List, [], ◌∷◌, length, ap, subst, sym, ◌∙◌, refl, arith, IsTrue, Option, Some, None, Result, Ok, Err, append_assoc, length-append}
use Rattle.std.specs.Prelude.{IfSome, IsErr, OnOk}
use Rattle.std.specs.List.{list_all, list_any}
use Rattle.std.proofs.lemmas.Bool.Decides.{nat_tests}
use Rattle.warp_tag.specs.Limits.{most_names}
use Rattle.warp_tag.specs.Moment.{Moment, is_same}
use Rattle.warp_tag.specs.Table.{Event, live}
use Rattle.warp_tag.proofs.Tags.{is_same_self}
use Rattle.warp_step.specs.Program.{Program}
use Rattle.warp_step.specs.Snapshot.{Snapshot, start_state}
use Rattle.warp_step.specs.Run.{Row, IsNext, is_after, waits}
use Rattle.warp_line.specs.Timeline.{Standing, IsDone, Settles}
use Rattle.warp_line.specs.Begin.{last_after}
use Rattle.warp_run.specs.Walk.{AreThrough, tag_of_next}
use Rattle.warp_run.specs.Warp.{Goes, StandsFor}
use Rattle.warp_run.specs.declared.walk.Next.{Next}
use Rattle.warp_run.specs.declared.warp.Warp.{Warp}
use Rattle.warp_run.proofs.TurnsRuns.{begin_length, begin_names, run_ends}

-- what goes on from where the first came to
pub goes_on : (P : Program) (a b c : Warp) (i j k : ℕ) → Goes P a b i → Goes P b c j → k ≡ i + j → Goes P a c k
goes_on P a b c i j k g h is = λ m stands same.
    let first = g m stands same in
    let second = h (record m { done = m.done ++ first.0 }) first.1 same in
    let lengths = length-append first.0 second.0 in
    let one = first.2 in
    let two = second.2 in (
      first.0 ++ second.0,
      subst (λ (rows : List Row). StandsFor c (record m { done = rows })) (append_assoc m.done first.0 second.0) second.1,
      omega arith,
    )

-- what stands for no less goes on as far
pub goes_noted : (P : Program) (a b c : Warp) (n : ℕ) → ((m : Standing) → StandsFor a m → StandsFor b m) → Goes P b c n → Goes P a c n
goes_noted P a b c n stands g = λ m h same. g m (stands m h) same

-- a row more leaves fewer, since they are no more than there may be names
pub fewer_left : (P : Program) (v w : Warp) (m : Standing) (rows : List Row) → StandsFor v m
    → StandsFor w (record m { done = m.done ++ rows }) → m.program ≡ P → 1 ≤ length rows
    → most_names - w.tip.rows < most_names - v.tip.rows
fewer_left P v w m rows h k same one =
    let most = begin_names m.program (live m.table) h.program h.events (m.done ++ rows) k.tip.begin in
    let lengths = length-append m.done rows in
    let was = h.tip.rows in
    let are = k.tip.rows in
    omega arith

-- what settling does: to where it goes there is at most one tick for each row that was not done
pub settles : (w : Warp) (m : Standing) (rows : List Row) (ticks : ℕ) → StandsFor w (record m { done = m.done ++ rows }) → ticks ≤ length rows
    → Settles StandsFor w m ticks (m.done ++ rows)
settles w m rows ticks h is =
    let lengths = length-append m.done rows in
    record {
      stands = h;
      kept = omega arith;
      bound = λ trace run.
          let most = begin_length m.program (live m.table) (m.done ++ rows) trace h.tip.begin run in
          omega arith;
    }

-- where nothing waits after the last row no event is after it
none_after : (E : List Event) (last : Option Moment) (s : Snapshot) → ((t : Moment) → waits E last s t ≡ false) → AreThrough last E
none_after E last s none = by E (λ u there. there)
  where
    by : (xs : List Event) → ((u : Moment) → list_any (λ d. is_same u d.tag) xs ≡ true → list_any (λ d. is_same u d.tag) E ≡ true)
        → IsTrue (list_all (λ e. not (is_after last e.tag)) xs)
    by [] within = refl
    by (e ∷ xs) within =
        let self = is_same_self e.tag in
        let there : list_any (λ d. is_same e.tag d.tag) (e ∷ xs) ≡ true = grind (arith, nat_tests) in
        let stands : list_any (λ d. is_same e.tag d.tag) E ≡ true = within e.tag there in
        let quiet : waits E last s e.tag ≡ false = none e.tag in
        let here : is_after last e.tag ≡ false = grind (arith, nat_tests) in
        let rest = by xs (λ u h. within u (grind (arith, nat_tests))) in
        grind (arith, nat_tests)

-- where all is done nothing waits
quiet : (w : Warp) (m : Standing) → StandsFor w m → IsDone m → (t : Moment) → waits (live m.table) w.tip.last w.tip.state t ≡ false
quiet w m h done t =
    ap (λ l. waits (live m.table) l w.tip.state t) h.tip.last
    ∙ ap (λ s. waits (live m.table) (last_after None m.done) s t) h.tip.state
    ∙ run_ends m.program (live m.table) None (start_state m.program) m.done done t

-- so its last tag is the latest
pub done_through : (w : Warp) (m : Standing) → StandsFor w m → IsDone m → AreThrough w.tip.last (live m.table)
done_through w m h done = none_after (live m.table) w.tip.last w.tip.state (quiet w m h done)

-- and where a row waits not all is done
pub not_done : (w : Warp) (m : Standing) (o : Option Next) (row : Next) → StandsFor w m
    → IfSome o (λ r. (n : Standing) → StandsFor w n → IsNext (live n.table) w.tip.last w.tip.state (tag_of_next r)) → o ≡ Some row → IsDone m → ⊥
not_done w m o row h some is done =
    let next = subst (λ (x : Option Next). IfSome x (λ r. (n : Standing) → StandsFor w n → IsNext (live n.table) w.tip.last w.tip.state (tag_of_next r))) is some in
    let never : false ≡ true = sym (quiet w m h done (tag_of_next row)) ∙ (next m h).waiting in
    cc

-- a settled value is settled again at no cost
pub settled_again : (w : Warp) (m : Standing) → StandsFor w m → Settles StandsFor w m 0 m.done
settled_again w m h = record {
  stands = h;
  kept = omega arith;
  bound = λ trace run.
      let most = begin_length m.program (live m.table) m.done trace h.tip.begin run in
      omega arith;
}

-- of an error nothing is asked
pub of_error : {T E : Type 0} (r : Result T E) (A : Type 0) → IsErr r → OnOk r A
of_error (Ok v) A h = let never : false ≡ true = h in cc
of_error (Err e) A h = tt
