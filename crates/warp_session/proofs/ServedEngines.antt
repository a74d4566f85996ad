-- Lemmas on what serving makes of an engine.
use Rattle.std.proofs.Common.{◌≡◌, ℕ, ◌⊎◌, inl, inr, Bool, IsTrue, List, [], false, length, min, take, true, true≢false}
use Rattle.std.proofs.Common.{ap, arith, refl, subst, sym, ◌∙◌}
use Rattle.warp_tag.specs.declared.out.Out.{Out}
use Rattle.warp_table.specs.Records.{set_of}
use Rattle.warp_replica.specs.Answered.{TimelineFacts}
use Rattle.warp_replica.specs.Answers.{IsReleased}
use Rattle.warp_replica.specs.Replica.{ReplicaState}
use Rattle.warp_board.specs.Board.{WriterState, room_of}
use Rattle.warp_lanes.specs.declared.publish.Published.{Published}
use Rattle.warp_lanes.specs.declared.publish.Published.TheVariants.{Rows, Frozen}
use Rattle.warp_lanes.specs.declared.turn.Turn.{Turn}
use Rattle.warp_lanes.specs.declared.turn.Turn.TheVariants.{Served, Empty, Stalled}
use Rattle.warp_replica.specs.declared.answer.Answer.{Answer}
use Rattle.warp_lanes.specs.Engine.{AnswersLine, EngineState, PublishesIf, Visits}
use Rattle.warp_lanes.specs.Publish.{Publishes, PublishesEach, PublishesLog}
use Rattle.warp_replica.proofs.AnsweredLines.{among, lines_count}
use Rattle.warp_lanes.proofs.PublishedInTurn.{last_published}
use Rattle.warp_session.specs.Serve.{HasServed, IsPublished, Shows}

-- the board shows this
abbrev is_shown : List Out → WriterState → Type 0
is_shown released w = (w.frozen ≡ true) ⊎ (w.rows ≡ take (min (length released) (room_of w.board)) released)

shown : (released : List Out) (w w' : WriterState) (result : Published) → Publishes released w result w'
    → is_shown released w'
shown released w w' (Rows count) p =
    inr
    (ap (λ (x : WriterState). x.rows) p.3
    ∙ ap (λ (n : ℕ). take n released)
    (p.2 ∙ ap (λ (x : WriterState). min (length released) (room_of x.board)) (sym p.3)))
shown released w w' Frozen p = inl (ap (λ (x : WriterState). x.frozen) p.1)

module _ {T : Type 0} where
  -- this is released over the log of the replica
  abbrev is_released : List Out → ReplicaState T → Type 0
  is_released released r = IsReleased r.program (set_of r.records) released

  -- what a visit published is shown
  publishes_shows : (a b : EngineState T) (settled : Bool) (made : List Answer)
      → PublishesIf settled b.replica.program b.replica.records made a.writer b.writer
      → (PublishesEach b.replica.program b.replica.records made a.writer b.writer
      → (last : WriterState) × PublishesLog b.replica.program b.replica.records last b.writer)
      → IsTrue settled → Shows b
  publishes_shows a b true made p whole is =
      let last = whole p in
      (last.1.0, last.1.1, shown last.1.0 last.0 b.writer last.1.2.0 last.1.2.1)
  publishes_shows a b false made p whole is = absurd (true≢false (sym is))

  same_shows : (b c : EngineState T) → c.replica ≡ b.replica → c.writer ≡ b.writer → Shows b → Shows c
  same_shows b c replica writer h =
      (h.0, subst (is_released h.0) (sym replica) h.1, subst (is_shown h.0) (sym writer) h.2)

  -- a visit published what its lines released, or changed nothing
  pub visit_publishes : (facts : TimelineFacts T) (a b : EngineState T) (lane : ℕ) (turn : Turn) → Visits facts a lane turn b
      → IsPublished facts.settled a b
  visit_publishes facts a b lane Served v =
      let lines = v.3.0 in
      let made = v.3.1 in
      let between = v.3.2 in
      let serves = v.3.3 in
      let many = lines_count facts (AnswersLine facts) (among facts) a.replica between lines made serves.answered in
      inr
      (publishes_shows a b (facts.settled b.replica.timeline) made serves.published
      (last_published facts b.replica.program b.replica.records a.replica between lines made a.writer b.writer serves.answered (sym serves.ends.records)
      (omega (arith, many, serves.some))))
  visit_publishes facts a b lane Empty v = inl (v.3.0.0, v.3.1)
  visit_publishes facts a b lane Stalled v = inl (v.3.0.0, v.3.1)

module _ {T : Type 0} (settled : T → Bool) where
  published_later : (a b c : EngineState T) → IsPublished settled a b → IsPublished settled b c
      → IsPublished settled a c
  published_later a b c first (inr shows) = inr shows
  published_later a b c (inl same) (inl next) = inl (next.0 ∙ same.0, next.1 ∙ same.1)
  published_later a b c (inr shows) (inl next) =
      inr (λ is. same_shows b c next.0 next.1
      (shows (subst (λ (r : ReplicaState T). IsTrue (settled r.timeline)) next.0 is)))

  -- an engine that did not serve yet
  pub served_none : (a : EngineState T) → HasServed settled a a
  served_none a = record {
    keeps = record { program = refl; began = refl; board = refl; lanes = refl };
    published = inl (refl, refl);
  }

  -- one that served, and then served again
  pub served_later : (a b c : EngineState T) → HasServed settled a b → HasServed settled b c → HasServed settled a c
  served_later a b c first next = record {
    keeps = record {
      program = next.keeps.program ∙ first.keeps.program;
      began = next.keeps.began ∙ first.keeps.began;
      board = next.keeps.board ∙ first.keeps.board;
      lanes = next.keeps.lanes ∙ first.keeps.lanes;
    };
    published = published_later a b c first.published next.published;
  }

  -- behind an empty log, the log is empty yet, or the board shows what is released
  pub shown_or_none : (a b : EngineState T) → a.replica.records ≡ [] → IsPublished settled a b
      → IsTrue (settled b.replica.timeline) → (b.replica.records ≡ []) ⊎ Shows b
  shown_or_none a b none (inl same) is = inl (ap (λ (r : ReplicaState T). r.records) same.0 ∙ none)
  shown_or_none a b none (inr shows) is = inr (shows is)
