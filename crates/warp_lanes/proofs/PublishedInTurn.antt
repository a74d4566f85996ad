-- Publishing once behind several lines leaves what publishing behind each of them does, where a line that comes behind the horizon finds all
-- that is released on the board.
use Rattle.std.proofs.Common.{◌≡◌, ◌⊎◌, inl, inr, ℕ, ◌≤◌, ◌<◌, Bool, true, false, ◌&&◌, List, [], ◌∷◌, ◌++◌, drop, take, length, min, refl, sym, ap, subst, ◌∙◌, arith, append-nil, length-append, true≢false}
use Rattle.std.specs.Prelude.{IsTrue, None, Option, Result, Ok, Err}
use Rattle.std.specs.List.{AllByRecursion}
use Rattle.std.proofs.lemmas.Bool.{cases_Bool}
use Rattle.std.proofs.lemmas.Bool.Decides.{nat_tests}
use Rattle.std.proofs.lemmas.List.{take-append-drop, take-append-le}
use Rattle.warp_tag.specs.Lists.{StartsWith}
use Rattle.warp_tag.specs.Moment.{Moment, is_before}
use Rattle.warp_tag.specs.declared.out.Out.{Out}
use Rattle.warp_step.specs.Program.{Program}
use Rattle.warp_step.specs.Run.{outputs_until}
use Rattle.warp_record.specs.declared.record.Record.{Record}
use Rattle.warp_record.specs.declared.line.Line.{Line}
use Rattle.warp_record.specs.declared.line.Line.TheVariants as line
use Rattle.warp_record.specs.declared.reply.Refusal.{Refusal}
use Rattle.warp_record.specs.declared.reply.Reply.{Reply}
use Rattle.warp_table.specs.Announced.{IsHorizon}
use Rattle.warp_table.specs.Log.{EachOnce}
use Rattle.warp_table.specs.Records.{set_of}
use Rattle.warp_table.proofs.Horizons.{one_horizon}
use Rattle.warp_replica.specs.Answered.{TimelineFacts}
use Rattle.warp_replica.specs.Answers.{IsReleased}
use Rattle.warp_replica.specs.Gives.{Gives, Takes, tag_of}
use Rattle.warp_replica.specs.Replica.{ReplicaState}
use Rattle.warp_replica.specs.declared.taking.Took.{Took}
use Rattle.warp_replica.specs.declared.taking.Took.TheVariants.{New, Known}
use Rattle.warp_replica.proofs.Replies.{one_answer, some_answer}
use Rattle.warp_replica.proofs.SomeHorizon.{announces}
use Rattle.warp_board.specs.Board.{WriterState, room_of}
use Rattle.warp_lanes.specs.Engine.{AnswersLine, AreAnswered, PublishesIf}
use Rattle.warp_lanes.specs.Publish.{BeginReleased, HasNews, IsAhead, IsOnceEnough, IsShown, KeepsBoard, MayFollow, Publishes, PublishesEach, PublishesLog}
use Rattle.warp_replica.specs.declared.answer.Answer.{Answer}
use Rattle.warp_lanes.specs.declared.publish.Published.{Published}
use Rattle.warp_lanes.specs.declared.publish.Published.TheVariants.{Rows, Frozen}
use Rattle.warp_replica.proofs.AnsweredLines.{among, lines_begin}
use Rattle.warp_replica.proofs.Growing.{begins, grows}
use Rattle.warp_lanes.proofs.Publishing.{filter_both, front_of_front, rows_still_begin}
use Rattle.warp_replica.proofs.Histories.{take_all}

-- what is before a horizon is before a tag that is not
before_both : (x tag end : Moment) → is_before tag end ≡ false → is_before x end ≡ (is_before x tag && is_before x end)
before_both x tag end h = grind (h, arith, nat_tests)

-- each list that is released over a log is another
one_released : (P : Program) (log : List Record) (a b : List Out) → IsReleased P (set_of log) a → IsReleased P (set_of log) b → a ≡ b
one_released P log a b h k = h.2 ∙ ap (λ x. x.released) (one_answer P (set_of log) h.0 k.0 h.1 k.1) ∙ sym k.2

-- what is released over a log begins with itself
begins_released : (P : Program) (log : List Record) (released : List Out) → IsReleased P (set_of log) released → BeginReleased P (set_of log) released
begins_released P log released h b k =
    ([], ap (λ x. x.released) (one_answer P (set_of log) b h.0 k h.1) ∙ sym h.2 ∙ sym (append-nil released))

module _ (P : Program) (log : List Record) (some : 0 < P.origins) (once : EachOnce log) where
  -- something is released over each log
  pub some_released : (released : List Out) × IsReleased P (set_of log) released
  some_released = (let a = some_answer P log once (announces P log some) in (a.0.released, (a.0, a.1, refl)))

  -- publishing leaves a frozen board as it is
  pub frozen_shown : (w : WriterState) → w.frozen ≡ true → IsShown P log w
  frozen_shown w up = (
    some_released.0,
    some_released.1,
    (Frozen, (inl up, λ i. record { board = w.board; rows = w.rows; frozen = up i })),
  )

  -- a record that is not behind the horizon leaves what is released a beginning of what is released then
  record_grows : (said : Record) (end : Moment) → IsHorizon P (set_of log) end → is_before (tag_of said) end ≡ false
      → (a b : List Out) → IsReleased P (set_of log) a → IsReleased P (set_of (log ++ said ∷ [])) b → StartsWith b a
  record_grows said end horizon ahead a b h k =
      let tag = tag_of said in
      let same : end ≡ h.0.horizon = one_horizon P (set_of log) end h.0.horizon horizon h.1.horizon in
      let late : is_before tag h.0.horizon ≡ false = ap (λ e. is_before tag e) (sym same) ∙ ahead in
      let is : a ≡ outputs_until h.0.horizon h.0.outputs = h.2 ∙ h.1.released in
      let all : outputs_until tag a ≡ a =
      ap (outputs_until tag) is
      ∙ filter_both (λ out. is_before out.tag tag) (λ out. is_before out.tag h.0.horizon) (λ out. is_before out.tag h.0.horizon)
      (λ out. before_both out.tag tag h.0.horizon late) h.0.outputs
      ∙ sym is in
      let begun = rows_still_begin P log said some once a (begins_released P log a h) k.0 k.1 in
      subst (λ l. StartsWith l a) (sym k.2) (subst (λ l. StartsWith k.0.released l) all begun)

  -- so does a line whose record is not
  same_grows : (log' : List Record) → log' ≡ log → (a b : List Out) → IsReleased P (set_of log) a → IsReleased P (set_of log') b → StartsWith b a
  same_grows log' same a b h k =
      ([], one_released P log b a (subst (λ (l : List Record). IsReleased P (set_of l) b) same k) h ∙ sym (append-nil a))

  line_grows : (said : Line) (reply : Reply) (log' : List Record) → Gives P log said reply log' → IsAhead P log said
      → (a b : List Out) → IsReleased P (set_of log) a → IsReleased P (set_of log') b → StartsWith b a
  line_grows (line.Put said) reply log' g ahead a b h k = taken g.0 g.1
    where
      taken : (result : Result Took Refusal) → Takes P log said result log' → StartsWith b a
      taken (Ok (New place)) t =
          let end = ahead said refl in
          record_grows said end.0 end.1 end.2 a b h (subst (λ (l : List Record). IsReleased P (set_of l) b) t.3 k)
      taken (Ok (Known place)) t = same_grows log' t.2 a b h k
      taken (Err refusal) t = same_grows log' t.1 a b h k
  line_grows (line.Ask asked) reply log' g ahead a b h k = same_grows log' g.1 a b h k
  line_grows line.Collect reply log' g ahead a b h k = same_grows log' g.1 a b h k
  line_grows (line.Look look) reply log' g ahead a b h k = same_grows log' g.1 a b h k

-- publishing changes nothing where the rows are as many as it would leave, and begin what is released
module _ (P : Program) (log : List Record) (w : WriterState) (live : w.frozen ≡ false) (begun : BeginReleased P (set_of log) w.rows)
    (released : List Out) (rel : IsReleased P (set_of log) released) where
  begins_rows : StartsWith released w.rows
  begins_rows = subst (λ l. StartsWith l w.rows) (sym rel.2) (begun rel.0 rel.1)

  pub rows_shown : min (length released) (room_of w.board) ≡ length w.rows → IsShown P log w
  rows_shown count =
      let s = begins_rows in
      let rows : w.rows ≡ take (min (length released) (room_of w.board)) released =
      sym (take_all w.rows) ∙ sym (take-append-le (length w.rows) w.rows s.0 (omega arith)) ∙ ap (λ l. take (length w.rows) l) (sym s.1)
      ∙ ap (λ n. take n released) (sym count) in (
        released,
        rel,
        (
          Rows (min (length released) (room_of w.board)),
          (live, s, refl, λ i. record { board = w.board; rows = rows i; frozen = w.frozen }),
        ),
      )

  pub full_shown : length w.rows ≡ room_of w.board → IsShown P log w
  full_shown full =
      let s = begins_rows in
      rows_shown (omega (arith, full, ap length s.1, length-append w.rows s.0))

-- one answer more
each_more : (P : Program) (log rest : List Record) (made : List Answer) (answer : Answer) (w next w' : WriterState)
    → AllByRecursion (λ (a : Answer). a.len ≤ length log) made → PublishesEach P log made w next
    → PublishesLog P (take answer.len (log ++ rest)) next w' → PublishesEach P (log ++ rest) (made ++ answer ∷ []) w w'
each_more P log rest [] answer w next w' short each last =
    (w', subst (λ (v : WriterState). PublishesLog P (take answer.len (log ++ rest)) v w') each last, refl)
each_more P log rest (m ∷ made) answer w next w' short each last = (
  each.0,
  subst (λ (l : List Record). PublishesLog P l w each.0) (sym (take-append-le m.len log rest short.0)) each.1,
  each_more P log rest made answer each.0 next w' short.1 each.2 last,
)

-- publishing once behind two logs leaves what publishing behind both does
module _ (P : Program) (log log' : List Record) (w w' : WriterState) (last : PublishesLog P log' w w') where
  grown_once : w.frozen ≡ false → BeginReleased P (set_of log) w.rows → (released : List Out) → IsReleased P (set_of log) released
      → StartsWith last.0 released → (next : WriterState) × PublishesLog P log w next × PublishesLog P log' next w'
  grown_once live begun released rel more =
      let count = min (length released) (room_of w.board) in
      let s = begins_rows P log w live begun released rel in
      let next : WriterState = record w { rows = take count released } in (
        next,
        (released, rel, (Rows count, (live, s, refl, refl))),
        (last.0, last.1, (last.2.0, from last.2.0 last.2.1)),
      )
    where
      front : StartsWith last.0 (take (min (length released) (room_of w.board)) released)
      front =
          front_of_front last.0 released (take (min (length released) (room_of w.board)) released) more
          (drop (min (length released) (room_of w.board)) released, sym (take-append-drop (min (length released) (room_of w.board)) released))

      from : (p : Published) → Publishes last.0 w p w'
          → Publishes last.0 (record w { rows = take (min (length released) (room_of w.board)) released }) p w'
      from (Rows n) p = (p.0, front, p.2, p.3)
      from Frozen p =
          absurd (elim p.0 [
            | inl up ↦ true≢false (sym up ∙ live)
            | inr other ↦ other (front_of_front last.0 released w.rows more (begins_rows P log w live begun released rel))
          ])

  both_once : 0 < P.origins → EachOnce log → (said : Line) (reply : Reply) → Gives P log said reply log' → MayFollow P log said w
      → (next : WriterState) × PublishesLog P log w next × PublishesLog P log' next w'
  both_once some once said reply gives follows = elim follows [
    | inl up ↦ (w, frozen_shown P log some once w up, last)
    | inr rest ↦ elim rest [
      | inl shown ↦ (w, shown, last)
      | inr h ↦ elim (cases_Bool w.frozen) [
        | inl up ↦ (w, frozen_shown P log some once w up, last)
        | inr live ↦
            let r = some_released P log some once in
            grown_once live h.0 r.0 r.1 (line_grows P log some once said reply log' gives h.1 r.0 last.0 r.1 last.1)
      ]
    ]
  ]

-- no answer says more than the log has then
module _ {T : Type 0} (facts : TimelineFacts T) where
  lines_short : (r r' : ReplicaState T) (lines : List Line) (made : List Answer) → AreAnswered (AnswersLine facts) r lines made r'
      → AllByRecursion (λ (a : Answer). a.len ≤ length r'.records) made
  lines_short r r' [] [] a = tt
  lines_short r r' (l ∷ lines) (m ∷ made) a =
      let more = lines_begin facts (AnswersLine facts) (among facts) a.0 r' lines made a.2 in
      (omega (arith, a.1.len, ap length more.1, length-append a.0.records more.0), lines_short a.0 r' lines made a.2)
  lines_short r r' [] (m ∷ made) a = absurd a
  lines_short r r' (l ∷ lines) [] a = absurd a

  -- one line more, of which publishing once is enough
  pub once_more : (r r' r'' : ReplicaState T) (lines : List Line) (made : List Answer) (said : Line) (answer : Answer) (w : WriterState)
      → 0 < r'.program.origins → EachOnce r'.records → AreAnswered (AnswersLine facts) r lines made r' → AnswersLine facts r' said answer r''
      → (made ≡ []) ⊎ (IsOnceEnough r'.program r'.records made w × MayFollow r'.program r'.records said w)
      → IsOnceEnough r''.program r''.records (made ++ answer ∷ []) w
  once_more r r' r'' lines made said answer w some once a one before w' last =
      let P = r'.program in
      let grown = begins r'.records answer.reply r''.records (grows P r'.records said answer.reply r''.records one.given.gives) in
      let last' : PublishesLog P r''.records w w' = subst (λ (Q : Program). PublishesLog Q r''.records w w') one.given.program last in
      let whole : take answer.len r''.records ≡ r''.records = ap (λ n. take n r''.records) one.len ∙ take_all r''.records in
      let short = lines_short r r' lines made a in
      let step : (next : WriterState) → PublishesEach P r'.records made w next → PublishesLog P r''.records next w'
      → PublishesEach r''.program r''.records (made ++ answer ∷ []) w w' =
      λ next each end.
      let end' : PublishesLog P (take answer.len (r'.records ++ grown.0)) next w' =
      subst (λ (l : List Record). PublishesLog P l next w') (sym whole ∙ ap (λ l. take answer.len l) grown.1) end in
      subst (λ (Q : Program). PublishesEach Q r''.records (made ++ answer ∷ []) w w') (sym one.given.program)
      (subst (λ (l : List Record). PublishesEach P l (made ++ answer ∷ []) w w') (sym grown.1)
      (each_more P r'.records grown.0 made answer w next w' short each end')) in
      elim before [
        | inl none ↦ step w (subst (λ (m : List Answer). PublishesEach P r'.records m w w) (sym none) refl) last'
        | inr h ↦
            let both = both_once P r'.records r''.records w w' last' some once said answer.reply one.given.gives h.1 in
            step both.0 (h.0 both.0 both.1) both.2
      ]

-- what a visit leaves of the writer, by whether it is settled
pub publishes_if : (settled : Bool) (P : Program) (log : List Record) (made : List Answer) (w w' : WriterState) → IsOnceEnough P log made w
    → (IsTrue settled → PublishesLog P log w w') → (settled ≡ false → w' ≡ w) → PublishesIf settled P log made w w'
publishes_if true P log made w w' once shown kept = once w' (shown refl)
publishes_if false P log made w w' once shown kept = kept refl

-- the next line may follow
pub next_may : (P : Program) (log : List Record) (w : WriterState) (made : List Answer) (known known' : List Line) (said : Line)
    → (made ≡ []) ⊎ IsOnceEnough P log made w
    → (made ≡ []) ⊎ ((next : Line) × (rest : List Line) × (known ≡ next ∷ rest) × MayFollow P log next w)
    → known ≡ said ∷ known' → (made ≡ []) ⊎ (IsOnceEnough P log made w × MayFollow P log said w)
next_may P log w made known known' said once follows is = elim follows [
  | inl none ↦ inl none
  | inr h ↦ elim once [
    | inl none ↦ inl none
    | inr enough ↦
        let same : h.0 ≡ said = cc (sym h.2 ∙ is) in
        inr (enough, subst (λ (l : Line). MayFollow P log l w) same h.3)
  ]
]

-- a board that shows all still does where nothing came in
pub still_shown : (P P' : Program) (log log' : List Record) (w : WriterState) (news : Option Moment) → P' ≡ P → HasNews P log news log' → news ≡ None
    → IsShown P log w → IsShown P' log' w
still_shown P P' log log' w news program has none shown =
    let same : log' ≡ log = subst (λ (n : Option Moment). HasNews P log n log') none has in
    subst (λ (Q : Program). IsShown Q log' w) (sym program) (subst (λ (l : List Record). IsShown P l w) (sym same) shown)

-- a board of which all rows are known to begin what is released
pub all_begun : (P : Program) (log : List Record) (w : WriterState) (known : ℕ) → KeepsBoard P log w known → length w.rows ≤ known → w.frozen ≡ false
    → BeginReleased P (set_of log) w.rows
all_begun P log w known kept all live =
    let same : known ≡ length w.rows = omega (arith, all, kept.within) in
    subst (BeginReleased P (set_of log)) (ap (λ n. take n w.rows) same ∙ take_all w.rows) (kept.begun live)

-- shows all where it is full, and where as many are released as it has rows
module _ (P : Program) (log : List Record) (w : WriterState) (known : ℕ) (kept : KeepsBoard P log w known) (all : length w.rows ≤ known)
    (live : w.frozen ≡ false) where
  pub shows_full : 0 < P.origins → EachOnce log → length w.rows ≡ room_of w.board → IsShown P log w
  shows_full some once full =
      let r = some_released P log some once in
      full_shown P log w live (all_begun P log w known kept all live) r.0 r.1 full

  pub shows_as_many : (released : List Out) → IsReleased P (set_of log) released → length released ≡ length w.rows → length w.rows ≤ room_of w.board
      → IsShown P log w
  shows_as_many released rel same room =
      rows_shown P log w live (all_begun P log w known kept all live) released rel (omega (arith, same, room))

-- behind the last of some answers the whole log is published
module _ {T : Type 0} (facts : TimelineFacts T) (P : Program) (log : List Record) where
  pub last_published : (r r' : ReplicaState T) (lines : List Line) (made : List Answer) (w w' : WriterState)
      → AreAnswered (AnswersLine facts) r lines made r' → r'.records ≡ log → 0 < length made → PublishesEach P log made w w'
      → (last : WriterState) × PublishesLog P log last w'
  last_published r r' [] [] w w' a is some each = absurd (omega (arith, some))
  last_published r r' [] (m ∷ made) w w' a is some each = absurd a
  last_published r r' (l ∷ lines) [] w w' a is some each = absurd a
  last_published r r' (l ∷ k ∷ lines) (m ∷ []) w w' a is some each = absurd a.2
  last_published r r' (l ∷ []) (m ∷ []) w w' a is some each =
      let whole : take m.len log ≡ log =
      ap (λ n. take n log) (a.1.len ∙ ap (λ (x : ReplicaState T). length x.records) (sym a.2) ∙ ap length is) ∙ take_all log in
      (w, subst (λ (v : WriterState). PublishesLog P log w v) (sym each.2) (subst (λ (l : List Record). PublishesLog P l w each.0) whole each.1))
  last_published r r' (l ∷ lines) (m ∷ n ∷ made) w w' a is some each =
      last_published a.0 r' lines (n ∷ made) each.0 w' a.2 is (omega arith) each.2
