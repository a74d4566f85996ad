-- The lines of a client that were heard and whose answers were not handed on, as the steps of a room change them.
use Rattle.std.proofs.Common.{◌≡◌, ◌≢◌, ℕ, zero, suc, ◌==◌, ◌&&◌, Bool, true, false, not, List, [], ◌∷◌, ◌++◌, length, Some, None, refl, sym, ap, subst, ◌∙◌, inl, inr, arith, append-nil, true≢false}
use Rattle.std.specs.Prelude.{IsTrue, cond, if◌then◌else◌, slice_get, slice_set}
use Rattle.std.proofs.lemmas.Bool.{cases_Bool}
use Rattle.std.proofs.lemmas.Bool.Decides.{nat_tests}
use Rattle.std.proofs.lemmas.List.{append_assoc}
use Rattle.warp_record.specs.declared.line.Line.{Line}
use Rattle.warp_record.specs.declared.record.Record.{Record}
use Rattle.warp_replica.specs.Answered.{TimelineFacts}
use Rattle.warp_replica.specs.declared.answer.Answer.{Answer}
use Rattle.warp_replica.proofs.Histories.{set_there}
use Rattle.warp_watch.specs.declared.client_id.ClientId.{ClientId}
use Rattle.warp_room.specs.declared.answers.AnsweredLine.{AnsweredLine}
use Rattle.warp_room.specs.Queues.{GetsSeat, IsSeat, QueuesState, SeatState, lines_in, lines_of, new_seat}
use Rattle.warp_room.specs.Room.{RoomState, is_client, of_client, open_lines, without}
use Rattle.warp_room.specs.Steps.{Hands, Leaves, RoomDoes, Says, Serves}
use Rattle.warp_room.specs.Steps.{Came, Heard}
use Rattle.warp_room.proofs.ServedLines.{saids}
use Rattle.warp_room.proofs.Clients.{client_differs, client_is, client_itself, client_parts, differs_client}

-- lines in a seat
in_seat : (b c : Bool) (lines : List Line) → b ≡ true → c ≡ true → (if b && c then lines else []) ≡ lines
in_seat true true lines b c = refl
in_seat true false lines b c = absurd (true≢false (sym c))
in_seat false c lines b e = absurd (true≢false (sym b))

in_none : (b c : Bool) (lines : List Line) → c ≡ false → (if b && c then lines else []) ≡ []
in_none true true lines c = absurd (true≢false c)
in_none true false lines c = refl
in_none false c lines e = refl

in_untaken : (b c : Bool) (lines : List Line) → b ≡ false → (if b && c then lines else []) ≡ []
in_untaken true c lines b = absurd (true≢false b)
in_untaken false c lines b = refl

rounds_same : (m n : ℕ) → m ≡ n → (m == n) ≡ true
rounds_same m n e = grind (e, nat_tests, arith)

rounds_differ : (m n : ℕ) → m ≢ n → (m == n) ≡ false
rounds_differ m n e = grind (e, nat_tests, arith)

-- the lines of who has a seat
pub seat_lines : (seats : List SeatState) (who : ClientId) (seat : SeatState) → IsSeat seats who seat → lines_of seats who ≡ seat.lines
seat_lines seats who seat s =
    ap (lines_in who.round) s.0 ∙ in_seat seat.taken (seat.round == who.round) seat.lines s.1 (rounds_same seat.round who.round s.2)

get_other : {X : Type 0} (xs : List X) (k j : ℕ) (x : X) → j ≢ k → slice_get (slice_set xs k x) j ≡ slice_get xs j
get_other [] k j x differ = refl
get_other (y ∷ xs) zero zero x differ = absurd (differ refl)
get_other (y ∷ xs) zero (suc j) x differ = refl
get_other (y ∷ xs) (suc k) zero x differ = refl
get_other (y ∷ xs) (suc k) (suc j) x differ = get_other xs k j x (λ e. differ (ap suc e))

-- a seat that changed
module _ (seats : List SeatState) (who : ClientId) (seat new : SeatState) (s : IsSeat seats who seat) where
  changed_seat : slice_get (slice_set seats who.key new) who.key ≡ Some new
  changed_seat = set_there seats who.key seat new s.0

  changed_lines : IsTrue new.taken → new.round ≡ seat.round → lines_of (slice_set seats who.key new) who ≡ new.lines
  changed_lines taken round = seat_lines (slice_set seats who.key new) who new (changed_seat, taken, round ∙ s.2)

  left_lines : new.taken ≡ false → lines_of (slice_set seats who.key new) who ≡ []
  left_lines left = ap (lines_in who.round) changed_seat ∙ in_untaken new.taken (new.round == who.round) new.lines left

  other_lines : (other : ClientId) → new.round ≡ seat.round → other ≢ who → lines_of (slice_set seats who.key new) other ≡ lines_of seats other
  other_lines other round differ = elim (client_parts other who differ) [
    | inl key ↦ ap (lines_in other.round) (get_other seats who.key other.key new key)
    | inr rounds ↦ elim (cases_Bool (other.key == who.key)) [
      | inr h ↦ ap (lines_in other.round) (get_other seats who.key other.key new (grind (h, nat_tests, arith)))
      | inl h ↦ (let key : other.key ≡ who.key = grind (h, nat_tests, arith) in
          let before : slice_get seats other.key ≡ Some seat = ap (slice_get seats) key ∙ s.0 in
          let after : slice_get (slice_set seats who.key new) other.key ≡ Some new = ap (slice_get (slice_set seats who.key new)) key ∙ changed_seat in
          ap (lines_in other.round) after
          ∙ in_none new.taken (new.round == other.round) new.lines
          (rounds_differ new.round other.round (λ e. rounds (sym e ∙ round ∙ s.2)))
          ∙ sym (ap (lines_in other.round) before
          ∙ in_none seat.taken (seat.round == other.round) seat.lines (rounds_differ seat.round other.round (λ e. rounds (sym e ∙ s.2)))))
    ]
  ]

-- a client that comes
in_new : (r round : ℕ) → lines_in round (Some (new_seat r)) ≡ []
in_new r round = by (r == round)
  where
    by : (b : Bool) → (if true && b then (new_seat r).lines else []) ≡ []
    by true = refl
    by false = refl

get_last : {X : Type 0} (xs : List X) (x : X) → slice_get (xs ++ x ∷ []) (length xs) ≡ Some x
get_last [] x = refl
get_last (y ∷ xs) x = get_last xs x

get_before : {X : Type 0} (xs : List X) (x : X) (k : ℕ) → k ≢ length xs → slice_get (xs ++ x ∷ []) k ≡ slice_get xs k
get_before [] x zero differ = absurd (differ refl)
get_before [] x (suc k) differ = refl
get_before (y ∷ xs) x zero differ = refl
get_before (y ∷ xs) x (suc k) differ = get_before xs x k (λ e. differ (ap suc e))

get_beyond : {X : Type 0} (xs : List X) → slice_get xs (length xs) ≡ None
get_beyond [] = refl
get_beyond (y ∷ xs) = get_beyond xs

came_lines : (who other : ClientId) (seats seats' : List SeatState) → GetsSeat who seats seats' → lines_of seats' other ≡ lines_of seats other
came_lines who other seats seats' (inl g) = elim (cases_Bool (other.key == who.key)) [
  | inl h ↦ (let key : other.key ≡ length seats = grind (h, g.0, nat_tests, arith) in
      let before = ap (slice_get seats) key ∙ get_beyond seats in
      let after = ap (λ l. slice_get l other.key) g.1 ∙ ap (slice_get (seats ++ new_seat who.round ∷ [])) key ∙ get_last seats (new_seat who.round) in
      ap (lines_in other.round) after ∙ in_new who.round other.round ∙ sym (ap (lines_in other.round) before))
  | inr h ↦ (let differ : other.key ≢ length seats = grind (h, g.0, nat_tests, arith) in
      ap (lines_in other.round) (ap (λ l. slice_get l other.key) g.1 ∙ get_before seats (new_seat who.round) other.key differ))
]
came_lines who other seats seats' (inr g) = elim (cases_Bool (other.key == who.key)) [
  | inl h ↦ (let key : other.key ≡ who.key = grind (h, nat_tests, arith) in
      let before = ap (slice_get seats) key ∙ g.1 in
      let after = ap (λ l. slice_get l other.key) g.3 ∙ ap (slice_get (slice_set seats who.key (new_seat who.round))) key ∙ set_there seats who.key g.0 (new_seat who.round) g.1 in
      ap (lines_in other.round) after ∙ in_new who.round other.round
      ∙ sym (ap (lines_in other.round) before ∙ in_untaken g.0.taken (g.0.round == other.round) g.0.lines g.2))
  | inr h ↦ (let differ : other.key ≢ who.key = grind (h, nat_tests, arith) in
      ap (lines_in other.round) (ap (λ l. slice_get l other.key) g.3 ∙ get_other seats who.key other.key (new_seat who.round) differ))
]

-- in the seat of a client that comes no lines wait
pub new_lines : (who other : ClientId) (seats seats' : List SeatState) → other.key ≡ who.key → GetsSeat who seats seats' → lines_of seats' other ≡ []
new_lines who other seats seats' key (inl g) =
    ap (lines_in other.round)
    (ap (λ l. slice_get l other.key) g.1 ∙ ap (slice_get (seats ++ new_seat who.round ∷ [])) (key ∙ g.0) ∙ get_last seats (new_seat who.round))
    ∙ in_new who.round other.round
new_lines who other seats seats' key (inr g) =
    ap (lines_in other.round)
    (ap (λ l. slice_get l other.key) g.3 ∙ ap (slice_get (slice_set seats who.key (new_seat who.round))) key
    ∙ set_there seats who.key g.0 (new_seat who.round) g.1)
    ∙ in_new who.round other.round

-- one more that was answered, of this client or of another
saids_more : (who : ClientId) (served : List AnsweredLine) (one : AnsweredLine) (b : Bool) → is_client who one.who ≡ b
    → saids (of_client who (served ++ one ∷ [])) ≡ saids (of_client who served) ++ cond b (one.said ∷ []) []
saids_more who [] one true e = ap (λ (x : Bool). saids (cond x (one ∷ []) [])) e
saids_more who [] one false e = ap (λ (x : Bool). saids (cond x (one ∷ []) [])) e
saids_more who (s ∷ served) one b e =
    more_if (is_client who s.who) s (of_client who (served ++ one ∷ [])) (of_client who served) (saids_more who served one b e)
  where
    more_if : (c : Bool) (s : AnsweredLine) (after before : List AnsweredLine) → saids after ≡ saids before ++ cond b (one.said ∷ []) []
        → saids (cond c (s ∷ after) after) ≡ saids (cond c (s ∷ before) before) ++ cond b (one.said ∷ []) []
    more_if true s after before e = ap (λ l. s.said ∷ l) e
    more_if false s after before e = e

-- without those of a client there is none of it, and all of the others
none_left : (who : ClientId) (served : List AnsweredLine) → of_client who (without who served) ≡ []
none_left who [] = refl
none_left who (s ∷ served) = none_if (is_client who s.who) refl (none_left who served)
  where
    none_if : (b : Bool) → is_client who s.who ≡ b → of_client who (without who served) ≡ []
        → of_client who (cond (not b) (s ∷ without who served) (without who served)) ≡ []
    none_if true e rest = rest
    none_if false e rest = ap (λ (x : Bool). cond x (s ∷ of_client who (without who served)) (of_client who (without who served))) e ∙ rest

all_left : (who other : ClientId) (served : List AnsweredLine) → other ≢ who → of_client other (without who served) ≡ of_client other served
all_left who other [] differ = refl
all_left who other (s ∷ served) differ = all_if (is_client who s.who) refl (all_left who other served differ)
  where
    all_if : (b : Bool) → is_client who s.who ≡ b → of_client other (without who served) ≡ of_client other served
        → of_client other (cond (not b) (s ∷ without who served) (without who served)) ≡ of_client other (s ∷ served)
    all_if false e rest = ap (λ l. cond (is_client other s.who) (s ∷ l) l) rest
    all_if true e rest =
        rest ∙ sym (ap (λ (x : Bool). cond x (s ∷ of_client other served) (of_client other served))
        (ap (is_client other) (sym (client_is who s.who e)) ∙ differs_client other who differ))

module _ {T : Type 0} where
  -- the parts that open lines are made of
  opened : (r r' : RoomState T) (who : ClientId) → saids (of_client who r'.made) ≡ saids (of_client who r.made)
      → lines_of r'.queues.seats who ≡ lines_of r.queues.seats who → open_lines r' who ≡ open_lines r who
  opened r r' who made lines =
      ap (λ l. l ++ lines_of r'.queues.seats who) made ∙ ap (λ l. saids (of_client who r.made) ++ l) lines

  same_made : (r r' : RoomState T) (who : ClientId) → r'.made ≡ r.made → saids (of_client who r'.made) ≡ saids (of_client who r.made)
  same_made r r' who made = ap (λ (served : List AnsweredLine). saids (of_client who served)) made

  pub heard : (facts : TimelineFacts T) (r r' : RoomState T) (who : ClientId) (said : Line) → RoomDoes facts (Heard who said) r r'
      → open_lines r' who ≡ open_lines r who ++ said ∷ []
  heard facts r r' who said d =
      let h = d.0 in
      let seat = h.0 in
      let new : SeatState = record seat { lines = seat.lines ++ said ∷ [] } in
      let seats : r'.queues.seats ≡ slice_set r.queues.seats who.key new = ap (λ (q : QueuesState). q.seats) h.3 in
      let after : lines_of r'.queues.seats who ≡ seat.lines ++ said ∷ [] =
      ap (λ l. lines_of l who) seats ∙ changed_lines r.queues.seats who seat new h.1 h.1.1 refl in
      let before = seat_lines r.queues.seats who seat h.1 in
      ap (λ l. l ++ lines_of r'.queues.seats who) (same_made r r' who (ap (λ (x : RoomState T). x.made) d.1))
      ∙ ap (λ l. saids (of_client who r.made) ++ l) (after ∙ ap (λ l. l ++ said ∷ []) (sym before))
      ∙ sym (append_assoc (saids (of_client who r.made)) (lines_of r.queues.seats who) (said ∷ []))

  pub came : (facts : TimelineFacts T) (r r' : RoomState T) (who other : ClientId) → RoomDoes facts (Came who) r r'
      → open_lines r' other ≡ open_lines r other
  came facts r r' who other d =
      opened r r' other (same_made r r' other (ap (λ (x : RoomState T). x.made) d.1))
      (came_lines who other r.queues.seats r'.queues.seats d.0.seats)

  pub others_heard : (facts : TimelineFacts T) (r r' : RoomState T) (who other : ClientId) (said : Line) → other ≢ who
      → RoomDoes facts (Heard who said) r r' → open_lines r' other ≡ open_lines r other
  others_heard facts r r' who other said differ d =
      let h = d.0 in
      let seat = h.0 in
      let new : SeatState = record seat { lines = seat.lines ++ said ∷ [] } in
      opened r r' other (same_made r r' other (ap (λ (x : RoomState T). x.made) d.1))
      (ap (λ (q : QueuesState). lines_of q.seats other) h.3 ∙ other_lines r.queues.seats who seat new h.1 other refl differ)

  pub answered : (facts : TimelineFacts T) (r r' : RoomState T) (one : AnsweredLine) (who : ClientId) → Serves facts one r r'
      → open_lines r' who ≡ open_lines r who
  answered facts r r' one who d = elim (cases_Bool (is_client who one.who)) [
    | inl h ↦ (let same = client_is who one.who h in
        let mine = subst (λ (w : ClientId). open_lines r' w ≡ open_lines r w) (sym same) (own (client_itself one.who)) in mine)
    | inr h ↦ opened r r' who
        (made who ∙ saids_more who r.made one false h ∙ append-nil (saids (of_client who r.made)))
        (seats who ∙ other_lines r.queues.seats one.who d.seat new d.there who refl (client_differs who one.who h))
  ]
    where
      new : SeatState
      new = record d.seat { lines = d.rest }

      made : (w : ClientId) → saids (of_client w r'.made) ≡ saids (of_client w (r.made ++ one ∷ []))
      made w = ap (λ (x : RoomState T). saids (of_client w x.made)) d.leaves

      seats : (w : ClientId) → lines_of r'.queues.seats w ≡ lines_of (slice_set r.queues.seats one.who.key new) w
      seats w = ap (λ (q : QueuesState). lines_of q.seats w) d.takes

      own : is_client one.who one.who ≡ true → open_lines r' one.who ≡ open_lines r one.who
      own itself =
          let lines : lines_of r'.queues.seats one.who ≡ d.rest = seats one.who ∙ changed_lines r.queues.seats one.who d.seat new d.there d.there.1 refl in
          let before : lines_of r.queues.seats one.who ≡ one.said ∷ d.rest = seat_lines r.queues.seats one.who d.seat d.there ∙ d.oldest in
          ap (λ l. l ++ lines_of r'.queues.seats one.who) (made one.who ∙ saids_more one.who r.made one true itself)
          ∙ ap (λ l. (saids (of_client one.who r.made) ++ one.said ∷ []) ++ l) lines
          ∙ append_assoc (saids (of_client one.who r.made)) (one.said ∷ []) d.rest
          ∙ ap (λ l. saids (of_client one.who r.made) ++ l) (sym before)

  pub handed : (r r' : RoomState T) (limit : ℕ) (one : AnsweredLine) → Hands limit one r r' → open_lines r one.who ≡ one.said ∷ open_lines r' one.who
  handed r r' limit one d =
      let made : saids (of_client one.who r.made) ≡ one.said ∷ saids (of_client one.who r'.made) =
      ap (λ (served : List AnsweredLine). saids (of_client one.who served)) d.first
      ∙ ap (λ (x : Bool). saids (cond x (one ∷ of_client one.who r'.made) (of_client one.who r'.made))) (client_itself one.who) in
      let lines : lines_of r.queues.seats one.who ≡ lines_of r'.queues.seats one.who = sym (ap (λ (x : RoomState T). lines_of x.queues.seats one.who) d.leaves) in
      ap (λ l. l ++ lines_of r.queues.seats one.who) made ∙ ap (λ l. (one.said ∷ saids (of_client one.who r'.made)) ++ l) lines

  pub others_handed : (r r' : RoomState T) (limit : ℕ) (one : AnsweredLine) (other : ClientId) → other ≢ one.who → Hands limit one r r'
      → open_lines r' other ≡ open_lines r other
  others_handed r r' limit one other differ d =
      let made : saids (of_client other r.made) ≡ saids (of_client other r'.made) =
      ap (λ (served : List AnsweredLine). saids (of_client other served)) d.first
      ∙ ap (λ (x : Bool). saids (cond x (one ∷ of_client other r'.made) (of_client other r'.made))) (differs_client other one.who differ) in
      opened r r' other (sym made) (ap (λ (x : RoomState T). lines_of x.queues.seats other) d.leaves)

  pub own_said : (facts : TimelineFacts T) (r r' : RoomState T) (one : Record) (answer : Answer) (who : ClientId) → Says facts one answer r r'
      → open_lines r' who ≡ open_lines r who
  own_said facts r r' one answer who d =
      opened r r' who (same_made r r' who (ap (λ (x : RoomState T). x.made) d.leaves)) (ap (λ (x : RoomState T). lines_of x.queues.seats who) d.leaves)

  pub left : (r r' : RoomState T) (who : ClientId) → Leaves who r r' → open_lines r' who ≡ []
  left r r' who d =
      let seat = d.seat.0 in
      let new : SeatState = record seat { taken = false; lines = [] } in
      let made : saids (of_client who r'.made) ≡ [] = ap (λ (x : RoomState T). saids (of_client who x.made)) d.leaves ∙ ap (λ l. saids l) (none_left who r.made) in
      let lines : lines_of r'.queues.seats who ≡ [] = ap (λ (q : QueuesState). lines_of q.seats who) d.seat.2 ∙ left_lines r.queues.seats who seat new d.seat.1 refl in
      ap (λ l. l ++ lines_of r'.queues.seats who) made ∙ lines

  pub others_left : (r r' : RoomState T) (who other : ClientId) → other ≢ who → Leaves who r r' → open_lines r' other ≡ open_lines r other
  others_left r r' who other differ d =
      let seat = d.seat.0 in
      let new : SeatState = record seat { taken = false; lines = [] } in
      opened r r' other
      (ap (λ (x : RoomState T). saids (of_client other x.made)) d.leaves ∙ ap (λ l. saids l) (all_left who other r.made differ))
      (ap (λ (q : QueuesState). lines_of q.seats other) d.seat.2 ∙ other_lines r.queues.seats who seat new d.seat.1 other refl differ)
