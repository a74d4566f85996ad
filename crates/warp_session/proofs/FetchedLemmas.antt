-- Lines that were sent together, and their answers.
use borrow.Rule.Slice.PartMut.{put_mid, post_of, same_len_mid}
use Rattle.std.proofs.Common.{slice_index_or, slice_set, ◌≡◌, ℕ, ◌+◌, ◌-◌, ◌<◌, take, drop, length-drop, length-take-le, ◌≤◌, false, true, true≢false, List, [], ◌∷◌, ◌++◌, All, length, length-append, map, inl, ◌⊎◌, refl, sym, ap, subst, ◌∙◌, append_assoc, append-nil, arith}
use Rattle.std.proofs.lemmas.List.{length-map, map-append, take-append-le, take_all, take_more, take_more_set, take_rest}
use Rattle.std.proofs.lemmas.List.Elements.{All-head, All-map, All-nil, All-push, All-tail, All-weaker}
use Rattle.std.proofs.Math.Seq.{take-add, take-append-add}
use Rattle.warp_record.specs.declared.line.Line.{Line}
use Rattle.warp_record.specs.declared.line.Line.TheVariants as line
use Rattle.warp_tag.specs.Limits.{widest}
use Rattle.warp_record.specs.Reply.{IsReply}
use Rattle.warp_record.specs.declared.reply.Reply.{Reply}
use Rattle.warp_exchange.specs.Batch.{GivesEach}
use Rattle.warp_replica.specs.declared.answer.Answer.{Answer}
use Rattle.warp_lanes.specs.Lanes.{PortState, IsAnswer}
use Rattle.warp_session.specs.PortDesk.{Asks, FetchesAll, GivesAt, IsBusy, PortDeskState}
use Rattle.warp_session.specs.inner.Fetched.{FetchesLast, is_look}

-- the replies of answers
abbrev pub replies_of : List Answer → List Reply
replies_of answers = map (λ answer. answer.reply) answers

-- what a line gives that is no look at the board
pub command_gives : (s s' : PortDeskState) (said : Line) (answer : Reply) → is_look said ≡ false → s'.reader ≡ s.reader → s'.form ≡ s.form
    → Asks s.port said answer s'.port ⊎ IsBusy s.port answer s'.port → GivesAt s said answer s'
command_gives s s' (line.Put r) answer is reader form asks = (reader, form, asks)
command_gives s s' (line.Ask q) answer is reader form asks = (reader, form, asks)
command_gives s s' line.Collect answer is reader form asks = (reader, form, asks)
command_gives s s' (line.Look l) answer is reader form asks = absurd (true≢false is)

-- some answers were fetched until one at most was missing, and then that one
pub fetched_all : (p q r : PortState) (last : Answer) → ((front : List Answer) × (q ≡ record p { fetched = p.fetched ++ front }))
    → length q.sent ≤ length q.fetched + 1 → IsAnswer last × (r ≡ record q { fetched = q.fetched ++ last ∷ [] })
    → length q.fetched < length q.sent → FetchesAll p last r
fetched_all p q r last down few is missing =
    let whole : r ≡ record p { fetched = (p.fetched ++ down.0) ++ last ∷ [] } =
    is.1 ∙ ap (λ (x : PortState). record x { fetched = x.fetched ++ last ∷ [] }) down.1 in (
      down.0,
      whole,
      ap (λ (x : PortState). length x.fetched) is.1
          ∙ omega (arith, length-append q.fetched (last ∷ []), few, missing)
          ∙ ap (λ (x : PortState). length x.sent) (sym is.1),
      is.0,
    )

-- behind an earlier state the port fetched so many answers, whose replies stand in front
abbrev pub HasFetched : PortState → ℕ → List Reply → PortState → Type 0
HasFetched p at replies r =
    (last : List Answer) × (r ≡ record p { fetched = p.fetched ++ last }) × (length last ≡ at) × (take at replies ≡ replies_of last) × All IsAnswer last

-- none yet
pub fetched_none : (p : PortState) (replies : List Reply) → HasFetched p 0 replies p
fetched_none p replies =
    ([], ap (λ (x : List Answer). record p { fetched = x }) (sym (append-nil p.fetched)), refl, refl, All-nil IsAnswer)

-- one more
pub fetched_next : (p q r : PortState) (at : ℕ) (replies : List Reply) (answer : Answer) → at < length replies → HasFetched p at replies q
    → IsAnswer answer × (r ≡ record q { fetched = q.fetched ++ answer ∷ [] }) → HasFetched p (at + 1) (slice_set replies at answer.reply) r
fetched_next p q r at replies answer within was is = (
  was.0 ++ answer ∷ [],
  is.1 ∙ ap (λ (x : PortState). record x { fetched = x.fetched ++ answer ∷ [] }) was.1
      ∙ ap (λ (x : List Answer). record p { fetched = x }) (append_assoc p.fetched was.0 (answer ∷ [])),
  length-append was.0 (answer ∷ []) ∙ ap (λ (n : ℕ). n + 1) was.2,
  take_more_set replies at answer.reply within ∙ ap (λ (rs : List Reply). rs ++ answer.reply ∷ []) was.3
      ∙ sym (map-append (λ (a : Answer). a.reply) was.0 (answer ∷ [])),
  All-push IsAnswer was.0 answer was.4 is.0,
)

-- no more than were missing
pub level_next : (q r : PortState) (answer : Answer) → IsAnswer answer × (r ≡ record q { fetched = q.fetched ++ answer ∷ [] })
    → length q.fetched < length q.sent → length r.fetched ≤ length r.sent
level_next q r answer is missing =
    subst (λ (x : PortState). length x.fetched ≤ length x.sent) (sym is.1) (omega (arith, length-append q.fetched (answer ∷ []), missing))

-- and in the end none is missing
pub fetches_last : (p q r : PortState) (replies : List Reply) (at n : ℕ) → 0 < n → at ≡ n → length replies ≡ n
    → ((front : List Answer) × (q ≡ record p { fetched = p.fetched ++ front })) → length q.sent ≤ length q.fetched + n
    → HasFetched q at replies r → (0 < at → length r.fetched ≤ length r.sent) → FetchesLast p replies r
fetches_last p q r replies at n some all places down few was level =
    let fetched : length r.fetched ≡ length q.fetched + length was.0 = ap (λ (x : PortState). length x.fetched) was.1 ∙ length-append q.fetched was.0 in
    let sent : length r.sent ≡ length q.sent = ap (λ (x : PortState). length x.sent) was.1 in
    let most : length r.fetched ≤ length r.sent = level (omega (arith, some, all)) in (
      down.0,
      was.0,
      was.1 ∙ ap (λ (x : PortState). record x { fetched = x.fetched ++ was.0 }) down.1,
      omega (arith, fetched, sent, most, few, was.2, all),
      sym (take_all at replies (omega (arith, places, all))) ∙ was.3,
      was.4,
    )

-- a line more was sent
pub sent_next : (p q r : PortState) (lines : List Line) (count : ℕ) (said : Line) → count < length lines → said ≡ slice_index_or lines count said
    → q ≡ record p { sent = p.sent ++ take count lines; free = q.free } → r ≡ record q { sent = q.sent ++ said ∷ []; free = r.free }
    → r ≡ record p { sent = p.sent ++ take (count + 1) lines; free = r.free }
sent_next p q r lines count said within is first last =
    last ∙ ap (λ (x : PortState). record x { sent = x.sent ++ said ∷ []; free = r.free }) first
    ∙ ap (λ (x : List Line). record p { sent = x; free = r.free })
    (append_assoc p.sent (take count lines) (said ∷ [])
    ∙ ap (λ (x : List Line). p.sent ++ x)
    (ap (λ (l : Line). take count lines ++ l ∷ []) is ∙ sym (take_more lines count said within)))

-- the desk whose port sent these lines more, and fetched these answers, behind some older ones
abbrev pub behind : PortDeskState → List Answer → List Line → List Answer → ℕ → PortDeskState
behind s front lines last free = record s {
  port = record s.port { sent = s.port.sent ++ lines; fetched = (s.port.fetched ++ front) ++ last; free = free };
}

-- the first line gets its answer
one_answered : (s : PortDeskState) (front : List Answer) (said : Line) (answer : Answer) (free : ℕ)
    → length (s.port.fetched ++ front) ≡ length s.port.sent → is_look said ≡ false → IsAnswer answer → s.port.free ≤ free + 1
    → GivesAt s said answer.reply (behind s front (said ∷ []) (answer ∷ []) free)
one_answered s front said answer free even is good few =
    command_gives s (behind s front (said ∷ []) (answer ∷ []) free) said answer.reply is refl refl
    (inl (answer, (front, refl, omega (arith, length-append (s.port.fetched ++ front) (answer ∷ []), length-append s.port.sent (said ∷ []), even), good), refl, few))

same_desk : (s : PortDeskState) (sent : List Line) (fetched : List Answer) (free : ℕ) → sent ≡ s.port.sent → fetched ≡ s.port.fetched → free ≡ s.port.free
    → record s { port = record s.port { sent = sent; fetched = fetched; free = free } } ≡ s
same_desk s sent fetched free a b c =
    ap (λ (x : List Line). record s { port = record s.port { sent = x; fetched = fetched; free = free } }) a
    ∙ ap (λ (x : List Answer). record s { port = record s.port { sent = s.port.sent; fetched = x; free = free } }) b
    ∙ ap (λ (x : ℕ). record s { port = record s.port { sent = s.port.sent; fetched = s.port.fetched; free = x } }) c

behind_more : (s : PortDeskState) (front : List Answer) (said : Line) (answer : Answer) (lines : List Line) (last : List Answer) (n free : ℕ)
    → behind (behind s front (said ∷ []) (answer ∷ []) n) [] lines last free ≡ behind s front (said ∷ lines) (answer ∷ last) free
behind_more s front said answer lines last n free =
    ap (λ (x : List Line). record s {
      port = record s.port {
        sent = x;
        fetched = ((((s.port.fetched ++ front) ++ answer ∷ []) ++ []) ++ last);
        free = free;
      };
    }) (append_assoc s.port.sent (said ∷ []) lines)
    ∙ ap (λ (x : List Answer). record s { port = record s.port { sent = s.port.sent ++ said ∷ lines; fetched = x; free = free } })
    (ap (λ (x : List Answer). x ++ last) (append-nil ((s.port.fetched ++ front) ++ answer ∷ []))
    ∙ append_assoc (s.port.fetched ++ front) (answer ∷ []) last)

-- the lines behind it get theirs
rest_answered : (s : PortDeskState) (lines : List Line) (last : List Answer) (free : ℕ) → length last ≡ length lines
    → length s.port.fetched ≡ length s.port.sent → s.port.free ≡ free + length lines
    → All (λ line. is_look line ≡ false) lines → All IsAnswer last → GivesEach GivesAt s lines (replies_of last) (behind s [] lines last free)
rest_answered s [] [] free same even few are good =
    same_desk s (s.port.sent ++ []) ((s.port.fetched ++ []) ++ []) free (append-nil s.port.sent)
    (append-nil (s.port.fetched ++ []) ∙ append-nil s.port.fetched) (omega (arith, few))
rest_answered s [] (a ∷ last) free same even few are good = absurd (omega (arith, same))
rest_answered s (l ∷ lines) [] free same even few are good = absurd (omega (arith, same))
rest_answered s (l ∷ lines) (a ∷ last) free same even few are good =
    let mid : PortDeskState = behind s [] (l ∷ []) (a ∷ []) (free + length lines) in
    let none : length (s.port.fetched ++ []) ≡ length s.port.fetched = ap length (append-nil s.port.fetched) in (
      mid,
      one_answered s [] l a (free + length lines) (none ∙ even) (All-head (λ line. is_look line ≡ false) l lines are) (All-head IsAnswer a last good) (omega (arith, few)),
      subst (GivesEach GivesAt mid lines (replies_of last)) (behind_more s [] l a lines last (free + length lines) free)
          (rest_answered mid lines last free (omega (arith, same))
          (omega (arith, length-append (s.port.fetched ++ []) (a ∷ []), length-append s.port.sent (l ∷ []), even, none)) refl
          (All-tail (λ line. is_look line ≡ false) l lines are) (All-tail IsAnswer a last good)),
    )

-- lines that were sent together get the last answers that were fetched
pub all_answered : (s : PortDeskState) (front : List Answer) (lines : List Line) (last : List Answer) (free : ℕ) → 0 < length lines → length last ≡ length lines
    → length (s.port.fetched ++ front) ≡ length s.port.sent → s.port.free ≤ free + length lines
    → All (λ line. is_look line ≡ false) lines → All IsAnswer last → GivesEach GivesAt s lines (replies_of last) (behind s front lines last free)
all_answered s front [] last free some same even few are good = absurd (omega (arith, some))
all_answered s front (l ∷ lines) [] free some same even few are good = absurd (omega (arith, same))
all_answered s front (l ∷ lines) (a ∷ last) free some same even few are good =
    let mid : PortDeskState = behind s front (l ∷ []) (a ∷ []) (free + length lines) in (
      mid,
      one_answered s front l a (free + length lines) even (All-head (λ line. is_look line ≡ false) l lines are) (All-head IsAnswer a last good) (omega (arith, few)),
      subst (GivesEach GivesAt mid lines (replies_of last)) (behind_more s front l a lines last (free + length lines) free)
          (rest_answered mid lines last free (omega (arith, same))
          (omega (arith, length-append (s.port.fetched ++ front) (a ∷ []), length-append s.port.sent (l ∷ []), even)) refl
          (All-tail (λ line. is_look line ≡ false) l lines are) (All-tail IsAnswer a last good)),
    )

-- lines that were sent together, and whose answers were fetched, got their replies
pub asked_together : (s : PortDeskState) (p q : PortState) (n : ℕ) (lines : List Line) (said rest : List Reply)
    → 0 < n → n ≤ length lines → p ≡ record s.port { sent = s.port.sent ++ take n lines; free = p.free } → s.port.free ≤ p.free + n
    → All (λ line. is_look line ≡ false) (take n lines) → FetchesLast p said q → length said ≡ n
    → GivesEach GivesAt s (take n lines) (take n (said ++ rest)) (record s { port = q })
asked_together s p q n lines said rest some within sent free commands fetched many =
    let front : List Answer = fetched.0 in
    let last : List Answer = fetched.1 in
    let few : length (take n lines) ≡ n = length-take-le n lines within in
    let whole : q ≡ record s.port { sent = s.port.sent ++ take n lines; fetched = (s.port.fetched ++ front) ++ last; free = p.free } =
    fetched.2 ∙ ap (λ (x : PortState). record x { fetched = (x.fetched ++ front) ++ last }) sent in
    let as_many : length last ≡ n = sym (length-map last (λ (a : Answer). a.reply)) ∙ ap length (sym fetched.4) ∙ many in
    let all : length ((s.port.fetched ++ front) ++ last) ≡ length (s.port.sent ++ take n lines) =
    sym (ap (λ (x : PortState). length x.fetched) whole) ∙ fetched.3 ∙ ap (λ (x : PortState). length x.sent) whole in
    let even : length (s.port.fetched ++ front) ≡ length s.port.sent =
    omega (arith, all, as_many, few, length-append (s.port.fetched ++ front) last, length-append s.port.sent (take n lines)) in
    let replies : replies_of last ≡ take n (said ++ rest) =
    sym (take-append-le n said rest (omega (arith, many)) ∙ take_all n said (omega (arith, many)) ∙ fetched.4) in
    subst (λ (rs : List Reply). GivesEach GivesAt s (take n lines) rs (record s { port = q })) replies
    (subst (λ (x : PortState). GivesEach GivesAt s (take n lines) (replies_of last) (record s { port = x })) (sym whole)
    (all_answered s front (take n lines) last p.free (omega (arith, few, some)) (as_many ∙ sym few) even (omega (arith, free, few)) commands fetched.5))

-- a front of a list, and then some of what is behind it
pub front_more : {A : Type 0} (xs : List A) (front n : ℕ) → take front xs ++ take n (take (length xs - front) (drop front xs)) ≡ take (front + n) xs
front_more xs front n =
    ap (λ (l : List _). take front xs ++ take n l) (take_rest xs front)
    ∙ sym (take-add front n xs)

-- and of a list whose rest was exchanged
pub front_with : {A : Type 0} (xs ys : List A) (front n : ℕ) → front ≤ length xs → take front xs ++ take n ys ≡ take (front + n) (take front xs ++ ys)
front_with xs ys front n within =
    sym (ap (λ (k : ℕ). take (k + n) (take front xs ++ ys)) (sym (length-take-le front xs within)) ∙ take-append-add (take front xs) ys n)

-- a front of a list of which a part was exchanged
pub front_put : {A : Type 0} (xs ys : List A) (a k n : ℕ) → a ≤ length xs → n ≤ length ys → take (a + n) (put_mid a k xs ys) ≡ take a xs ++ take n ys
front_put xs ys a k n within few =
    sym (front_with xs (ys ++ post_of a k xs) a n within)
    ∙ ap (λ (l : List _). take a xs ++ l) (take-append-le n ys (post_of a k xs) few)

-- its rest was exchanged for as many
pub length_put : {A : Type 0} (xs ys : List A) (a : ℕ) → a ≤ length xs → length ys ≡ length xs - a → length (put_mid a (length xs - a) xs ys) ≡ length xs
length_put xs ys a within many = same_len_mid a (length xs - a) xs ys (many ∙ sym (ap length (take_rest xs a) ∙ length-drop a xs))

-- the replies of answers are in range
pub replies_in_range : (p q : PortState) (n : ℕ) (said rest : List Reply) → FetchesLast p said q → length said ≡ n → All (IsReply widest) (take n (said ++ rest))
replies_in_range p q n said rest fetched many =
    let all : All (IsReply widest) (replies_of fetched.1) =
    All-map (IsReply widest) (λ (a : Answer). a.reply) fetched.1
    (All-weaker IsAnswer (λ (a : Answer). IsReply widest a.reply) (λ a h. h.0) fetched.1 fetched.5) in
    subst (All (IsReply widest))
    (sym (take-append-le n said rest (omega (arith, many)) ∙ take_all n said (omega (arith, many)) ∙ fetched.4)) all
