-- A walk of the crate `clap` over words in which it finds no fault: what each use of an argument
-- keeps of the rows, the walk keeps, and where it stops, it stops at a subcommand that may be entered.
use Rattle.std.proofs.Common.{◌≡◌, ◌&&◌, ℕ, zero, suc, Bool, true, false, not, cond, List, [], ◌∷◌, Option, None, Some, drop, length, fold, find, is_some, refl}
use Rattle.std.specs.Prelude.{⊤, encode_utf8, slice_get}
use Rattle.std.specs.Option.{option_map_or}
use Rattle.std.specs.Str.{bytes_eq, chars}
use Rattle.clap.specs.Lexer.{long_of, short_of}
use Rattle.clap.specs.Kinds.{Kinds, or_else}
use Rattle.clap.specs.Walk.{Held, Names, Outcome, Row, Rule, Step, Text, Waiting, Walk, after_flag, after_step, arg_by_id, arg_by_index, arg_by_long, arg_by_short, attached_value, bundle_met, bundle_step, flag_met, has_long, has_short, is_pending, long_met, long_or_other, nothing_held, option_met, option_word, plain_word, reacted, settled, settled_rows, short_met, short_or_plain, subcommand_met, subcommand_or_other, takes_several, takes_values, to_positional, used, used_by_id, walked, walked_from, word_met}
use Rattle.clap.specs.Walk.{done, waits, plain, refused, idle, option, positional, next, trailing, subcommand, value}
use Rattle.clap.specs.Simple.{Shape}
use Rattle.clap.specs.Faults.{bundle_fault, bundle_step_fault, flag_word_fault, flags_fault, long_fault, option_fault, other_fault, positional_fault, react_fault, settle_fault, short_fault, step_fault, stray_fault, turn_fault, use_fault, walk_fault, word_fault}
use Rattle.clap.specs.declared.error.kind.ErrorKind.TheVariants as kind

-- two steps without a fault
pub both_none : (a b : Kinds) → or_else a b ≡ [] → (a ≡ []) × (b ≡ [])
both_none [] b e = (refl, e)
both_none (k ∷ ks) b e = (e, cc)

-- ---- what each use keeps, a walk keeps

-- a use of the argument without a fault keeps P of the rows
abbrev pub Keeps : Bool → (List Row → Type 0) → Option Rule → Type 0
Keeps again P None = ⊤
Keeps again P (Some a) = (values : List Text) (rows : List Row) → use_fault again a values rows ≡ [] → P rows → P (used a values rows)

-- the subcommand has Q where it can be entered: `help` can't
abbrev pub Enters : Shape → (Text → Type 0) → Option Text → Type 0
Enters s Q None = ⊤
Enters s Q (Some name) = other_fault s (Some name) [] nothing_held ≡ [] → Q name

abbrev StepHas : (Text → Type 0) → Step → Type 0
StepHas Q (subcommand name) = Q name
StepHas Q _ = ⊤

abbrev pub StopHas : (Text → Type 0) → Option (Text × List Text) → Type 0
StopHas Q None = ⊤
StopHas Q (Some p) = Q p.0

module _ (s : Shape) (names : Names) (P : List Row → Type 0) (Q : Text → Type 0)
    (keeps : (p : Rule → Bool) → Keeps s.args_override_self P (find p s.rules))
    (enters : (waiting : Waiting) (word : Text) → Enters s Q (subcommand_met names waiting word)) where
  abbrev c : List Rule
  c = s.rules

  abbrev again : Bool
  again = s.args_override_self

  pub settled_keeps : (h : Held) → settle_fault c again h ≡ [] → P h.rows → P (settled c h).rows
  settled_keeps h e q = go h.pending e
    where
      by_id : (o : Option Rule) (vs : List Text) → Keeps again P o → option_map_or (λ a. use_fault again a vs h.rows) o [] ≡ [] → P (used_by_id o vs h.rows)
      by_id None vs k e = q
      by_id (Some a) vs k e = k vs h.rows e q

      go : (o : Option (Text × List Text)) → option_map_or (λ p. option_map_or (λ a. use_fault again a p.1 h.rows) (arg_by_id c p.0) []) o [] ≡ []
          → P (settled_rows c o h.rows)
      go None e = q
      go (Some p) e = by_id (arg_by_id c p.0) p.1 (keeps (λ a. bytes_eq a.id p.0)) e

  reacted_keeps : (a : Rule) (values : List Text) (h : Held) → Keeps again P (Some a) → react_fault c again a values h ≡ [] → P h.rows → P (reacted c a values h).rows
  reacted_keeps a values h k e q =
      let parts = both_none (settle_fault c again h) _ e in k values (settled c h).rows parts.1 (settled_keeps h parts.0 q)

  option_keeps : (a : Rule) (v : Option Text) (h : Held) → Keeps again P (Some a) → option_fault c again a v h ≡ [] → P h.rows → P (option_met c a v h).0.rows
  option_keeps a (Some v) h k e q = reacted_keeps a (v ∷ []) h k e q
  option_keeps a None h k e q = settled_keeps h e q

  long_keeps : (o : Option Rule) (v : Option Text) (h : Held) → Keeps again P o → long_fault c again o v h ≡ [] → P h.rows → P (long_met c o v h).0.rows
  long_keeps None v h k e q = q
  long_keeps (Some a) v h k e q = go (takes_values a) v e
    where
      go : (t : Bool) (w : Option Text) → cond t (option_fault c again a w h) (cond (is_some w) (kind.TooManyValues ∷ []) (react_fault c again a [] h)) ≡ []
          → P (cond t (option_met c a w h) (flag_met c a w h)).0.rows
      go true w e = option_keeps a w h k e q
      go false None e = reacted_keeps a [] h k e q
      go false (Some w) e = q

  short_keeps : (o : Option Rule) (rest : Text) (h : Held) (fault : Held → Kinds) (go_on : Held → Held × Outcome) → Keeps again P o
      → ((g : Held) → fault g ≡ [] → P g.rows → P (go_on g).0.rows) → short_fault c again o rest h fault ≡ [] → P h.rows → P (short_met c o rest h go_on).0.rows
  short_keeps None rest h fault go_on k more e q = q
  short_keeps (Some a) rest h fault go_on k more e q = go (takes_values a) e
    where
      go : (t : Bool) → cond t (option_fault c again a (attached_value rest) h) (or_else (react_fault c again a [] h) (fault (reacted c a [] h))) ≡ []
          → P (cond t (option_met c a (attached_value rest) h) (go_on (reacted c a [] h))).0.rows
      go true e = option_keeps a (attached_value rest) h k e q
      go false e =
          let parts = both_none (react_fault c again a [] h) _ e in more (reacted c a [] h) parts.1 (reacted_keeps a [] h k parts.0 q)

  bundle_keeps : (k : ℕ) (flags : Text) (skip : ℕ) (so_far : Outcome) (h : Held) → flags_fault c again k flags skip h ≡ [] → P h.rows
      → P (bundle_met c k flags skip so_far h).0.rows
  unfolding bundle_met flags_fault
  bundle_keeps zero flags skip so_far h e q = q
  bundle_keeps (suc k) flags skip so_far h e q = go (slice_get (chars flags) 0) skip (λ t n o g f r. bundle_keeps k t n o g f r) e
    where
      go : (o : Option ℕ) (n : ℕ)
          → ((t : Text) (n : ℕ) (o : Outcome) (g : Held) → flags_fault c again k t n g ≡ [] → P g.rows → P (bundle_met c k t n o g).0.rows)
          → bundle_step_fault c again o flags n h (flags_fault c again k) ≡ [] → P (bundle_step c o flags n so_far h (bundle_met c k)).0.rows
      go None n more e = q
      go (Some x) zero more e =
          let rest = drop (length (encode_utf8 x)) flags in
          short_keeps (arg_by_short c x) rest h (flags_fault c again k rest 0) (bundle_met c k rest 0 done) (keeps (λ a. not (is_some a.index) && has_short a x))
          (more rest 0 done) e q
      go (Some x) (suc n) more e = more (drop (length (encode_utf8 x)) flags) n so_far h e q

  abbrev Good : Held × Step → Type 0
  Good met = P met.0.rows × StepHas Q met.1

  plain_good : (waiting : Waiting) (word : Text) (h : Held) → P h.rows → Good (plain_word c waiting word h)
  plain_good idle word h q = (q, tt)
  plain_good positional word h q = (q, tt)
  plain_good (option id) word h q = go (arg_by_id c id)
    where
      go : (o : Option Rule) → Good ((option_word o id word h).0, next (option_word o id word h).1)
      go None = (q, tt)
      go (Some a) = (q, tt)

  flag_good : (waiting : Waiting) (word : Text) (h : Held) (o : Outcome) → P h.rows → Good (after_flag c waiting word h o)
  flag_good waiting word h done q = (q, tt)
  flag_good waiting word h (waits id) q = (q, tt)
  flag_good waiting word h plain q = plain_good waiting word h q
  flag_good waiting word h refused q = plain_good waiting word h q

  short_good : (waiting : Waiting) (word : Text) (o : Option Text) (h : Held) → option_map_or (λ flags. bundle_fault c again flags h) o [] ≡ [] → P h.rows
      → Good (short_or_plain c waiting word o h)
  short_good waiting word None h e q = plain_good waiting word h q
  short_good waiting word (Some flags) h e q = flag_good waiting word _ _ (bundle_keeps (length flags) flags h.skip plain (record h { skip = 0 }) e q)

  long_good : (waiting : Waiting) (word : Text) (o : Option (Text × Option Text)) (h : Held) → flag_word_fault c again o word h ≡ [] → P h.rows
      → Good (long_or_other c waiting word o h)
  long_good waiting word None h e q = short_good waiting word (short_of word) h e q
  long_good waiting word (Some p) h e q =
      flag_good waiting word _ _ (long_keeps (arg_by_long c p.0) p.1 h (keeps (λ a. not (is_some a.index) && has_long a p.0)) e q)

  other_good : (o : Option Text) (waiting : Waiting) (position : ℕ) (word : Text) (h : Held) → Enters s Q o → other_fault s o word h ≡ [] → P h.rows
      → Good (subcommand_or_other c o waiting position word h)
  other_good (Some name) waiting position word h n e q = (q, n e)
  other_good None waiting position word h n e q = go (bytes_eq word (45 ∷ 45 ∷ [])) e
    where
      go : (b : Bool) → cond b [] (flag_word_fault c again (long_of word) word h) ≡ [] → Good (cond b (h, trailing position) (long_or_other c waiting word (long_of word) h))
      go true e = (q, tt)
      go false e = long_good waiting word (long_of word) h e q

  word_good : (is_trailing : Bool) (waiting : Waiting) (position : ℕ) (word : Text) (h : Held) → word_fault s names is_trailing waiting word h ≡ [] → P h.rows
      → Good (word_met c names is_trailing waiting position word h)
  word_good true waiting position word h e q = (q, tt)
  word_good false waiting position word h e q = other_good (subcommand_met names waiting word) waiting position word h (enters waiting word) e q

  abbrev Holds : Walk → Type 0
  Holds w = P w.held.rows × StopHas Q w.stopped

  step_holds : (word : Text) (w : Walk) (h : Held) (step : Step) → step_fault s w.position h step ≡ [] → Good (h, step) → StopHas Q w.stopped
      → Holds (after_step c word w h step)
  step_holds word w h (next waiting) e q f = (q.0, f)
  step_holds word w h (trailing position) e q f = (q.0, f)
  step_holds word w h (subcommand name) e q f = q
  step_holds word w h value e q f = go (arg_by_index c w.position) e
    where
      kept : (b : Bool) → cond b [] (settle_fault c again h) ≡ [] → P (cond b h (settled c h)).rows
      kept true e = q.0
      kept false e = settled_keeps h e q.0

      go : (o : Option Rule) → option_map_or (λ a. positional_fault c again a h) o (stray_fault s) ≡ [] → Holds (to_positional c o word w h)
      go None e = (q.0, f)
      go (Some a) e = (kept (is_pending a h.pending && takes_several a) e, tt)

  abbrev met_at : Walk → Text → Held × Step
  met_at w word = word_met c names w.is_trailing w.waiting w.position word w.held

  turn_holds : (w : Walk) (word : Text) → turn_fault s names w word ≡ [] → Holds w → Holds (walked c names w word)
  unfolding walked
  turn_holds w word e q = go w.stopped e q.1
    where
      go : (o : Option (Text × List Text)) → cond (is_some o) [] (or_else (word_fault s names w.is_trailing w.waiting word w.held) (step_fault s w.position (met_at w word).0 (met_at w word).1)) ≡ []
          → StopHas Q o → Holds (walked_from c names o w word)
      go None e f =
          let parts = both_none (word_fault s names w.is_trailing w.waiting word w.held) _ e in
          step_holds word w (met_at w word).0 (met_at w word).1 parts.1 (word_good w.is_trailing w.waiting w.position word w.held parts.0 q.0) q.1
      go (Some p) e f = (q.0, f)

  pub walk_holds : (words : List Text) (w : Walk) → walk_fault s names w words ≡ [] → Holds w → Holds (fold (walked c names) w words)
  unfolding walk_fault
  walk_holds [] w e q = q
  walk_holds (x ∷ xs) w e q =
      let parts = both_none (turn_fault s names w x) _ e in walk_holds xs (walked c names w x) parts.1 (turn_holds w x parts.0 q)
