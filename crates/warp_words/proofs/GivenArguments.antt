-- What a parse of the crate `clap` gives where it finds no fault: a subcommand, each of its arguments
-- that has to be there, and texts that passed the parsers of their arguments.
--
-- A caller has one lemma for each subcommand, by `level_given s (refl, refl)` for its shape s, which
-- gives `.0` of its first argument, `.1.0` of its second and so on (`IsGiven`), and `entered_gives`
-- puts them together.
use Rattle.std.proofs.Common.{◌≡◌, ◌∙◌, ◌++◌, ◌&&◌, ◌||◌, ℕ, ap, arith, Bool, true, false, not, cond, List, [], ◌∷◌, Option, None, Some, fold, find, is_some, length, map, ne_eqb, option_map, refl, subst, sym, unwrap_or}
use Rattle.std.specs.Prelude.{⊤, nat_lt, option_and_then, slice_get}
use Rattle.std.specs.List.{list_all, list_any}
use Rattle.std.specs.Option.{option_map_or}
use Rattle.std.specs.Str.{bytes_eq}
use Rattle.std.proofs.lemmas.Slice.Eq.{bytes_eq-Decides}
use Rattle.clap.specs.Values.{is_request, read_as, refused_kind}
use Rattle.clap.specs.Facts.{explicit_source, parser_of_value, unwrap_or_range}
use Rattle.clap.specs.Kinds.{Kinds, check_kinds, range_kinds, request_kinds, value_kinds, values_kinds}
use Rattle.clap.specs.ValueTests.{accepts}
use Rattle.clap.specs.Walk.{Names, Row, Rule, Text, Waiting, action_of, answers_to, arg_by_id, default_rows, finished, has_row, is_empty, more_values, most_values, nothing_held, reading_by, row_text, rows_after, settled, stop_after, subcommand_met, used_as, values_or_missing, walk, walk_from, with_default, with_values, without, at_row}
use Rattle.clap.specs.Walk.{idle, option, positional}
use Rattle.clap.specs.Simple.{App, Shape, entered, names_of}
use Rattle.clap.specs.Takes.{is_given, value_passes}
use Rattle.clap.specs.Faults.{action_fault, built_fault, default_fault, defaults_fault, entered_fault, given_default_fault, level_fault, repeat_fault, settle_fault, values_fault, walk_fault}
use Rattle.clap.specs.declared.builder.action.ArgAction.{ArgAction}
use Rattle.clap.specs.declared.builder.action.ArgAction.TheVariants.{Set, Append, SetTrue, SetFalse, Count, Help, HelpShort, HelpLong, Version}
use Rattle.clap.specs.declared.builder.value_parser.Reading.{Reading}
use Rattle.clap.specs.declared.builder.value_parser.ValueParser.{ValueParser}
use Rattle.clap.specs.declared.error.kind.ErrorKind.{ErrorKind}
use Rattle.clap.specs.declared.error.kind.ErrorKind.TheVariants as kind
use Rattle.clap.specs.declared.parser.matches.ValueSource.{ValueSource}
use Rattle.clap.proofs.WalkLemmas.{both}
use Rattle.warp_words.proofs.FaultlessWalks.{Enters, Keeps, StopHas, both_none, settled_keeps, walk_holds}

-- ---- each row has a value, and its values passed the parser of its argument

abbrev Full : List Text → Type 0
Full [] = ⊥
Full (v ∷ vs) = ⊤

abbrev Passes : List Text → Reading → Option Rule → Type 0
Passes values how None = ⊤
Passes values how (Some a) = (values_fault a values ≡ []) × (how ≡ reading_by a)

abbrev Fits : List Rule → Row → Type 0
Fits rules r = Full r.values × Passes r.values r.reading (arg_by_id rules r.id)

abbrev AllFit : List Rule → List Row → Type 0
AllFit rules [] = ⊤
AllFit rules (r ∷ rs) = Fits rules r × AllFit rules rs

more_full : (xs ys : List Text) → Full ys → Full (xs ++ ys)
more_full [] ys f = f
more_full (x ∷ xs) ys f = tt

more_pass : (i : Bool) (p : ValueParser) (xs ys : List Text) → values_kinds i p xs ≡ [] → values_kinds i p ys ≡ [] → values_kinds i p (xs ++ ys) ≡ []
more_pass i p [] ys e f = f
more_pass i p (x ∷ xs) ys e f =
    let parts = both_none (value_kinds i p x) _ e in rw parts.0 (more_pass i p xs ys parts.1 f)

at_row_fits : (rules : List Rule) (id : Text) (change : Row → List Row) (missing rows : List Row)
    → ((r : Row) (rest : List Row) → r.id ≡ id → Fits rules r → AllFit rules rest → AllFit rules (change r ++ rest)) → AllFit rules missing → AllFit rules rows
    → AllFit rules (at_row id change missing rows)
at_row_fits rules id change missing [] f m all = m
at_row_fits rules id change missing (r ∷ rs) f m all = go (bytes_eq r.id id) (bytes_eq-Decides r.id id).0 (at_row_fits rules id change missing rs f m all.1)
  where
    go : (b : Bool) → (b ≡ true → r.id ≡ id) → AllFit rules (at_row id change missing rs) → AllFit rules (cond b (change r ++ rs) (r ∷ at_row id change missing rs))
    go true same rest = f r rs (same refl) all.0 all.1
    go false same rest = (all.0, rest)

-- ---- a use of one of the arguments

-- the id is the argument's own
abbrev Owns : List Rule → Rule → Type 0
Owns rules a = arg_by_id rules a.id ≡ Some a

put_fits : (rules : List Rule) (a : Rule) (s : ValueSource) (values : List Text) (rows : List Row) → Owns rules a → Full values → values_fault a values ≡ [] → AllFit rules rows
    → AllFit rules (with_values a.id (reading_by a) s values rows)
put_fits rules a s values rows own full passes all =
    at_row_fits rules a.id (more_values s values) _ rows more ((full, subst (Passes values (reading_by a)) (sym own) (passes, refl)), tt) all
  where
    more : (r : Row) (rest : List Row) → r.id ≡ a.id → Fits rules r → AllFit rules rest → AllFit rules (more_values s values r ++ rest)
    more r rest same fits others =
        let at : arg_by_id rules r.id ≡ Some a = ap (arg_by_id rules) same ∙ own in
        let old = subst (Passes r.values r.reading) at fits.1 in
        let both = more_pass a.ignore_case (parser_of_value a.parser) r.values values old.0 passes in
        ((more_full r.values values full, subst (Passes (r.values ++ values) r.reading) (sym at) (both, old.1)), others)

without_fits : (rules : List Rule) (id : Text) (rows : List Row) → AllFit rules rows → AllFit rules (without id rows)
without_fits rules id rows all = at_row_fits rules id (λ _. []) [] rows (λ r rest same fits others. others) tt all

abbrev least : Rule → ℕ
least a = (unwrap_or_range a.range).start_inclusive

-- each use of the argument has a value: it wants one, stands for one, or asks for help or the version
abbrev is_fed : Rule → Bool
is_fed a = is_request (action_of a) || (nat_lt 0 (least a) || not (is_empty a.missing))

used_fits : (rules : List Rule) (a : Rule) (again : Bool) (x : ArgAction) (vs : List Text) (rows : List Row) → Owns rules a → (is_request x ≡ false → Full vs)
    → action_fault x again a vs rows ≡ [] → AllFit rules rows → AllFit rules (used_as x a.id (reading_by a) vs rows)
used_fits rules a again x vs rows own f e all = go x vs f e
  where
    put : (ws : List Text) → Full ws → values_fault a ws ≡ [] → AllFit rules (used_as Set a.id (reading_by a) ws rows)
    put ws full passes = put_fits rules a _ ws (without a.id rows) own full passes (without_fits rules a.id rows all)

    go : (x : ArgAction) (ws : List Text) → (is_request x ≡ false → Full ws) → action_fault x again a ws rows ≡ [] → AllFit rules (used_as x a.id (reading_by a) ws rows)
    go Set ws f e = put ws (f refl) (both_none (repeat_fault again a.id rows) _ e).1
    go SetTrue ws f e = put ws (f refl) (both_none (repeat_fault again a.id rows) _ e).1
    go SetFalse ws f e = put ws (f refl) (both_none (repeat_fault again a.id rows) _ e).1
    go Append ws f e = put_fits rules a _ ws rows own (f refl) e all
    go Count [] f e = absurd (f refl)
    go Count (w ∷ ws) f e = put (w ∷ ws) tt e
    go Help ws f e = all
    go HelpShort ws f e = all
    go HelpLong ws f e = all
    go Version ws f e = all

fed_keeps : (rules : List Rule) (a : Rule) (again : Bool) → is_fed a ≡ true → Owns rules a → Keeps again (AllFit rules) (Some a)
fed_keeps rules a again fed own values rows e all =
    let parts = both_none (range_kinds (least a) (most_values a) (length values)) _ e in
    used_fits rules a again (action_of a) (values_or_missing a values) rows own (has values parts.0) parts.1 all
  where
    some : (request wants : Bool) (missing : List Text) (k : ErrorKind) (others : Kinds) → (request || (wants || not (is_empty missing))) ≡ true
        → cond (wants && true) (k ∷ []) others ≡ [] → request ≡ false → Full missing
    some true wants missing k others fed e r = cc
    some false true missing k others fed e r = cc
    some false false [] k others fed e r = cc
    some false false (x ∷ missing) k others fed e r = tt

    has : (vs : List Text) → range_kinds (least a) (most_values a) (length vs) ≡ [] → is_request (action_of a) ≡ false → Full (values_or_missing a vs)
    has [] e r = some (is_request (action_of a)) (nat_lt 0 (least a)) a.missing kind.InvalidValue _ fed e r
    has (v ∷ vs) e r = tt

-- each use of these arguments has a value, and each id is the argument's own: both hold by `refl`
abbrev pub AllFed : List Rule → List Rule → Type 0
AllFed rules xs = (list_all is_fed xs ≡ true) × (map (λ a. arg_by_id rules a.id) xs ≡ map (λ a. Some a) xs)

fed_parts : (rules : List Rule) (a : Rule) (rest : List Rule) → AllFed rules (a ∷ rest) → (is_fed a ≡ true) × Owns rules a × AllFed rules rest
fed_parts rules a rest fed = let parts = both (is_fed a) _ fed.0 in (parts.0, cc, (parts.1, cc))

found_keeps : (rules xs : List Rule) (again : Bool) → AllFed rules xs → (p : Rule → Bool) → Keeps again (AllFit rules) (find p xs)
found_keeps rules [] again fed p = tt
found_keeps rules (a ∷ rest) again fed p =
    let parts = fed_parts rules a rest fed in go (p a) (fed_keeps rules a again parts.0 parts.1) (found_keeps rules rest again parts.2 p)
  where
    go : (b : Bool) → Keeps again (AllFit rules) (Some a) → Keeps again (AllFit rules) (find p rest) → Keeps again (AllFit rules) (cond b (Some a) (find p rest))
    go true own others = own
    go false own others = others

-- ---- the default values

default_fits : (rules : List Rule) (a : Rule) (rows : List Row) → Owns rules a → default_fault rows a ≡ [] → AllFit rules rows → AllFit rules (with_default rows a)
default_fits rules a rows own e all = go (has_row a.id rows) a.defaults e
  where
    go : (b : Bool) (values : List Text) → cond (b || is_empty values) [] (given_default_fault a values) ≡ [] → AllFit rules (cond b rows (default_rows a.id (reading_by a) values rows))
    go true values e = all
    go false [] e = all
    go false (v ∷ vs) e =
        let some : is_empty (v ∷ vs) ≡ false = ne_eqb _ _ (λ e. omega arith) in
        put_fits rules a _ (v ∷ vs) rows own tt (both_none (request_kinds (action_of a)) (values_fault a (v ∷ vs)) (rw some at e)).1 all

defaults_fit : (rules xs : List Rule) (rows : List Row) → AllFed rules xs → defaults_fault rows xs ≡ [] → AllFit rules rows → AllFit rules (fold with_default rows xs)
unfolding defaults_fault
defaults_fit rules [] rows fed e all = all
defaults_fit rules (a ∷ rest) rows fed e all =
    let args = fed_parts rules a rest fed in
    let parts = both_none (default_fault rows a) _ e in
    defaults_fit rules rest (with_default rows a) args.2 parts.1 (default_fits rules a rows args.1 parts.0 all)

-- ---- what is read of an argument

abbrev first_text : Option Row → Option Text
first_text = option_and_then (λ r. slice_get r.values 0)

-- what `get_str` finds is there where it has to be, and passed the argument's parser, and `get_one`
-- reads it as that parser says
pub record IsGiven (a : Rule) (r : Option Row) : Type 0 where
  pub there : a.required ≡ true → is_some (first_text r) ≡ true
  pub passes : (text : Text) → first_text r ≡ Some text → value_passes a text ≡ true
  pub reads : (text : Text) → first_text r ≡ Some text → option_and_then row_text r ≡ Some (read_as (reading_by a) text)

abbrev IsRowOf : Rule → Option Row → Type 0
IsRowOf a None = ⊤
IsRowOf a (Some r) = Full r.values × Passes r.values r.reading (Some a)

found_fits : (rules : List Rule) (a : Rule) (rows : List Row) → Owns rules a → AllFit rules rows → IsRowOf a (find (λ r. bytes_eq r.id a.id) rows)
found_fits rules a [] own all = tt
found_fits rules a (r ∷ rs) own all = go (bytes_eq r.id a.id) (bytes_eq-Decides r.id a.id).0 (found_fits rules a rs own all.1)
  where
    go : (b : Bool) → (b ≡ true → r.id ≡ a.id) → IsRowOf a (find (λ r. bytes_eq r.id a.id) rs) → IsRowOf a (cond b (Some r) (find (λ r. bytes_eq r.id a.id) rs))
    go true same rest = (all.0.0, subst (Passes r.values r.reading) (ap (arg_by_id rules) (same refl) ∙ own) all.0.1)
    go false same rest = rest

accepted : (i : Bool) (p : ValueParser) (text : Text) → value_kinds i p text ≡ [] → accepts i p text ≡ true
accepted i p text e = go (accepts i p text) e
  where
    go : (b : Bool) → cond b [] (refused_kind p ∷ []) ≡ [] → b ≡ true
    go true e = refl
    go false e = cc

is_given_by : (a : Rule) (o : Option Row) → IsRowOf a o → (a.required ≡ true → option_map_or (λ (r : Row). explicit_source r.source) o false ≡ true) → IsGiven a o
is_given_by a None fits wanted = record { there = λ e. wanted e; passes = λ text e. cc; reads = λ text e. cc }
is_given_by a (Some r) fits wanted = go r.values fits.0 fits.1.0
  where
    go : (vs : List Text) → Full vs → values_fault a vs ≡ [] → IsGiven a (Some (record r { values = vs }))
    go [] full passes = absurd full
    go (v ∷ vs) full passes =
        let first = accepted a.ignore_case (parser_of_value a.parser) v (both_none _ (values_fault a vs) passes).0 in
        record {
          there = λ e. refl;
          passes = λ text e. subst (λ (o : Option Text). value_passes a (unwrap_or o v) ≡ true) e first;
          reads = λ text e. ap (λ (o : Option Text). option_map (read_as r.reading) o) e ∙ ap (λ how. Some (read_as how text)) fits.1.1;
        }

-- each of these arguments is given by its row
abbrev pub AllGiven : List Rule → List Row → Type 0
AllGiven [] rows = ⊤
AllGiven (a ∷ rest) rows = IsGiven a (find (λ r. bytes_eq r.id a.id) rows) × AllGiven rest rows

all_given : (rules xs : List Rule) (rows : List Row) → AllFed rules xs → AllFit rules rows → list_any (λ a. a.required && not (is_given a.id rows)) xs ≡ false → AllGiven xs rows
all_given rules [] rows fed all e = tt
all_given rules (a ∷ rest) rows fed all e =
    let args = fed_parts rules a rest fed in
    let parts = neither (a.required && not (is_given a.id rows)) _ e in (
      is_given_by a _ (found_fits rules a rows args.1 all) (wanted a.required (is_given a.id rows) parts.0),
      all_given rules rest rows args.2 all parts.1,
    )
  where
    neither : (a b : Bool) → (a || b) ≡ false → (a ≡ false) × (b ≡ false)
    neither true b e = absurd cc
    neither false b e = (refl, e)

    wanted : (required given : Bool) → (required && not given) ≡ false → required ≡ true → given ≡ true
    wanted required true e r = refl
    wanted true false e r = cc
    wanted false false e r = cc

-- ---- a level of the parse

checked : (help sub arg : Bool) → check_kinds help sub arg ≡ [] → (sub ≡ false) × (arg ≡ false)
checked true sub arg e = cc
checked false true arg e = cc
checked false false true e = cc
checked false false false e = (refl, refl)

no_names : (s : Shape) (Q : Text → Type 0) (waiting : Waiting) (word : Text) → Enters s Q (subcommand_met [] waiting word)
no_names s Q idle word = tt
no_names s Q positional word = tt
no_names s Q (option id) word = tt

-- the rows that a subcommand gives
pub level_given : (s : Shape) → AllFed s.rules s.rules → (words : List Text) → level_fault s [] nothing_held words false [] ≡ [] → AllGiven s.rules (rows_after s.rules [] words)
level_given s fed words e =
    let end = (walk s.rules [] nothing_held words).held in
    let walked = both_none (walk_fault s [] (walk_from nothing_held) words) _ e in
    let ended = both_none (settle_fault s.rules s.args_override_self end) _ walked.1 in
    let filled = both_none (defaults_fault (settled s.rules end).rows s.rules) _ ended.1 in
    let keeps = found_keeps s.rules s.rules s.args_override_self fed in
    let held = walk_holds s [] (AllFit s.rules) (λ _. ⊤) keeps (no_names s (λ _. ⊤)) words (walk_from nothing_held) walked.0 (tt, tt) in
    let rows = settled_keeps s [] (AllFit s.rules) (λ _. ⊤) keeps (no_names s (λ _. ⊤)) end ended.0 held.0 in
    all_given s.rules s.rules _ fed (defaults_fit s.rules s.rules _ fed filled.0 rows)
    (go s.subcommand_negates_reqs (list_any (λ a. a.required && not (is_given a.id (finished s.rules end))) s.rules) (checked _ _ _ filled.1).1)
  where
    go : (negates missing : Bool) → (not (negates && false) && missing) ≡ false → missing ≡ false
    go true missing e = e
    go false missing e = e

-- ---- the whole command line

-- R holds of the rows of the subcommand of this name, where it is entered without a fault
abbrev pub Gives : App → (Option (Text × List Row) → Type 0) → Text → Type 0
Gives a R name = (words : List Text) → entered_fault a (Some (name, words)) ≡ [] → R (entered a (Some (name, words)))

abbrev pub AllGive : App → (Option (Text × List Row) → Type 0) → Names → Type 0
AllGive a R [] = ⊤
AllGive a R (n ∷ rest) = Enters a.top (Gives a R) (Some n.0) × AllGive a R rest

met_gives : (a : App) (R : Option (Text × List Row) → Type 0) (names : Names) → AllGive a R names → (waiting : Waiting) (word : Text)
    → Enters a.top (Gives a R) (subcommand_met names waiting word)
met_gives a R names all positional word = tt
met_gives a R names all (option id) word = tt
met_gives a R [] all idle word = tt
met_gives a R (n ∷ rest) all idle word = go (answers_to word n) (met_gives a R rest all.1 idle word)
  where
    go : (b : Bool) → Enters a.top (Gives a R) (subcommand_met rest idle word)
        → Enters a.top (Gives a R) (option_map (λ s. s.0) (cond b (Some n) (find (answers_to word) rest)))
    go true others = all.0
    go false others = others

anything : (again : Bool) (o : Option Rule) → Keeps again (λ _. ⊤) o
anything again None = tt
anything again (Some a) = λ values rows e q. tt

-- where a subcommand has to be there, R holds of the rows of the one that is entered
pub entered_gives : (a : App) (R : Option (Text × List Row) → Type 0) → a.top.subcommand_required ≡ true → AllGive a R (names_of a) → (words : List Text)
    → built_fault a nothing_held words ≡ [] → R (entered a (stop_after a.top.rules (names_of a) words))
entered_gives a R required all words e =
    let s = a.top in
    let at = walk s.rules (names_of a) nothing_held words in
    let walked = both_none (walk_fault s (names_of a) (walk_from nothing_held) words) _ e in
    let below = both_none (entered_fault a at.stopped) _ walked.1 in
    let ended = both_none (settle_fault s.rules s.args_override_self at.held) _ below.1 in
    let filled = both_none (defaults_fault (settled s.rules at.held).rows s.rules) _ ended.1 in
    let held = walk_holds s (names_of a) (λ _. ⊤) (Gives a R) (λ p. anything s.args_override_self (find p s.rules)) (met_gives a R (names_of a) all)
    words (walk_from nothing_held) walked.0 (tt, tt) in
    go at.stopped held.1 below.0 (checked _ _ _ filled.1).0
  where
    go : (stop : Option (Text × List Text)) → StopHas (Gives a R) stop → entered_fault a stop ≡ [] → (not (is_some (entered a stop)) && a.top.subcommand_required) ≡ false
        → R (entered a stop)
    go None gives below wanted = cc
    go (Some p) gives below wanted = gives p.1 below
