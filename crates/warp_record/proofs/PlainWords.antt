-- The words of lines, records and replies are plain: each byte is past the space, so it is no space and no line feed.
use Rattle.std.proofs.Common.{◌≡◌, ℕ, ℤ, pos, negsuc, suc, ◌<◌, ◌≤◌, ◌^◌, Bool, true, false, ltb, List, [], ◌∷◌, ◌++◌, length, get_or, decimal, FitsSigned, w64, refl, arith}
use Rattle.std.specs.Fmt.{signed_decimal}
use Rattle.std.specs.List.{list_all, slice_split, join_with_byte}
use Rattle.std.proofs.lemmas.Grind.{get_or_default_zero}
use Rattle.std.proofs.lemmas.Bool.{and_from, and_parts, ltb-true, lt-ltb, ne_eqb}
use Rattle.std.proofs.lemmas.Fmt.{decimal_is_IsNumeral}
use Rattle.std.proofs.lemmas.List.Elements.{All-append, All-cons}
use Rattle.std.proofs.lemmas.List.Sums.{AllPass-from_list_all, list_all-from_AllPass}
use Rattle.std.proofs.lemmas.Str.Parse.{digit_at}
use Rattle.warp_tag.specs.Moment.{Moment, IsInRange}
use Rattle.warp_tag.specs.Limits.{widest, most_records, greatest_count}
use Rattle.warp_tag.specs.declared.out.Out.{Out}
use Rattle.warp_record.specs.declared.line.Line.{Line}
use Rattle.warp_record.specs.declared.line.Line.TheVariants as line
use Rattle.warp_record.specs.declared.line.Look.TheVariants as look
use Rattle.warp_record.specs.declared.line.Query.TheVariants as query
use Rattle.warp_record.specs.declared.record.Record.{Record}
use Rattle.warp_record.specs.declared.record.Record.TheVariants.{Event, Withdraw, Announce, Joint}
use Rattle.warp_record.specs.declared.reply.Refusal.{Refusal}
use Rattle.warp_record.specs.declared.reply.Refusal.TheVariants.{Syntax, NoOrigin, PastStop, NoInput, NotYours, NoVar, LogFull, NoMemory, TooLong, Busy, NoBoard}
use Rattle.warp_record.specs.declared.reply.Reply.{Reply}
use Rattle.warp_record.specs.declared.reply.Reply.TheVariants.{Taken, Known, Refused, Var, Outputs, Output, Nothing, Horizon, Released, Lost, Breach, Log, Collected, Board, Row, NoRow}
use Rattle.warp_record.specs.Line.{IsLine, line_words}
use Rattle.warp_record.specs.Lines.{is_end, IsOneLine}
use Rattle.warp_record.specs.Number.{is_space, IsOneWord}
use Rattle.warp_record.specs.Record.{IsRecord, record_words, tag_words}
use Rattle.warp_record.specs.Reply.{IsReply, IsOut, reply_words, out_words, flag_word, refusal_number}
use Rattle.warp_record.proofs.WordCuts.{AreWords, text_of_words}

-- each byte is past the space
abbrev pub is_plain : List ℕ → Bool
is_plain word = list_all (ltb 32) word

-- each word is plain
abbrev pub are_plain : List (List ℕ) → Bool
are_plain words = list_all is_plain words

-- a plain word has no space
pub word_if_plain : (word : List ℕ) → is_plain word ≡ true → IsOneWord word
word_if_plain word plain k d below =
    let past = ltb-true 32 (get_or word k d) (AllPass-from_list_all (ltb 32) word plain k d below) in
    ne_eqb (get_or word k d) 32 (λ is. omega (arith, past, is))

-- a plain word has no line feed
pub line_if_plain : (word : List ℕ) → is_plain word ≡ true → IsOneLine word
line_if_plain word plain k d below =
    let past = ltb-true 32 (get_or word k d) (AllPass-from_list_all (ltb 32) word plain k d below) in
    ne_eqb (get_or word k d) 10 (λ is. omega (arith, past, is))

-- plain words have no space
pub words_if_plain : (words : List (List ℕ)) → are_plain words ≡ true → AreWords words
words_if_plain [] plain = tt
words_if_plain (word ∷ words) plain =
    let parts = and_parts (is_plain word) (are_plain words) plain in
    (word_if_plain word parts.0, words_if_plain words parts.1)

-- plain words that are joined by spaces have no line feed
pub joined_if_plain : (words : List (List ℕ)) → are_plain words ≡ true → IsOneLine (join_with_byte 32 words)
joined_if_plain [] plain = λ k d below. absurd (omega arith)
joined_if_plain (word ∷ []) plain = line_if_plain word (and_parts (is_plain word) true plain).0
joined_if_plain (word ∷ next ∷ words) plain =
    let parts = and_parts (is_plain word) (are_plain (next ∷ words)) plain in
    All-append (λ (byte : ℕ). is_end byte ≡ false) word (32 ∷ join_with_byte 32 (next ∷ words)) (line_if_plain word parts.0)
    (All-cons (λ (byte : ℕ). is_end byte ≡ false) 32 (join_with_byte 32 (next ∷ words)) refl (joined_if_plain (next ∷ words) parts.1))

-- a text of plain words has these words
pub words_of_text : (bytes : List ℕ) (words : List (List ℕ)) → 0 < length words → are_plain words ≡ true
    → bytes ≡ join_with_byte 32 words → slice_split is_space bytes ≡ words
words_of_text bytes words some plain is = (text_of_words bytes words some (words_if_plain words plain)).0 is

-- the text of a number is plain
pub plain_decimal : (n : ℕ) → n < 2 ^ 64 → is_plain (decimal n) ≡ true
plain_decimal n fits =
    list_all-from_AllPass (ltb 32) (decimal n)
    (λ k d below.
    let range = digit_at (decimal n) k (decimal_is_IsNumeral n fits).0.1 below in
    let same = get_or_default_zero (decimal n) k d below in
    lt-ltb 32 (get_or (decimal n) k d) (omega (arith, range.0, same)))

-- the text of a signed number is plain
pub plain_signed : (value : ℤ) → FitsSigned w64 value → is_plain (signed_decimal value) ≡ true
plain_signed (pos n) fits = plain_decimal n (omega (arith, fits.sfits))
plain_signed (negsuc n) fits = plain_decimal (suc n) (omega (arith, fits.sfits))

-- a plain word in front of plain words
more : (word : List ℕ) (words : List (List ℕ)) → is_plain word ≡ true → are_plain words ≡ true → are_plain (word ∷ words) ≡ true
more word words first rest = and_from (is_plain word) (are_plain words) first rest

-- the words of a number, and what follows
pub plain_number : (n : ℕ) (words : List (List ℕ)) → n < 2 ^ 64 → are_plain words ≡ true → are_plain (decimal n ∷ words) ≡ true
plain_number n words fits rest = more (decimal n) words (plain_decimal n fits) rest

-- a signed number at the end
last : (value : ℤ) → FitsSigned w64 value → are_plain (signed_decimal value ∷ []) ≡ true
last value fits = more (signed_decimal value) [] (plain_signed value fits) refl

-- a tag, and what follows
tagged : (tag : Moment) (words : List (List ℕ)) → IsInRange tag → are_plain words ≡ true → are_plain (tag_words tag ++ words) ≡ true
tagged tag words fits rest =
    plain_number tag.time (decimal tag.microstep ∷ words) (omega (arith, fits.time))
    (plain_number tag.microstep words (omega (arith, fits.microstep)) rest)

-- the words of a record are plain
pub plain_record : («record» : Record) → IsRecord widest «record» → are_plain (record_words «record») ≡ true
plain_record (Event origin tag input value) fits =
    plain_number origin (tag_words tag ++ decimal input ∷ signed_decimal value ∷ []) (omega (arith, fits.origin_fits))
    (tagged tag (decimal input ∷ signed_decimal value ∷ []) fits.tag_fits
    (plain_number input (signed_decimal value ∷ []) (omega (arith, fits.input_fits)) (last value fits.value_fits)))
plain_record (Withdraw origin tag) fits =
    plain_number origin (tag_words tag) (omega (arith, fits.origin_fits)) (tagged tag [] fits.tag_fits refl)
plain_record (Announce origin tag events withdrawn) fits =
    plain_number origin (tag_words tag ++ decimal events ∷ decimal withdrawn ∷ []) (omega (arith, fits.origin_fits))
    (tagged tag (decimal events ∷ decimal withdrawn ∷ []) fits.tag_fits
    (plain_number events (decimal withdrawn ∷ []) (omega (arith, fits.events_fit))
    (plain_number withdrawn [] (omega (arith, fits.withdrawn_fit)) refl)))
plain_record (Joint tag events withdrawn) fits =
    tagged tag (decimal events ∷ decimal withdrawn ∷ []) fits.tag_fits
    (plain_number events (decimal withdrawn ∷ []) (omega (arith, fits.events_fit))
    (plain_number withdrawn [] (omega (arith, fits.withdrawn_fit)) refl))

-- the words of a line are plain
pub plain_line : (said : Line) → IsLine widest said → are_plain (line_words said) ≡ true
plain_line (line.Put «record») fits = plain_record «record» fits
plain_line (line.Ask (query.Var n)) fits = plain_number n [] (omega (arith, fits)) refl
plain_line (line.Ask query.Outputs) fits = refl
plain_line (line.Ask (query.Output n)) fits = plain_number n [] (omega (arith, fits)) refl
plain_line (line.Ask query.Horizon) fits = refl
plain_line (line.Ask query.Released) fits = refl
plain_line (line.Ask query.Lost) fits = refl
plain_line (line.Ask (query.Breach n)) fits = plain_number n [] (omega (arith, fits)) refl
plain_line (line.Ask query.JointBreach) fits = refl
plain_line (line.Ask (query.Log n)) fits = plain_number n [] (omega (arith, fits)) refl
plain_line line.Collect fits = refl
plain_line (line.Look look.Board) fits = refl
plain_line (line.Look (look.Row n)) fits = plain_number n [] (omega (arith, fits)) refl

-- the words of an output are plain
plain_out : (out : Out) → IsOut widest out → are_plain (out_words out) ≡ true
plain_out out fits =
    tagged out.tag (decimal out.port ∷ signed_decimal out.value ∷ []) fits.tag_fits
    (plain_number out.port (signed_decimal out.value ∷ []) (omega (arith, fits.port_fits)) (last out.value fits.value_fits))

-- the word of a flag is plain
plain_flag : (flag : Bool) → are_plain (flag_word flag ∷ []) ≡ true
plain_flag true = refl
plain_flag false = refl

-- a length of a log and a count are plain
counted : (log count : ℕ) → log ≤ most_records widest → count ≤ greatest_count → are_plain (decimal log ∷ decimal count ∷ []) ≡ true
counted log count log_fits count_fits =
    plain_number log (decimal count ∷ []) (omega (arith, log_fits)) (plain_number count [] (omega (arith, count_fits)) refl)

-- the numbers of refusals
pub refusal_number-le : (refusal : Refusal) → refusal_number refusal ≤ 11
refusal_number-le Syntax = omega arith
refusal_number-le NoOrigin = omega arith
refusal_number-le PastStop = omega arith
refusal_number-le NoInput = omega arith
refusal_number-le NotYours = omega arith
refusal_number-le NoVar = omega arith
refusal_number-le LogFull = omega arith
refusal_number-le NoMemory = omega arith
refusal_number-le TooLong = omega arith
refusal_number-le Busy = omega arith
refusal_number-le NoBoard = omega arith

-- the words of a reply are plain
pub plain_reply : (reply : Reply) → IsReply widest reply → are_plain (reply_words reply) ≡ true
plain_reply (Taken place) fits = plain_number place [] (omega (arith, fits.1)) refl
plain_reply (Known place) fits = plain_number place [] (omega (arith, fits.1)) refl
plain_reply (Refused refusal) fits = plain_number (refusal_number refusal) [] (omega (arith, refusal_number-le refusal)) refl
plain_reply (Var log value) fits = plain_number log (signed_decimal value ∷ []) (omega (arith, fits.0)) (last value fits.1)
plain_reply (Outputs log count) fits = counted log count fits.0 fits.1
plain_reply (Output log out) fits = plain_number log (out_words out) (omega (arith, fits.0)) (plain_out out fits.1)
plain_reply (Nothing log) fits = plain_number log [] (omega (arith, fits)) refl
plain_reply (Horizon log tag) fits = plain_number log (tag_words tag) (omega (arith, fits.0)) (tagged tag [] fits.1 refl)
plain_reply (Released log count) fits = counted log count fits.0 fits.1
plain_reply (Lost log count) fits = counted log count fits.0 fits.1
plain_reply (Breach log broken) fits = plain_number log (flag_word broken ∷ []) (omega (arith, fits)) (plain_flag broken)
plain_reply (Log log said) fits = plain_number log (record_words said) (omega (arith, fits.0)) (plain_record said fits.1)
plain_reply (Collected log) fits = plain_number log [] (omega (arith, fits)) refl
plain_reply (Board count frozen) fits = plain_number count (flag_word frozen ∷ []) (omega (arith, fits)) (plain_flag frozen)
plain_reply (Row out) fits = plain_out out fits
plain_reply NoRow fits = refl
