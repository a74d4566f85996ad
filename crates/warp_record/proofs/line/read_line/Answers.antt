use Rattle.std.proofs.Common.{◌≡◌, ◌∷◌, codes, ◌∙◌, ap, sym, refl}
use Rattle.std.specs.List.{slice_split, join_with_byte}
use Rattle.warp_record.specs.Number.{is_space}
use Rattle.warp_record.specs.inner.Behind.{words_behind}
use Rattle.warp_record.proofs.LineWords.{words_of_line, IfNone_then}
use Rattle.warp_record.proofs.RecordTexts.{record_of_line, no_record}
use Rattle.warp_record.proofs.WordCuts.{joined_words}
use Rattle.warp_record.proofs.line.read_line.Goals as goal

pub returns-in_err-read_event-clause-none : goal.returns-in_err-read_event-clause-none
returns-in_err-read_event-clause-none c =
    let bytes = c.args.bytes.now in
    let words : slice_split is_space bytes ≡ codes "event" ∷ words_behind c.in-Some.text.now = c.in-Some.ensures.found in
    rw c.from_residual.ensures
    (λ line fits is.
    let are = sym words ∙ (words_of_line c.args.form bytes line fits is).0 in
    let told = record_of_line c.args.form (codes "event" ∷ words_behind c.in-Some.text.now) line refl fits are in
    c.in_err-read_event.ensures.none told.0 told.1 told.2)

pub returns-in-Some-clause-found : goal.returns-in-Some-clause-found
returns-in-Some-clause-found c =
    let read = c.in_ok-read_event.ensures.found in
    (read.0, joined_words c.args.bytes.now ∙ ap (join_with_byte 32) (c.in-Some.ensures.found ∙ read.1))

pub returns-in_err-read_withdrawal-clause-none : goal.returns-in_err-read_withdrawal-clause-none
returns-in_err-read_withdrawal-clause-none c =
    let bytes = c.args.bytes.now in
    let words : slice_split is_space bytes ≡ codes "withdraw" ∷ words_behind c.in-Some-behind_withdraw.text.now = c.in-Some-behind_withdraw.ensures.found in
    rw c.from_residual-in_err-read_withdrawal.ensures
    (λ line fits is.
    let are = sym words ∙ (words_of_line c.args.form bytes line fits is).0 in
    let told = record_of_line c.args.form (codes "withdraw" ∷ words_behind c.in-Some-behind_withdraw.text.now) line refl fits are in
    c.in_err-read_withdrawal.ensures.none told.0 told.1 told.2)

pub returns-in-Some-behind_withdraw-clause-found : goal.returns-in-Some-behind_withdraw-clause-found
returns-in-Some-behind_withdraw-clause-found c =
    let read = c.in_ok-read_withdrawal.ensures.found in
    (read.0, joined_words c.args.bytes.now ∙ ap (join_with_byte 32) (c.in-Some-behind_withdraw.ensures.found ∙ read.1))

pub returns-in_err-read_announcement-clause-none : goal.returns-in_err-read_announcement-clause-none
returns-in_err-read_announcement-clause-none c =
    let bytes = c.args.bytes.now in
    let words : slice_split is_space bytes ≡ codes "announce" ∷ words_behind c.in-Some-behind_announce.text.now = c.in-Some-behind_announce.ensures.found in
    rw c.from_residual-in_err-read_announcement.ensures
    (λ line fits is.
    let are = sym words ∙ (words_of_line c.args.form bytes line fits is).0 in
    let told = record_of_line c.args.form (codes "announce" ∷ words_behind c.in-Some-behind_announce.text.now) line refl fits are in
    c.in_err-read_announcement.ensures.none told.0 told.1 told.2)

pub returns-in-Some-behind_announce-clause-found : goal.returns-in-Some-behind_announce-clause-found
returns-in-Some-behind_announce-clause-found c =
    let read = c.in_ok-read_announcement.ensures.found in
    (read.0, joined_words c.args.bytes.now ∙ ap (join_with_byte 32) (c.in-Some-behind_announce.ensures.found ∙ read.1))

pub returns-clause-none : goal.returns-clause-none
returns-clause-none c =
    IfNone_then c.read_asked.result c.read_asked.ensures.none
    (λ none line fits is.
    let told = none line fits is in
    no_record (slice_split is_space c.args.bytes.now) told.0 told.1
    c.in_default.ensures.none c.in_default-behind_withdraw.ensures.none c.in_default-behind_announce.ensures.none)
