-- What each call appended is the text that answers its question, by some answers of the log's set.
use Rattle.std.proofs.Common.{◌≡◌, ◌∙◌, ◌<◌, ◌+◌, ◌++◌, ap, arith, length, slice_get, subst}
use Rattle.warp_step.proofs.ValidLemmas.{validity}
use Rattle.warp_table.specs.Announced.{beginning}
use Rattle.warp_watch.specs.Lines.{first_place, page_count, release_line}
use Rattle.warp_watch.specs.Telling.{ends_frozen, next_of, releases_line, tells_frozen}
use Rattle.warp_watch.specs.declared.question.Question.TheVariants.{Cells, Counts, Reached, Log, Released, Vars}
use Rattle.warp_watch.specs.declared.question.Question.TheVariants.{Releases, Release, Horizon, Breaches}
use Rattle.warp_watch.proofs.Tellings.{horizon_told, log_told, no_origin, released_told, told_on}
use Rattle.warp_watch.proofs.telling.append.Goals as goal

pub returns-in-Releases : goal.returns-in-Releases
returns-in-Releases g c =
    let r = c.args.replica.now in
    let old = c.args.text.now.items in
    let origins = subst (λ P. 0 < P.origins) c.program.ensures (validity c.program.result.now c.valid.ensures).limits.origins_some in
    let some = c.one_answer.ensures.some r.program r.records origins c.valid-2.ensures.once in
    told_on c.add_releases.result r.program r.records c.args.shown.now old c.add_releases.new.text.items Releases c.args.question.now c.in-Releases.is
    c.add_releases.ensures (λ e. (some.0, some.1, (no_origin, tt, e ∙ ap (λ n. old ++ releases_line n c.args.shown.now) c.len.ensures.value)))

pub returns-in-Release : goal.returns-in-Release
returns-in-Release g c =
    let r = c.args.replica.now in
    let s = c.args.shown.now in
    let old = c.args.text.now.items in
    let number = c.in-Release.number in
    let origins = subst (λ P. 0 < P.origins) c.program.ensures (validity c.program.result.now c.valid.ensures).limits.origins_some in
    let some = c.one_answer.ensures.some r.program r.records origins c.valid-2.ensures.once in
    told_on c.add_release.result r.program r.records s old c.add_release.new.text.items (Release number) c.args.question.now c.in-Release.is
    c.add_release.ensures (λ e. (some.0, some.1, (no_origin, tt, e ∙ ap (λ n. old ++ release_line n (slice_get s.rows number)) c.len-in-Release.ensures.value)))

pub returns-in-Horizon : goal.returns-in-Horizon
returns-in-Horizon g c =
    let r = c.args.replica.now in
    told_on c.add_reply.result r.program r.records c.args.shown.now c.args.text.now.items c.add_reply.new.text.items Horizon c.args.question.now c.in-Horizon.is
    c.add_reply.ensures
    (λ e. (
    let told = horizon_told r.program r.records c.answer.result c.args.text.now.items c.add_reply.new.text.items c.valid-2.ensures.once c.answer.ensures.gives e in
    (told.0, told.1, (no_origin, tt, told.2))
    ))

pub returns-in-Breaches : goal.returns-in-Breaches
returns-in-Breaches g c =
    let r = c.args.replica.now in
    let origins = subst (λ P. 0 < P.origins) c.program.ensures (validity c.program.result.now c.valid.ensures).limits.origins_some in
    let some = c.one_answer.ensures.some r.program r.records origins c.valid-2.ensures.once in
    told_on c.add_breaches.result r.program r.records c.args.shown.now c.args.text.now.items c.add_breaches.new.text.items Breaches c.args.question.now
    c.in-Breaches.is c.add_breaches.ensures (λ told. (some.0, some.1, (no_origin, tt, told some.0 some.1)))

pub returns-in-Vars : goal.returns-in-Vars
returns-in-Vars g c =
    let r = c.args.replica.now in
    told_on c.add_vars.result r.program r.records c.args.shown.now c.args.text.now.items c.add_vars.new.text.items Vars c.args.question.now
    c.in-Vars.is c.add_vars.ensures (λ told. (told.0, told.1, (no_origin, tt, told.2)))

pub returns-in-Cells : goal.returns-in-Cells
returns-in-Cells g c =
    let r = c.args.replica.now in
    told_on c.add_cells.result r.program r.records c.args.shown.now c.args.text.now.items c.add_cells.new.text.items (Cells c.in-Cells.first c.in-Cells.count)
    c.args.question.now c.in-Cells.is c.add_cells.ensures (λ told. (told.0, told.1, (no_origin, tt, told.2)))

pub returns-in-Counts : goal.returns-in-Counts
returns-in-Counts g c =
    let r = c.args.replica.now in
    let origins = subst (λ P. 0 < P.origins) c.program.ensures (validity c.program.result.now c.valid.ensures).limits.origins_some in
    let some = c.one_answer.ensures.some r.program r.records origins c.valid-2.ensures.once in
    told_on c.add_counts.result r.program r.records c.args.shown.now c.args.text.now.items c.add_counts.new.text.items (Counts c.in-Counts.origin)
    c.args.question.now c.in-Counts.is c.add_counts.ensures
    (λ told. (some.0, some.1, (record { counts = told.0; reached = beginning }, told.1, told.2)))

pub returns-in-Reached : goal.returns-in-Reached
returns-in-Reached g c =
    let r = c.args.replica.now in
    let origins = subst (λ P. 0 < P.origins) c.program.ensures (validity c.program.result.now c.valid.ensures).limits.origins_some in
    let some = c.one_answer.ensures.some r.program r.records origins c.valid-2.ensures.once in
    told_on c.add_reached.result r.program r.records c.args.shown.now c.args.text.now.items c.add_reached.new.text.items (Reached c.in-Reached.origin)
    c.args.question.now c.in-Reached.is c.add_reached.ensures
    (λ told. (some.0, some.1, (record { counts = no_origin.counts; reached = told.0 }, told.1, told.2)))

pub returns-in-Log : goal.returns-in-Log
returns-in-Log g c =
    let r = c.args.replica.now in
    let s = c.args.shown.now in
    let from = c.in-Log.from in
    let until = c.in-Log.until in
    let origins = subst (λ P. 0 < P.origins) c.program.ensures (validity c.program.result.now c.valid.ensures).limits.origins_some in
    let some = c.one_answer.ensures.some r.program r.records origins c.valid-2.ensures.once in
    let begins : c.max.result ≡ first_place from = omega (arith, c.max.ensures) in
    let ends : c.args.page.now.next ≡ first_place from + page_count (length r.records + 1) (first_place from) until =
    c.requires.next ∙ ap (next_of (length r.records) s) c.in-Log.is in
    told_on c.add_records.result r.program r.records s c.args.text.now.items c.add_records.new.text.items (Log from until) c.args.question.now
    c.in-Log.is c.add_records.ensures
    (λ e. (some.0, some.1, (no_origin, tt, log_told r.records from until c.max.result c.args.page.now.next c.args.text.now.items c.add_records.new.text.items begins ends e)))

pub returns-in-Released : goal.returns-in-Released
returns-in-Released g c =
    let r = c.args.replica.now in
    let s = c.args.shown.now in
    let from = c.in-Released.from in
    let until = c.in-Released.until in
    let origins = subst (λ P. 0 < P.origins) c.program.ensures (validity c.program.result.now c.valid.ensures).limits.origins_some in
    let some = c.one_answer.ensures.some r.program r.records origins c.valid-2.ensures.once in
    let ends : c.args.page.now.next ≡ from + page_count (length s.rows) from until = c.requires.next ∙ ap (next_of (length r.records) s) c.in-Released.is in
    let last : c.args.page.now.is_last ≡ ends_frozen s from until = c.requires.last ∙ ap (tells_frozen s) c.in-Released.is in
    told_on c.add_page.result r.program r.records s c.args.text.now.items c.add_page.new.text.items (Released from until) c.args.question.now
    c.in-Released.is c.add_page.ensures
    (λ e. (some.0, some.1, (no_origin, tt, released_told s from until c.args.page.now.next c.args.page.now.is_last c.args.text.now.items c.add_page.new.text.items ends last e)))
