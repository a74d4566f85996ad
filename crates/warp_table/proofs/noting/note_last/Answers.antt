-- the first event of a name that comes behind all of its origin's is added to what is kept and heard
use Rattle.std.proofs.Common.{◌≡◌, ◌<◌, ◌∷◌, ◌++◌, [], ℕ, Option, List, length, set, refl, ap, sym, subst, ◌+◌, ◌∙◌, arith}
use Rattle.std.specs.Option.{unwrap_or}
use Rattle.warp_record.specs.declared.record.Record.{Record}
use Rattle.warp_table.specs.Names.{origin_or_first}
use Rattle.warp_table.specs.Records.{set_of}
use Rattle.warp_table.specs.declared.names.Name.{Name}
use Rattle.warp_table.specs.declared.rows.Known.{Known}
use Rattle.warp_table.specs.inner.Heard.{AreHeard, Heard, IsHeard}
use Rattle.warp_table.specs.inner.Others.{places}
use Rattle.warp_table.specs.inner.Kept.{IsAdded, NotesEvent, known_of, nothing_known, put_known, with_event_at}
use Rattle.warp_table.proofs.AddedRecords.{event_added, event_fresh}
use Rattle.warp_table.proofs.EventPlaces.{first_event}
use Rattle.warp_table.proofs.HeardNews.{all_heard, looked_up, own_heard}
use Rattle.warp_table.proofs.noting.note_last.Goals as goal

pub insert_last-requires : goal.insert_last-requires
insert_last-requires c =
    let said = c.in-Event in
    let all : List Heard = c.args.announcers.now.items in
    let own : Heard = c.index_mut-announcer.result.now in
    let name : Name = record { origin = said.origin; tag = said.tag } in
    let same : said.origin ≡ origin_or_first c.args.record.now = sym (ap origin_or_first said.is) in
    let within : said.origin < length all = omega (arith, c.if-len-origin.false, c.len.ensures, c.args.announcers.now.ok.0) in
    let at = looked_up all said.origin (origin_or_first c.args.record.now) own c.index_mut-announcer.ensures.value within same in
    let heard : IsHeard (set_of c.args.records.now) said.origin own =
    subst (λ (o : ℕ). IsHeard (set_of c.args.records.now) o own) (sym same) (own_heard c.args.records.now all all c.args.record.now own (λ o. refl) at c.requires.heard) in
    record {
      fresh = λ none. event_fresh c.args.records.now c.args.names.now (places c.args.others.now) c.requires.keeps own name heard
          (ap (λ (o : Option Known). (unwrap_or o nothing_known).event) none);
    }

pub returns-clause-came : goal.returns-clause-came
returns-clause-came c = λ came.
    let said = c.in-Event in
    let records : List Record = c.args.records.now in
    let all : List Heard = c.args.announcers.now.items in
    let own : Heard = c.index_mut-announcer.result.now in
    let own_now : Heard = c.insert_last.new.announcer in
    let name : Name = record { origin = said.origin; tag = said.tag } in
    let same : said.origin ≡ origin_or_first c.args.record.now = sym (ap origin_or_first said.is) in
    let within : said.origin < length all = omega (arith, c.if-len-origin.false, c.len.ensures, c.args.announcers.now.ok.0) in
    let at = looked_up all said.origin (origin_or_first c.args.record.now) own c.index_mut-announcer.ensures.value within same in
    let heard : IsHeard (set_of records) said.origin own =
    subst (λ (o : ℕ). IsHeard (set_of records) o own) (sym same) (own_heard records all all c.args.record.now own (λ o. refl) at c.requires.heard) in
    let ok = c.insert_last.ensures in
    let event : ℕ = c.noted_first-noted.result.event in
    let none : known_of name c.args.names.now ≡ nothing_known = ap (λ (o : Option Known). unwrap_or o nothing_known) (ok.new came) in
    let known : c.with_event-known.result ≡ with_event_at event (known_of name c.args.names.now) = c.with_event-known.ensures ∙ ap (with_event_at event) (c.nothing.ensures ∙ sym none) in
    let put : c.insert_last.new.self ≡ put_known c.args.names.now name (with_event_at event (known_of name c.args.names.now)) = ok.with came ∙ ap (put_known c.args.names.now name) known in
    let notes : NotesEvent records name (said.input, said.value) (known_of name c.args.names.now).event event (places c.args.others.now) (places c.args.others.now) own own_now =
    first_event records name (said.input, said.value) _ event (places c.args.others.now) own own_now (ap (λ (k : Known). k.event) none) c.noted_first-noted.ensures.1 (ok.heard came) in
    let told = event_added records c.args.names.now (places c.args.others.now) c.requires.keeps own name heard (said.input, said.value) (length records + 1) event
    c.insert_last.new.self (places c.args.others.now) own_now refl put notes in
    let both = subst (λ (x : Record). IsAdded records x (length records + 1) c.insert_last.new.self (places c.args.others.now)
    × IsHeard (set_of (records ++ x ∷ [])) (origin_or_first x) own_now) (sym said.is) (told.added, told.heard) in (
      both.0,
      subst (λ (o : ℕ). AreHeard (records ++ c.args.record.now ∷ []) (set all o own_now)) (sym same)
          (all_heard records all all c.args.record.now own_now (λ o. refl) c.requires.heard.few (subst (λ (o : ℕ). o < length all) same within) c.requires.heard both.1),
    )
