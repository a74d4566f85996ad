-- the record is added to what its own origin hears, and with it all origins are heard
use Rattle.std.proofs.Common.{◌≡◌, ◌<◌, ◌∷◌, ◌++◌, [], ℕ, List, length, set, sym, subst, arith}
use Rattle.std.proofs.lemmas.Result.{IfOk-weaker}
use Rattle.warp_record.specs.declared.record.Record.{Record}
use Rattle.warp_table.specs.Names.{origin_or_first}
use Rattle.warp_table.specs.inner.Heard.{AreHeard, Heard}
use Rattle.warp_table.proofs.HeardNews.{all_heard, looked_up, own_heard}
use Rattle.warp_table.proofs.noting.note_of.Goals as goal

pub note_own-requires-clause-heard : goal.note_own-requires-clause-heard
note_own-requires-clause-heard c =
    let new : List Heard = c.keep_up_to.new.announcers.items in
    let within : c.args.origin < length new = omega (arith, c.in_ok-keep_up_to.ensures.ok, c.keep_up_to.new.announcers.ok.0) in
    let own = looked_up new c.args.origin (origin_or_first c.args.record.now) c.index_mut-announcer.result.now c.index_mut-announcer.ensures.value within c.requires.of in
    own_heard c.args.records.now c.args.announcers.now.items new c.args.record.now c.index_mut-announcer.result.now c.in_ok-keep_up_to.ensures.same own c.requires.heard

pub returns-clause-new : goal.returns-clause-new
returns-clause-new c =
    let old : List Heard = c.args.announcers.now.items in
    let new : List Heard = c.keep_up_to.new.announcers.items in
    let said : Record = c.args.record.now in
    let origin : ℕ = c.args.origin in
    let after : Heard = c.note_own.new.announcer in
    let is : origin ≡ origin_or_first said = c.requires.of in
    let within : origin < length new = omega (arith, c.in_ok-keep_up_to.ensures.ok, c.keep_up_to.new.announcers.ok.0) in
    IfOk-weaker c.note_own.result _ _ (λ added adds new_one.
    let says = adds new_one in (
      says.0,
      subst (λ (o : ℕ). AreHeard (c.args.records.now ++ said ∷ []) (set new o after)) (sym is)
          (all_heard c.args.records.now old new said after c.in_ok-keep_up_to.ensures.same c.in_ok-keep_up_to.ensures.few (subst (λ (o : ℕ). o < length new) is within) c.requires.heard says.1),
    )) c.note_own.ensures.new
