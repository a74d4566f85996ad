-- the two parts are the block
use Rattle.std.proofs.Common.{◌≡◌, ◌<◌, List, length, subst, sym, ◌∙◌, arith}
use Rattle.std.proofs.lemmas.List.{get_or_default}
use Rattle.warp_table.specs.declared.tally.Tally.{Tally}
use Rattle.warp_table.proofs.AnnouncedBlocks.{split_all}
use Rattle.warp_table.proofs.announced.split_if_full.Goals as goal

pub returns-clause-some : goal.returns-clause-some
returns-clause-some c =
    let blocks = c.args.blocks.now.items in
    let there : c.args.at < length blocks = omega (arith, c.requires.within) in
    let same : c.index.result.now ≡ c.index-3.result.now = c.index.ensures ∙ get_or_default blocks c.args.at c.index.result.now c.index-3.result.now there ∙ sym c.index-3.ensures in
    let more : 64 < length c.index-3.result.now = subst (λ (b : List Tally). 64 < length b) same (c.is_full.ensures c.if-not-is_full.false) in
    (split_all c.stay-stay.result blocks c.args.at c.index-3.result.now c.index_mut.result.now c.in_ok-later.later c.cut.new.self c.insert.new.self.items c.stay-stay.ensures there c.index-3.ensures more
    c.in_ok-later.ensures c.in_ok-insert.ensures.items c.index_mut.ensures.value c.cut.ensures c.requires.some).1

pub returns-clause-same : goal.returns-clause-same
returns-clause-same c =
    let blocks = c.args.blocks.now.items in
    let there : c.args.at < length blocks = omega (arith, c.requires.within) in
    let same : c.index.result.now ≡ c.index-3.result.now = c.index.ensures ∙ get_or_default blocks c.args.at c.index.result.now c.index-3.result.now there ∙ sym c.index-3.ensures in
    let more : 64 < length c.index-3.result.now = subst (λ (b : List Tally). 64 < length b) same (c.is_full.ensures c.if-not-is_full.false) in
    (split_all c.stay-stay.result blocks c.args.at c.index-3.result.now c.index_mut.result.now c.in_ok-later.later c.cut.new.self c.insert.new.self.items c.stay-stay.ensures there c.index-3.ensures more
    c.in_ok-later.ensures c.in_ok-insert.ensures.items c.index_mut.ensures.value c.cut.ensures c.requires.some).0
