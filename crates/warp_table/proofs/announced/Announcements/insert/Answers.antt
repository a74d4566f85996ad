-- it comes in in the block that has one beyond its tag, also where that was split
use Rattle.std.proofs.Common.{◌≡◌, ◌<◌, ◌≤◌, [], false, true, List, get_or, length, set, take, refl, ap, sym, subst, ◌∙◌, arith}
use Rattle.std.specs.List.{All, insert, list_any}
use Rattle.warp_tag.specs.Moment.{is_before}
use Rattle.warp_table.specs.inner.Tally.{AreInOrder, all_of, place_of}
use Rattle.warp_table.specs.declared.tally.Tally.{Tally}
use Rattle.warp_table.proofs.AnnouncedBlocks.{block_in_order, ok_then, put_there_in, still_there, whole_none}
use Rattle.warp_table.proofs.announced.Announcements.insert.Goals as goal

pub put_last-requires-clause-none : goal.put_last-requires-clause-none
put_last-requires-clause-none c =
    let at = c.first_beyond-at.result in
    let blocks : List (List Tally) = c.self.inside.blocks.items in
    let none = subst (λ (bs : List (List Tally)). All (λ t. is_before c.args.tally.tag t.tag ≡ false) (all_of (take at bs))) c.deref.ensures.value c.first_beyond-at.ensures.none in
    let above : length blocks ≤ at = omega (arith, c.if-at-len.true, c.len.ensures, c.self.inside.blocks.ok.0) in
    whole_none c.args.tally.tag blocks at above none

pub index_mut-requires : goal.index_mut-requires
index_mut-requires c =
    let at = c.first_beyond-at.result in
    let blocks : List (List Tally) = c.self.inside.blocks.items in
    let below : at < length blocks = omega (arith, c.if-at-len.false, c.len.ensures, c.self.inside.blocks.ok.0, c.first_beyond-at.ensures.within, c.deref.ensures.len) in
    omega (arith, below, c.self.inside.blocks.ok.0)

pub insert-requires : goal.insert-requires
insert-requires c =
    let at = c.first_beyond-at.result in
    let blocks : List (List Tally) = c.self.inside.blocks.items in
    let below : at < length blocks = omega (arith, c.if-at-len.false, c.len.ensures, c.self.inside.blocks.ok.0, c.first_beyond-at.ensures.within, c.deref.ensures.len) in
    block_in_order blocks at c.index_mut.result.now below c.index_mut.ensures.value (subst AreInOrder (sym c.self.view_is) c.requires)

pub returns-then-not-is_full-clause-ok : goal.returns-then-not-is_full-clause-ok
returns-then-not-is_full-clause-ok c =
    let at = c.first_beyond-at.result in
    let blocks : List (List Tally) = c.self.inside.blocks.items in
    let none = subst (λ (bs : List (List Tally)). All (λ t. is_before c.args.tally.tag t.tag ≡ false) (all_of (take at bs))) c.deref.ensures.value c.first_beyond-at.ensures.none in
    let some = subst (λ (bs : List (List Tally)). at < length bs → list_any (λ t. is_before c.args.tally.tag t.tag) (get_or bs at []) ≡ true) c.deref.ensures.value c.first_beyond-at.ensures.some in
    let below : at < length blocks = omega (arith, c.if-at-len.false, c.len.ensures, c.self.inside.blocks.ok.0, c.first_beyond-at.ensures.within, c.deref.ensures.len) in
    ok_then c.insert.result (λ e. ap (λ (b : List Tally). all_of (set blocks at b)) e
    ∙ put_there_in c.args.tally blocks blocks at c.index_mut.result.now refl below c.index_mut.ensures.value none some
    ∙ ap (λ ts. insert ts (place_of c.args.tally.tag ts) c.args.tally) c.self.view_is) c.insert.ensures.ok

pub index_mut-requires-2 : goal.index_mut-requires-2
index_mut-requires-2 c =
    let at = c.first_beyond-at.result in
    let next = c.first_beyond-at-2.result in
    let blocks : List (List Tally) = c.self.inside.blocks.items in
    let now : List (List Tally) = c.split_if_full.new.blocks.items in
    let same : all_of now ≡ all_of blocks = c.split_if_full.ensures.same in
    let none = subst (λ (bs : List (List Tally)). All (λ t. is_before c.args.tally.tag t.tag ≡ false) (all_of (take at bs))) c.deref.ensures.value c.first_beyond-at.ensures.none in
    let some = subst (λ (bs : List (List Tally)). at < length bs → list_any (λ t. is_before c.args.tally.tag t.tag) (get_or bs at []) ≡ true) c.deref.ensures.value c.first_beyond-at.ensures.some in
    let none_now = subst (λ (bs : List (List Tally)). All (λ t. is_before c.args.tally.tag t.tag ≡ false) (all_of (take next bs))) c.deref-2.ensures.value c.first_beyond-at-2.ensures.none in
    let some_now = subst (λ (bs : List (List Tally)). next < length bs → list_any (λ t. is_before c.args.tally.tag t.tag) (get_or bs next []) ≡ true) c.deref-2.ensures.value c.first_beyond-at-2.ensures.some in
    let below : at < length blocks = omega (arith, c.if-at-len.false, c.len.ensures, c.self.inside.blocks.ok.0, c.first_beyond-at.ensures.within, c.deref.ensures.len) in
    let there : next < length now = still_there c.args.tally.tag blocks now at next same below none some none_now some_now in
    omega (arith, there, c.split_if_full.new.blocks.ok.0)

pub insert-requires-2 : goal.insert-requires-2
insert-requires-2 c =
    let at = c.first_beyond-at.result in
    let next = c.first_beyond-at-2.result in
    let blocks : List (List Tally) = c.self.inside.blocks.items in
    let now : List (List Tally) = c.split_if_full.new.blocks.items in
    let same : all_of now ≡ all_of blocks = c.split_if_full.ensures.same in
    let none = subst (λ (bs : List (List Tally)). All (λ t. is_before c.args.tally.tag t.tag ≡ false) (all_of (take at bs))) c.deref.ensures.value c.first_beyond-at.ensures.none in
    let some = subst (λ (bs : List (List Tally)). at < length bs → list_any (λ t. is_before c.args.tally.tag t.tag) (get_or bs at []) ≡ true) c.deref.ensures.value c.first_beyond-at.ensures.some in
    let none_now = subst (λ (bs : List (List Tally)). All (λ t. is_before c.args.tally.tag t.tag ≡ false) (all_of (take next bs))) c.deref-2.ensures.value c.first_beyond-at-2.ensures.none in
    let some_now = subst (λ (bs : List (List Tally)). next < length bs → list_any (λ t. is_before c.args.tally.tag t.tag) (get_or bs next []) ≡ true) c.deref-2.ensures.value c.first_beyond-at-2.ensures.some in
    let below : at < length blocks = omega (arith, c.if-at-len.false, c.len.ensures, c.self.inside.blocks.ok.0, c.first_beyond-at.ensures.within, c.deref.ensures.len) in
    let there : next < length now = still_there c.args.tally.tag blocks now at next same below none some none_now some_now in
    let ordered : AreInOrder (all_of now) = subst AreInOrder (sym (same ∙ c.self.view_is)) c.requires in
    block_in_order now next c.index_mut-2.result.now there c.index_mut-2.ensures.value ordered

pub returns-clause-ok : goal.returns-clause-ok
returns-clause-ok c =
    let at = c.first_beyond-at.result in
    let next = c.first_beyond-at-2.result in
    let blocks : List (List Tally) = c.self.inside.blocks.items in
    let now : List (List Tally) = c.split_if_full.new.blocks.items in
    let same : all_of now ≡ all_of blocks = c.split_if_full.ensures.same in
    let none = subst (λ (bs : List (List Tally)). All (λ t. is_before c.args.tally.tag t.tag ≡ false) (all_of (take at bs))) c.deref.ensures.value c.first_beyond-at.ensures.none in
    let some = subst (λ (bs : List (List Tally)). at < length bs → list_any (λ t. is_before c.args.tally.tag t.tag) (get_or bs at []) ≡ true) c.deref.ensures.value c.first_beyond-at.ensures.some in
    let none_now = subst (λ (bs : List (List Tally)). All (λ t. is_before c.args.tally.tag t.tag ≡ false) (all_of (take next bs))) c.deref-2.ensures.value c.first_beyond-at-2.ensures.none in
    let some_now = subst (λ (bs : List (List Tally)). next < length bs → list_any (λ t. is_before c.args.tally.tag t.tag) (get_or bs next []) ≡ true) c.deref-2.ensures.value c.first_beyond-at-2.ensures.some in
    let below : at < length blocks = omega (arith, c.if-at-len.false, c.len.ensures, c.self.inside.blocks.ok.0, c.first_beyond-at.ensures.within, c.deref.ensures.len) in
    let there : next < length now = still_there c.args.tally.tag blocks now at next same below none some none_now some_now in
    ok_then c.insert-2.result (λ e. ap (λ (b : List Tally). all_of (set now next b)) e
    ∙ put_there_in c.args.tally blocks now next c.index_mut-2.result.now same there c.index_mut-2.ensures.value none_now some_now
    ∙ ap (λ ts. insert ts (place_of c.args.tally.tag ts) c.args.tally) c.self.view_is) c.insert-2.ensures.ok
