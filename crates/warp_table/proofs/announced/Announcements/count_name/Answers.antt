-- behind the front that has none beyond the tag it is counted in each block
use Rattle.std.proofs.Common.{◌≡◌, ◌+◌, ◌<◌, ◌^◌, ◌++◌, false, List, fold, length, map, take, drop, ap, sym, subst, ◌∙◌}
use Rattle.std.specs.List.{All}
use Rattle.std.specs.Vec.{with_items}
use Rattle.std.proofs.lemmas.List.{with_items_is}
use Rattle.warp_tag.specs.Moment.{is_before}
use Rattle.warp_table.specs.inner.Tally.{AreInOrder, AreSome, IsJudged, all_of, before_of, beyond, counted, judged_in, with_name, with_tally}
use Rattle.warp_table.specs.declared.tally.Tally.{Tally}
use Rattle.warp_table.proofs.AnnouncedBlocks.{counted_behind, counted_some, judged_behind, length-counted_behind, rest_all, rest_in_order}
use Rattle.warp_table.proofs.announced.Announcements.count_name.Goals as goal

pub count_behind-requires-clause-in_order : goal.count_behind-requires-clause-in_order
count_behind-requires-clause-in_order c =
    let ordered = subst AreInOrder (sym c.self.view_is) c.requires.in_order in
    subst (λ (bs : List (List Tally)). AreInOrder (all_of (drop c.first_beyond-first.result bs))) (sym c.deref_mut.ensures.value) (rest_in_order c.self.inside.blocks.items c.first_beyond-first.result ordered)

pub count_behind-requires-clause-room : goal.count_behind-requires-clause-room
count_behind-requires-clause-room c =
    let room = subst (λ (ts : List Tally). All (λ t. before_of c.args.kind t + 1 < 2 ^ 64) ts) (sym c.self.view_is) c.requires.room in
    subst (λ (bs : List (List Tally)). All (λ t. before_of c.args.kind t + 1 < 2 ^ 64) (all_of (drop c.first_beyond-first.result bs))) (sym c.deref_mut.ensures.value)
    (rest_all (λ t. before_of c.args.kind t + 1 < 2 ^ 64) c.self.inside.blocks.items c.first_beyond-first.result room)

pub count_behind-requires-clause-judged : goal.count_behind-requires-clause-judged
count_behind-requires-clause-judged c =
    let judged = subst (λ (ts : List Tally). All (IsJudged c.args.verdict.now) ts) (sym c.self.view_is) c.requires.judged in
    subst (λ (bs : List (List Tally)). All (IsJudged c.args.verdict.now) (all_of (drop c.first_beyond-first.result bs))) (sym c.deref_mut.ensures.value)
    (rest_all (IsJudged c.args.verdict.now) c.self.inside.blocks.items c.first_beyond-first.result judged)

-- the blocks are those of before, counted
now : (c : goal.After-self-1) → (with_items c.self.inside.blocks c.count_behind.new.blocks).items
    ≡ take c.first_beyond-first.result c.self.inside.blocks.items ++ map (counted c.args.kind c.args.tag) (drop c.first_beyond-first.result c.self.inside.blocks.items)
now c =
    let first = c.first_beyond-first.result in
    let blocks : List (List Tally) = c.self.inside.blocks.items in
    let f : List Tally → List Tally = counted c.args.kind c.args.tag in
    let counts : c.count_behind.new.blocks ≡ take first blocks ++ map f (drop first blocks) =
    c.count_behind.ensures.tallies ∙ ap (λ (bs : List (List Tally)). take first bs ++ map f (drop first bs)) c.deref_mut.ensures.value in
    let long : length c.count_behind.new.blocks ≡ c.self.inside.blocks.len =
    ap length counts ∙ length-counted_behind c.args.kind c.args.tag blocks first ∙ sym c.self.inside.blocks.ok.0 in
    with_items_is c.self.inside.blocks c.count_behind.new.blocks long ∙ counts

pub invariant_of-self : goal.invariant_of-self
invariant_of-self c = subst AreSome (sym (now c)) (counted_some c.args.kind c.args.tag c.self.inside.blocks.items c.first_beyond-first.result c.self.invariant)

pub returns-clause-tallies : goal.returns-clause-tallies
returns-clause-tallies c =
    let first = c.first_beyond-first.result in
    let blocks : List (List Tally) = c.self.inside.blocks.items in
    let ordered = subst AreInOrder (sym c.self.view_is) c.requires.in_order in
    let none = subst (λ (bs : List (List Tally)). All (λ t. is_before c.args.tag t.tag ≡ false) (all_of (take first bs))) c.deref.ensures.value c.first_beyond-first.ensures.none in
    ap all_of (now c) ∙ counted_behind c.args.kind c.args.tag blocks first ordered none ∙ ap (counted c.args.kind c.args.tag) c.self.view_is

pub returns-clause-judged : goal.returns-clause-judged
returns-clause-judged c =
    let first = c.first_beyond-first.result in
    let blocks : List (List Tally) = c.self.inside.blocks.items in
    let ordered = subst AreInOrder (sym c.self.view_is) c.requires.in_order in
    let none = subst (λ (bs : List (List Tally)). All (λ t. is_before c.args.tag t.tag ≡ false) (all_of (take first bs))) c.deref.ensures.value c.first_beyond-first.ensures.none in
    c.count_behind.ensures.judged ∙ ap (λ (bs : List (List Tally)). fold (judged_in c.args.kind c.args.tag) c.args.verdict.now (drop first bs)) c.deref_mut.ensures.value
    ∙ judged_behind c.args.kind c.args.tag c.args.verdict.now blocks first ordered none
    ∙ ap (λ ts. fold with_tally c.args.verdict.now (map (with_name c.args.kind) (beyond c.args.tag ts))) c.self.view_is
