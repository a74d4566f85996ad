-- a block that has one is found where there is one
use Rattle.std.proofs.Common.{◌≡◌, ◌<◌, [], true, false, get_or, List, length, take, ap, subst, ◌∙◌}
use Rattle.std.specs.List.{All, list_any}
use Rattle.warp_tag.specs.Moment.{is_before}
use Rattle.warp_table.specs.inner.Tally.{all_of}
use Rattle.warp_table.specs.declared.tally.Tally.{Tally}
use Rattle.warp_table.proofs.AnnouncedBlocks.{beyond_there}
use Rattle.warp_table.proofs.announced.Announcements.has_beyond.Goals as goal

pub returns : goal.returns
returns c =
    let blocks : List (List Tally) = c.self.inside.blocks.items in
    let long : c.len.result ≡ length blocks = c.len.ensures ∙ c.self.inside.blocks.ok.0 in
    let none = subst (λ (bs : List (List Tally)). All (λ t. is_before c.args.tag t.tag ≡ false) (all_of (take c.first_beyond.result bs))) c.deref.ensures.value c.first_beyond.ensures.none in
    let some = subst (λ (bs : List (List Tally)). c.first_beyond.result < length bs → list_any (λ t. is_before c.args.tag t.tag) (get_or bs c.first_beyond.result []) ≡ true) c.deref.ensures.value c.first_beyond.ensures.some in
    beyond_there c.args.tag blocks c.first_beyond.result c.len.result long none some ∙ ap (list_any (λ t. is_before c.args.tag t.tag)) c.self.view_is
