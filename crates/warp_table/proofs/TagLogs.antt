-- Tags as they came, put in order one after another.
use Rattle.std.proofs.Common.{◌≡◌, ℕ, suc, ◌+◌, ◌<◌, List, [], ◌∷◌, drop, length, get_or, ap, sym, ◌∙◌, arith}
use Rattle.std.proofs.lemmas.List.{drop_more}
use Rattle.warp_tag.specs.Moment.{Moment}
use Rattle.warp_table.specs.inner.Heard.{with_tag, with_tags}
use Rattle.warp_table.proofs.BlockLists.{item_tag, length-with_item}

pub length-with_tag : (tag : Moment) (tags : List Moment) → length (with_tag tag tags) ≡ suc (length tags)
length-with_tag tag tags = ap (λ (l : List Moment). length l) (sym (item_tag tag tags)) ∙ length-with_item (λ t. t) tag tags

length-with_tags : (more tags : List Moment) → length (with_tags more tags) ≡ length tags + length more
length-with_tags [] tags = omega arith
length-with_tags (t ∷ more) tags =
    let rest : length (with_tags more (with_tag t tags)) ≡ length (with_tag t tags) + length more = length-with_tags more (with_tag t tags) in
    let one : length (with_tag t tags) ≡ suc (length tags) = length-with_tag t tags in
    omega (arith, rest, one)

-- as many are there as came
pub as_many : (came tags : List Moment) → tags ≡ [] → length (with_tags came tags) ≡ length came
as_many came tags none =
    let all : length (with_tags came tags) ≡ length tags + length came = length-with_tags came tags in
    let empty : length tags ≡ 0 = ap (λ (l : List Moment). length l) none in
    omega (arith, all, empty)

-- one that is put in its place
pub placed_next : (came : List Moment) (placed : ℕ) (tags now : List Moment) (tag d : Moment) → placed < length came → tag ≡ get_or came placed d → now ≡ with_tag tag tags
    → with_tags (drop (placed + 1) came) now ≡ with_tags (drop placed came) tags
placed_next came placed tags now tag d within is put =
    ap (with_tags (drop (placed + 1) came)) (put ∙ ap (λ (t : Moment). with_tag t tags) is) ∙ sym (ap (λ (l : List Moment). with_tags l tags) (drop_more came placed d within))
