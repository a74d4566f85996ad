-- The last of the announcements that are kept in order has the greatest tag.
use Rattle.std.proofs.Common.{◌≡◌, inl, inr, ℕ, zero, suc, ◌-◌, ◌<◌, false, List, [], ◌∷◌, Contains, length, get_or, map, refl, ap, subst, sym, ◌∙◌, arith}
use Rattle.std.specs.List.{list_any}
use Rattle.std.proofs.lemmas.List.Elements.{All-contains, All-map, Contains-append_left, Contains-append_right, Contains-get_or}
use Rattle.std.proofs.lemmas.List.Folds.{list_any_none}
use Rattle.warp_tag.specs.Moment.{Moment, is_before}
use Rattle.warp_tag.proofs.Tags.{not_before_self}
use Rattle.warp_table.specs.inner.Closed.{IsLastTag}
use Rattle.warp_table.specs.inner.Tally.{AreInOrder, AreSome, all_of, announcement_of, with_more}
use Rattle.warp_table.specs.declared.tally.Numbers.{Numbers}
use Rattle.warp_table.specs.declared.tally.Tally.{Tally}
use Rattle.warp_table.proofs.AnnouncedBlocks.{front_none, last_beyond, none_any, whole_none}
use Rattle.warp_table.proofs.Members.{Contains-from_map, Contains-map}

-- the last of a block
pub last_of_block : (more : Numbers) (xs : List Tally) (x : Tally) → AreInOrder (map (with_more more) xs) → 0 < length xs → x ≡ get_or xs (length xs - 1) x → IsLastTag (map (λ t. t.tag) (map (with_more more) xs)) x.tag
last_of_block more xs x ordered some is =
    let tallies : List Tally = map (with_more more) xs in
    let none : list_any (λ t. is_before x.tag t.tag) tallies ≡ false = last_beyond x.tag more xs x ordered some is ∙ not_before_self x.tag in
    let has : Contains xs x = (length xs - 1, omega (arith, some), sym is) in
    record {
      some = inl (Contains-map (λ (t : Tally). t.tag) tallies (with_more more x) (Contains-map (with_more more) xs x has));
      greatest = All-map (λ (t : Moment). is_before x.tag t ≡ false) (λ (t : Tally). t.tag) tallies (none_any x.tag tallies none);
    }

-- what a block has all blocks have
in_blocks : (blocks : List (List Tally)) (n : ℕ) (block : List Tally) (x : Tally) → n < length blocks → block ≡ get_or blocks n block → Contains block x → Contains (all_of blocks) x
in_blocks [] n block x within is has = absurd (omega (arith, within))
in_blocks (b ∷ blocks) zero block x within is has = Contains-append_left b (all_of blocks) x (subst (λ (ts : List Tally). Contains ts x) is has)
in_blocks (b ∷ blocks) (suc n) block x within is has = Contains-append_right b (all_of blocks) x (in_blocks blocks n block x (omega (arith, within)) is has)

-- the last of the last block is the last of all
pub last_of_blocks : (blocks : List (List Tally)) (block : List Tally) (last : Moment) → AreSome blocks → AreInOrder (all_of blocks) → 0 < length blocks → block ≡ get_or blocks (length blocks - 1) block
    → IsLastTag (map (λ t. t.tag) block) last → IsLastTag (map (λ t. t.tag) (all_of blocks)) last
last_of_blocks blocks block last some ordered within is own =
    let at : ℕ = length blocks - 1 in
    let tag_of : Tally → Moment = (λ t. t.tag) in
    let none : list_any (λ t. is_before last t.tag) block ≡ false =
    list_any_none (λ t. is_before last t.tag) block
    (λ k d l. All-contains (λ t. is_before last t ≡ false) (map tag_of block) (tag_of (get_or block k d)) own.greatest (Contains-map tag_of block (get_or block k d) (Contains-get_or block k d l))) in
    let front = front_none last blocks at block some ordered (omega (arith, within)) is none in
    record {
      some = elim own.some [
        | inl has ↦ (
            let from = Contains-from_map tag_of block last has in
            inl (subst (λ (t : Moment). Contains (map tag_of (all_of blocks)) t) from.2
            (Contains-map tag_of (all_of blocks) from.0 (in_blocks blocks at block from.0 (omega (arith, within)) is from.1)))
            )
        | inr begins ↦ inr begins
      ];
      greatest = All-map (λ t. is_before last t ≡ false) tag_of (all_of blocks) (whole_none last blocks (suc at) (omega (arith, within)) front);
    }

-- the tags of announcements are those of their tallies
pub announced_tags : (tallies : List Tally) → map (λ a. a.tag) (map announcement_of tallies) ≡ map (λ t. t.tag) tallies
announced_tags [] = refl
announced_tags (t ∷ tallies) = ap (λ (tags : List Moment). t.tag ∷ tags) (announced_tags tallies)
