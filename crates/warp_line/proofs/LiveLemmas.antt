-- Live events of parts of a table.
use Rattle.std.proofs.Common.{◌≡◌, ℕ, ◌+◌, ◌<◌, length, List, ◌++◌, ◌∷◌, [], take, get_or, map, ap, ◌∙◌}
use Rattle.std.proofs.lemmas.List.{take_more, map-append}
use Rattle.std.proofs.lemmas.List.Elements.{filter_map-append}
use Rattle.warp_tag.specs.Table.{live, live_event}
use Rattle.warp_tag.specs.declared.entry.Entry.{Entry}
use Rattle.warp_step.specs.Run.{given_of}

pub live-append : (xs ys : List Entry) → live (xs ++ ys) ≡ live xs ++ live ys
live-append xs ys = filter_map-append live_event xs ys

-- one more entry gives one more, where it is live
pub given_more : (xs : List Entry) (i : ℕ) (d : Entry) → i < length xs →
    map given_of (live (take (i + 1) xs)) ≡ map given_of (live (take i xs)) ++ map given_of (live (get_or xs i d ∷ []))
given_more xs i d lt =
    ap (λ (es : List Entry). map given_of (live es)) (take_more xs i d lt)
    ∙ ap (map given_of) (live-append (take i xs) (get_or xs i d ∷ []))
    ∙ map-append given_of (live (take i xs)) (live (get_or xs i d ∷ []))
