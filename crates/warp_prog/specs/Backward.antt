-- A file in which a link without delay leads back.
use Rattle.std.specs.Prelude.{ℕ, ◌+◌, nat_le, Bool, ◌&&◌, List, [], ◌∷◌, bytes_eq, is_none, if◌then◌else◌}
use Rattle.std.specs.List.{list_any}
use Rattle.warp_prog.specs.File.{Word, File, ReactorPart}
use Rattle.warp_prog.specs.declared.file.LinkPart.{LinkPart}

-- the place of the first reactor of a name, from 0; past the last where there is none
abbrev pub place : List ReactorPart → Word → ℕ
place [] name = 0
place (r ∷ rs) name = if bytes_eq name r.name then 0 else 1 + place rs name

-- a link without delay whose target's reactor does not stand later than its source's
abbrev pub is_backward : List ReactorPart → LinkPart → Bool
is_backward rs l = is_none l.delay && nat_le (place rs l.target.reactor) (place rs l.source.reactor)

-- a file in which such a link stands
abbrev pub leads_back : File → Bool
leads_back f = list_any (is_backward f.reactors) f.links
