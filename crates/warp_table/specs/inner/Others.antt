-- Where the records stand that no name keeps: for the functions that keep it alone.
use Rattle.warp_table.specs.declared.others.Others.{Others}
use Rattle.warp_table.specs.inner.Kept.{OtherPlaces, places_of}

-- where these say that records stand
abbrev pub places : Others → OtherPlaces
places others = places_of others.listed.items others.map.entries
