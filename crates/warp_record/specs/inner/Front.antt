-- The first words of records, as the reader of lines in front tells them apart.
use Rattle.std.specs.Prelude.{ℕ, List, codes}
use Rattle.warp_record.specs.declared.front.RecordKind.{RecordKind}
use Rattle.warp_record.specs.declared.front.RecordKind.TheVariants.{Event, Withdraw, Announce}

-- the word that a record of this kind begins with
abbrev pub kind_word : RecordKind → List ℕ
kind_word Event = codes "event"
kind_word Withdraw = codes "withdraw"
kind_word Announce = codes "announce"
