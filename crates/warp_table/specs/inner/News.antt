-- A record that a list has not yet, beside what is kept of the list. For proofs alone.
use Rattle.std.specs.Prelude.{List, Contains}
use Rattle.warp_tag.specs.declared.entry.Entry.{Entry}
use Rattle.warp_record.specs.declared.record.Record.{Record}
use Rattle.warp_table.specs.Names.{origin_or_first}
use Rattle.warp_table.specs.Records.{set_of}
use Rattle.warp_table.specs.declared.names.Name.{Name}
use Rattle.warp_table.specs.inner.Heard.{Heard, IsHeard}
use Rattle.warp_table.specs.inner.Kept.{KeepsNames}

-- these are kept of the names of the list and heard of the record's own origin, and the record is not in the list
pub record IsNewsOf (records : List Record) (names : List (Name × Entry)) (own : Heard) (said : Record) : Type 0 where
  pub kept : KeepsNames records names
  pub heard : IsHeard (set_of records) (origin_or_first said) own
  pub new : ¬ Contains records said
