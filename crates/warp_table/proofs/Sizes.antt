-- The table of one more record, and how many names a table has.
use Rattle.std.proofs.Common.{◌≡◌, ◌≤◌, ◌+◌, List, [], ◌∷◌, ◌++◌, length, fold, arith}
use Rattle.std.proofs.lemmas.List.Sums.{fold-append}
use Rattle.warp_tag.specs.Table.{with_event, with_withdrawal}
use Rattle.warp_tag.specs.declared.entry.Entry.{Entry}
use Rattle.warp_tag.proofs.Tables.{length-changed}
use Rattle.warp_record.specs.declared.record.Record.{Record}
use Rattle.warp_record.specs.declared.record.Record.TheVariants.{Event, Withdraw, Announce, Joint}
use Rattle.warp_table.specs.LogNames.{with_record, table_of}

-- one more record changes its one name
pub table_more : (records : List Record) (said : Record) → table_of (records ++ said ∷ []) ≡ with_record (table_of records) said
table_more records said = fold-append with_record [] records (said ∷ [])

length-with_record : (table : List Entry) (said : Record) → length (with_record table said) ≤ length table + 1
length-with_record table (Event origin tag input value) = length-changed (with_event input value) origin tag table
length-with_record table (Withdraw origin tag) = length-changed with_withdrawal origin tag table
length-with_record table (Announce origin tag events withdrawn) = omega arith
length-with_record table (Joint tag events withdrawn) = omega arith

length-table_from : (table : List Entry) (records : List Record) → length (fold with_record table records) ≤ length table + length records
length-table_from table [] = omega arith
length-table_from table (said ∷ records) = omega (arith, length-table_from (with_record table said) records, length-with_record table said)

-- a list names no more than it has records
pub length-table_of : (records : List Record) → length (table_of records) ≤ length records
length-table_of records = omega (arith, length-table_from [] records)
