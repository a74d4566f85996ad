-- The digest of records: one number for the set of them, whatever their order.
use Rattle.std.specs.Prelude.{◌≡◌, ℕ, ◌^◌, ◌%◌, List, [], ◌∷◌, ◌++◌, codes, decimal, length, take}
use Rattle.std.specs.Int.{w128, from_be_bytes, to_be_bytes}
use Rattle.std.specs.List.{sum_by}
use Rattle.hex.specs.Hex.{encode_lower}
use Rattle.sha2.specs.Sha256.{sha256}
use Rattle.warp_record.specs.declared.record.Record.{Record}
use Rattle.warp_record.specs.Record.{record_spelling}

-- the number that the first 16 bytes of a sum are, the most significant first
abbrev pub front_number : List ℕ → ℕ
front_number sum = from_be_bytes w128 (take 16 sum)

-- the number of a record: that of the SHA-256 of its line, without the line feed
abbrev pub number_of : Record → ℕ
number_of said = front_number (sha256 (record_spelling said))

-- so many numbers are told apart
abbrev pub numbers : ℕ
numbers = 2 ^ 128

-- the digest of records: the sum of their numbers, modulo 2 to the power of 128
abbrev pub digest_of : List Record → ℕ
digest_of records = sum_by number_of records % numbers

-- how many records were counted, and their digest
pub record DigestState : Type 0 where
  pub count : ℕ
  pub sum : ℕ

-- these records were counted
abbrev pub IsDigestOf : List Record → DigestState → Type 0
IsDigestOf records d = (d.count ≡ length records) × (d.sum ≡ digest_of records)

-- the line that tells the digest of so many records: its digits are the bytes of the number, the most significant first
abbrev pub digest_line : ℕ → ℕ → List ℕ
digest_line count sum = codes "digest " ++ decimal count ++ codes " " ++ encode_lower (to_be_bytes w128 sum) ++ 10 ∷ []
