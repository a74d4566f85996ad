-- The digest of a log: what is counted of it, and what is told.
use Rattle.std.specs.Prelude.{◌≡◌, ◌≤◌, List, length, take}
use Rattle.warp_record.specs.declared.record.Record.{Record}
use Rattle.warp_digest.specs.Digest.{DigestState, IsDigestOf, digest_line, digest_of}
use Rattle.warp_room.specs.declared.digested.Digested.{Digested}

-- the first records of the log are counted
pub record IsCounted (log : List Record) (d : DigestState) : Type 0 where
  pub within : d.count ≤ length log
  pub is : IsDigestOf (take d.count log) d

-- the digest of the first records of the log is told
pub record TellsDigest (log : List Record) (told : Digested) : Type 0 where
  pub within : told.len ≤ length log
  pub text : told.text.items ≡ digest_line told.len (digest_of (take told.len log))
