-- Comparing logs by their digests.
use Rattle.std.specs.Prelude.{ℕ, ◌-◌, Bool, false, not, ◌&&◌, ◌==◌, List, [], ◌∷◌, Option, Some, None, codes, decimal, if◌then◌else◌}
use Rattle.std.specs.Str.{bytes_eq}
use Rattle.std.specs.List.{join_with_byte}
use Rattle.warp_hub.specs.Follow.{FollowState}
use Rattle.warp_service.specs.declared.comparing.Compared.{Compared}
use Rattle.warp_service.specs.declared.comparing.ToldDigest.{ToldDigest}

-- the words of a line that tells a digest
abbrev pub digest_words : ToldDigest → List (List ℕ)
digest_words told = codes "digest" ∷ decimal told.len ∷ told.digits ∷ []

-- the line, without its line feed
abbrev pub told_line : ToldDigest → List ℕ
told_line told = join_with_byte 32 (digest_words told)

-- the logs are as long, and their digests are not the same
abbrev pub is_other : ToldDigest → ToldDigest → Bool
is_other told own = (told.len == own.len) && not (bytes_eq told.digits own.digits)

-- a connection is lost
abbrev pub parted : Compared → Compared
parted c = record c { asks = false; is_unknown = false; told = None }

-- what is known behind what was told: where the logs are as long, whether their digests are not the same, else what it was
abbrev pub differs_by : ToldDigest → Option ToldDigest → Bool → Bool
differs_by own None differs = differs
differs_by own (Some told) differs = if told.len == own.len then is_other told own else differs

-- what was told is compared with the own digest
abbrev pub compared : ToldDigest → Compared → Compared
compared own c = record c { told = None; differs = differs_by own c.told c.differs }

-- just so many records of a peer's log were had, each of which was answered
abbrev pub has_had : ℕ → FollowState → Bool
has_had len f = (f.missing == 0) && (f.next - 1 == len)

-- whether a peer is asked for its digest: it may know the word, and was followed up to as many records as the own log has, if
-- that has had so many for a while
abbrev pub asks_digest : Option ℕ → FollowState → Compared → Bool
asks_digest None f c = false
asks_digest (Some len) f c = not c.is_unknown && has_had len f
