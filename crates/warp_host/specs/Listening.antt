-- On which addresses a host may listen.
use Rattle.std.specs.Prelude.{Bool, IsTrue, ◌⊎◌}
use Rattle.std.specs.Net.Addr.{IsLoopbackV4, IsLoopbackV6, MatchIp}
use Rattle.std.specs.declared.net.ip_addr.IpAddr.{IpAddr}

-- there are tokens, or it was said that everybody is meant, or the address is one of the machine's own
abbrev pub MayListen : IpAddr → Bool → Bool → Type 0
MayListen address has_tokens is_meant =
    IsTrue has_tokens ⊎ (IsTrue is_meant ⊎ MatchIp address IsLoopbackV4 IsLoopbackV6)
