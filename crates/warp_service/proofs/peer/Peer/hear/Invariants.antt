-- So far lines were heard, and no moment was noted.
use Rattle.std.proofs.Common.{◌≡◌, ◌≤◌, ◌-◌, length}
use Rattle.warp_service.specs.Peers.{HearsOn}
use Rattle.warp_service.proofs.peer.Peer.hear.Given as goal

abbrev pub invariant-loop-count : goal.invariant-loop-count
invariant-loop-count l = (l.heard ≤ length l.bytes) × HearsOn l.initial.self l.self × (l.self.contact.heard ≡ l.initial.self.contact.heard)

abbrev pub decreases-loop-count : goal.decreases-loop-count
decreases-loop-count l = length l.bytes - l.heard
