-- Whether a host is ready for clients, and what is told where it is not.
use Rattle.std.specs.Prelude.{◌++◌, ◌∷◌, ◌||◌, ℕ, Bool, not, List, [], codes, if◌then◌else◌, string_bytes}
use Rattle.warp_pages.specs.declared.metrics.PeerSeen.{PeerSeen}
use Rattle.warp_pages.specs.declared.ready.Lacks.{Lacks}

-- nothing keeps the host from being ready
abbrev pub is_ready : Lacks → Bool
is_ready lacks = not (lacks.is_failing || lacks.is_full || lacks.is_ending || lacks.is_behind || lacks.is_differing)

-- the line where that is so, and nothing where it is not
abbrev pub line_if : Bool → List ℕ → List ℕ
line_if is_so line = if is_so then line else []

-- the line where the journal can't be written
abbrev pub failing_line : List ℕ
failing_line = codes "the journal cannot be written: records are refused\n"

-- the line where the log is full
abbrev pub full_line : List ℕ
full_line = codes "the log is full: no further record is taken\n"

-- the line where the host ends
abbrev pub ending_line : List ℕ
ending_line = codes "the host ends\n"

-- the line where a peer has more
abbrev pub behind_line : List ℕ
behind_line = codes "a peer has many records more than were fetched\n"

-- a line for each reason, in this order
abbrev pub reasons : Lacks → List ℕ
reasons lacks =
    ((line_if lacks.is_failing failing_line
    ++ line_if lacks.is_full full_line)
    ++ line_if lacks.is_ending ending_line)
    ++ line_if lacks.is_behind behind_line

-- the line of a peer that differs
abbrev pub differing_line : List ℕ → List ℕ
differing_line name = codes "peer " ++ name ++ codes " differs\n"

-- the line of a peer, if it differs
abbrev pub peer_line : PeerSeen → List ℕ
peer_line peer = line_if peer.differs (differing_line (string_bytes peer.name))

-- a line for each peer that differs
abbrev pub differing_lines : List PeerSeen → List ℕ
differing_lines [] = []
differing_lines (peer ∷ peers) = peer_line peer ++ differing_lines peers

-- what is answered: `ready`, or the reasons, and which peers differ
abbrev pub ready_text : Lacks → List PeerSeen → List ℕ
ready_text lacks peers = if is_ready lacks then codes "ready\n" else reasons lacks ++ differing_lines peers

-- the status of that answer
abbrev pub ready_status : Lacks → ℕ
ready_status lacks = if is_ready lacks then 200 else 503
