-- How many bytes a connection holds at most.
use Rattle.std.specs.Prelude.{ℕ, ◌+◌, ◌*◌}

-- of bytes that were not cut into lines yet: a message of WebSocket, and the line feed of its last line
abbrev pub most_heard : ℕ
most_heard = 16385

-- while more bytes than these wait to be written, the other end is behind: nothing more is told to it
abbrev pub most_before : ℕ
most_before = 16384

-- of a text that is told at once
abbrev pub longest_text : ℕ
longest_text = 1048576

-- of bytes that wait to be written: those before the last text, that text, and what stands around it
abbrev pub most_told : ℕ
most_told = 16384 + 1048576 + 512

-- of a message of WebSocket, with its fragments
abbrev pub longest_message : ℕ
longest_message = 16384

-- of bytes that came over WebSocket and were not taken: a frame with its head
abbrev pub most_input : ℕ
most_input = 16398

-- of a frame that answers another: one that asks, answers or closes
abbrev pub most_answer : ℕ
most_answer = 139

-- of a connection that speaks HTTP: of a head, of a body, of the extensions and of the trailers of one, and of what waits to
-- be written while a request is read
abbrev pub most_part : ℕ
most_part = 16384

-- how many bytes are heard at once over HTTP
abbrev pub read_size : ℕ
read_size = 2048

-- of what came behind the last answer
abbrev pub most_unanswered : ℕ
most_unanswered = 4 * 16384 + 2048
