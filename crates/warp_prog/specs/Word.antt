-- Names and references to ports, as texts.
use Rattle.std.specs.Prelude.{ℕ, ℤ, Bool, true, false, not, ◌&&◌, ◌||◌, ◌==◌, nat_le, List, [], ◌∷◌, length, Option, Some, None, option_map, if◌then◌else◌}
use Rattle.serde_json.specs.Data.{Data}
use Rattle.serde_json.specs.Find.{as_str, as_number, as_i64}
use Rattle.std.specs.List.{before_first, after_first}
use Rattle.warp_prog.specs.Chain.{◌>>=◌}
use Rattle.warp_prog.specs.File.{Word}
use Rattle.warp_prog.specs.declared.file.PortName.{PortName}

-- how many bytes a name has at most
abbrev pub longest_name : ℕ
longest_name = 32

-- an ASCII letter
abbrev pub is_letter : ℕ → Bool
is_letter b = (nat_le 65 b && nat_le b 90) || (nat_le 97 b && nat_le b 122)

-- an ASCII letter, a digit or `_`
abbrev pub is_word_byte : ℕ → Bool
is_word_byte b = is_letter b || (nat_le 48 b && nat_le b 57) || b == 95

-- all of these are
abbrev pub are_word_bytes : List ℕ → Bool
are_word_bytes [] = true
are_word_bytes (b ∷ bs) = is_word_byte b && are_word_bytes bs

-- the first of these is an ASCII letter
abbrev pub begins_with_letter : List ℕ → Bool
begins_with_letter [] = false
begins_with_letter (b ∷ bs) = is_letter b

-- a name: 1 to 32 bytes of ASCII letters, digits and `_`, the first a letter
abbrev pub is_name : List ℕ → Bool
is_name s = begins_with_letter s && nat_le (length s) longest_name && are_word_bytes s

-- the name that a text is
abbrev pub name_of : List ℕ → Option Word
name_of s = if is_name s then Some s else None

-- the reference to a port that a text is: two names with `.` between them
abbrev pub port_of : List ℕ → Option PortName
port_of s = do
  reactor ← name_of (before_first (λ b. b == 46) s)
  port ← name_of (after_first (λ b. b == 46) s)
  Some (record { reactor = reactor; port = port })

-- how many bytes a text for people has at most
abbrev pub longest_text : ℕ
longest_text = 120

-- a byte of ASCII that can be printed, and that JSON writes as it is: no quotation mark (34) and no backslash (92)
abbrev pub is_printed_byte : ℕ → Bool
is_printed_byte b = (nat_le 32 b && nat_le b 126) && (not (b == 34) && not (b == 92))

-- all of these are
abbrev pub are_printed_bytes : List ℕ → Bool
are_printed_bytes [] = true
are_printed_bytes (b ∷ bs) = is_printed_byte b && are_printed_bytes bs

-- a text for people: 1 to 120 such bytes
abbrev pub is_printed : List ℕ → Bool
is_printed s = not (length s == 0) && nat_le (length s) longest_text && are_printed_bytes s

-- the text for people that a text is, and that a value is
abbrev pub printed_of : List ℕ → Option Word
printed_of s = if is_printed s then Some s else None

abbrev pub printed_at : Data → Option Word
printed_at d = as_str d >>= printed_of

-- the name that a text is where none may stand, which is the empty text
abbrev pub name_or_none : List ℕ → Option (Option Word)
name_or_none [] = Some None
name_or_none s = option_map Some (name_of s)

-- the name that a value is
abbrev pub name_at : Data → Option Word
name_at d = as_str d >>= name_of

-- the reference to a port that a value is
abbrev pub port_at : Data → Option PortName
port_at d = as_str d >>= port_of

-- the number that a value is
abbrev pub integer_at : Data → Option ℤ
integer_at d = as_number d >>= as_i64
