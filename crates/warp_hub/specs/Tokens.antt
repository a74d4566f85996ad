-- Tokens: what may be sent with which.
use Rattle.std.specs.Prelude.{◌≡◌, ◌≢◌, ◌↔◌, ◌⊎◌, ◌<◌, ◌≤◌, ◌==◌, ◌+◌, ◌-◌, ◌^◌, ℕ, Bool, true, false, not, List, [], ◌∷◌, ◌++◌, Option, Some, None, All, AllPairs, Contains, codes, decimal, filter, if◌then◌else◌, is_some, length, map, min, slice_index_or, slice_set}
use Rattle.std.specs.List.{AllZip, slice_split}
use Rattle.std.specs.Str.{bytes_eq}
use Rattle.sha2.specs.Sha256.{sha256}
use Rattle.warp_tag.specs.declared.form.Form.{Form}
use Rattle.warp_tag.specs.Limits.{most_origins}
use Rattle.warp_hub.specs.declared.rights.Rights.{Rights}
use Rattle.warp_hub.specs.declared.rights.Rights.TheVariants as rights
use Rattle.warp_hub.specs.declared.tokens.Entry.{Entry}
use Rattle.warp_hub.specs.declared.tokens.TokensFault.{TokensFault}
use Rattle.warp_hub.specs.declared.tokens.TokensFault.TheVariants as fault
use Rattle.warp_hub.specs.Words.{IsToken}

-- what may be sent with the token of this digest: what the first entry with the whole digest says
abbrev pub rights_of : List Entry → List ℕ → Option Rights
rights_of [] digest = None
rights_of (e ∷ entries) digest = if bytes_eq e.digest digest then Some e.rights else rights_of entries digest

-- what was found, or else this
abbrev pub or_else : Option Rights → Option Rights → Option Rights
or_else None other = other
or_else (Some rights) other = Some rights

-- behind so many wrong tokens a client is over
abbrev pub most_wrong : ℕ
most_wrong = 3

-- the most bytes of a token that a line can say
abbrev pub longest_said : ℕ
longest_said = 122

-- numbers of origins of this form stand in the text, with a comma between two, and the flags are up at just these
pub record SaysOrigins (form : Form) (text : List ℕ) (flags : List Bool) : Type 0 where
  pub origins : List ℕ
  pub spelled : slice_split (λ byte. byte == 44) text ≡ map decimal origins
  pub each : All (λ origin. origin < most_origins form) origins
  pub just : (origin : ℕ) → (slice_index_or flags origin false ≡ true) ↔ Contains origins origin

-- the word is the number of an origin of this form, and its flag goes up
abbrev pub Marks : Form → List ℕ → List Bool → List Bool → Type 0
Marks form word old new =
    (origin : ℕ) × (origin < most_origins form) × (word ≡ decimal origin) × (new ≡ slice_set old origin true)

-- what stands behind a token in its line says these rights
abbrev pub SaysRights : Form → List ℕ → Rights → Type 0
SaysRights form text rights.Nothing = ⊥
SaysRights form text rights.Read = text ≡ codes "read"
SaysRights form text (rights.Origins flags) = SaysOrigins form text flags
SaysRights form text rights.All = text ≡ codes "*"

-- the line is this token, a space, and these rights
pub record IsEntry (form : Form) (line token : List ℕ) (given : Rights) : Type 0 where
  pub text : List ℕ
  pub is : line ≡ token ++ 32 ∷ text
  pub says : SaysRights form text given
  pub spelled : IsToken token
  pub short : length token ≤ longest_said

-- the line is of a token with this digest, and says these rights
abbrev pub IsOf : Form → List ℕ → Entry → Type 0
IsOf form line entry = (token : List ℕ) × IsEntry form line token entry.rights × (entry.digest ≡ sha256 token)

-- a line says something: it is not empty and does not begin with #
abbrev pub says_some : List ℕ → Bool
says_some [] = false
says_some (byte ∷ line) = not (byte == 35)

-- the lines of a text
abbrev pub lines_of : List ℕ → List (List ℕ)
lines_of text = slice_split (λ byte. byte == 10) text

-- these lines have these entries: one for each line that says something, in their order, and no two of one digest
pub record AreEntries (form : Form) (lines : List (List ℕ)) (entries : List Entry) : Type 0 where
  pub each : AllZip (IsOf form) (filter says_some lines) entries
  pub apart : AllPairs (λ one other. one.digest ≢ other.digest) entries

-- a line has one more entry behind these: the one that it says, of a digest that none of them has
pub record IsAdded (form : Form) (line : List ℕ) (old new : List Entry) : Type 0 where
  pub entry : Entry
  pub said : IsOf form line entry
  pub fresh : rights_of old entry.digest ≡ None
  pub added : new ≡ old ++ entry ∷ []

-- what the line says, if it says something, is the last
abbrev pub IsTaken : Form → List ℕ → List Entry → List Entry → Type 0
IsTaken form line old new = ((says_some line ≡ false) × (new ≡ old)) ⊎ ((says_some line ≡ true) × IsAdded form line old new)

-- why the line with this number has none: it says none, or the one that it says has the digest of one of these
abbrev pub WhyNone : Form → List ℕ → ℕ → List Entry → TokensFault → Type 0
WhyNone form line number entries (fault.Line at) = (at ≡ number) × ((entry : Entry) → IsOf form line entry → ⊥)
WhyNone form line number entries (fault.Twice at) =
    (at ≡ number) × ((entry : Entry) × IsOf form line entry × (is_some (rights_of entries entry.digest) ≡ true))
WhyNone form line number entries fault.NoMemory = Unit {0}

-- what is wrong with lines: of the first that says something and has no entry behind those in front of it, why it has none;
-- lines are counted from 1, as far as 32 bits count
pub record IsFault (form : Form) (lines : List (List ℕ)) (wrong : TokensFault) : Type 0 where
  pub front : List (List ℕ)
  pub line : List ℕ
  pub behind : List (List ℕ)
  pub entries : List Entry
  pub stands : lines ≡ front ++ line ∷ behind
  pub said : says_some line ≡ true
  pub before : AreEntries form front entries
  pub why : WhyNone form line (min (length front + 1) (2 ^ 32 - 1)) entries wrong
