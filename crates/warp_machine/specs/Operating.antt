-- The lines of an operator, and which notes one is told at which level.
use Rattle.std.specs.Prelude.{◌≡◌, ℕ, List, ◌++◌, codes}
use Rattle.warp_tag.specs.declared.form.Form.{Form}
use Rattle.warp_hub.specs.Tokens.{AreEntries, lines_of}
use Rattle.warp_hub.specs.declared.tokens.Entry.{Entry}
use Rattle.warp_service.specs.declared.notes.Note.{Note}
use Rattle.warp_service.specs.declared.notes.Note.TheVariants as note
use Rattle.warp_machine.specs.declared.operating.Level.{Level}
use Rattle.warp_machine.specs.declared.operating.Level.TheVariants as level
use Rattle.warp_machine.specs.declared.operating.OperatorWord.{OperatorWord}
use Rattle.warp_machine.specs.declared.operating.OperatorWord.TheVariants as word

-- the name of a level
abbrev pub level_name : Level → List ℕ
level_name level.Error = codes "error"
level_name level.Warn = codes "warn"
level_name level.Info = codes "info"

-- the line of a word, without its line feed
abbrev pub word_line : OperatorWord → List ℕ
word_line word.Stop = codes "stop"
word_line word.Status = codes "status"
word_line word.Tokens = codes "tokens"
word_line (word.LogLevel level) = codes "log-level " ++ level_name level

-- the line is that of no word
abbrev pub IsNoWord : List ℕ → Type 0
IsNoWord line = (word : OperatorWord) → line ≡ word_line word → ⊥

-- at the first level a note of the second is told
abbrev pub tells : Level → Level → Type 0
tells level.Error level.Error = Unit {0}
tells level.Error level.Warn = ⊥
tells level.Error level.Info = ⊥
tells level.Warn level.Error = Unit {0}
tells level.Warn level.Warn = Unit {0}
tells level.Warn level.Info = ⊥
tells level.Info other = Unit {0}

-- the level of a note
abbrev pub note_level : Note → Level
note_level (note.NotGiven what error) = level.Error
note_level (note.NoThread what) = level.Error
note_level note.LogFull = level.Error
note_level (note.PeerDiffers peer) = level.Error
note_level (note.JournalFails fault) = level.Error
note_level (note.JournalNotRenewed fault) = level.Error
note_level (note.JournalRenewed count) = level.Error
note_level (note.Unsaid refusal) = level.Error
note_level (note.Full refused most) = level.Warn
note_level (note.NoDescriptors count) = level.Warn
note_level (note.Slow count) = level.Warn
note_level (note.Tokenless count) = level.Warn
note_level (note.Forbidden count) = level.Warn
note_level (note.SlowSync count) = level.Warn
note_level (note.ClockStood stood) = level.Warn
note_level (note.Peer peer news left_out) = level.Warn
note_level (note.Started clients wanted has_tokens) = level.Info
note_level note.InputEnded = level.Info
note_level note.Stopped = level.Info
note_level note.ClockOver = level.Info

-- these are the entries of a text of tokens, for programs of some form
abbrev pub AreTokens : List ℕ → List Entry → Type 0
AreTokens text entries = (form : Form) × AreEntries form (lines_of text) entries
