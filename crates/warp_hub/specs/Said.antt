-- What may be said to a host at all.
use Rattle.std.specs.Prelude.{◌≡◌, ◌⊎◌, List, ℕ}
use Rattle.warp_tag.specs.declared.form.Form.{Form}
use Rattle.warp_record.specs.declared.line.Line.{Line}
use Rattle.warp_record.specs.Line.{IsLine, spelling}
use Rattle.warp_hub.specs.declared.words.Word.{Word}
use Rattle.warp_hub.specs.Words.{IsToken, IsWord, token_spelling, word_spelling}

-- the bytes spell a line of a session in this form
abbrev pub SpellsLine : Form → List ℕ → Type 0
SpellsLine form bytes = (line : Line) × IsLine form line × (bytes ≡ spelling line)

-- they spell a word
abbrev pub SpellsWord : List ℕ → Type 0
SpellsWord bytes = (said : Word) × IsWord said × (bytes ≡ word_spelling said)

-- they spell the line of a token
abbrev pub SpellsToken : List ℕ → Type 0
SpellsToken bytes = (token : List ℕ) × IsToken token × (bytes ≡ token_spelling token)

-- they say something to a host of a program of this form
abbrev pub IsSaid : Form → List ℕ → Type 0
IsSaid form bytes = SpellsLine form bytes ⊎ (SpellsToken bytes ⊎ SpellsWord bytes)
