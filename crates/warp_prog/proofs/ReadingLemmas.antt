-- The JSON value that bytes spell.
use Rattle.std.proofs.Common.{◌≡◌, ℕ, List, Some, None, IsUtf8, inl, inr, refl}
use Rattle.std.specs.Str.{is_utf8}
use Rattle.std.proofs.lemmas.Bool.{cases_Bool}
use Rattle.std.proofs.lemmas.Str.{IsUtf8-from_is_utf8, is_utf8-from_IsUtf8}
use Rattle.serde_json.specs.Data.{Data}
use Rattle.serde_json.specs.Read.{read}
use Rattle.warp_prog.specs.Reading.{json_of}

pub spells_json : (bytes : List ℕ) (d : Data) → IsUtf8 bytes × (read bytes ≡ Some d) → Some d ≡ json_of bytes
unfolding json_of
spells_json bytes d h = rw (is_utf8-from_IsUtf8 bytes h.0, h.1) refl

pub spells_none : (bytes : List ℕ) → (IsUtf8 bytes → read bytes ≡ None) → None ≡ json_of bytes
unfolding json_of
spells_none bytes h = elim (cases_Bool (is_utf8 bytes)) [ inl valid ↦ rw (valid, h (IsUtf8-from_is_utf8 bytes valid)) refl | inr broken ↦ rw broken refl ]
