-- Room in a log, by form.
use Rattle.std.proofs.Common.{◌≡◌, ◌<◌, ◌≤◌, ℕ, List, [], ◌∷◌, ◌++◌, length, length-append, ap, ◌∙◌, arith}
use Rattle.warp_tag.specs.Limits.{most_records, widest}
use Rattle.warp_tag.specs.declared.form.Form.{Form}
use Rattle.warp_tag.proofs.Forms.{records_widen}
use Rattle.warp_record.specs.declared.record.Record.{Record}

-- where there is room in a form, there is in the widest
pub room_widens : (f : Form) (long : ℕ) → long < most_records f → long < most_records widest
room_widens f long room = omega (arith, room, records_widen f)

-- with one more record a log that had room is no longer than it may be
pub grown : (f : Form) (old new : List Record) (said : Record) → new ≡ old ++ said ∷ [] → length old < most_records f
    → length new ≤ most_records f
grown f old new said more room =
    let long = ap length more ∙ length-append old (said ∷ []) in
    omega (arith, long, room)
