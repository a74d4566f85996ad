-- What a client may send.
use Rattle.std.specs.Prelude.{ℕ, Bool, true, false, Option, Some, None, slice_index_or}
use Rattle.warp_record.specs.Record.{origin_of}
use Rattle.warp_record.specs.declared.line.Line.{Line}
use Rattle.warp_record.specs.declared.line.Line.TheVariants as line
use Rattle.warp_hub.specs.declared.rights.Rights.{Rights}
use Rattle.warp_hub.specs.declared.rights.Rights.TheVariants as rights

-- whether they allow anything but a token
abbrev pub is_known : Rights → Bool
is_known rights.Nothing = false
is_known rights.Read = true
is_known (rights.Origins origins) = true
is_known rights.All = true

-- whether they allow this origin's records
abbrev pub may_send_for : Rights → ℕ → Bool
may_send_for rights.Nothing origin = false
may_send_for rights.Read origin = false
may_send_for (rights.Origins origins) origin = slice_index_or origins origin false
may_send_for rights.All origin = true

-- whether they allow to collect
abbrev pub may_collect : Rights → Bool
may_collect rights.Nothing = false
may_collect rights.Read = false
may_collect (rights.Origins origins) = true
may_collect rights.All = true

-- whether they allow whatever there is
abbrev pub is_all : Rights → Bool
is_all rights.Nothing = false
is_all rights.Read = false
is_all (rights.Origins origins) = false
is_all rights.All = true

-- whether they allow records of this origin; what is of all origins together wants all
abbrev pub may_put : Rights → Option ℕ → Bool
may_put r None = is_all r
may_put r (Some origin) = may_send_for r origin

-- whether they allow this line: a record by its origin
abbrev pub may_send : Rights → Line → Bool
may_send r (line.Put said) = may_put r (origin_of said)
may_send r (line.Ask query) = is_known r
may_send r line.Collect = may_collect r
may_send r (line.Look look) = is_known r
