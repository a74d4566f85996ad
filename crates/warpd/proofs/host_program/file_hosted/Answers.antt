-- The bytes could not be had.
use Rattle.std.proofs.Common.{inl, inr}
use Rattle.warpd.proofs.host_program.file_hosted.Goals as goal

pub returns-in-Err-clause-err : goal.returns-in-Err-clause-err
returns-in-Err-clause-err g c = elim c.in-Err.ensures.err [ inl unread ↦ inl unread | inr memory ↦ inr (inl memory) ]
