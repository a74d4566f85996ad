-- A journal that is damaged, or refused, keeps a host from beginning.
use Rattle.std.proofs.Common.{inl, inr, refl}
use Rattle.warp_disk.specs.declared.journal_faults.OpenFault.TheVariants as open_fault
use Rattle.warpd.proofs.outcome.outcome_of_journal.Goals as goal

pub returns-in-Damaged-clause-keeps : goal.returns-in-Damaged-clause-keeps
returns-in-Damaged-clause-keeps c = inr (inr (inr (inr (inr (inr (inr (inl (open_fault.Damaged c.in-Damaged.line, refl))))))))

pub returns-in-Refused-clause-keeps : goal.returns-in-Refused-clause-keeps
returns-in-Refused-clause-keeps c = inr (inr (inr (inr (inr (inr (inr (inl (open_fault.Refused c.in-Refused.line, refl))))))))
