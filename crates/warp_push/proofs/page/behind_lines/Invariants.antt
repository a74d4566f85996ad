-- What is behind the rest of the lines stays.
use Rattle.std.proofs.Common.{◌≡◌, ◌-◌}
use Rattle.warp_push.specs.Texts.{behind_lines}
use Rattle.warp_push.proofs.page.behind_lines.Given as goal

abbrev pub invariant-loop-at : goal.invariant-loop-at
invariant-loop-at l = behind_lines (l.count - l._at) l.rest ≡ behind_lines l.count l.text
