-- None of the last so many bytes is a space.
use Rattle.std.proofs.Common.{◌≢◌, ◌-◌, ◌<◌, ◌≤◌, ℕ, get_or}
use Rattle.warp_push.proofs.stretch.last_space.Given as goal

abbrev pub invariant-loop-back : goal.invariant-loop-back
invariant-loop-back l = (k : ℕ) → l.many - l.back ≤ k → k < l.many → get_or l.text k 0 ≢ 32
