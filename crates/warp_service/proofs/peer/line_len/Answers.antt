use Rattle.std.proofs.Common.{◌≡◌, ◌+◌, ℕ, false, get_or, ap, ◌∙◌, arith}
use Rattle.std.proofs.lemmas.Bool.{ne_eqb}
use Rattle.std.proofs.lemmas.Bool.Decides.{nat_tests}
use Rattle.warp_record.specs.Lines.{is_end}
use Rattle.warp_record.proofs.LineCuts.{end_goes_on, end_here, end_nowhere, found_end, no_end}
use Rattle.warp_service.proofs.peer.line_len.Goals as goal

pub returns-then-bytes-at-eq10 : goal.returns-then-bytes-at-eq10
returns-then-bytes-at-eq10 c =
    let found = found_end c.args.bytes.now c.loop-at.at
    (end_here c.args.bytes.now c.loop-at.at c.loop-at.invariant c.loop-at-test.true (ap is_end c.if-bytes-at-eq10.true)) in
    (ap (λ (n : ℕ). n + 1) found.0, found.1)

pub loop-at-preserved : goal.loop-at-preserved
loop-at-preserved c =
    let bytes = c.args.bytes.now in
    let at = c.loop-at.at in
    let other : is_end (get_or bytes at 0) ≡ false = ne_eqb (get_or bytes at 0) 10 c.if-bytes-at-eq10.false in
    end_goes_on bytes at (at + 1) c.loop-at.invariant (omega (arith, c.loop-at-test.true))
    (λ k from to. let same : k ≡ at = omega (arith, from, to) in ap (λ (n : ℕ). is_end (get_or bytes n 0)) same ∙ other)

pub returns : goal.returns
returns c =
    let bytes = c.args.bytes.now in
    no_end bytes (end_nowhere bytes (grind (c.loop-at-test.false, c.loop-at.invariant, nat_tests, arith)))
