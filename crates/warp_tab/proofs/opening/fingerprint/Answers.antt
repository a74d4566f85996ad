-- The digits are those of the canonical text, which is borrowed.
use Rattle.std.proofs.Common.{string_bytes}
use Rattle.warp_tab.proofs.Digits.{digits_so, refused_so}
use Rattle.warp_tab.proofs.opening.fingerprint.Goals as goal

pub returns-clause-digits : goal.returns-clause-digits
returns-clause-digits c =
    digits_so string_bytes c.args.text.now (string_bytes c.in_ok-named.named.canonical) c.as_str.result.now c.digits_of.result
    c.in_ok-named.ensures.canonical c.as_str.ensures.value c.digits_of.ensures.digits

pub returns-clause-err : goal.returns-clause-err
returns-clause-err c =
    refused_so c.args.text.now c.in_ok-named.named.program c.digits_of.result c.in_ok-named.ensures.program c.digits_of.ensures.err
