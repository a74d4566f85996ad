-- Of the two new streams nothing was read or written, and nothing failed.
use Rattle.std.proofs.Common.{◌≡◌, MatchResult, map, string_bytes, subst}
use Rattle.warpd.specs.Outcome.{Obeys, Seen, untouched}
use Rattle.warpd.proofs.start.Goals as goal

pub returns : goal.returns
returns g c =
    let did = c.perform-told.ensures in
    let after = c.perform-told.new.streams in
    let before : Seen = record {
      left = g.R.Read.remaining c.new.result.inner;
      written = g.W.Write.contents c.new-2.result.inner;
      failed_reads = c.new.result.failures;
      failed_writes = c.new-2.result.failures;
    } in
    let fresh : before ≡ untouched (g.R.Read.remaining c.args.standard.0) (g.W.Write.contents c.args.standard.1) =
    λ i. record {
      left = g.R.Read.remaining (c.new.ensures.inner i);
      written = g.W.Write.contents (c.new-2.ensures.inner i);
      failed_reads = c.new.ensures.failures i;
      failed_writes = c.new-2.ensures.failures i;
    } in (
      did.0,
      after,
      subst
          (λ (seen : Seen). MatchResult c.args.arguments (λ words. Obeys (map (λ word. string_bytes word) words.items) seen after did.0)
          (λ reason. (did.0 ≡ reason) × (after ≡ seen)))
          fresh did.1,
      did.2,
    )
