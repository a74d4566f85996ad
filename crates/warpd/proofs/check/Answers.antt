-- What is told of the program is printed; the remark is none of what the streams tell.
use Rattle.std.proofs.Common.{◌∙◌, ℕ, List, inl, string_bytes, subst}
use Rattle.warpd.specs.Outcome.{IsPrinted, Seen}
use Rattle.warpd.proofs.check.Goals as goal

pub returns-in-Ok : goal.returns-in-Ok
returns-in-Ok g c =
    let before : Seen = record {
      left = g.R.Source.left c.streams.inside.source;
      written = g.W.Sink.written c.streams.inside.sink;
      failed_reads = g.R.Source.failures c.streams.inside.source;
      failed_writes = g.W.Sink.failures c.streams.inside.sink;
    } in
    let printed : IsPrinted (string_bytes c.in-Ok.text) before c.print.new.streams c.print.result =
    subst (λ (b : List ℕ). IsPrinted b before c.print.new.streams c.print.result) (c.as_bytes.ensures.value ∙ c.as_str.ensures.value) c.print.ensures in
    inl (
      string_bytes c.in-Ok.text,
      c.in-Ok.ensures.ok,
      subst (λ (seen : Seen). IsPrinted (string_bytes c.in-Ok.text) seen c.print.new.streams c.print.result) c.streams.view_is printed,
    )
