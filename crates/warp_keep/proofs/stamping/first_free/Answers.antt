use Rattle.std.proofs.Common.{◌≡◌, refl, ◌∙◌, arith}
use Rattle.std.proofs.lemmas.Bool.{false≢true}
use Rattle.warp_table.specs.Records.{set_of}
use Rattle.warp_keep.proofs.FirstFree.{found_free, one_more_taken}
use Rattle.warp_keep.proofs.stamping.first_free.Goals as goal

pub returns-then-is_free : goal.returns-then-is_free
returns-then-is_free g c =
    found_free c.args.room (set_of c.args.replica.now.records) c.args.origin c.args.from c.time-time.result c.loop-micro.micro c.tag_at-tag.result
    c.tag_at-tag.ensures c.time-time.ensures.value (omega (arith, c.loop-micro.auto.micro, c.micro-micro.ensures.value)) c.loop-micro-test.true
    (c.if-is_free.ensures.0 refl) c.loop-micro.invariant

pub loop-micro-preserved : goal.loop-micro-preserved
loop-micro-preserved g c =
    let at : c.tag_at-tag.result ≡ record { time = c.args.from.time; microstep = c.loop-micro.micro } = (c.tag_at-tag.ensures ∙ (λ i. record { time = c.time-time.ensures.value i; microstep = c.loop-micro.micro })) in
    one_more_taken (set_of c.args.replica.now.records) c.args.origin c.args.from.time c.args.from.microstep c.loop-micro.micro c.tag_at-tag.result
    at (λ free. false≢true (c.if-is_free.ensures.1 free)) c.loop-micro.invariant
