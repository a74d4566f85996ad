use Rattle.std.proofs.Common.{◌&&◌, map, ap, sym, ◌∙◌}
use Rattle.serde_json.specs.View.{members_view}
use Rattle.warp_prog.specs.Json.{is_one_of, are_keys}
use Rattle.warp_prog.proofs.shape.json.are_keys.Goals as goal

pub loop-key-preserved : goal.loop-key-preserved
loop-key-preserved c =
    let known = ap (is_one_of (map (λ k. k.now) c.args.keys.now)) (sym c.as_str.ensures.value) ∙ sym c.is_one_of.ensures ∙ c.if-not-is_one_of.false in
    sym (ap (λ left. are_keys (map (λ k. k.now) c.args.keys.now) (members_view left)) c.in-Some.ensures.steps
    ∙ ap (λ b. b && are_keys (map (λ k. k.now) c.args.keys.now) (members_view c.next.new.self)) known)
    ∙ c.loop-key.invariant

pub returns : goal.returns
returns c = ap (λ left. are_keys (map (λ k. k.now) c.args.keys.now) (members_view left)) (sym c.in-None.ensures.steps.0) ∙ c.loop-key.invariant
