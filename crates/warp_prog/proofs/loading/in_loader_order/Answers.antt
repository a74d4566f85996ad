use Rattle.std.proofs.Common.{◌≡◌, length, true, false, nat_lt, refl, ◌∙◌, arith}
use Rattle.std.proofs.lemmas.Bool.{lt-ltb, le-ltb}
use Rattle.std.proofs.lemmas.List.{length-map}
use Rattle.warp_step.specs.Program.{rule_of}
use Rattle.warp_step.specs.View.{program_of}
use Rattle.warp_prog.specs.View.{file_tree}
use Rattle.warp_prog.proofs.CauseLemmas.{few_parts, later_version-is, second_lacks, order_first}
use Rattle.warp_prog.proofs.loading.in_loader_order.Goals as goal

pub loader_order-requires : goal.loader_order-requires
loader_order-requires c =
    let few = few_parts (file_tree c.args.file.now) (program_of c.in-Ok.parts) c.in-Ok.ensures c.requires.named.limits in
    let size = length-map c.in-Ok.parts.reactions.items rule_of in
    omega (arith, few, size)

pub returns-then-len-clause-err : goal.returns-then-len-clause-err
returns-then-len-clause-err c =
    let f = file_tree c.args.file.now in
    let P = program_of c.in-Ok.parts in
    let o = c.in-Ok-loader_order.order in
    let size = length-map c.in-Ok.parts.reactions.items rule_of in
    let short : nat_lt (length o.items) (length P.reactions) ≡ true =
    lt-ltb (length o.items) (length P.reactions)
    (omega (arith, c.if-len.true, c.len.ensures, c.len-2.ensures, o.ok.0, c.in-Ok.parts.reactions.ok.0, size)) in
    let lacks = second_lacks f P o.items (length P.reactions) c.in-Ok.ensures c.requires.version c.in-Ok-loader_order.ensures refl ∙ short in
    (order_first f c.requires.named lacks, later_version-is f c.requires.named.limits c.requires.version)

pub returns-clause-order : goal.returns-clause-order
returns-clause-order c =
    let f = file_tree c.args.file.now in
    let P = program_of c.in-Ok.parts in
    let o = c.in-Ok-loader_order.order in
    let size = length-map c.in-Ok.parts.reactions.items rule_of in
    let whole : nat_lt (length o.items) (length P.reactions) ≡ false =
    le-ltb (length o.items) (length P.reactions)
    (omega (arith, c.if-len.false, c.len.ensures, c.len-2.ensures, o.ok.0, c.in-Ok.parts.reactions.ok.0, size)) in
    second_lacks f P o.items (length P.reactions) c.in-Ok.ensures c.requires.version c.in-Ok-loader_order.ensures refl ∙ whole
