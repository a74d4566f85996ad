-- where there is no such variable nothing is added
use Rattle.std.proofs.Common.{[], ◌∙◌, ◌++◌, ap, sym}
use Rattle.std.specs.Option.{option_map_or}
use Rattle.std.proofs.lemmas.List.{append-nil}
use Rattle.std.proofs.lemmas.Option.{slice_get_past}
use Rattle.warp_trace.specs.Trace.{changed_of}
use Rattle.warp_trace.proofs.item.add_changed_at.Goals as goal

pub returns-in-None : goal.returns-in-None
returns-in-None c =
    let items = c.args.items.now.items in
    let none = slice_get_past c.args.after.now c.args.number c.in-None.ensures.lookup.3 in
    sym (ap (λ o. items ++ option_map_or (λ value. changed_of c.args.before.now c.args.number value) o []) none ∙ append-nil items)
