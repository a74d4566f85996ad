-- what the announcer of the origin counts
use Rattle.std.proofs.Common.{◌≤◌, length, ap, sym, ◌∙◌, rules}
use Rattle.std.proofs.lemmas.List.{get_or_past}
use Rattle.warp_table.specs.inner.Heard.{Heard, nothing_heard}
use Rattle.warp_table.proofs.noting.events_of.Goals as goal

pub returns-in-Some : goal.returns-in-Some
returns-in-Some c = c.event_count.ensures ∙ ap (λ (h : Heard). length h.events) (c.in-Some.ensures.lookup.3.1 nothing_heard)

pub returns-in-None : goal.returns-in-None
returns-in-None c =
    let past : length c.args.announcers.now ≤ c.args.origin = search rules in
    ap (λ (h : Heard). length h.events) (sym (get_or_past c.args.announcers.now c.args.origin nothing_heard past))
