-- the name comes in at its place and is counted beyond it
use Rattle.std.proofs.Common.{List, fold, map, ap, sym, subst, ◌∙◌}
use Rattle.warp_tag.specs.Moment.{Moment}
use Rattle.warp_table.specs.inner.Heard.{Heard, with_tag}
use Rattle.warp_table.specs.inner.Tally.{AreKept, announcement_of, beyond, counted, with_name, with_tally}
use Rattle.warp_table.specs.declared.tally.EventOrWithdrawal.TheVariants.{Event}
use Rattle.warp_table.specs.declared.tally.Tally.{Tally}
use Rattle.warp_table.specs.declared.tally.Verdict.{Verdict}
use Rattle.warp_table.proofs.AnnouncedBlocks.{are_judged}
use Rattle.warp_table.proofs.Tallies.{announced-counted, kept_event, room_event}
use Rattle.warp_table.proofs.announcer.Announcer.note_event.Goals as goal

pub count_name-requires-clause-in_order : goal.count_name-requires-clause-in_order
count_name-requires-clause-in_order c = c.self.invariant.in_order

pub count_name-requires-clause-room : goal.count_name-requires-clause-room
count_name-requires-clause-room c =
    let was = c.self.inside in
    room_event was.events was.withdrawn was.doubled was.announced was.verdict c.self.invariant c.in_ok-insert.ensures.room

pub count_name-requires-clause-judged : goal.count_name-requires-clause-judged
count_name-requires-clause-judged c = are_judged c.self.inside.doubled c.self.inside.announced c.self.inside.verdict c.self.invariant.judged

pub invariant_of-self-2 : goal.invariant_of-self-2
invariant_of-self-2 c =
    let was = c.self.inside in
    let old : List Tally = was.announced in
    let tallies : List Tally = counted Event c.args.tag old in
    let verdict : Verdict = fold with_tally was.verdict (map (with_name Event) (beyond c.args.tag old)) in
    subst (λ (ns : List Moment). AreKept ns was.withdrawn was.doubled c.count_name.new.self c.count_name.new.verdict) (sym c.in_ok-insert.ensures.ok)
    (subst (λ (ts : List Tally). AreKept (with_tag c.args.tag was.events) was.withdrawn was.doubled ts c.count_name.new.verdict) (sym c.count_name.ensures.tallies)
    (subst (λ (v : Verdict). AreKept (with_tag c.args.tag was.events) was.withdrawn was.doubled tallies v) (sym c.count_name.ensures.judged)
    (kept_event c.args.tag was.events was.withdrawn was.doubled old was.verdict c.self.invariant)))

pub returns-clause-ok : goal.returns-clause-ok
returns-clause-ok c =
    let was = c.self.inside in
    let told = ap (map announcement_of) c.count_name.ensures.tallies ∙ announced-counted Event c.args.tag was.announced in
    (λ i. record { events = c.in_ok-insert.ensures.ok i; withdrawn = was.withdrawn; doubled = was.doubled; announced = told i })
    ∙ ap (λ (h : Heard). record h { events = with_tag c.args.tag h.events }) c.self.view_is
