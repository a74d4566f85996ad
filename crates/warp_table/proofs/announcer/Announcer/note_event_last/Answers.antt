-- behind all announcements a name is counted in none
use Rattle.std.proofs.Common.{List, fold, map, ap, sym, subst, inl, inr, ◌∙◌}
use Rattle.std.proofs.lemmas.Bool.{cases_Bool}
use Rattle.warp_tag.specs.Moment.{Moment}
use Rattle.warp_table.specs.inner.Heard.{Heard, with_tag}
use Rattle.warp_table.specs.inner.Tally.{AreKept, announcement_of, counted, with_name, with_tally}
use Rattle.warp_table.specs.declared.tally.EventOrWithdrawal.TheVariants.{Event}
use Rattle.warp_table.specs.declared.tally.Tally.{Tally}
use Rattle.warp_table.specs.declared.tally.Verdict.{Verdict}
use Rattle.warp_table.proofs.AnnouncedBlocks.{beyond_none, counted_none}
use Rattle.warp_table.proofs.Tallies.{kept_event}
use Rattle.warp_table.proofs.announcer.Announcer.note_event_last.Goals as goal

pub are_behind-requires : goal.are_behind-requires
are_behind-requires c = c.self.invariant.in_order

pub invariant_of-self : goal.invariant_of-self
invariant_of-self c =
    let was = c.self.inside in
    let tag = c.args.tag in
    let old : List Tally = was.announced in
    let none = c.are_behind.ensures c.if-not-are_behind.false in
    elim (cases_Bool c.insert_last.result) [
      | inl h ↦ subst (λ (ns : List Moment). AreKept ns was.withdrawn was.doubled old was.verdict) (sym (c.insert_last.ensures.came h))
          (subst (λ (ts : List Tally). AreKept (with_tag tag was.events) was.withdrawn was.doubled ts was.verdict) (counted_none Event tag old none)
          (subst (λ (v : Verdict). AreKept (with_tag tag was.events) was.withdrawn was.doubled (counted Event tag old) v)
          (ap (λ (ts : List Tally). fold with_tally was.verdict (map (with_name Event) ts)) (beyond_none tag old none))
          (kept_event tag was.events was.withdrawn was.doubled old was.verdict c.self.invariant)))
      | inr h ↦ subst (λ (ns : List Moment). AreKept ns was.withdrawn was.doubled old was.verdict) (sym (c.insert_last.ensures.other h)) c.self.invariant
    ]

pub returns-clause-came : goal.returns-clause-came
returns-clause-came c = λ h.
    let was = c.self.inside in
    (λ i. record { events = c.insert_last.ensures.came h i; withdrawn = was.withdrawn; doubled = was.doubled; announced = map announcement_of was.announced })
    ∙ ap (λ (o : Heard). record o { events = with_tag c.args.tag o.events }) c.self.view_is

pub returns-clause-other : goal.returns-clause-other
returns-clause-other c = λ h.
    let was = c.self.inside in
    (λ i. record { events = c.insert_last.ensures.other h i; withdrawn = was.withdrawn; doubled = was.doubled; announced = map announcement_of was.announced })
    ∙ c.self.view_is
