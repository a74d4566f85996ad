-- the announcement comes in at its place, with its counts, and is judged
use Rattle.std.proofs.Common.{◌≡◌, ◌||◌, List, Contains, map, refl, sym, subst, ◌∙◌}
use Rattle.std.specs.Prelude.{◌⊎◌, ◌↔◌}
use Rattle.std.specs.List.{insert}
use Rattle.warp_tag.specs.Moment.{Moment}
use Rattle.warp_table.specs.inner.Heard.{Announced, Heard}
use Rattle.warp_table.specs.inner.Tally.{AreKept, Counts, announcement_of, place_of}
use Rattle.warp_table.specs.declared.tally.Tally.{Tally}
use Rattle.warp_table.specs.declared.tally.Verdict.{Verdict}
use Rattle.warp_table.proofs.Tallies.{announced-insert, kept_announcement}
use Rattle.warp_table.proofs.announcer.Announcer.note_announcement.Goals as goal

-- the announcement, counted
tally : goal.After-self-1 → Tally
tally c = record { tag = c.args.tag; events = c.args.events; withdrawn = c.args.withdrawn; events_before = c.in_ok-events_before.events_before; withdrawn_before = c.in_ok-withdrawn_before.withdrawn_before }

pub invariant_of-self-2 : goal.invariant_of-self-2
unfolding tally
invariant_of-self-2 c =
    let was = c.self.inside in
    let names : List Moment = was.events in
    let gone : List Moment = was.withdrawn in
    let counts : Counts names gone (tally c) = record {
      events = c.in_ok-events_before.ensures.count;
      withdrawn = c.in_ok-withdrawn_before.ensures.count;
    } in
    let judged = c.broken_where-self-inside.ensures
    ∙ (λ i. record { reached = (c.with.ensures i).reached; is_broken = (c.with.ensures i).is_broken || c.has_doubled-has_doubled.ensures i }) in
    subst (λ (ns : List Moment). AreKept ns c.count_before-2.new.self was.doubled c.insert.new.self c.broken_where-self-inside.result) (sym c.count_before.ensures.same)
    (subst (λ (ns : List Moment). AreKept names ns was.doubled c.insert.new.self c.broken_where-self-inside.result) (sym c.count_before-2.ensures.same)
    (subst (λ (ts : List Tally). AreKept names gone was.doubled ts c.broken_where-self-inside.result) (sym c.in_ok-insert.ensures.ok)
    (subst (λ (v : Verdict). AreKept names gone was.doubled (insert was.announced (place_of c.args.tag was.announced) (tally c)) v) (sym judged)
    (kept_announcement (tally c) (place_of c.args.tag was.announced) names gone was.doubled was.announced was.verdict c.self.invariant refl counts))))

pub returns-clause-announced : goal.returns-clause-announced
unfolding tally
returns-clause-announced c = λ a.
    let told = announced-insert (tally c) (place_of c.args.tag c.self.inside.announced) c.self.inside.announced a in
    let A : Announced = record { tag = c.args.tag; events = c.args.events; withdrawn = c.args.withdrawn } in
    subst (λ (h : Heard). Contains (map announcement_of c.insert.new.self) a ↔ (Contains h.announced a ⊎ (a ≡ A))) c.self.view_is
    (subst (λ (ts : List Tally). Contains (map announcement_of ts) a ↔ (Contains (map announcement_of c.self.inside.announced) a ⊎ (a ≡ A))) (sym c.in_ok-insert.ensures.ok) told)
