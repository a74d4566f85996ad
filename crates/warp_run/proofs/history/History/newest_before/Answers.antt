-- the point where the marks part is found by halving
use Rattle.std.proofs.Common.{rules, ◌≡◌, ◌≤◌, true, false, List, [], ap, sym, arith, length, take, subst, None}
use Rattle.std.specs.List.Sorted.{IsPartitionedBy, IsPartitionPoint}
use Rattle.std.proofs.lemmas.List.Sorted.{IsPartitionPoint-from_clause}
use Rattle.warp_step.specs.Run.{is_after}
use Rattle.warp_run.specs.History.{ArePartedBy, Saves}
use Rattle.warp_run.specs.declared.history.Mark.{Mark}
use Rattle.warp_run.proofs.Marks.{length-saves_of}
use Rattle.warp_run.proofs.MarksParted.{marks_parted, newest_there, none_there}
use Rattle.warp_run.proofs.history.History.newest_before.Goals as goal

pub returns-then-count-eq0-clause-none : goal.returns-then-count-eq0-clause-none
returns-then-count-eq0-clause-none c = λ none parted.
    let h = c.self.inside in
    let tag = c.args.tag in
    let values = h.values.values in
    let entries = take h.entries_used h.entries.items in
    let count = c.partition_point-count in
    let same = ap (λ (s : Saves). s.saves) c.self.view_is in
    let before = marks_parted tag h.values.width [] h.marks.items values entries (subst (ArePartedBy tag) (sym same) parted) in
    let marks = c.deref.ensures.value in
    let point = subst (λ (ms : List Mark). IsPartitionPoint (λ m. is_after m.done.last tag ≡ true) (λ m. is_after m.done.last tag ≡ false) ms count.result)
    marks
    (IsPartitionPoint-from_clause (λ (m : Mark). is_after m.done.last tag) _ _ count.ensures.partitioned
    (subst (IsPartitionedBy (λ (m : Mark). is_after m.done.last tag)) (sym marks) before) (λ a b f k. search rules)) in
    none_there h.values.width h.marks.items values entries tag c.args.self.now.saves same count.result
    (subst (λ (ms : List Mark). count.result ≤ length ms) marks count.ensures.bound)
    (record { done = record { rows = 0; outputs = 0; last = None }; pending = 0; lost = 0 }) point (omega (arith, c.if-count-eq0.true))

pub returns-clause-within : goal.returns-clause-within
returns-clause-within c =
    let h = c.self.inside in
    let lengths = length-saves_of h.values.width [] h.marks.items h.values.values (take h.entries_used h.entries.items) in
    let all = ap (λ (s : Saves). length s.saves) c.self.view_is in
    let few = subst (λ (ms : List Mark). c.partition_point-count.result ≤ length ms) c.deref.ensures.value c.partition_point-count.ensures.bound in
    omega arith

pub returns-clause-some : goal.returns-clause-some
returns-clause-some c = λ parted.
    let h = c.self.inside in
    let tag = c.args.tag in
    let values = h.values.values in
    let entries = take h.entries_used h.entries.items in
    let count = c.partition_point-count in
    let same = ap (λ (s : Saves). s.saves) c.self.view_is in
    let before = marks_parted tag h.values.width [] h.marks.items values entries (subst (ArePartedBy tag) (sym same) parted) in
    let marks = c.deref.ensures.value in
    let point = subst (λ (ms : List Mark). IsPartitionPoint (λ m. is_after m.done.last tag ≡ true) (λ m. is_after m.done.last tag ≡ false) ms count.result)
    marks
    (IsPartitionPoint-from_clause (λ (m : Mark). is_after m.done.last tag) _ _ count.ensures.partitioned
    (subst (IsPartitionedBy (λ (m : Mark). is_after m.done.last tag)) (sym marks) before) (λ a b f k. search rules)) in
    let found = newest_there h.values.width h.marks.items values entries tag c.args.self.now.saves same count.result
    (subst (λ (ms : List Mark). count.result ≤ length ms) marks count.ensures.bound) c.index.result.now point c.index.result.now
    (omega (arith, c.if-count-eq0.false)) c.index.ensures in
    (found.1, found.2)
