-- mark by mark one more is cut off, and what is left moves to the front
use Rattle.std.proofs.Common.{◌≡◌, ◌≤◌, ◌*◌, ℕ, ◌+◌, ◌-◌, length, take, drop, Some, ap, sym, subst, ◌∙◌, refl, arith, []}
use Rattle.std.specs.Prelude.{slice_get}
use Rattle.std.proofs.lemmas.List.{take_all}
use Rattle.std.proofs.lemmas.Option.{slice_get_read}
use Rattle.warp_run.specs.History.{Saves, saves_of}
use Rattle.warp_run.specs.Stack.{Stacked}
use Rattle.warp_run.proofs.Marks.{length-saves_of}
use Rattle.warp_run.proofs.MarksCut.{IsCutOff, cut_more, cut_none, cut_off}
use Rattle.warp_run.proofs.history.History.drop_oldest.Goals as goal

pub loop-at-init : goal.loop-at-init
loop-at-init c =
    let h = c.self.inside in
    let count = length-saves_of h.values.width [] h.marks.items h.values.values (take h.entries_used h.entries.items) in
    let all = ap (λ (s : Saves). length s.saves) c.self.view_is in
    let few = c.requires in
    let none : 0 ≡ 0 * h.values.width = omega arith in
    record {
      most = omega arith;
      within = omega arith;
      cut = subst (λ (v : ℕ). IsCutOff h.values.width h.marks.items h.values.values (take h.entries_used h.entries.items) 0 v 0) none
          (cut_none h.values.width h.marks.items h.values.values (take h.entries_used h.entries.items) c.self.invariant.1);
    }

pub loop-at-preserved : goal.loop-at-preserved
loop-at-preserved c =
    let h = c.self.inside in
    let i = c.loop-at.invariant in
    let here = c.loop-at-test.true in
    let within = i.within in
    let there : slice_get h.marks.items c.loop-at.at ≡ Some c.index.result.now =
    slice_get_read h.marks.items (length h.marks.items) c.loop-at.at c.index.result.now refl (omega arith) c.index.ensures in
    let more : c.loop-at.at * h.values.width + h.values.width ≡ (c.loop-at.at + 1) * h.values.width = omega arith in
    record {
      most = omega arith;
      within = i.within;
      cut = subst (λ (v : ℕ). IsCutOff h.values.width h.marks.items h.values.values (take h.entries_used h.entries.items) (c.loop-at.at + 1) v
          (c.loop-at.entries + c.index.result.now.pending)) more
          (cut_more h.values.width h.marks.items h.values.values (take h.entries_used h.entries.items) c.loop-at.at (c.loop-at.at * h.values.width)
          c.loop-at.entries c.index.result.now there i.cut);
    }

pub drop_front-requires : goal.drop_front-requires
drop_front-requires c =
    let h = c.self.inside in
    let i = c.loop-at.invariant in
    let most = i.most in
    let over = c.loop-at-test.false in
    let all : c.loop-at.at ≡ c.args.count = omega arith in
    subst (λ (k : ℕ). k * h.values.width ≤ length h.values.values) all i.cut.values_within

pub returns : goal.returns
returns c =
    let h = c.self.inside in
    let i = c.loop-at.invariant in
    let most = i.most in
    let over = c.loop-at-test.false in
    let all : c.loop-at.at ≡ c.args.count = omega arith in
    let len = c.len-marks.ensures in
    let marks_len = h.marks.ok.0 in
    let marks : c.truncate.new.self.items ≡ drop c.args.count h.marks.items =
    c.truncate.ensures.items ∙ c.move_front-2.ensures.items ∙ ap (drop c.args.count) (take_all c.len-marks.result h.marks.items (omega arith)) in
    let left = cut_off h.values.width h.marks.items c.truncate.new.self.items h.values.values (drop (c.args.count * h.values.width) h.values.values)
    (take h.entries_used h.entries.items) (take (h.entries_used - c.loop-at.entries) c.move_front.new.list.items) c.args.count
    (c.args.count * h.values.width) c.loop-at.entries
    (subst (λ (k : ℕ). IsCutOff h.values.width h.marks.items h.values.values (take h.entries_used h.entries.items) k (k * h.values.width) c.loop-at.entries) all i.cut)
    marks refl c.move_front.ensures.items in
    λ i. record {
      width = (ap (λ (s : Stacked). s.width) c.drop_front.ensures ∙ ap (λ (s : Saves). s.width) c.self.view_is) i;
      saves = ((λ j. saves_of (c.drop_front.ensures j).width [] c.truncate.new.self.items (c.drop_front.ensures j).values
          (take (h.entries_used - c.loop-at.entries) c.move_front.new.list.items))
          ∙ left.saves ∙ ap (λ (s : Saves). take (length s.saves - c.args.count) s.saves) c.self.view_is) i;
      room = record {
        marks = (c.truncate.ensures.capacity ∙ c.move_front-2.ensures.capacity ∙ ap (λ (s : Saves). s.room.marks) c.self.view_is) i;
        values = (ap (λ (s : Stacked). s.room) c.drop_front.ensures ∙ ap (λ (s : Saves). s.room.values) c.self.view_is) i;
        entries = (sym c.move_front.new.list.ok.0 ∙ c.move_front.ensures.len ∙ h.entries.ok.0 ∙ ap (λ (s : Saves). s.room.entries) c.self.view_is) i;
      };
      free = c.drop_front.new.self.free;
    }
