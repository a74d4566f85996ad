-- the run goes on from one checkpoint to the next
use Rattle.std.proofs.Common.{◌≡◌, ◌++◌, ap, sym, subst, ◌∙◌, refl, arith}
use Rattle.warp_tag.proofs.Lists.{same_some}
use Rattle.warp_run.specs.Aside.{Leads, SetAside, outputs_between}
use Rattle.warp_run.specs.History.{newest}
use Rattle.warp_run.specs.declared.tip.Tip.{Tip}
use Rattle.warp_run.specs.declared.history.Done.{Done}
use Rattle.warp_run.proofs.RowsRejoined.{begins_with, goes_none, jumps, leads_next, without_earliest}
use Rattle.warp_run.proofs.tip.Tip.jump.Goals as goal

pub returns-in_err-save_for-clause-on : goal.returns-in_err-save_for-clause-on
returns-in_err-save_for-clause-on c = record {
  floor = ap (λ (f : Tip). f.floor) c.save_for.ensures.others;
  rows = λ P E done at.
      goes_none P E c.save_for.new.self c.save_for.new.self done refl refl refl refl
      (c.save_for.ensures.kept P E done (without_earliest P E c.args.self.now done at c.let_go_earliest.new.self c.let_go_earliest.ensures));
}

pub returns-in_err-reserve_outputs-clause-on : goal.returns-in_err-reserve_outputs-clause-on
returns-in_err-reserve_outputs-clause-on c = record {
  floor = ap (λ (f : Tip). f.floor) c.save_for.ensures.others;
  rows = λ P E done at.
      goes_none P E c.save_for.new.self _ done refl c.reserve_outputs.ensures.items refl c.reserve_outputs.ensures.aside
      (c.save_for.ensures.kept P E done (without_earliest P E c.args.self.now done at c.let_go_earliest.new.self c.let_go_earliest.ensures));
}

pub returns-in_err-append_outputs-clause-on : goal.returns-in_err-append_outputs-clause-on
returns-in_err-append_outputs-clause-on c = record {
  floor = ap (λ (f : Tip). f.floor) c.save_for.ensures.others;
  rows = λ P E done at.
      goes_none P E c.save_for.new.self _ done refl (c.in_err-append_outputs.ensures.err ∙ c.reserve_outputs.ensures.items) refl c.reserve_outputs.ensures.aside
      (c.save_for.ensures.kept P E done (without_earliest P E c.args.self.now done at c.let_go_earliest.new.self c.let_go_earliest.ensures));
}

pub returns-clause-on : goal.returns-clause-on
returns-clause-on c = record {
  floor = ap (λ (f : Tip). f.floor) c.save_for.ensures.others;
  rows = λ P E done at.
      let m = c.requires.met in
      let x = c.save_for.new.self in
      let others = c.save_for.ensures.others in
      let n = begins_with c.let_go_earliest.new.self.history.saves c.in-Some-earliest.next c.in-Some-earliest.ensures in
      let here_is : m.earliest.done ≡ c.in-Some.here = same_some m.earliest.done c.in-Some.here (ap newest (sym m.aside) ∙ sym c.in-Some.ensures) in
      let next_is : n.0.done ≡ c.in-Some-earliest.next = n.3 in
      let here_rows = ap (λ (z : Done). z.rows) here_is in
      let next_rows = ap (λ (z : Done). z.rows) next_is in
      let left = ap (λ (a : SetAside). a.history.saves) c.let_go_earliest.ensures in
      let leads = leads_next P E c.args.self.now.aside.first c.args.self.now.aside.outputs c.args.self.now.aside.history.saves m.earliest n.0 m.others n.1
      at.aside m.aside (sym left ∙ n.2) in
      let on : Leads P E c.let_go_earliest.new.self.first c.let_go_earliest.new.self.outputs m.earliest n.0 =
      subst (λ (a : SetAside). Leads P E a.first a.outputs m.earliest n.0) (sym c.let_go_earliest.ensures) leads.0 in
      let aside = c.save_for.ensures.aside in
      let room_aside = c.reserve_outputs.ensures.aside in
      let room = c.in_ok-save_for.ensures.room in
      jumps P E x _ done m.earliest n.0
      (record {
        last = ap (λ (f : Tip). f.last) others ∙ m.last;
        state = ap (λ (f : Tip). f.state) others ∙ m.state;
        room = omega arith;
        new_rows = omega arith;
        new_last = sym (ap (λ (z : Done). z.last) next_is);
        new_state = c.restore.ensures n.0 n.1 (ap (λ (a : SetAside). a.history.saves) room_aside ∙ ap (λ (a : SetAside). a.history.saves) aside ∙ n.2);
        new_outputs = c.in_ok-append_outputs.ensures.ok
            ∙ (λ i. c.reserve_outputs.ensures.items i ++ outputs_between (room_aside i).first (room_aside i).outputs c.in-Some.here.outputs c.in-Some-earliest.next.outputs)
            ∙ (λ i. x.outputs.items ++ outputs_between x.aside.first x.aside.outputs (sym here_is i).outputs (sym next_is i).outputs);
        new_aside = room_aside;
        due = refl;
        history = refl;
        base = refl;
        floor = refl;
        scratch = refl;
      })
      (subst (λ (a : SetAside). Leads P E a.first a.outputs m.earliest n.0) (sym aside) on) leads.1
      (c.save_for.ensures.kept P E done (without_earliest P E c.args.self.now done at c.let_go_earliest.new.self c.let_go_earliest.ensures));
}
