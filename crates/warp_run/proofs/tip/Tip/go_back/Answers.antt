use Rattle.std.proofs.Common.{◌≡◌, ◌⊎◌, List, [], refl, sym, subst, ◌∙◌, ap, rules}
use Rattle.warp_tag.specs.declared.out.Out.{Out}
use Rattle.warp_run.specs.Aside.{KeepsFrom, set_aside}
use Rattle.warp_run.specs.History.{Saves, newest}
use Rattle.warp_run.proofs.RowsBack.{always_left, goes_back}
use Rattle.warp_run.proofs.tip.Tip.go_back.Goals as goal

pub returns-in-Some-clause-back : goal.returns-in-Some-clause-back
returns-in-Some-clause-back c = λ P E done at.
    goes_back P E c.args.tag c.args.self.now _ c.in-Some.done done
    (record {
      history = c.take_from.ensures.left;
      aside_width = c.take_from.ensures.width;
      aside = subst
          (λ (os : List Out). (c.take_from.new.self.history.saves ≡ []) ⊎ KeepsFrom (set_aside c.args.tag c.args.self.now.history.saves []) os c.take_from.new.self)
          c.deref.ensures.value c.take_from.ensures.aside;
      newest = sym c.in-Some.ensures;
      state = c.restore.ensures;
      outputs = c.truncate.ensures.items;
      rows = refl;
      last = refl;
      due = search rules;
      scratch = refl;
      base = refl;
      floor = refl;
    })
    at c.requires.late c.requires.ahead

pub returns-in_default-clause-back : goal.returns-in_default-clause-back
returns-in_default-clause-back c = λ P E done at.
    absurd (always_left P E c.args.tag c.args.self.now done at c.requires.late c.requires.ahead
    (ap (λ (h : Saves). newest h.saves) (sym c.take_from.ensures.left) ∙ sym c.in_default.ensures))
