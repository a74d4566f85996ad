-- what was found is kept
use Rattle.std.proofs.Common.{◌∷◌, [], ◌++◌, List, refl, ap, ◌∙◌}
use Rattle.warp_record.specs.declared.record.Record.{Record}
use Rattle.warp_journal.proofs.Pieces.{kept_found, kept_none}
use Rattle.warp_journal.proofs.reading.Lines.go_on.Goals as goal

pub returns-in_default-clause-goes : goal.returns-in_default-clause-goes
returns-in_default-clause-goes c = λ first before given one is.
    kept_none c.args.self.now.form first before c.args.text.now given c.args.records.now.items c.reserve.new.self.items
    c.in_ok-found.found c.args.self.now _ c.in_default.is one is (c.in_ok-found.ensures.journal first before _ is.keeps)
    (c.in_ok-found.ensures.next before is.keeps.sum) c.reserve.ensures.items c.in_ok-kept.ensures c.in_ok-lines.ensures refl
    c.len.ensures

pub returns-clause-goes : goal.returns-clause-goes
returns-clause-goes c = λ first before given one is.
    kept_found c.args.self.now.form first before c.args.text.now given c.args.records.now.items c.push_reserved.new.self.items
    c.in_ok-found.found c.in-Some.record c.args.self.now _ c.in-Some.is one is (c.in_ok-found.ensures.journal first before _ is.keeps)
    (c.in_ok-found.ensures.next before is.keeps.sum)
    (c.push_reserved.ensures.items ∙ ap (λ (it : List Record). it ++ c.in-Some.record ∷ []) c.reserve.ensures.items)
    c.in_ok-kept.ensures c.in_ok-lines.ensures refl
