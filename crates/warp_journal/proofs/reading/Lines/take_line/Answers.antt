-- a line that goes on is kept, the first that does not, and all behind it, are not
use Rattle.std.proofs.Common.{◌≡◌, ◌++◌, List, ℕ, take, Option, IfSome, ap, sym, subst, refl}
use Rattle.std.specs.Prelude.{OnSome}
use Rattle.sha2.specs.Hashers.{Holds256}
use Rattle.warp_record.specs.declared.record.Record.{Record}
use Rattle.warp_journal.specs.declared.journal.Fault.{Fault}
use Rattle.warp_journal.specs.Journal.{IsWrong}
use Rattle.warp_journal.specs.Pieces.{IsWhole, most_held}
use Rattle.warp_journal.specs.declared.reading.Lines.{Lines}
use Rattle.warp_journal.proofs.Whole.{whole_behind, whole_on, whole_wrong}
use Rattle.warp_journal.proofs.reading.Lines.take_line.Goals as goal

pub returns-in-Some-clause-takes : goal.returns-in-Some-clause-takes
returns-in-Some-clause-takes c = λ first before line given one is whole.
    whole_behind first before c.args.text.now line _ c.args.self.now _ c.in-Some.rest c.take.new.self c.in-Some.is refl
    (record { form = refl; journal = refl; kept = refl; lines = refl; summed = refl }) one is c.take.ensures.behind
    c.take.ensures.more c.take.ensures.fault whole

pub returns-in_default-2-clause-takes : goal.returns-in_default-2-clause-takes
returns-in_default-2-clause-takes c = λ first before line given one is whole.
    whole_on first before line _ _ c.args.self.now c.go_on_with.new.self c.in_default.is c.go_on_with.ensures.other.1
    (λ text kept. c.in_ok-fault.ensures.goes c.in_default-2.is first text line given one is kept) whole

pub returns-in-Some-2-clause-takes : goal.returns-in-Some-2-clause-takes
returns-in-Some-2-clause-takes c = λ first before line given one is whole.
    let at = c.args.self.now in
    let new = c.go_on_with.new.self in
    let Same : Type 0 = (new ≡ at) × (c.go_on_with.new.records.items ≡ c.args.records.now.items) in
    let Wrong : Fault → Type 0 = λ why. (before line : List ℕ) → c.args.text.now ≡ take most_held line →
    Holds256 at.journal.sum before → IsWrong at.form at.journal.tells_seconds at.journal.count before line why in
    let same : Same = subst (λ (o : Option Fault). OnSome o Same) c.in-Some-2.is c.in_ok-fault.ensures.same in
    let wrong : Wrong c.in-Some-2.fault = subst (λ (o : Option Fault). IfSome o Wrong) c.in-Some-2.is c.in_ok-fault.ensures.wrong in
    let here : IsWhole first before (given ++ c.go_on_with.new.records.items) at =
    subst (λ (it : List Record). IsWhole first before (given ++ it) at) (sym same.1) whole in
    whole_wrong first before c.args.text.now line (given ++ c.go_on_with.new.records.items) at _ _ c.in_default.is refl
    (record {
      form = ap (λ (l : Lines). l.form) same.0;
      journal = ap (λ (l : Lines). l.journal) same.0;
      kept = ap (λ (l : Lines). l.kept) same.0;
      lines = ap (λ (l : Lines). l.lines) same.0;
      summed = ap (λ (l : Lines). l.summed) same.0;
    }) one is (λ text holds. wrong text line is holds) refl c.is_beyond.ensures here
