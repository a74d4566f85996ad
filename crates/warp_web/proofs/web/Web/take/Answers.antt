use Rattle.std.proofs.Common.{◌≡◌, ℕ, List, length, drop, ap, sym, subst, ◌∙◌, arith}
use Rattle.warp_web.specs.Frames.{IsShort}
use Rattle.warp_web.specs.Web.{talk_of}
use Rattle.warp_web.proofs.TakenFrames.{broken_takes, whole_takes, written_over}
use Rattle.warp_web.proofs.WebLemmas.{speaks_broken, speaks_whole, without_input}
use Rattle.warp_web.proofs.web.Web.take.Goals as goal

pub returns-in-Whole-clause-speaks : goal.returns-in-Whole-clause-speaks
returns-in-Whole-clause-speaks c = λ p was s.
    let old = talk_of c.args.self.now in
    let new = talk_of c.take_frame.new.self in
    let bytes = c.take_frame.new.bytes in
    let items = c.take-input.result.items in
    let long : length bytes ≡ length items = omega (arith, c.take_frame.auto.bytes, ap (λ (l : List ℕ). length l) c.as_mut_slice.ensures.value) in
    let input = c.in_ok-replace.ensures.ok ∙ written_over bytes (drop (length bytes) items) (length items) long in
    let d = whole_takes c.in_ok-taken.taken c.in-Whole.used c.as_mut_slice.result.now old.input bytes (record old { input = c.take-input.new.self.bytes.items })
    (without_input old) new c.in-Whole.is (c.as_mut_slice.ensures.value ∙ c.take-input.ensures.given)
    (ap (λ (l : List ℕ). record old { input = l }) c.take-input.ensures.left) (c.in_ok-taken.ensures.takes s.server) in
    speaks_whole p old new c.in-Whole.used bytes c.advance.new.self.bytes.items was d
    (c.advance.ensures ∙ ap (λ (l : List ℕ). drop c.in-Whole.used l) input) s

pub returns-in-Broken-clause-speaks : goal.returns-in-Broken-clause-speaks
returns-in-Broken-clause-speaks c = λ p was s.
    let old = talk_of c.args.self.now in
    let new = talk_of c.take_frame.new.self in
    let b = broken_takes c.in_ok-taken.taken c.as_mut_slice.result.now c.take_frame.new.bytes (record old { input = c.take-input.new.self.bytes.items })
    (without_input old) new c.in-Broken.is
    (ap (λ (l : List ℕ). record old { input = l }) c.take-input.ensures.left) (c.in_ok-taken.ensures.takes s.server) in
    speaks_broken p old new c.replace.new.self.bytes.items b.closing b.does b.role s

pub returns-in-Short-clause-short : goal.returns-in-Short-clause-short
returns-in-Short-clause-short c = λ none.
    let bytes = c.take_frame.new.bytes in
    let items = c.take-input.result.items in
    let long : length bytes ≡ length items = omega (arith, c.take_frame.auto.bytes, ap (λ (l : List ℕ). length l) c.as_mut_slice.ensures.value) in
    let input = c.in_ok-replace.ensures.ok ∙ written_over bytes (drop (length bytes) items) (length items) long in
    subst (IsShort c.take_frame.new.self.context) (sym input) (c.in_ok-taken.ensures.short c.in-Short.is)
