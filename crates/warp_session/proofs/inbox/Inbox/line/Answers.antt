use Rattle.std.proofs.Common.{◌≡◌, ℕ, ◌+◌, ◌-◌, ◌≤◌, List, drop, take, length, length-take, min, ap, sym, ◌∙◌, drop-drop, arith}
use Rattle.std.proofs.lemmas.List.{drop-take}
use Rattle.warp_record.specs.Lines.{first_end}
use Rattle.warp_session.specs.inner.Inbox.{InboxState}
use Rattle.warp_session.proofs.WentLemmas.{CutsMore-pushed}
use Rattle.warp_session.proofs.inbox.Inbox.line.Goals as goal

-- what is behind some more of the bytes that came
rest_of : (bytes : List ℕ) (start count end : ℕ) → start + count ≤ end
    → take (end - (start + count)) (drop (start + count) bytes) ≡ drop count (take (end - start) (drop start bytes))
rest_of bytes start count end within =
    let left = end - (start + count) in
    ap (take left) (sym (drop-drop count start bytes)) ∙ sym (drop-take count left (drop start bytes))
    ∙ ap (λ (n : ℕ). drop count (take n (drop start bytes))) {x = count + left} {y = end - start} (omega arith)

-- no more is taken than came
within_end : (bytes : List ℕ) (start count end : ℕ) → start ≤ end → count ≡ min (first_end (take (end - start) (drop start bytes)) + 1) (length (take (end - start) (drop start bytes))) → start + count ≤ end
within_end bytes start count end order is = omega (arith, length-take (end - start) (drop start bytes))

pub returns-clause-came : goal.returns-clause-came
returns-clause-came c =
    let i = c.self.inside in
    let came = take (i.end - i.start) (drop i.start i.buffer.items) in
    let view = ap (λ (s : InboxState). s.came) c.self.view_is in
    let count : c.push-count.result.0 ≡ min (first_end came + 1) (length came) = rw (← c.deref.ensures.value) c.push-count.ensures.taken in
    rest_of i.buffer.items i.start c.push-count.result.0 i.end (within_end i.buffer.items i.start c.push-count.result.0 i.end c.self.invariant.0 count)
    ∙ ap (λ (n : ℕ). drop n came) count
    ∙ ap (λ (l : List ℕ). drop (min (first_end l + 1) (length l)) l) view

pub returns-clause-cuts : goal.returns-clause-cuts
returns-clause-cuts c =
    let i = c.self.inside in
    let push = c.push-count in
    let came = take (i.end - i.start) (drop i.start i.buffer.items) in
    let count : push.result.0 ≡ min (first_end came + 1) (length came) = rw (← c.deref.ensures.value) push.ensures.taken in
    let rest = rest_of i.buffer.items i.start push.result.0 i.end (within_end i.buffer.items i.start push.result.0 i.end c.self.invariant.0 count) in
    rw (← c.self.view_is)
    (CutsMore-pushed (record { kept = i.feed; came = came }) _ push.result.1 (rest ∙ ap (λ (n : ℕ). drop n came) count)
    (rw (← c.deref.ensures.value) push.ensures.given) (rw (← c.deref.ensures.value) push.ensures.line) push.ensures.fresh
    (rw (← c.deref.ensures.value) push.ensures.kept))
