-- What passed over a connection that speaks HTTP.
use Rattle.std.proofs.Common.{◌≡◌, ℕ, zero, suc, ◌+◌, ◌-◌, ◌≤◌, Bool, true, false, true≢false, List, [], ◌∷◌, ◌++◌, length, take, drop, Result, Ok, Err, IfOk, OnOk, if◌then◌else◌, refl, sym, ap, ◌∙◌, append_assoc, append-nil, arith}
use Rattle.std.proofs.lemmas.List.{drop-drop}
use Rattle.std.proofs.Math.Nat.{suc-add, zero-add}
use Rattle.std.proofs.Math.Seq.{drop-nil, take-nil}
use Rattle.http_server.specs.declared.state.Config.{Config}
use Rattle.http_server.specs.History.{History, IsQuiet, Rests, after_read, after_sent}
use Rattle.warp_web.specs.declared.gone.Gone.{Gone}
use Rattle.warp_web.specs.declared.requests.Http.{Http}
use Rattle.warp_web.specs.Http.{Converses, Receives, config_in, history_in, news_in}
use Rattle.warp_web.specs.Lines.{Passed}

ended_now : (b : Bool) → (if b then b else true) ≡ true
ended_now true = refl
ended_now false = refl

-- a read of nothing is the end
pub end_read : (old new : History) (more : List ℕ) → length more ≡ 0 → new ≡ after_read old more → new ≡ record old { ended = true }
end_read old new [] none is =
    is
    ∙ ap (λ (l : List ℕ). record old { received = l; unread = old.unread ++ []; ended = if old.ended then old.ended else true }) (append-nil old.received)
    ∙ ap (λ (l : List ℕ). record old { unread = l; ended = if old.ended then old.ended else true }) (append-nil old.unread)
    ∙ ap (λ (b : Bool). record old { ended = b }) (ended_now old.ended)
end_read old new (x ∷ more) none is = absurd (cc none)

-- no more comes
pub ended_converses : (p : Passed) (old new : Http) → history_in new ≡ record (history_in old) { ended = true } → config_in new ≡ config_in old
    → news_in new ≡ true → Converses p old → Converses p new
ended_converses p old new is limits news c = record {
  heard = ap (λ (h : History). h.received) is ∙ c.heard;
  written = ap (λ (h : History). h.sent) is ∙ c.written;
  says = c.says;
  tells = c.tells;
  limits = limits ∙ c.limits;
  rests = λ none. absurd (true≢false (sym news ∙ none));
}

-- bytes were heard
heard_bytes : (p : Passed) (old new : Http) (bytes : List ℕ) → Receives bytes (history_in old) (history_in new) → config_in new ≡ config_in old
    → news_in new ≡ true → Converses p old → Converses (record p { heard = p.heard ++ bytes }) new
heard_bytes p old new [] is limits news c = record {
  heard = ap (λ (h : History). h.received) is ∙ c.heard ∙ sym (append-nil p.heard);
  written = ap (λ (h : History). h.sent) is ∙ c.written;
  says = c.says;
  tells = c.tells;
  limits = limits ∙ c.limits;
  rests = λ none. absurd (true≢false (sym news ∙ none));
}
heard_bytes p old new (byte ∷ bytes) is limits news c = record {
  heard = ap (λ (h : History). h.received) is ∙ ap (λ (l : List ℕ). l ++ byte ∷ bytes) c.heard;
  written = ap (λ (h : History). h.sent) is ∙ c.written;
  says = c.says;
  tells = c.tells;
  limits = limits ∙ c.limits;
  rests = λ none. absurd (true≢false (sym news ∙ none));
}

-- a call heard them
pub heard_converses : (r : Result ℕ Gone) (bytes : List ℕ) (old new : Http)
    → IfOk r (λ n. Receives (take n bytes) (history_in old) (history_in new)) → config_in new ≡ config_in old → news_in new ≡ true
    → IfOk r (λ n. (p : Passed) → Converses p old → Converses (record p { heard = p.heard ++ take n bytes }) new)
heard_converses (Err e) bytes old new is limits news = tt
heard_converses (Ok n) bytes old new is limits news = λ p c. heard_bytes p old new (take n bytes) is limits news c

-- requests were answered
pub answered_converses : (p : Passed) (old new : Http) → IsQuiet (history_in old) (history_in new) → config_in new ≡ config_in old
    → Rests (config_in new) (history_in new) → Converses p old → Converses p new
answered_converses p old new quiet limits rests c = record {
  heard = quiet.0 ∙ c.heard;
  written = quiet.2 ∙ c.written;
  says = c.says;
  tells = c.tells;
  limits = limits ∙ c.limits;
  rests = λ none. rests;
}

-- bytes were written
pub written_converses : (p : Passed) (old new : Http) (count : ℕ) → history_in new ≡ after_sent (history_in old) count → config_in new ≡ config_in old
    → news_in new ≡ true → Converses p old → Converses (record p { written = p.written ++ take count (history_in old).pending }) new
written_converses p old new count is limits news c = record {
  heard = ap (λ (h : History). h.received) is ∙ c.heard;
  written = ap (λ (h : History). h.sent) is ∙ ap (λ (l : List ℕ). l ++ take count (history_in old).pending) c.written;
  says = c.says;
  tells = c.tells;
  limits = limits ∙ c.limits;
  rests = λ none. absurd (true≢false (sym news ∙ none));
}

-- ---- piece by piece

pub take_parts : (n m : ℕ) (xs : List ℕ) → take n xs ++ take m (drop n xs) ≡ take (n + m) xs
take_parts zero m xs = ap (λ (k : ℕ). take k xs) (sym (zero-add m))
take_parts (suc n) m [] = take-nil m ∙ sym (take-nil (suc n + m))
take_parts (suc n) m (x ∷ xs) = ap (λ (l : List ℕ). x ∷ l) (take_parts n m xs) ∙ ap (λ (k : ℕ). take k (x ∷ xs)) (sym (suc-add n m))

-- a piece, and then the rest
pub sent_piece : (h : History) (some left : ℕ) → some ≤ left → after_sent (after_sent h some) (left - some) ≡ after_sent h left
sent_piece h some left le =
    let whole : some + (left - some) ≡ left = omega (arith, le) in
    ap (λ (l : List ℕ). record h { sent = l; pending = drop (left - some) (drop some h.pending) })
    (append_assoc h.sent (take some h.pending) (take (left - some) (drop some h.pending))
    ∙ ap (λ (l : List ℕ). h.sent ++ l) (take_parts some (left - some) h.pending ∙ ap (λ (k : ℕ). take k h.pending) whole))
    ∙ ap (λ (l : List ℕ). record h { sent = h.sent ++ take left h.pending; pending = l })
    (drop-drop (left - some) some h.pending ∙ ap (λ (k : ℕ). drop k h.pending) whole)

-- nothing is left to be written
pub sent_none : (h : History) (left : ℕ) → h.pending ≡ [] → after_sent h left ≡ h
sent_none h left none =
    ap (λ (l : List ℕ). record h { sent = h.sent ++ take left l; pending = drop left l }) none
    ∙ ap (λ (l : List ℕ). record h { sent = h.sent ++ l; pending = drop left [] }) (take-nil left)
    ∙ ap (λ (l : List ℕ). record h { sent = l; pending = drop left [] }) (append-nil h.sent)
    ∙ ap (λ (l : List ℕ). record h { pending = l }) (drop-nil left ∙ sym none)

-- all was
pub sent_all : (h : History) → after_sent h 0 ≡ h
sent_all h = ap (λ (l : List ℕ). record h { sent = l }) (append-nil h.sent)
