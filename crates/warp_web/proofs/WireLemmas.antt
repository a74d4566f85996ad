-- What passed over a connection, whatever it speaks.
use Rattle.std.proofs.Common.{◌≡◌, ℕ, ◌≤◌, List, [], ◌++◌, length, take, take-append-drop, Result, Ok, Err, IfOk, sym, ap, subst, ◌∙◌, append-nil, arith}
use Rattle.std.proofs.lemmas.List.{drop_all}
use Rattle.warp_web.specs.declared.gone.Gone.{Gone}
use Rattle.warp_web.specs.declared.web.Web.{Web}
use Rattle.warp_web.specs.declared.wire.Speech.{Speech}
use Rattle.warp_web.specs.declared.wire.Speech.TheVariants as speech
use Rattle.warp_web.specs.declared.requests.Http.{Http}
use Rattle.warp_web.specs.Http.{Converses}
use Rattle.warp_web.specs.Lines.{Carries, Passed, Talk, nothing_passed}
use Rattle.warp_web.specs.Web.{Speaks, talk_of}
use Rattle.warp_web.specs.Wire.{PassesIn}

-- bytes were heard over a connection that speaks lines
pub hear_lines : (r : Result ℕ Gone) (bytes : List ℕ) (start mid : Speech) (old new : Talk) → ((p : Passed) → PassesIn p start → PassesIn p mid)
    → mid ≡ speech.Lines old
    → IfOk r (λ n. (p : Passed) → Carries p old → Carries (record p { heard = p.heard ++ take n bytes }) new)
    → IfOk r (λ n. (p : Passed) → PassesIn p start → Carries (record p { heard = p.heard ++ take n bytes }) new)
hear_lines (Err e) bytes start mid old new begins is carries = tt
hear_lines (Ok n) bytes start mid old new begins is carries = λ p h. carries p (subst (PassesIn p) is (begins p h))

-- over one that speaks WebSocket
pub hear_web : (r : Result ℕ Gone) (bytes : List ℕ) (start mid : Speech) (old shown new : Web) → ((p : Passed) → PassesIn p start → PassesIn p mid)
    → ((p : Passed) → PassesIn p mid → Speaks p (talk_of old)) → shown ≡ old
    → IfOk r (λ n. (p : Passed) → Speaks p (talk_of shown) → Speaks (record p { heard = p.heard ++ take n bytes }) (talk_of new))
    → IfOk r (λ n. (p : Passed) → PassesIn p start → Speaks (record p { heard = p.heard ++ take n bytes }) (talk_of new))
hear_web (Err e) bytes start mid old shown new begins is same speaks = tt
hear_web (Ok n) bytes start mid old shown new begins is same speaks = λ p h.
    speaks p (subst (λ (w : Web). Speaks p (talk_of w)) (sym same) (is p (begins p h)))

-- over one that speaks HTTP
pub hear_http : (r : Result ℕ Gone) (bytes : List ℕ) (start mid : Speech) (old shown new : Http) → ((p : Passed) → PassesIn p start → PassesIn p mid)
    → ((p : Passed) → PassesIn p mid → Converses p old) → shown ≡ old
    → IfOk r (λ n. (p : Passed) → Converses p shown → Converses (record p { heard = p.heard ++ take n bytes }) new)
    → IfOk r (λ n. (p : Passed) → PassesIn p start → Converses (record p { heard = p.heard ++ take n bytes }) new)
hear_http (Err e) bytes start mid old shown new begins is same converses = tt
hear_http (Ok n) bytes start mid old shown new begins is same converses = λ p h.
    converses p (subst (λ (w : Http). Converses p w) (sym same) (is p (begins p h)))

take_whole : (n : ℕ) (xs : List ℕ) → length xs ≤ n → take n xs ≡ xs
take_whole n xs le =
    sym (append-nil (take n xs)) ∙ ap (λ (l : List ℕ). take n xs ++ l) (sym (drop_all n xs le)) ∙ take-append-drop n xs

-- all that came behind an upgrade was heard
pub web_heard : (items slice : List ℕ) (n len : ℕ) (web made : Web) → slice ≡ items → len ≡ length items → len ≤ n → made ≡ web
    → Speaks (record nothing_passed { heard = [] ++ take n slice }) (talk_of web) → Speaks (record nothing_passed { heard = items }) (talk_of made)
web_heard items slice n len web made is long most same s =
    let whole : take n slice ≡ items = ap (λ (l : List ℕ). take n l) is ∙ take_whole n items (omega (arith, long, most)) in
    subst (λ (w : Web). Speaks (record nothing_passed { heard = items }) (talk_of w)) (sym same)
    (subst (λ (l : List ℕ). Speaks (record nothing_passed { heard = l }) (talk_of web)) whole s)
