-- What passed over a connection that speaks lines.
use Rattle.std.proofs.Common.{◌≡◌, ℕ, List, [], ◌∷◌, ◌++◌, true, Option, Some, None, IfNone, Result, Ok, Err, OnOk, sym, ap, ◌∙◌, append_assoc, append-nil}
use Rattle.warp_record.specs.declared.feed.Fed.{Fed}
use Rattle.warp_record.specs.Lines.{Piece, lines_of}
use Rattle.warp_web.specs.declared.gone.Gone.{Gone}
use Rattle.warp_web.specs.Lines.{Says, Unsaid, Passed, Carries, text_of}

-- one text more
pub text_of-more : (told : List (List ℕ)) (text : List ℕ) → text_of (told ++ text ∷ []) ≡ text_of told ++ (text ++ 10 ∷ [])
text_of-more [] text = append-nil (text ++ 10 ∷ [])
text_of-more (first ∷ told) text =
    ap (λ (t : List ℕ). (first ++ 10 ∷ []) ++ t) (text_of-more told text)
    ∙ sym (append_assoc (first ++ 10 ∷ []) (text_of told) (text ++ 10 ∷ []))

-- a text was told
pub told_carried : (u : Unsaid) (old new text : List ℕ) (r : Result (Unit {0}) Gone) → OnOk r (new ≡ old ++ (text ++ 10 ∷ []))
    → OnOk r ((p : Passed) → Carries p (record { unsaid = u; output = old })
    → Carries (record p { told = p.told ++ text ∷ [] }) (record { unsaid = u; output = new }))
told_carried u old new text (Err e) is = tt
told_carried u old new text (Ok v) is = λ p h. record {
  says = h.says;
  writes = ap (λ (o : List ℕ). p.written ++ o) is
      ∙ sym (append_assoc p.written old (text ++ 10 ∷ []))
      ∙ ap (λ (w : List ℕ). w ++ (text ++ 10 ∷ [])) h.writes
      ∙ sym (text_of-more p.told text);
}

-- behind the end all lines of what was heard were said
pub all_carried : (u : Unsaid) (out : List ℕ) (fed : Option Fed)
    → IfNone fed ((heard : List ℕ) (said : List Piece) → Says heard said u → u.ended ≡ true → said ≡ lines_of heard)
    → IfNone fed ((p : Passed) → Carries p (record { unsaid = u; output = out }) → u.ended ≡ true → p.said ≡ lines_of p.heard)
all_carried u out (Some given) all = tt
all_carried u out None all = λ p h end. all p.heard p.said h.says end
