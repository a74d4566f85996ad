-- What was told, and one entry more.
use Rattle.std.proofs.Common.{◌≡◌, ℕ, List, [], ◌∷◌, ◌++◌, Some, refl, sym, ap, ◌∙◌, append_assoc, append-nil}
use Rattle.warp_hub.specs.declared.rights.Rights.{Rights}
use Rattle.warp_web.specs.Lines.{text_of}
use Rattle.warp_clients.specs.declared.saying.Saying.{Saying}
use Rattle.warp_clients.specs.declared.saying.Saying.TheVariants as saying
use Rattle.warp_clients.specs.Tale.{Entry, Reply, Own, Given, Push, answered_in, rights_behind, text_in, texts_in}

-- what an entry answers, if it is an answer
abbrev pub answers : Entry → List Saying
answers (Reply one) = saying.Line one.said ∷ []
answers (Own said len text) = said ∷ []
answers (Given rights text) = saying.Token (Some rights) ∷ []
answers (Push len text) = []

pub answered_more : (es : List Entry) (e : Entry) → answered_in (es ++ e ∷ []) ≡ answered_in es ++ answers e
answered_more [] (Reply one) = refl
answered_more [] (Own said len text) = refl
answered_more [] (Given rights text) = refl
answered_more [] (Push len text) = refl
answered_more (Reply one ∷ es) e = ap (λ (l : List Saying). saying.Line one.said ∷ l) (answered_more es e)
answered_more (Own said len text ∷ es) e = ap (λ (l : List Saying). said ∷ l) (answered_more es e)
answered_more (Given rights text ∷ es) e = ap (λ (l : List Saying). saying.Token (Some rights) ∷ l) (answered_more es e)
answered_more (Push len text ∷ es) e = answered_more es e

pub texts_more : (es : List Entry) (e : Entry) → texts_in (es ++ e ∷ []) ≡ texts_in es ++ text_in e
texts_more [] e = append-nil (text_in e)
texts_more (x ∷ es) e =
    ap (λ (bytes : List ℕ). text_in x ++ bytes) (texts_more es e) ∙ sym (append_assoc (text_in x) (texts_in es) (text_in e))

-- the rights behind an entry
abbrev pub rights_by : Rights → Entry → Rights
rights_by r (Reply one) = r
rights_by r (Own said len text) = r
rights_by r (Given rights text) = rights
rights_by r (Push len text) = r

pub rights_more : (r : Rights) (es : List Entry) (e : Entry) → rights_behind r (es ++ e ∷ []) ≡ rights_by (rights_behind r es) e
rights_more r [] (Reply one) = refl
rights_more r [] (Own said len text) = refl
rights_more r [] (Given rights text) = refl
rights_more r [] (Push len text) = refl
rights_more r (Reply one ∷ es) e = rights_more r es e
rights_more r (Own said len text ∷ es) e = rights_more r es e
rights_more r (Given rights text ∷ es) e = rights_more rights es e
rights_more r (Push len text ∷ es) e = rights_more r es e

-- one text more that a connection is told
pub carried_more : (texts : List (List ℕ)) (text : List ℕ) → text_of (texts ++ text ∷ []) ≡ text_of texts ++ (text ++ 10 ∷ [])
carried_more [] text = append-nil (text ++ 10 ∷ [])
carried_more (x ∷ texts) text =
    ap (λ (bytes : List ℕ). (x ++ 10 ∷ []) ++ bytes) (carried_more texts text)
    ∙ sym (append_assoc (x ++ 10 ∷ []) (text_of texts) (text ++ 10 ∷ []))
