-- Labels: one reactor more, and one text more.
use Rattle.std.proofs.Common.{◌≡◌, List, [], ◌∷◌, ◌++◌, ℕ, ◌+◌, ◌<◌, ◌≤◌, length, length-append, map, drop, take, get_or}
use Rattle.std.proofs.Common.{ap, ap₂, sym, ◌∙◌, refl, Result, Ok, Err, OnOk}
use Rattle.std.proofs.lemmas.List.{append_assoc, append-nil, at_drop_more, drop_all, length-map, map-append, map_more}
use Rattle.warp_prog.specs.Explain.{label_of, labelled, labels_in}
use Rattle.warp_prog.specs.File.{Word, ReactorPart}
use Rattle.warp_prog.specs.Numbered.{variables_in}
use Rattle.warp_prog.specs.Uses.{variable_names}
use Rattle.warp_prog.specs.View.{reactor_tree}
use Rattle.warp_prog.specs.declared.file.Reactor.{Reactor}

-- one reactor more: the labels of what stands in it are added
pub labels_more : (its : ReactorPart → List Word) (done new : List Word) (rs : List Reactor) (i : ℕ) (r : Reactor)
    → i < length rs → r ≡ get_or rs i r → new ≡ done ++ labelled its (reactor_tree r)
    → new ++ labels_in its (map reactor_tree (drop (i + 1) rs)) ≡ done ++ labels_in its (map reactor_tree (drop i rs))
labels_more its done new rs i r within here e =
    let rest = labels_in its (map reactor_tree (drop (i + 1) rs)) in
    ap (λ xs. xs ++ rest) e ∙ append_assoc done (labelled its (reactor_tree r)) rest
    ∙ ap (λ s. done ++ (labelled its (reactor_tree s) ++ rest)) here
    ∙ sym (at_drop_more (λ ss. done ++ labels_in its (map reactor_tree ss)) rs i r within)

-- no reactor more
pub labels_all : (its : ReactorPart → List Word) (done : List Word) (rs : List Reactor) (i : ℕ) → length rs ≤ i
    → done ++ labels_in its (map reactor_tree (drop i rs)) ≡ done
labels_all its done rs i past = ap (λ ss. done ++ labels_in its (map reactor_tree ss)) (drop_all i rs past) ∙ append-nil done

-- there are as many labels of variables as variables
labels_count : (rs : List ReactorPart) → length (labels_in variable_names rs) ≡ variables_in rs
labels_count [] = refl
labels_count (r ∷ rs) =
    length-append (labelled variable_names r) (labels_in variable_names rs)
    ∙ ap₂ (λ x y. x + y) (length-map (variable_names r) (label_of r) ∙ length-map r.variables (λ v. v.name)) (labels_count rs)

-- so many are the texts that are these labels
pub labels_size : {S : Type 0} (bytes : S → Word) (ls : List S) (rs : List ReactorPart)
    → map bytes ls ≡ labels_in variable_names rs → length ls ≡ variables_in rs
labels_size bytes ls rs e = sym (length-map ls bytes) ∙ ap length e ∙ labels_count rs

-- one text more, which is that of one thing more
pub texts_more : {S X : Type 0} (bytes : S → Word) (f : X → Word) (done new : List S) (text : S) (xs : List X) (i : ℕ) (x : X)
    → i < length xs → x ≡ get_or xs i x → new ≡ done ++ text ∷ [] → bytes text ≡ f x → map bytes done ≡ map f (take i xs)
    → map bytes new ≡ map f (take (i + 1) xs)
texts_more bytes f done new text xs i x within here e shown so =
    ap (map bytes) e ∙ map-append bytes done (text ∷ []) ∙ ap (λ ts. ts ++ bytes text ∷ []) so
    ∙ ap (λ t. map f (take i xs) ++ t ∷ []) (shown ∙ ap f here) ∙ sym (map_more f xs i x within)

-- what holds anyway holds where a call succeeds
pub on_ok : {T E P : Type 0} (r : Result T E) → P → OnOk r P
on_ok (Ok v) h = h
on_ok (Err e) h = tt
