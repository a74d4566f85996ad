-- A front of a list, and what is behind it; fronts that were written; what holds at an error.
use Rattle.std.proofs.Common.{◌≡◌, ℕ, ◌+◌, ◌-◌, ◌<◌, List, [], ◌∷◌, ◌++◌, append-nil, slice_index_or, take-append-drop, Option, Result, Ok, Err, OnErr, length, take, drop, sym, ap, subst, ◌∙◌, append_assoc}
use Rattle.std.specs.Io.KnownBytes.{Appends}
use Rattle.std.proofs.KnownBytes.{Appends-trans}
use Rattle.std.specs.List.{flat_map}
use Rattle.std.proofs.lemmas.List.{take_more, take_rest}
use Rattle.std.proofs.lemmas.List.Concat.{flat_map-append}
use Rattle.warp_record.specs.declared.reply.Reply.{Reply}
use Rattle.warp_record.specs.Reply.{reply_line}
use Rattle.std.proofs.Math.Seq.{take-add}
use Rattle.warp_session.specs.Stream.{WritesFront}

-- the front, and then some of the slice behind it
pub more_of_rest : (xs : List ℕ) (front n : ℕ) → take front xs ++ take n (take (length xs - front) (drop front xs)) ≡ take (front + n) xs
more_of_rest xs front n =
    ap (λ (l : List ℕ). take front xs ++ take n l) (take_rest xs front)
    ∙ sym (take-add front n xs)

-- what holds anyway holds at an error
pub on_err : {T E P : Type 0} (r : Result T E) → P → OnErr r P
on_err (Ok v) h = tt
on_err (Err e) h = h

-- what holds at an error, and what follows from it
pub err_so : {T E P Q : Type 0} (r : Result T E) → (P → Q) → OnErr r P → OnErr r Q
err_so (Ok v) follows h = tt
err_so (Err e) follows h = follows h

-- some bytes went out, and then a front of the rest
pub front_behind : (a b c : Option (List ℕ)) (sent rest all : List ℕ) → Appends a b sent → sent ++ rest ≡ all → WritesFront b c rest → WritesFront a c all
front_behind a b c sent rest all out is w = (
  sent ++ w.0,
  (w.1.0, sym is ∙ ap (λ (l : List ℕ). sent ++ l) w.1.1 ∙ sym (append_assoc sent w.0 w.1.0)),
  Appends-trans a b c sent w.0 out w.2,
)

-- a front of the bytes is one of more bytes
pub front_more : (a b : Option (List ℕ)) (bytes more : List ℕ) → WritesFront a b bytes → WritesFront a b (bytes ++ more)
front_more a b bytes more w = (w.0, (w.1.0 ++ more, ap (λ (l : List ℕ). l ++ more) w.1.1 ∙ append_assoc w.0 w.1.0 more), w.2)

-- the text of some first replies, and of one more
text_more : (replies : List Reply) (at : ℕ) (reply : Reply) → at < length replies → reply ≡ slice_index_or replies at reply
    → flat_map reply_line (take (at + 1) replies) ≡ flat_map reply_line (take at replies) ++ reply_line reply
text_more replies at reply within is =
    ap (flat_map reply_line) (take_more replies at reply within ∙ ap (λ (r : Reply). take at replies ++ r ∷ []) (sym is))
    ∙ flat_map-append reply_line (take at replies) (reply ∷ [])
    ∙ ap (λ (t : List ℕ). flat_map reply_line (take at replies) ++ t) (append-nil (reply_line reply))

-- what was gathered so far, and what goes out of it
abbrev pub Gathered : Option (List ℕ) → Option (List ℕ) → List ℕ → List ℕ → List ℕ → Type 0
Gathered w w' old new text = (sent : List ℕ) × Appends w w' sent × (sent ++ new ≡ old ++ text)

-- a reply more was gathered
pub gathered_more : (w0 w w' : Option (List ℕ)) (old mid new : List ℕ) (replies : List Reply) (at : ℕ) (reply : Reply)
    → at < length replies → reply ≡ slice_index_or replies at reply
    → Gathered w0 w old mid (flat_map reply_line (take at replies)) → Gathered w w' mid new (reply_line reply)
    → Gathered w0 w' old new (flat_map reply_line (take (at + 1) replies))
gathered_more w0 w w' old mid new replies at reply within is first last = (
  first.0 ++ last.0,
  Appends-trans w0 w w' first.0 last.0 first.1 last.1,
  append_assoc first.0 last.0 new
      ∙ ap (λ (t : List ℕ). first.0 ++ t) last.2
      ∙ sym (append_assoc first.0 mid (reply_line reply))
      ∙ ap (λ (t : List ℕ). t ++ reply_line reply) first.2
      ∙ append_assoc old (flat_map reply_line (take at replies)) (reply_line reply)
      ∙ ap (λ (t : List ℕ). old ++ t) (sym (text_more replies at reply within is)),
)

-- a write failed as a reply more was gathered
pub front_of_replies : (w0 w w' : Option (List ℕ)) (old mid : List ℕ) (replies : List Reply) (at : ℕ) (reply : Reply)
    → at < length replies → reply ≡ slice_index_or replies at reply
    → Gathered w0 w old mid (flat_map reply_line (take at replies)) → WritesFront w w' (mid ++ reply_line reply)
    → WritesFront w0 w' (old ++ flat_map reply_line replies)
front_of_replies w0 w w' old mid replies at reply within is first front =
    let some : List ℕ = flat_map reply_line (take (at + 1) replies) in
    let rest : List ℕ = flat_map reply_line (drop (at + 1) replies) in
    let so_far : WritesFront w0 w' (old ++ some) =
    front_behind w0 w w' first.0 (mid ++ reply_line reply) (old ++ some) first.1
    (sym (append_assoc first.0 mid (reply_line reply))
    ∙ ap (λ (t : List ℕ). t ++ reply_line reply) first.2
    ∙ append_assoc old (flat_map reply_line (take at replies)) (reply_line reply)
    ∙ ap (λ (t : List ℕ). old ++ t) (sym (text_more replies at reply within is)))
    front in
    subst (WritesFront w0 w')
    (append_assoc old some rest
    ∙ ap (λ (t : List ℕ). old ++ t)
    (sym (flat_map-append reply_line (take (at + 1) replies) (drop (at + 1) replies))
    ∙ ap (flat_map reply_line) (take-append-drop (at + 1) replies)))
    (front_more w0 w' (old ++ some) rest so_far)
