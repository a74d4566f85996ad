-- Lines that were answered one after another, and one line more.
use Rattle.std.proofs.Common.{◌≡◌, ℕ, ◌+◌, ◌<◌, List, [], ◌∷◌, ◌++◌, All, length, take, slice_index_or, slice_set, refl, sym, ap, subst, ◌∙◌}
use Rattle.std.proofs.lemmas.List.{take_more, take_more_set}
use Rattle.std.proofs.lemmas.List.Elements.{All-push}
use Rattle.warp_record.specs.declared.line.Line.{Line}
use Rattle.warp_record.specs.declared.reply.Reply.{Reply}
use Rattle.warp_exchange.specs.Batch.{GivesEach}

module _ {S : Type 0} (gives : S → Line → Reply → S → Type 0) where
  -- some lines, and then some more of them
  pub GivesEach-append : (s mid s' : S) (lines more : List Line) (replies others : List Reply)
      → GivesEach gives s lines replies mid → GivesEach gives mid more others s'
      → GivesEach gives s (lines ++ more) (replies ++ others) s'
  GivesEach-append s mid s' [] more [] others first second = subst (λ (t : S). GivesEach gives t more others s') first second
  GivesEach-append s mid s' [] more (r ∷ replies) others first second = absurd first
  GivesEach-append s mid s' (l ∷ lines) more [] others first second = absurd first
  GivesEach-append s mid s' (l ∷ lines) more (r ∷ replies) others first second =
      (first.0, first.1, GivesEach-append first.0 mid s' lines more replies others first.2 second)

  -- one line more
  pub GivesEach-more : (s mid s' : S) (lines : List Line) (replies : List Reply) (line : Line) (reply : Reply)
      → GivesEach gives s lines replies mid → gives mid line reply s'
      → GivesEach gives s (lines ++ line ∷ []) (replies ++ reply ∷ []) s'
  GivesEach-more s mid s' lines replies line reply first last =
      GivesEach-append s mid s' lines (line ∷ []) replies (reply ∷ []) first (s', last, refl)

  -- the next place of both lists
  pub gives_next : (s mid s' : S) (lines : List Line) (replies : List Reply) (at : ℕ) (line : Line) (reply : Reply)
      → at < length lines → at < length replies → line ≡ slice_index_or lines at line
      → GivesEach gives s (take at lines) (take at replies) mid → gives mid line reply s'
      → GivesEach gives s (take (at + 1) lines) (take (at + 1) (slice_set replies at reply)) s'
  gives_next s mid s' lines replies at line reply here there is first last =
      subst (λ (rs : List Reply). GivesEach gives s (take (at + 1) lines) rs s') (sym (take_more_set replies at reply there))
      (subst (λ (ls : List Line). GivesEach gives s ls (take at replies ++ reply ∷ []) s')
      (ap (λ (l : Line). take at lines ++ l ∷ []) is ∙ sym (take_more lines at line here))
      (GivesEach-more s mid s' (take at lines) (take at replies) line reply first last))

-- a place more is filled
pub all_next : {X : Type 0} (P : X → Type 0) (xs : List X) (at : ℕ) (x : X) → at < length xs → All P (take at xs) → P x
    → All P (take (at + 1) (slice_set xs at x))
all_next P xs at x within first last =
    subst (All P) (sym (take_more_set xs at x within)) (All-push P (take at xs) x first last)
