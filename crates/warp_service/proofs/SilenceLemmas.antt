-- A connection that says nothing is noticed.
use Rattle.std.proofs.Common.{◌≡◌, ◌∙◌, ℕ, ◌<◌, ◌≤◌, Bool, true, false, ap, arith}
use Rattle.std.specs.Prelude.{min, None, if◌then◌else◌}
use Rattle.warp_service.specs.declared.contact.Contact.{Contact}
use Rattle.warp_service.specs.declared.contact.Due.{Due}
use Rattle.warp_service.specs.declared.contact.Due.TheVariants.{Nothing, Ask, Question, Over}
use Rattle.warp_service.specs.declared.contact.Way.TheVariants.{Open}
use Rattle.warp_service.specs.Contact.{due_now, due_of, has_come, is_quiet, is_silent, later, longest_quiet, longest_silence}
use Rattle.warp_service.specs.Contact.{next_of}

-- what is due by three tests
abbrev by_tests : Bool → Bool → Bool → Due
by_tests silent asks quiet = if silent then Over else (if asks then Ask else (if quiet then Question else Nothing))

due_over : (silent asks quiet : Bool) → silent ≡ true → by_tests silent asks quiet ≡ Over
due_over silent asks quiet is = ap (λ b. by_tests b asks quiet) is

due_question : (silent asks quiet : Bool) → silent ≡ false → asks ≡ false → quiet ≡ true → by_tests silent asks quiet ≡ Question
due_question silent asks quiet a b c =
    ap (λ x. by_tests x asks quiet) a ∙ (ap (λ x. by_tests false x quiet) b ∙ ap (λ x. by_tests false false x) c)

silent : (now : ℕ) (c : Contact) → c.is_wanted ≡ true → later c.heard longest_silence ≤ now → is_silent now c ≡ true
silent now c wanted late = grind (wanted, late, arith)

heard : (now : ℕ) (c : Contact) → now < later c.heard longest_silence → is_silent now c ≡ false
heard now c early = grind (early, arith)

quiet : (now : ℕ) (c : Contact) → c.is_wanted ≡ true → c.is_host ≡ true → c.is_questioned ≡ false → later c.heard longest_quiet ≤ now →
    is_quiet now c ≡ true
quiet now c wanted host free late = grind (wanted, host, free, late, arith)

pub over : (now since : ℕ) (c : Contact) → c.way ≡ Open since → c.is_wanted ≡ true → later c.heard longest_silence ≤ now →
    due_now now c ≡ Over
over now since c is wanted late =
    ap (due_of now c) is ∙ due_over (is_silent now c) (has_come now c.asks_at) (is_quiet now c) (silent now c wanted late)

pub asked : (now since : ℕ) (c : Contact) → c.way ≡ Open since → c.is_wanted ≡ true → c.is_host ≡ true → c.is_questioned ≡ false →
    c.asks_at ≡ None → later c.heard longest_quiet ≤ now → now < later c.heard longest_silence → due_now now c ≡ Question
asked now since c is wanted host free asks late early =
    ap (due_of now c) is
    ∙ due_question (is_silent now c) (has_come now c.asks_at) (is_quiet now c) (heard now c early) (ap (has_come now) asks)
    (quiet now c wanted host free late)

below : (a heard moment quiet : ℕ) (host : Bool) → quiet ≤ moment → min a (if host then quiet else moment) ≤ moment
below a heard moment quiet true h = grind (h, arith)
below a heard moment quiet false h = grind (h, arith)

pub looked : (since : ℕ) (c : Contact) → c.way ≡ Open since → c.is_wanted ≡ true → next_of c c.way ≤ later c.heard longest_silence
looked since c is wanted = grind (ap (next_of c) is, wanted, arith)
