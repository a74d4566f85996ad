-- Marks: a set of numbers, in one word of 64 bits. A program's reactions, program outputs and links each have numbers of their
-- own, one kind behind the other, and numbers that are 64 apart share a bit. A reaction's is its turn in the order.
use Rattle.std.specs.Prelude.{ℕ, zero, suc, ◌+◌, ◌%◌, ◌*◌, ◌^◌, length}
use Rattle.std.specs.Int.{bit_at}
use Rattle.std.specs.Int.RustNames.{bit_or}
use Rattle.warp_step.specs.Program.{Program}

-- where the marks of each kind begin, and below what all are
abbrev pub first_reaction : ℕ
first_reaction = 0

abbrev pub first_output : Program → ℕ
first_output P = length P.reactions

abbrev pub first_link : Program → ℕ
first_link P = length P.reactions + length P.outputs

abbrev pub most_marks : ℕ
most_marks = 2304

-- 1 where the number is marked, else 0
abbrev pub mark_at : ℕ → ℕ → ℕ
mark_at word m = bit_at word (m % 64)

-- with one number more marked
abbrev pub with_mark : ℕ → ℕ → ℕ
with_mark m word = bit_or word (1 * 2 ^ (m % 64) % 2 ^ 64)

abbrev pub no_marks : ℕ
no_marks = 0

-- so many numbers, from one on, are marked
abbrev pub marks_from : ℕ → ℕ → ℕ
marks_from first zero = no_marks
marks_from first (suc count) = with_mark (first + count) (marks_from first count)
