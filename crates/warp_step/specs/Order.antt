-- In which orders the reactions of a program may run.
use Rattle.std.specs.Prelude.{ℕ, Bool, true, not, ◌&&◌, ◌||◌, ◌==◌, nat_lt, List, [], ◌∷◌, ◌++◌, length, is_none}
use Rattle.std.specs.List.{list_all, list_any, range_with_len}
use Rattle.warp_body.specs.declared.place.Target.TheVariants as to
use Rattle.warp_step.specs.Program.{Rule, Program}
use Rattle.warp_step.specs.Named.{is_distinct, has, names, reactor_of}
use Rattle.warp_step.specs.declared.parts.Link.{Link}

-- the link has no delay, and leads from an output that the first rule writes to an input that the second has among its
-- triggers or reads
abbrev pub joins : Rule → Rule → Link → Bool
joins first second l = is_none l.delay && names first.writes (to.Port l.source) && names (second.triggers ++ second.reads) (to.Port l.target)

-- some link does
abbrev pub feeds : Program → Rule → Rule → Bool
feeds P first second = list_any (joins first second) P.links

-- reaction m has to stand before reaction n: both are of one reactor, and m is declared first; or m feeds n
abbrev pub precedes : Program → ℕ → ℕ → Bool
precedes P m n =
    has P.reactions m (λ first. has P.reactions n (λ second. (first.reactor == second.reactor && nat_lt m n) || feeds P first second))

-- whatever precedes a reaction stands before it: no reaction that stands later does, nor does it precede itself
abbrev pub keeps_before : Program → List ℕ → Bool
keeps_before P [] = true
keeps_before P (n ∷ ns) = list_all (λ m. not (precedes P m n)) (n ∷ ns) && keeps_before P ns

-- the order has each reaction once, and whatever precedes a reaction stands before it
abbrev pub is_admissible : Program → List ℕ → Bool
is_admissible P order =
    length order == length P.reactions && is_distinct order && list_all (λ n. nat_lt n (length P.reactions)) order && keeps_before P order

-- the order of the file
abbrev pub file_order : Program → List ℕ
file_order P = range_with_len 0 (length P.reactions)

-- the same program, its reactions in this order
abbrev pub in_order : Program → List ℕ → Program
in_order P order = record P { order = order }

-- a link without delay leads to a reactor that stands later
abbrev pub leads_later : Program → Link → Bool
leads_later P l = not (is_none l.delay) || nat_lt (reactor_of P l.source) (reactor_of P l.target)
