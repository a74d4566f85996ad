-- The work of a file: how many nodes of expressions and statements one tag may walk at most. Each reaction runs once at a tag at most,
-- so all are added up; what a loop does counts as often as it may turn.
use Rattle.std.specs.Prelude.{◌≡◌, ℕ, ◌+◌, ◌*◌, min, max, unsigned_abs, nat_lt, Bool, false, List, [], ◌∷◌, map, slice_get}
use Rattle.std.specs.List.{prefix_len}
use Rattle.std.specs.Option.{option_map_or}
use Rattle.warp_tag.specs.Limits.{greatest_count}
use Rattle.warp_tag.specs.declared.form.Form.{Form}
use Rattle.warp_tag.specs.declared.form.Form.TheVariants.{One, Two, Three, Four}
use Rattle.warp_prog.specs.File.{File, ReactorPart, ReactionPart, NamedTerm, Literal, Named, PresentNamed, OneNamed, TwoNamed, ChoiceNamed, ProductNamed, CellNamed, TimeNamed, MicrostepNamed}
use Rattle.warp_prog.specs.File.{NamedStatement, SetNamed, PutNamed, ScheduleNamed, ChooseNamed, SetCellNamed, RepeatNamed, NamedBody, NamedDone, NamedThen}
use Rattle.warp_prog.specs.Limits.{file_form, total}
use Rattle.warp_prog.specs.declared.limits.work.Work.{Work}

-- how much work a file of version 4 may be
abbrev pub most_work : ℕ
most_work = 2000000

-- the work of an expression: one for itself, and its parts
abbrev pub term_work : NamedTerm → ℕ
term_work (Literal n) = 1
term_work (Named name) = 1
term_work (PresentNamed name) = 1
term_work (OneNamed op a) = 1 + term_work a
term_work (TwoNamed op a b) = 1 + (term_work a + term_work b)
term_work (ChoiceNamed c a b) = 1 + (term_work c + (term_work a + term_work b))
term_work (ProductNamed a b c) = 1 + (term_work a + (term_work b + term_work c))
term_work (CellNamed name index) = 1 + term_work index
term_work TimeNamed = 1
term_work MicrostepNamed = 1

abbrev mutual
  -- the work of a statement: one for itself, its expressions, and its lists; of a loop the test once, and for each turn the test,
  -- the list and one
  pub statement_work : NamedStatement → ℕ
  statement_work (SetNamed name e) = 1 + term_work e
  statement_work (PutNamed name e) = 1 + term_work e
  statement_work (ScheduleNamed name delay e) = 1 + term_work e
  statement_work (ChooseNamed e first second) = 1 + (term_work e + (body_work first + body_work second))
  statement_work (SetCellNamed name index e) = 1 + (term_work index + term_work e)
  statement_work (RepeatNamed most e body) = 1 + (term_work e + unsigned_abs most * (1 + (term_work e + body_work body)))

  -- the work of a list of statements
  pub body_work : NamedBody → ℕ
  body_work NamedDone = 0
  body_work (NamedThen s ss) = statement_work s + body_work ss

-- the work of so many turns of a loop
abbrev pub turns_work : ℕ → NamedTerm → NamedBody → ℕ
turns_work turns e body = turns * (1 + (term_work e + body_work body))

-- the work of a reaction, of reactions, and of a reactor's
abbrev pub reaction_work : ReactionPart → ℕ
reaction_work n = body_work n.body

abbrev pub reactions_work : List ReactionPart → ℕ
reactions_work [] = 0
reactions_work (n ∷ ns) = reaction_work n + reactions_work ns

abbrev pub reactor_work : ReactorPart → ℕ
reactor_work r = reactions_work r.reactions

-- the reactions of a file are too much work; those of the first three forms never
abbrev pub work_exceeds_in : Form → File → Bool
work_exceeds_in One f = false
work_exceeds_in Two f = false
work_exceeds_in Three f = false
work_exceeds_in Four f = nat_lt most_work (total reactor_work f.reactors)

abbrev pub work_exceeds : File → Bool
work_exceeds f = work_exceeds_in (file_form f) f

-- so much work as a count can show: of more, the greatest count
abbrev pub shown : ℕ → ℕ
shown work = min work greatest_count

-- the greatest of these numbers; 0 of none
abbrev pub greatest : List ℕ → ℕ
greatest [] = 0
greatest (n ∷ ns) = max n (greatest ns)

-- how many of these numbers stand before the first that is not less than this
abbrev pub place_of : ℕ → List ℕ → ℕ
place_of most ns = prefix_len (λ n. nat_lt n most) ns

-- the work of each of these reactions, as far as a count shows it
abbrev pub each_work : List ReactionPart → List ℕ
each_work ns = map (λ (n : ReactionPart). shown (reaction_work n)) ns

-- the most that a reaction is of each of these reactors
abbrev pub each_most : List ReactorPart → List ℕ
each_most rs = map (λ (r : ReactorPart). greatest (each_work r.reactions)) rs

-- the work of each reaction of the reactor at this place; none where none is there
abbrev pub work_at : List ReactorPart → ℕ → List ℕ
work_at rs place = option_map_or (λ (r : ReactorPart). each_work r.reactions) (slice_get rs place) []

-- this is the work of the reactions of a file, as far as a count shows it: all together, the most that one is, and the first that
-- is so much, by its reactor and its place in it. In a file of version 4 it is shown whole.
pub record IsWork (f : File) (w : Work) : Type 0 where
  pub all : w.all ≡ shown (total reactor_work f.reactors)
  pub most : w.most ≡ greatest (each_most f.reactors)
  pub reactor : w.reactor ≡ place_of w.most (each_most f.reactors)
  pub reaction : w.reaction ≡ place_of w.most (work_at f.reactors w.reactor)
