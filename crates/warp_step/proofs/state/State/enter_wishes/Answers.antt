-- where no reaction may have wishes, nothing is to be entered, and where one may, its list is all
use Rattle.std.proofs.Common.{◌≡◌, ◌<◌, ℕ, List, [], IsTrue, get_or, length, replicate, set, ap, sym, ◌∙◌, subst, arith}
use Rattle.std.specs.List.{list_all}
use Rattle.std.proofs.lemmas.List.{get_or-map, length-map, map-set}
use Rattle.arrayvec.specs.ArrayVec.{ArrayVec}
use Rattle.warp_body.specs.Effect.{wish_fits}
use Rattle.warp_body.specs.declared.stmt.Wish.{Wish}
use Rattle.warp_step.specs.Step.{with_wishes}
use Rattle.warp_step.specs.Valid.{program_sizes}
use Rattle.warp_step.specs.inner.Room.{lists_of}
use Rattle.warp_step.proofs.StepLemmas.{all_none, nothing_enters, one_emptied, one_enters}
use Rattle.warp_step.proofs.ValidLemmas.{list_all_get}
use Rattle.warp_step.proofs.state.State.enter_wishes.Goals as goal

pub returns-then-wished-eq0-clause-state : goal.returns-then-wished-eq0-clause-state
returns-then-wished-eq0-clause-state c =
    sym (nothing_enters c.args.program.now c.args.tag (lists_of c.args.wishes.now.items) c.args.self.now (c.requires.none.none c.if-wished-eq0.true))

pub returns-then-wished-eq0-clause-none : goal.returns-then-wished-eq0-clause-none
returns-then-wished-eq0-clause-none c =
    let lists = lists_of c.args.wishes.now.items in
    all_none lists (c.requires.none.none c.if-wished-eq0.true)
    ∙ ap (λ (k : ℕ). replicate k []) (length-map c.args.wishes.now.items (λ (w : ArrayVec Wish). w.items))

-- the list with a number, of the room that it has
own : (rooms : List (ArrayVec Wish)) (n : ℕ) (room : ArrayVec Wish) → n < length (lists_of rooms) → room ≡ get_or rooms n room → room.items ≡ get_or (lists_of rooms) n []
own rooms n room within is =
    let all = length-map rooms (λ (w : ArrayVec Wish). w.items) in
    ap (λ (w : ArrayVec Wish). w.items) is ∙ sym (get_or-map (λ (w : ArrayVec Wish). w.items) rooms n room [] (omega (arith, within, all)))

pub enter_wish-requires-clause-wishes : goal.enter_wish-requires-clause-wishes
enter_wish-requires-clause-wishes c =
    let P = c.args.program.now in
    let rooms = c.args.wishes.now.items in
    let within = c.requires.none.within c.if-wished-eq1.true in
    subst (λ (ws : List Wish). IsTrue (list_all (wish_fits (program_sizes P)) ws)) (sym (own rooms c.args.wished.last c.index_mut.result.now within c.index_mut.ensures.value))
    (list_all_get (list_all (wish_fits (program_sizes P))) (lists_of rooms) c.args.wished.last [] c.requires.wishes within)

pub returns-then-wished-eq1-clause-state : goal.returns-then-wished-eq1-clause-state
returns-then-wished-eq1-clause-state c =
    let P = c.args.program.now in
    let rooms = c.args.wishes.now.items in
    let within = c.requires.none.within c.if-wished-eq1.true in
    c.enter_wish.ensures.state
    ∙ ap (λ (ws : List Wish). with_wishes P c.args.tag ws c.args.self.now) (own rooms c.args.wished.last c.index_mut.result.now within c.index_mut.ensures.value)
    ∙ sym (one_enters P c.args.tag (lists_of rooms) c.args.wished.last c.args.self.now (c.requires.none.one c.if-wished-eq1.true))

pub returns-then-wished-eq1-clause-none : goal.returns-then-wished-eq1-clause-none
returns-then-wished-eq1-clause-none c =
    let rooms = c.args.wishes.now.items in
    let last = c.args.wished.last in
    map-set (λ (w : ArrayVec Wish). w.items) rooms last c.enter_wish.new.list
    ∙ ap (λ (ws : List Wish). set (lists_of rooms) last ws) c.enter_wish.ensures.none
    ∙ one_emptied (lists_of rooms) last (c.requires.none.within c.if-wished-eq1.true) (c.requires.none.one c.if-wished-eq1.true)
    ∙ ap (λ (k : ℕ). replicate k []) (length-map rooms (λ (w : ArrayVec Wish). w.items))
