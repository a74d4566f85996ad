use Rattle.std.proofs.Common.{◌≡◌, ◌≢◌, ℕ, ◌-◌, arith, refl, sym, ap, ◌∙◌, subst, length, Option, Some, None, unwrap_or, IfSome, IsSome}
use Rattle.std.specs.Option.{is_some, option_and_then}
use Rattle.std.proofs.lemmas.Bool.{false≢true}
use Rattle.warp_tag.specs.Moment.{Moment}
use Rattle.warp_tag.specs.Table.{fresh}
use Rattle.warp_tag.specs.declared.entry.Entry.{Entry}
use Rattle.warp_step.specs.Run.{is_after}
use Rattle.warp_arena.specs.Laws.{FindsKnown, ChangesFound}
use Rattle.warp_arena.specs.Places.{Contents, Reaches, entry_of, node_of, with_place}
use Rattle.warp_arena.proofs.Inserted.{length-with_place}
use Rattle.warp_run.specs.Walk.{ahead}
use Rattle.warp_run.specs.Warp.{NamesAt}
use Rattle.warp_run.specs.declared.warp.Warp.{Warp}
use Rattle.warp_run.proofs.PlacesWalks.{place}
use Rattle.warp_run.proofs.PlacesCursor.{stays_before, comes_alone, stays_first, comes_first, named_before, unknown, names_new}
use Rattle.warp_run.proofs.warp.Warp.node.Goals as goal
use Rattle.warp_run.proofs.warp.Warp.node.Goals.{in_default-via-in-Some+else-comes_before, in_default-via-in_default}

-- where there are as many places as before, the handle was there
there_where : (old new : Contents) (node : ℕ) (o : ℕ) (g : Moment) (x : Option ℕ)
    → (x ≡ None → new ≡ record old { places = with_place (place node (fresh o g)) old.places; free = old.free - 1 })
    → (m n : ℕ) → m ≡ length new.places → n ≡ length old.places → m ≡ n → (at : ℕ) × (x ≡ Some at)
there_where old new node o g None came m n is was same =
    absurd (omega (arith, ap (λ v. length v.places) (came refl), length-with_place (place node (fresh o g)) old.places))
there_where old new node o g (Some at) came m n is was same = (at, refl)

-- where there are not, it was not
absent_by : (old new : Contents) (node : ℕ) (x : Option ℕ) → ((at : ℕ) → x ≡ Some at → (node ≡ at) × (new ≡ old))
    → (m n : ℕ) → m ≡ length new.places → n ≡ length old.places → m ≢ n → x ≡ None
absent_by old new node None stays m n is was differ = refl
absent_by old new node (Some at) stays m n is was differ =
    absurd (differ (is ∙ ap (λ v. length v.places) (stays at refl).1 ∙ sym was))

some_of : (x : Option Entry) (e : Entry) → IsSome x → x ≡ Some (unwrap_or x e)
some_of None e h = absurd (false≢true h)
some_of (Some d) e h = refl

-- a name that was there
names_known : (w : Warp) (o : ℕ) (g : Moment) (at : ℕ) → node_of o g w.arena.places ≡ Some at → FindsKnown o g w.arena.places
    → ((f : Entry → Entry) → ChangesFound f o g w.arena.places) → Reaches w.arena.places (ahead w.tip.last w.arena.places) w.cursor
    → NamesAt w w o g at
names_known w o g at is finds changes r =
    let ps = w.arena.places in
    let found = sym (ap (option_and_then (λ n. entry_of n ps)) is) ∙ finds.names in
    record {
      others = refl;
      origins = refl;
      entry =
          some_of (entry_of at ps) (fresh o g) (ap is_some found ∙ sym finds.found ∙ ap is_some is)
          ∙ ap (λ k. Some (unwrap_or k (fresh o g))) found;
      change = λ f. changes f at is;
      cursor = r;
    }

pub returns-then-len-known-clause-names : goal.returns-then-len-known-clause-names
returns-then-len-known-clause-names c =
    let old = c.args.self.now in
    let o = c.args.origin in
    let g = c.args.tag in
    let new = c.enter-node in
    let there = there_where old.arena new.new.self new.result o g (node_of o g old.arena.places) new.ensures.places
    c.len.result c.len-known.result c.len.ensures c.len-known.ensures c.if-len-known.true in
    let same = new.ensures.known there.0 there.1 in
    let at = names_known old o g there.0 there.1 c.finds_known.ensures c.changes_found.ensures c.requires.name.1.cursor in
    subst (λ n. NamesAt old (record old { arena = new.new.self }) o g n) (sym same.0)
    (subst (λ a. NamesAt old (record old { arena = a }) o g there.0) (sym same.1) at)

pub returns-in-Some-clause-names : goal.returns-in-Some-clause-names
returns-in-Some-clause-names c =
    let old = c.args.self.now in
    let ps = old.arena.places in
    let new = c.enter-node in
    let r = c.requires.name.1.cursor in
    let at = c.in-Some.cursor in
    let absent = absent_by old.arena new.new.self new.result (node_of c.args.origin c.args.tag ps) new.ensures.known c.len.result c.len-known.result c.len.ensures c.len-known.ensures c.if-len-known.false in
    let later = ap (λ last. is_after last c.args.tag) (sym c.last.ensures) ∙ sym c.is_after.ensures ∙ c.if-is_after.true in
    let named = named_before ps new.new.self.places new.result at c.entry.result (new.ensures.new_handle absent) (new.ensures.others absent)
    (subst (λ x. IfSome x (λ n. IsSome (entry_of n ps))) (sym c.node.ensures ∙ c.in-Some.is) r.used) c.entry.ensures.entry in
    names_new old c.args.origin c.args.tag new.result new.new.self old.cursor (new.ensures.places absent) (new.ensures.new_handle absent) (new.ensures.entry absent)
    c.finds_known.ensures absent c.changes_new.ensures c.ordered.ensures.order
    (stays_first old.tip.last c.args.origin c.args.tag None new.result ps old.cursor r later at c.entry.result (sym c.node.ensures ∙ c.in-Some.is) named
    (sym c.comes_before.ensures ∙ c.if-comes_before.true))

pub cursor_at-self-requires : goal.cursor_at-self-requires
cursor_at-self-requires c =
    let old = c.args.self.now in
    let new = c.enter-node in
    let absent = absent_by old.arena new.new.self new.result (node_of c.args.origin c.args.tag old.arena.places) new.ensures.known c.len.result c.len-known.result c.len.ensures c.len-known.ensures c.if-len-known.false in
    ap is_some (new.ensures.entry absent)

pub returns-in_default-clause-names : goal.returns-in_default-clause-names
returns-in_default-clause-names c =
    let old = c.args.self.now in
    let ps = old.arena.places in
    let new = c.enter-node in
    let r = c.requires.name.1.cursor in
    let absent = absent_by old.arena new.new.self new.result (node_of c.args.origin c.args.tag ps) new.ensures.known c.len.result c.len-known.result c.len.ensures c.len-known.ensures c.if-len-known.false in
    let nothing = unknown c.args.origin c.args.tag ps c.finds_known.ensures absent in
    let later = ap (λ last. is_after last c.args.tag) (sym c.last.ensures) ∙ sym c.is_after.ensures ∙ c.if-is_after.true in
    names_new old c.args.origin c.args.tag new.result new.new.self _ (new.ensures.places absent) (new.ensures.new_handle absent) (new.ensures.entry absent)
    c.finds_known.ensures absent c.changes_new.ensures c.ordered.ensures.order (elim c.in_default.branch [
      | in_default-via-in-Some+else-comes_before w ↦
          let at = w.in-Some.cursor in
          let named = named_before ps new.new.self.places new.result at w.entry.result (new.ensures.new_handle absent) (new.ensures.others absent)
          (subst (λ x. IfSome x (λ n. IsSome (entry_of n ps))) (sym c.node.ensures ∙ w.in-Some.is) r.used) w.entry.ensures.entry in
          c.cursor_at-self.ensures
          ∙ comes_first old.tip.last c.args.origin c.args.tag None new.result ps old.cursor r later at w.entry.result (sym c.node.ensures ∙ w.in-Some.is) named nothing
          (sym w.comes_before.ensures ∙ w.if-comes_before.false)
      | in_default-via-in_default w ↦
          c.cursor_at-self.ensures
          ∙ comes_alone old.tip.last c.args.origin c.args.tag None new.result ps old.cursor r later (sym c.node.ensures ∙ w.in_default.is)
    ])

pub returns-else-is_after-clause-names : goal.returns-else-is_after-clause-names
returns-else-is_after-clause-names c =
    let old = c.args.self.now in
    let ps = old.arena.places in
    let new = c.enter-node in
    let absent = absent_by old.arena new.new.self new.result (node_of c.args.origin c.args.tag ps) new.ensures.known c.len.result c.len-known.result c.len.ensures c.len-known.ensures c.if-len-known.false in
    let earlier = ap (λ last. is_after last c.args.tag) (sym c.last.ensures) ∙ sym c.is_after.ensures ∙ c.if-is_after.false in
    names_new old c.args.origin c.args.tag new.result new.new.self old.cursor (new.ensures.places absent) (new.ensures.new_handle absent) (new.ensures.entry absent)
    c.finds_known.ensures absent c.changes_new.ensures c.ordered.ensures.order
    (stays_before old.tip.last c.args.origin c.args.tag None new.result ps old.cursor c.requires.name.1.cursor earlier)

-- the room stays as it is

pub returns-then-len-known-clause-room : goal.returns-then-len-known-clause-room
returns-then-len-known-clause-room c =
    let old = c.args.self.now in
    let o = c.args.origin in
    let g = c.args.tag in
    let new = c.enter-node in
    let there = there_where old.arena new.new.self new.result o g (node_of o g old.arena.places) new.ensures.places
    c.len.result c.len-known.result c.len.ensures c.len-known.ensures c.if-len-known.true in
    ap (λ (a : Contents). a.room) (new.ensures.known there.0 there.1).1

pub returns-in-Some-clause-room : goal.returns-in-Some-clause-room
returns-in-Some-clause-room c =
    let old = c.args.self.now in
    let new = c.enter-node in
    let absent = absent_by old.arena new.new.self new.result (node_of c.args.origin c.args.tag old.arena.places) new.ensures.known c.len.result c.len-known.result c.len.ensures c.len-known.ensures c.if-len-known.false in
    ap (λ (a : Contents). a.room) (new.ensures.places absent)

pub returns-in_default-clause-room : goal.returns-in_default-clause-room
returns-in_default-clause-room c =
    let old = c.args.self.now in
    let new = c.enter-node in
    let absent = absent_by old.arena new.new.self new.result (node_of c.args.origin c.args.tag old.arena.places) new.ensures.known c.len.result c.len-known.result c.len.ensures c.len-known.ensures c.if-len-known.false in
    ap (λ (a : Contents). a.room) (new.ensures.places absent)

pub returns-else-is_after-clause-room : goal.returns-else-is_after-clause-room
returns-else-is_after-clause-room c =
    let old = c.args.self.now in
    let new = c.enter-node in
    let absent = absent_by old.arena new.new.self new.result (node_of c.args.origin c.args.tag old.arena.places) new.ensures.known c.len.result c.len-known.result c.len.ensures c.len-known.ensures c.if-len-known.false in
    ap (λ (a : Contents). a.room) (new.ensures.places absent)
