-- Things done for one client, one after another, and the steps that they are.
use Rattle.std.proofs.Common.{◌≡◌, ◌⊎◌, ◌≤◌, ℕ, zero, suc, List, [], ◌∷◌, ◌++◌, Option, Some, refl, sym, ap, ◌∙◌, subst, inl, inr}
use Rattle.std.specs.Prelude.{slice_get, slice_set}
use Rattle.warp_replica.specs.Answered.{TimelineFacts}
use Rattle.warp_room.specs.Room.{RoomState}
use Rattle.warp_watch.specs.declared.client_id.ClientId.{ClientId}
use Rattle.warp_hub.specs.declared.rights.Rights.{Rights}
use Rattle.warp_clients.specs.declared.saying.Saying.{Saying}
use Rattle.warp_clients.specs.declared.client.Listened.{Listened}
use Rattle.warp_clients.specs.declared.client.Listened.TheVariants as listen
use Rattle.warp_clients.specs.Client as deed
use Rattle.warp_clients.specs.Client.{ClientState, Closes, Common, Deed, DoesFor, IsInnerDeed, IsMe, Listens, Loses, MayCarry, MayEnd, MayGrant, MayRefuse, MaySpeak, MayUpgrade, Rests}
use Rattle.warp_hub.specs.declared.words.Word.{Word}
use Rattle.warp_clients.specs.declared.saying.Saying.TheVariants as saying
use Rattle.warp_clients.specs.Crowd.{AreInnerDeeds, Becomes, CrowdState, DoEach, MayDo, MayTell, Moves, MovesAt}
use Rattle.warp_clients.specs.Steps.{AreInner, ClientsState, IsInner, Runs, SomeRun, Step, StepDoes}
use Rattle.warp_clients.specs.Steps as step
use Rattle.warp_clients.proofs.InPlaces.{get_same, some_same}
use Rattle.warp_clients.proofs.ToldTales.{Stays, deed_stays, still_me}

-- a place that was written twice
pub set_twice : (cs : List ClientState) (n : ℕ) (c d : ClientState) → slice_set (slice_set cs n c) n d ≡ slice_set cs n d
set_twice [] n c d = refl
set_twice (x ∷ cs) zero c d = refl
set_twice (x ∷ cs) (suc n) c d = ap (λ (l : List ClientState). x ∷ l) (set_twice cs n c d)

-- what is there, and is there still
pub set_own : (cs : List ClientState) (n : ℕ) (c : ClientState) → slice_get cs n ≡ Some c → slice_set cs n c ≡ cs
set_own [] n c e = refl
set_own (x ∷ cs) zero c e = ap (λ (d : ClientState). d ∷ cs) (sym (some_same x c e))
set_own (x ∷ cs) (suc n) c e = ap (λ (l : List ClientState). x ∷ l) (set_own cs n c e)

-- what each call does is such things

pub record Comes (k : Common) (c c' : ClientState) : Type 0 where
  pub deeds : List Deed
  pub inner : AreInnerDeeds deeds
  pub each : DoEach k deeds c c'

none : (k : Common) (c c' : ClientState) → c' ≡ c → Comes k c c'
none k c c' same = record { deeds = []; inner = tt; each = same }

one : (k : Common) (d : Deed) (c c' : ClientState) → IsInnerDeed d → DoesFor k d c c' → Comes k c c'
one k d c c' inner does = record { deeds = d ∷ []; inner = (inner, tt); each = (c', does, refl) }

pub moves_by : (k : Common) (who : ClientId) (R : ClientState → ClientState → Type 0) (old new : List ClientState)
    → ((c c' : ClientState) → R c c' → Comes k c c') → MayDo R who old new → MovesAt k who old new
moves_by k who R old new each (inl same) = inl same
moves_by k who R old new each (inr b) = (let x = each b.0 b.1 b.4 in inr (b.0, b.1, b.2, b.3, (x.deeds, x.inner, x.each), b.5))

pub closes : (k : Common) (who : ClientId) (old new : List ClientState) → MayDo Closes who old new → MovesAt k who old new
closes k who old new = moves_by k who Closes old new closed
  where
    closed : (c c' : ClientState) → Closes c c' → Comes k c c'
    closed c c' (inl same) = none k c c' same
    closed c c' (inr (inl quiet)) = one k deed.Quieted c c' tt quiet
    closed c c' (inr (inr lost)) = one k deed.Lost c c' tt lost

pub rests : (k : Common) (who : ClientId) (old new : List ClientState) → MayDo Rests who old new → MovesAt k who old new
rests k who old new = moves_by k who Rests old new rested
  where
    rested : (c c' : ClientState) → Rests c c' → Comes k c c'
    rested c c' (inl same) = none k c c' same
    rested c c' (inr quiet) = one k deed.Quieted c c' tt quiet

pub loses : (k : Common) (who : ClientId) (old new : List ClientState) → MayDo Loses who old new → MovesAt k who old new
loses k who old new = moves_by k who Loses old new (λ c c' lost. one k deed.Lost c c' tt lost)

listened : (k : Common) (said : Listened) (c c' : ClientState) → Listens k.facts k.failing said c c' → Comes k c c'
listened k listen.Kept c c' l = one k (deed.Kept l.0 l.1) c c' tt l.2
listened k listen.More c c' l = one k deed.Silent c c' tt l
listened k listen.Requests c c' l = one k deed.Silent c c' tt l
listened k listen.Upgrade c c' l = one k deed.Silent c c' tt l
listened k listen.Nothing c c' (inl same) = none k c c' same
listened k listen.Nothing c c' (inr silent) = one k deed.Silent c c' tt silent
listened k listen.Ended c c' l = one k deed.Silent c c' tt l
listened k listen.Lost c c' l = one k deed.Lost c c' tt l

pub listens : (k : Common) (who : ClientId) (said : Listened) (old new : List ClientState) → MayDo (Listens k.facts k.failing said) who old new
    → MovesAt k who old new
listens k who said old new = moves_by k who (Listens k.facts k.failing said) old new (listened k said)

pub upgrades : (k : Common) (who : ClientId) (rights : Rights) (old new : List ClientState) → MayDo (MayUpgrade rights) who old new
    → MovesAt k who old new
upgrades k who rights old new = moves_by k who (MayUpgrade rights) old new upgraded
  where
    upgraded : (c c' : ClientState) → MayUpgrade rights c c' → Comes k c c'
    upgraded c c' (inl lost) = one k deed.Lost c c' tt lost
    upgraded c c' (inr u) = one k (deed.Upgraded rights u.0) c c' tt u.1

pub carries : (k : Common) (who : ClientId) (old new : List ClientState) → MayDo MayCarry who old new → MovesAt k who old new
carries k who old new = moves_by k who MayCarry old new carried
  where
    carried : (c c' : ClientState) → MayCarry c c' → Comes k c c'
    carried c c' (inl same) = none k c c' same
    carried c c' (inr (inl lost)) = one k deed.Lost c c' tt lost
    carried c c' (inr (inr t)) = one k (deed.Carried t.0) c c' tt t.1

pub ends : (k : Common) (who : ClientId) (old new : List ClientState) → MayDo MayEnd who old new → MovesAt k who old new
ends k who old new = moves_by k who MayEnd old new ended
  where
    ended : (c c' : ClientState) → MayEnd c c' → Comes k c c'
    ended c c' (inl same) = none k c c' same
    ended c c' (inr e) = one k deed.Ended c c' tt e

spoken : (k : Common) (said : Saying) (len : ℕ) (text : List ℕ) → len ≤ k.limit → (c c' : ClientState)
    → MaySpeak k.facts k.clock said text c c' → Comes k c c'
spoken k said len text most c c' (inl s) = one k (deed.Spoke said len text) c c' tt (most, s)
spoken k said len text most c c' (inr e) = one k deed.Ended c c' tt e

pub speaks : (k : Common) (who : ClientId) (said : Saying) (len : ℕ) (text : List ℕ) (old new : List ClientState) → len ≤ k.limit
    → Becomes who (MaySpeak k.facts k.clock said text) old new → MovesAt k who old new
speaks k who said len text old new most b = moves_by k who (MaySpeak k.facts k.clock said text) old new (spoken k said len text most) (inr b)

-- its word is answered, if of so long a log may be told
pub tells : (k : Common) (who : ClientId) (len : ℕ) (text : List ℕ) (old new : List ClientState) → MayTell k len text who old new
    → MovesAt k who old new
tells k who len text old new (inl same) = inl same
tells k who len text old new (inr t) =
    moves_by k who (λ c c'. (said : Word) × MaySpeak k.facts k.clock (saying.Word said) text c c') old new
    (λ c c' s. spoken k (saying.Word s.0) len text t.0 c c' s.1) (inr t.1)

pub refuses : (k : Common) (who : ClientId) (text : List ℕ) (old new : List ClientState) → Becomes who (MayRefuse text) old new → MovesAt k who old new
refuses k who text old new b = moves_by k who (MayRefuse text) old new refused (inr b)
  where
    refused : (c c' : ClientState) → MayRefuse text c c' → Comes k c c'
    refused c c' (inl r) = one k (deed.Refused text) c c' tt r
    refused c c' (inr e) = one k deed.Ended c c' tt e

pub grants : (k : Common) (who : ClientId) (rights : Rights) (text : List ℕ) (old new : List ClientState) → Becomes who (MayGrant rights text) old new
    → MovesAt k who old new
grants k who rights text old new b = moves_by k who (MayGrant rights text) old new granted (inr b)
  where
    granted : (c c' : ClientState) → MayGrant rights text c c' → Comes k c c'
    granted c c' (inl g) = one k (deed.Granted rights text) c c' tt g
    granted c c' (inr e) = one k deed.Ended c c' tt e

-- the client keeps its place
pub each_stays : (k : Common) (ds : List Deed) (c c' : ClientState) → DoEach k ds c c' → Stays c c'
each_stays k [] c c' does = record { here = ap (λ (x : ClientState). x.here) does; round = ap (λ (x : ClientState). x.round) does }
each_stays k (d ∷ ds) c c' does =
    let one = deed_stays k d c does.0 does.1 in
    let rest = each_stays k ds does.0 c' does.2 in
    record { here = rest.here ∙ one.here; round = rest.round ∙ one.round }

each_join : (k : Common) (ds es : List Deed) (c d e : ClientState) → DoEach k ds c d → DoEach k es d e → DoEach k (ds ++ es) c e
each_join k [] es c d e one two = subst (λ (x : ClientState). DoEach k es x e) one two
each_join k (x ∷ ds) es c d e one two = (one.0, one.1, each_join k ds es one.0 d e one.2 two)

inner_both : (ds es : List Deed) → AreInnerDeeds ds → AreInnerDeeds es → AreInnerDeeds (ds ++ es)
inner_both [] es one two = two
inner_both (d ∷ ds) es one two = (one.0, inner_both ds es one.1 two)

-- things, and then more
pub moves_on : (k : Common) (who : ClientId) (one two three : List ClientState) → MovesAt k who one two → MovesAt k who two three
    → MovesAt k who one three
moves_on k who one two three (inl same) next = subst (λ (cs : List ClientState). MovesAt k who cs three) same next
moves_on k who one two three (inr b) (inl same) = inr (b.0, b.1, b.2, b.3, b.4, same ∙ b.5)
moves_on k who one two three (inr b) (inr d) =
    let at : slice_get two who.key ≡ Some b.1 = ap (λ (cs : List ClientState). slice_get cs who.key) b.5 ∙ get_same one who.key b.0 b.1 b.2 in
    let same : d.0 ≡ b.1 = some_same d.0 b.1 (sym d.2 ∙ at) in
    inr (
      b.0,
      d.1,
      b.2,
      b.3,
      (
        b.4.0 ++ d.4.0,
        inner_both b.4.0 d.4.0 b.4.1 d.4.1,
        each_join k b.4.0 d.4.0 b.0 b.1 d.1 b.4.2 (subst (λ (x : ClientState). DoEach k d.4.0 x d.1) same d.4.2),
      ),
      d.5 ∙ ap (λ (cs : List ClientState). slice_set cs who.key d.1) b.5 ∙ set_twice one who.key b.1 d.1,
    )

pub crowd_on : (who : ClientId) (one two three : CrowdState) → Moves who one two → Moves who two three → Moves who one three
crowd_on who one two three first second = (
  second.0 ∙ first.0,
  moves_on one.common who one.clients two.clients three.clients first.1
      (subst (λ (k : Common). MovesAt k who two.clients three.clients) first.0 second.1),
)

inner_join : (one two : List Step) → AreInner one → AreInner two → AreInner (one ++ two)
inner_join [] two first second = second
inner_join (x ∷ one) two first second = (first.0, inner_join one two first.1 second)

module _ {T : Type 0} (facts : TimelineFacts T) where
  pub run_none : (s s' : ClientsState T) → s' ≡ s → SomeRun facts s s'
  run_none s s' same = ([], tt, same)

  pub run_one : (one : Step) (s s' : ClientsState T) → IsInner one → StepDoes facts one s s' → SomeRun facts s s'
  run_one one s s' inner does = (one ∷ [], (inner, tt), (s', does, refl))

  pub runs_join : (one two : List Step) (s s1 s2 : ClientsState T) → Runs facts one s s1 → Runs facts two s1 s2 → Runs facts (one ++ two) s s2
  runs_join [] two s s1 s2 first second = subst (λ (x : ClientsState T). Runs facts two x s2) first second
  runs_join (x ∷ one) two s s1 s2 first second = (first.0, first.1, runs_join one two first.0 s1 s2 first.2 second)

  pub run_on : (s s1 s2 : ClientsState T) → SomeRun facts s s1 → SomeRun facts s1 s2 → SomeRun facts s s2
  run_on s s1 s2 one two = (one.0 ++ two.0, inner_join one.0 two.0 one.1 two.1, runs_join one.0 two.0 s s1 s2 one.2 two.2)

  -- what changes nothing, behind some steps
  pub run_noted : (s s1 s2 : ClientsState T) → SomeRun facts s s1 → s2 ≡ s1 → SomeRun facts s s2
  run_noted s s1 s2 run same = subst (λ (x : ClientsState T). SomeRun facts s x) (sym same) run

  -- the room stays, and the clients become these
  abbrev with_clients : ClientsState T → List ClientState → ClientsState T
  with_clients s cs = record s { crowd = record s.crowd { clients = cs } }

  -- what is done for a client, as steps
  deeds_run : (who : ClientId) (ds : List Deed) (s : ClientsState T) (c c' : ClientState) → slice_get s.crowd.clients who.key ≡ Some c → IsMe who c
      → AreInnerDeeds ds → DoEach s.crowd.common ds c c' → SomeRun facts s (with_clients s (slice_set s.crowd.clients who.key c'))
  deeds_run who [] s c c' at me inner does = (
    [],
    tt,
    ap (λ (cs : List ClientState). with_clients s cs)
        (ap (λ (x : ClientState). slice_set s.crowd.clients who.key x) does ∙ set_own s.crowd.clients who.key c at),
  )
  deeds_run who (d ∷ ds) s c c' at me inner does =
      let next : ClientsState T = with_clients s (slice_set s.crowd.clients who.key does.0) in
      let rest = deeds_run who ds next does.0 c' (get_same s.crowd.clients who.key c does.0 at)
      (still_me who c does.0 me (deed_stays s.crowd.common d c does.0 does.1)) inner.1 does.2 in (
        step.Does who d ∷ rest.0,
        (inner.0, rest.1),
        (
          next,
          (refl, ((c, does.0, at, me, does.1, refl), refl)),
          subst (λ (cs : List ClientState). Runs facts rest.0 next (with_clients s cs)) (set_twice s.crowd.clients who.key does.0 c') rest.2,
        ),
      )

  crowd_as : (s s' : ClientsState T) (cs : List ClientState) → s'.room ≡ s.room → s'.crowd.common ≡ s.crowd.common → s'.crowd.clients ≡ cs
      → s' ≡ with_clients s cs
  crowd_as s s' cs room common clients = λ i. record { room = room i; crowd = record { clients = clients i; common = common i } }

  pub moves_run : (who : ClientId) (s s' : ClientsState T) → s'.room ≡ s.room → Moves who s.crowd s'.crowd → SomeRun facts s s'
  moves_run who s s' room (common, inl same) = ([], tt, crowd_as s s' s.crowd.clients room common same)
  moves_run who s s' room (common, inr b) =
      let run = deeds_run who b.4.0 s b.0 b.1 b.2 b.3 b.4.1 b.4.2 in (
        run.0,
        run.1,
        subst (λ (x : ClientsState T). Runs facts run.0 s x) (sym (crowd_as s s' (slice_set s.crowd.clients who.key b.1) room common b.5)) run.2,
      )
