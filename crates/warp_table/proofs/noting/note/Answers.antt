-- a record of an origin is counted, and a joint announcement goes to the others
use Rattle.std.proofs.Common.{◌≡◌, ◌+◌, ◌<◌, ◌∷◌, ◌++◌, [], ℕ, None, Some, Option, List, length, refl, sym, subst}
use Rattle.std.specs.Prelude.{IfSome}
use Rattle.std.proofs.lemmas.Result.{IfOk-weaker}
use Rattle.warp_tag.specs.Limits.{most_origins, widest}
use Rattle.warp_record.specs.declared.record.Record.{Record}
use Rattle.warp_record.specs.declared.record.Record.TheVariants.{Event, Withdraw, Announce, Joint}
use Rattle.warp_record.specs.Order.{kind_of}
use Rattle.warp_table.specs.Log.{IsAt}
use Rattle.warp_table.specs.declared.joint.JointAnnouncer.{JointAnnouncer}
use Rattle.warp_table.specs.declared.rows.Known.{Known}
use Rattle.warp_table.specs.declared.names.Name.{Name}
use Rattle.warp_table.specs.inner.Heard.{AreHeard, Heard, nothing_heard}
use Rattle.warp_table.specs.inner.Joint.{KeepsJoint}
use Rattle.warp_table.specs.inner.Others.{places}
use Rattle.warp_table.specs.inner.Kept.{IsAdded, Keeps, OtherPlaces, other_place, put_other}
use Rattle.warp_table.proofs.AddedRecords.{joint_is_added}
use Rattle.warp_table.proofs.HeardNews.{all_heard_joint}
use Rattle.warp_table.proofs.JointNext.{joint_kind, own_kind}
use Rattle.warp_table.proofs.noting.note.Goals as goal

pub note_counted-requires-clause-of : goal.note_counted-requires-clause-of
note_counted-requires-clause-of c = (own_kind c.args.record.now c.in-Some.origin (sym c.in-Some.ensures)).1

pub note_counted-requires-clause-own : goal.note_counted-requires-clause-own
note_counted-requires-clause-own c = (own_kind c.args.record.now c.in-Some.origin (sym c.in-Some.ensures)).0

pub note_counted-requires-clause-origin : goal.note_counted-requires-clause-origin
note_counted-requires-clause-origin c = subst (λ (o : Option ℕ). IfSome o (λ origin. origin < most_origins widest)) (sym c.in-Some.ensures) c.requires.origin

pub note_joint-requires-clause-of : goal.note_joint-requires-clause-of
note_joint-requires-clause-of c = joint_kind c.args.record.now (sym c.in-None.ensures)

-- a joint announcement among the records
joint_new : (records : List Record) (names : List (Name × Known)) (others now : OtherPlaces) (heards : List Heard) (said : Record) (place : ℕ) → kind_of said ≡ 3 → Keeps records names others → AreHeard records heards →
    other_place others said ≡ None → place ≡ length records + 1 → now ≡ put_other others said (length records + 1) → IsAdded records said place names now × AreHeard (records ++ said ∷ []) heards
joint_new records names others now heards (Joint tag events withdrawn) place kind keeps heard none last put =
    (joint_is_added records names others keeps nothing_heard tag events withdrawn place (length records + 1) now refl last none put, all_heard_joint records heards tag events withdrawn heard)
joint_new records names others now heards (Event o tag input value) place kind keeps heard none last put = absurd (cc)
joint_new records names others now heards (Withdraw o tag) place kind keeps heard none last put = absurd (cc)
joint_new records names others now heards (Announce o tag events withdrawn) place kind keeps heard none last put = absurd (cc)

pub returns-in-None-clause-new : goal.returns-in-None-clause-new
returns-in-None-clause-new c =
    IfOk-weaker c.note_joint.result _ _ (λ added adds new.
    let says = adds new in
    let both = joint_new c.args.records.now c.args.names.now (places c.args.others.now) (places c.note_joint.new.others) c.args.announcers.now.items c.args.record.now added.place
    (joint_kind c.args.record.now (sym c.in-None.ensures)) c.requires.keeps c.requires.heard says.0 says.1 says.2 in (
      both.0,
      subst (λ (hs : List Heard). AreHeard (c.args.records.now ++ c.args.record.now ∷ []) hs) (sym c.note_joint.ensures.same) both.1,
      subst (λ (hs : List Heard). KeepsJoint (c.args.records.now ++ c.args.record.now ∷ []) hs c.note_joint.new.joint) (sym c.note_joint.ensures.same) says.3,
    )) c.note_joint.ensures.new

-- a joint announcement that is known stands at its place
joint_at : (records : List Record) (names : List (Name × Known)) (others : OtherPlaces) (said : Record) (place : ℕ) → kind_of said ≡ 3 → Keeps records names others → other_place others said ≡ Some place → IsAt records place said
joint_at records names others (Joint tag events withdrawn) place kind keeps is = keeps.places.so (Joint tag events withdrawn) place is
joint_at records names others (Event o tag input value) place kind keeps is = absurd (cc)
joint_at records names others (Withdraw o tag) place kind keeps is = absurd (cc)
joint_at records names others (Announce o tag events withdrawn) place kind keeps is = absurd (cc)

pub returns-in-None-clause-known : goal.returns-in-None-clause-known
returns-in-None-clause-known c =
    IfOk-weaker c.note_joint.result _ _ (λ added says known.
    let is = says known in (
      joint_at c.args.records.now c.args.names.now (places c.args.others.now) c.args.record.now added.place (joint_kind c.args.record.now (sym c.in-None.ensures)) c.requires.keeps is.0,
      refl,
      is.1,
      subst (λ (hs : List Heard). AreHeard c.args.records.now hs) (sym c.note_joint.ensures.same) c.requires.heard,
      subst (λ (hs : List Heard). KeepsJoint c.args.records.now hs c.note_joint.new.joint) (sym c.note_joint.ensures.same)
          (subst (λ (j : JointAnnouncer). KeepsJoint c.args.records.now c.args.announcers.now.items j) (sym is.2) c.requires.joint),
    )) c.note_joint.ensures.known
