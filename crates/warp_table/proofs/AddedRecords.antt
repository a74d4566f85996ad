-- What is kept and heard of a list of records, with one more.
use Rattle.std.proofs.Common.{◌≡◌, ◌⊎◌, inl, inr, ℕ, ℤ, ◌+◌, false, is_some, List, [], ◌∷◌, ◌++◌, None, Contains, length, sym, ap, subst, ◌∙◌}
use Rattle.std.specs.Prelude.{◌↔◌}
use Rattle.std.specs.Map.{lookup}
use Rattle.std.proofs.lemmas.Bool.{false≢true}
use Rattle.warp_tag.specs.Moment.{Moment}
use Rattle.warp_record.specs.declared.record.Record.{Record}
use Rattle.warp_record.specs.declared.record.Record.TheVariants.{Event, Withdraw, Announce, Joint}
use Rattle.warp_table.specs.Names.{origin_or_first}
use Rattle.warp_table.specs.Records.{set_of}
use Rattle.warp_table.specs.declared.rows.Known.{Known}
use Rattle.warp_table.specs.declared.names.Name.{Name}
use Rattle.warp_table.specs.inner.Heard.{Announced, Heard, IsHeard, with_tag}
use Rattle.warp_table.specs.inner.Kept.{OtherPlaces, HoldsEvent, IsAdded, Keeps, NotesEvent, entries_of, event_place, is_named, kept_of, known_of, other_place, payload_at, put_known, put_other, with_event_at, with_withdrawal_at, withdrawal_place}
use Rattle.warp_table.specs.inner.News.{IsNewsOf}
use Rattle.warp_table.proofs.EventPlaces.{announcement_places, event_places, holds_own, joint_places, withdrawal_places}
use Rattle.warp_table.proofs.HeardNews.{event_kept as event_told, event_new, own_announcement, own_event, own_withdrawal, withdrawal_new}
use Rattle.warp_table.proofs.KnownNames.{announcement_kept, event_kept, has_event, joint_kept, withdrawal_kept}
use Rattle.warp_table.proofs.Places.{not_there}
use Rattle.warp_table.proofs.Sets.{in_set}

-- a record is there, and its origin hears of it
pub record IsTold (records : List Record) (said : Record) (place : ℕ) (names : List (Name × Known)) (others : OtherPlaces) (own : Heard) : Type 0 where
  pub added : IsAdded records said place names others
  pub heard : IsHeard (set_of (records ++ said ∷ [])) (origin_or_first said) own

module _ (records : List Record) (names : List (Name × Known)) (others : OtherPlaces) (k : Keeps records names others) (own : Heard) where
  module _ (name : Name) (heard : IsHeard (set_of records) name.origin own) where
    -- the event that the name keeps is one of its own
    pub holds : HoldsEvent records name (known_of name names).event
    holds = holds_own records names name k.places.events

    -- a name that keeps no event has none
    no_event : (known_of name names).event ≡ 0 → is_some (kept_of name (entries_of records names)).event ≡ false
    no_event none = has_event records name names ∙ ap (λ p. is_some (payload_at records p)) none

    pub event_fresh : (known_of name names).event ≡ 0 → Contains own.events name.tag → ⊥
    event_fresh none = event_new records (entries_of records names) own name.origin name.tag k.tells heard (no_event none)

    event_lacks : (payload : ℕ × ℤ) → ((known_of name names).event ≡ 0) ⊎ (event_place records (known_of name names).event others (Event name.origin name.tag payload.0 payload.1) ≡ None)
        → Contains records (Event name.origin name.tag payload.0 payload.1) → ⊥
    event_lacks payload (inl none) has =
        let told = event_told (set_of records) name (lookup (is_named name.origin name.tag) (entries_of records names)) (k.tells.each name.origin name.tag) in
        false≢true (sym (no_event none) ∙ told.1 (payload, (in_set records (Event name.origin name.tag payload.0 payload.1)).0 has))
    event_lacks payload (inr none) has = not_there records names others (Event name.origin name.tag payload.0 payload.1) k.places none has

    pub event_added : (payload : ℕ × ℤ) (place event : ℕ) (now_names : List (Name × Known)) (now : OtherPlaces) (own_now : Heard) → place ≡ length records + 1 →
        now_names ≡ put_known names name (with_event_at event (known_of name names)) → NotesEvent records name payload (known_of name names).event event others now own own_now →
        IsTold records (Event name.origin name.tag payload.0 payload.1) place now_names now own_now
    event_added payload place event now_names now own_now last put n =
        let said : Record = Event name.origin name.tag payload.0 payload.1 in
        let lacks : Contains records said → ⊥ = event_lacks payload n.lacks in
        let news : IsNewsOf records (entries_of records names) own said = record { kept = k.tells; heard = heard; new = lacks } in
        record {
          added = record {
            new = lacks;
            last = last;
            keeps = subst (λ (ns : List (Name × Known)). Keeps (records ++ said ∷ []) ns now) (sym put) (record {
              tells = event_kept records names name payload event k.places.events n.counts k.tells;
              places = event_places records names others k.places now name payload event own own_now n lacks;
            });
          };
          heard = subst (λ (h : Heard). IsHeard (set_of (records ++ said ∷ [])) name.origin h) (sym n.heard)
              (own_event records (entries_of records names) own name.origin name.tag payload.0 payload.1 (is_some (payload_at records (known_of name names).event)) news (has_event records name names));
        }

    withdrawal_lacks : (known_of name names).withdrawal ≡ 0 → Contains records (Withdraw name.origin name.tag) → ⊥
    withdrawal_lacks none = not_there records names others (Withdraw name.origin name.tag) k.places (ap withdrawal_place none)

    pub withdrawal_fresh : (known_of name names).withdrawal ≡ 0 → Contains own.withdrawn name.tag → ⊥
    withdrawal_fresh none = withdrawal_new records (entries_of records names) own name.origin name.tag (record { kept = k.tells; heard = heard; new = withdrawal_lacks none })

    pub withdrawal_added : (place next : ℕ) (now_names : List (Name × Known)) (now : OtherPlaces) (own_now : Heard) → next ≡ length records + 1 → place ≡ next → (known_of name names).withdrawal ≡ 0 →
        now_names ≡ put_known names name (with_withdrawal_at next (known_of name names)) → now ≡ others → own_now ≡ record own { withdrawn = with_tag name.tag own.withdrawn } →
        IsTold records (Withdraw name.origin name.tag) place now_names now own_now
    withdrawal_added place next now_names now own_now is last none put same hears =
        let said : Record = Withdraw name.origin name.tag in
        let lacks : Contains records said → ⊥ = withdrawal_lacks none in
        let news : IsNewsOf records (entries_of records names) own said = record { kept = k.tells; heard = heard; new = lacks } in
        let put_last = put ∙ ap (λ p. put_known names name (with_withdrawal_at p (known_of name names))) is in
        record {
          added = record {
            new = lacks;
            last = last ∙ is;
            keeps = subst (λ (os : OtherPlaces). Keeps (records ++ said ∷ []) now_names os) (sym same) (subst (λ (ns : List (Name × Known)). Keeps (records ++ said ∷ []) ns others) (sym put_last) (record {
              tells = withdrawal_kept records names name k.places.events k.tells;
              places = withdrawal_places records names others k.places name lacks;
            }));
          };
          heard = subst (λ (h : Heard). IsHeard (set_of (records ++ said ∷ [])) name.origin h) (sym hears)
              (own_withdrawal records (entries_of records names) own name.origin name.tag news);
        }

  pub joint_is_added : (tag : Moment) (events withdrawn place next : ℕ) (now : OtherPlaces) → next ≡ length records + 1 → place ≡ next → other_place others (Joint tag events withdrawn) ≡ None →
      now ≡ put_other others (Joint tag events withdrawn) next → IsAdded records (Joint tag events withdrawn) place names now
  joint_is_added tag events withdrawn place next now is last none put =
      let said : Record = Joint tag events withdrawn in
      let lacks : Contains records said → ⊥ = not_there records names others said k.places none in
      let put_last = put ∙ ap (put_other others said) is in
      record {
        new = lacks;
        last = last ∙ is;
        keeps = subst (λ (os : OtherPlaces). Keeps (records ++ said ∷ []) names os) (sym put_last) (record {
          tells = joint_kept records names tag events withdrawn k.places.events k.tells;
          places = joint_places records names others k.places tag events withdrawn lacks;
        });
      }

  pub announcement_added : (origin : ℕ) (tag : Moment) (events withdrawn place next : ℕ) (now_names : List (Name × Known)) (now : OtherPlaces) (own_now : Heard) → IsHeard (set_of records) origin own →
      next ≡ length records + 1 → place ≡ next → other_place others (Announce origin tag events withdrawn) ≡ None → now_names ≡ names → now ≡ put_other others (Announce origin tag events withdrawn) next →
      own_now ≡ record own { announced = own_now.announced } →
      ((a : Announced) → Contains own_now.announced a ↔ Contains own.announced a ⊎ (a ≡ record { tag = tag; events = events; withdrawn = withdrawn })) →
      IsTold records (Announce origin tag events withdrawn) place now_names now own_now
  announcement_added origin tag events withdrawn place next now_names now own_now heard is last none same put hears adds =
      let said : Record = Announce origin tag events withdrawn in
      let lacks : Contains records said → ⊥ = not_there records names others said k.places none in
      let news : IsNewsOf records (entries_of records names) own said = record { kept = k.tells; heard = heard; new = lacks } in
      let put_last = put ∙ ap (put_other others said) is in
      record {
        added = record {
          new = lacks;
          last = last ∙ is;
          keeps = subst (λ (ns : List (Name × Known)). Keeps (records ++ said ∷ []) ns now) (sym same) (subst (λ (os : OtherPlaces). Keeps (records ++ said ∷ []) names os) (sym put_last) (record {
            tells = announcement_kept records names origin tag events withdrawn k.places.events k.tells;
            places = announcement_places records names others k.places origin tag events withdrawn lacks;
          }));
        };
        heard = subst (λ (h : Heard). IsHeard (set_of (records ++ said ∷ [])) origin h) (sym hears)
            (own_announcement records (entries_of records names) own origin tag events withdrawn own_now.announced news adds);
      }
