-- What is kept of no records.
use Rattle.std.proofs.Common.{◌≡◌, ◌∙◌, ℕ, ◌-◌, ◌≤◌, [], None, Some, length, refl, sym, subst, arith}
use Rattle.std.proofs.lemmas.Bool.{false≢true}
use Rattle.std.proofs.lemmas.List.{get_or_past}
use Rattle.std.proofs.lemmas.Option.{slice_get_past}
use Rattle.warp_tag.specs.Limits.{most_records, widest}
use Rattle.warp_record.specs.declared.record.Record.{Record}
use Rattle.warp_record.specs.declared.record.Record.TheVariants.{Event, Withdraw, Announce, Joint}
use Rattle.warp_table.specs.Log.{IsAt}
use Rattle.warp_table.specs.Records.{set_of}
use Rattle.warp_table.specs.inner.Heard.{AreHeard, IsHeard, nothing_heard}
use Rattle.warp_table.specs.inner.Kept.{Keeps, no_others, place_in}
use Rattle.warp_table.proofs.Heard.{heard_nothing}

no_place : (said : Record) (place : ℕ) → place_in [] [] no_others said ≡ Some place → IsAt [] place said
no_place (Event origin tag input value) place is = cc
no_place (Withdraw origin tag) place is = cc
no_place (Announce origin tag events withdrawn) place is = cc
no_place (Joint tag events withdrawn) place is = cc

not_placed : (said : Record) (place : ℕ) → IsAt [] place said → place_in [] [] no_others said ≡ Some place
not_placed said place at =
    let none : None ≡ Some said = sym (slice_get_past [] (place - 1) (omega arith)) ∙ at.1 in
    cc

pub none_kept : (length {A = Record} [] ≤ most_records widest) × Keeps [] [] no_others × AreHeard [] []
none_kept = (
  omega arith,
  record {
    tells = record { order = refl; each = λ origin tag said has. absurd (false≢true has) };
    places = record { events = λ k d within. absurd (omega (arith, within)); so = no_place; found = not_placed };
  },
  record {
    few = omega arith;
    each = λ origin. subst (IsHeard (set_of []) origin) (sym (get_or_past [] origin nothing_heard (omega arith))) (heard_nothing origin);
  },
)
