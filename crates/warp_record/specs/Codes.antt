-- Codes of records, so that a model's value may have them.
use Rattle.std.specs.Prelude.{◌≡◌, ◌⊎◌, ℕ, ℤ, refl}
use Rattle.std.proofs.Common.{inl, inr}
use Rattle.std.specs.Coded.{Coded, code_by, coded×, coded⊎, coded_ℕ, coded_ℤ}
use Rattle.warp_tag.specs.Codes.{moment_code}
use Rattle.warp_tag.specs.Moment.{Moment}
use Rattle.warp_record.specs.declared.record.Record.{Record}
use Rattle.warp_record.specs.declared.record.Record.TheVariants.{Event, Withdraw, Announce, Joint}

-- what an event, a withdrawal, an announcement and a joint one say
abbrev pub Parts : Type 0
Parts = (ℕ × (Moment × (ℕ × ℤ))) ⊎ ((ℕ × Moment) ⊎ ((ℕ × (Moment × (ℕ × ℕ))) ⊎ (Moment × (ℕ × ℕ))))

abbrev pub parts : Record → Parts
parts (Event origin tag input value) = inl (origin, (tag, (input, value)))
parts (Withdraw origin tag) = inr (inl (origin, tag))
parts (Announce origin tag events withdrawn) = inr (inr (inl (origin, (tag, (events, withdrawn)))))
parts (Joint tag events withdrawn) = inr (inr (inr (tag, (events, withdrawn))))

abbrev pub of_parts : Parts → Record
of_parts (inl p) = Event p.0 p.1.0 p.1.1.0 p.1.1.1
of_parts (inr (inl p)) = Withdraw p.0 p.1
of_parts (inr (inr (inl p))) = Announce p.0 p.1.0 p.1.1.0 p.1.1.1
of_parts (inr (inr (inr p))) = Joint p.0 p.1.0 p.1.1

abbrev pub of_parts-parts : (said : Record) → of_parts (parts said) ≡ said
of_parts-parts (Event origin tag input value) = refl
of_parts-parts (Withdraw origin tag) = refl
of_parts-parts (Announce origin tag events withdrawn) = refl
of_parts-parts (Joint tag events withdrawn) = refl

-- a record is stored as what it says
abbrev pub record_code : Coded Record
record_code =
    code_by Parts
    (coded⊎ (coded× coded_ℕ (coded× moment_code (coded× coded_ℕ coded_ℤ)))
    (coded⊎ (coded× coded_ℕ moment_code)
    (coded⊎ (coded× coded_ℕ (coded× moment_code (coded× coded_ℕ coded_ℕ))) (coded× moment_code (coded× coded_ℕ coded_ℕ)))))
    parts of_parts of_parts-parts
