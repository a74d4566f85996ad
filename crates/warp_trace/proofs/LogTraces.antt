-- A log has a table whose live events the program takes, and a trace.
use Rattle.std.proofs.Common.{◌≡◌, ℕ, suc, List, [], ◌∷◌, fold, Option, None, Result, Err, IsTrue, refl, arith}
use Rattle.std.specs.List.{list_all}
use Rattle.std.proofs.KnownBytes.{Appends-nil}
use Rattle.warp_tag.specs.Moment.{Moment}
use Rattle.warp_tag.specs.Table.{live}
use Rattle.warp_tag.specs.declared.entry.Entry.{Entry}
use Rattle.warp_tag.proofs.Tables.{events_pass, withdrawal_passes}
use Rattle.warp_step.specs.Program.{Program}
use Rattle.warp_step.specs.Events.{event_fits}
use Rattle.warp_step.specs.Run.{Row, Run}
use Rattle.warp_step.specs.Snapshot.{start_state}
use Rattle.warp_step.proofs.TraceExists.{exists}
use Rattle.warp_record.specs.declared.record.Record.{Record}
use Rattle.warp_record.specs.declared.record.Record.TheVariants.{Event, Withdraw, Announce, Joint}
use Rattle.warp_table.specs.Announced.{IsHorizon}
use Rattle.warp_table.specs.Check.{refusal_of}
use Rattle.warp_table.specs.Records.{set_of}
use Rattle.warp_table.specs.LogNames.{table_of, with_record}
use Rattle.warp_table.proofs.Allowed.{allowed_takes}
use Rattle.warp_table.proofs.LiveEvents.{live_by_set}
use Rattle.warp_replica.specs.Replica.{AreAllowed}
use Rattle.warp_trace.specs.Labels.{Names}
use Rattle.warp_trace.specs.Printed.{PrintsText, PrintsTrace}
use Rattle.warp_trace.specs.Trace.{row_lines}
use Rattle.warp_trace.specs.declared.printer.TraceFault.{TraceFault}
use Rattle.warp_trace.specs.declared.printer.TraceFault.TheVariants.{NoMemory}

-- one record more
fits_more : (P : Program) (table : List Entry) (said : Record) → IsTrue (list_all (event_fits P) (live table)) → refusal_of P said ≡ None
    → IsTrue (list_all (event_fits P) (live (with_record table said)))
fits_more P table (Event o t input value) fits none = events_pass (event_fits P) o t input value table fits (allowed_takes P o t input value none)
fits_more P table (Withdraw o t) fits none = withdrawal_passes (event_fits P) o t table fits
fits_more P table (Announce o t events withdrawn) fits none = fits
fits_more P table (Joint t events withdrawn) fits none = fits

all_fit : (P : Program) (records : List Record) (table : List Entry) → IsTrue (list_all (event_fits P) (live table)) → AreAllowed P records
    → IsTrue (list_all (event_fits P) (live (fold with_record table records)))
all_fit P [] table fits allowed = fits
all_fit P (said ∷ records) table fits allowed =
    all_fit P records (with_record table said) (fits_more P table said fits (allowed 0 said (omega arith))) (λ k d below. allowed (suc k) d (omega (arith, below)))

-- the program takes the live events of a log against which it has no reason
pub log_fits : (P : Program) (records : List Record) → AreAllowed P records → IsTrue (list_all (event_fits P) (live (table_of records)))
log_fits P records allowed = all_fit P records [] refl allowed

-- where nothing is out, nothing of the text is
pub untouched : (w : Option (List ℕ)) (f : ℕ) (all : List ℕ) → PrintsText {T = ℕ} w w f f all (Err NoMemory)
untouched w f all = (([], (all, refl), Appends-nil w), refl)

-- what is printed of all rows of the run over a log is its trace
pub traced : {T : Type 0} (names : Names) (P : Program) (records : List Record) (end : Moment) (w w' : Option (List ℕ)) (f f' : ℕ) (r : Result T TraceFault)
    → IsHorizon P (set_of records) end
    → ((rows : List Row) → Run P (live (table_of records)) rows
    → PrintsText w w' f f' (row_lines names P end (live (table_of records)) (start_state P) rows) r)
    → PrintsTrace names P (set_of records) w w' f f' r
traced names P records end w w' f f' r horizon prints =
    let run = exists P (live (table_of records)) in (
      row_lines names P end (live (table_of records)) (start_state P) run.0,
      record {
        events = live (table_of records);
        live = live_by_set records;
        rows = run.0;
        run = run.1;
        end = end;
        horizon = horizon;
        lines = refl;
      },
      prints run.0 run.1,
    )
