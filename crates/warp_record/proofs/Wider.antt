-- What is in range in a form is in range in each wider one, and so in the widest.
use Rattle.std.proofs.Common.{◌≡◌, ℕ, ◌<◌, ◌≤◌, true, arith}
use Rattle.warp_tag.specs.Limits.{has_joint, last_microstep, last_time, most_inputs, most_origins, most_outputs, most_records, most_rows, wider, widest}
use Rattle.warp_tag.specs.Moment.{Moment, IsTagOf}
use Rattle.warp_tag.specs.declared.form.Form.{Form}
use Rattle.warp_tag.specs.declared.form.Form.TheVariants.{One, Two, Three, Four}
use Rattle.warp_tag.specs.declared.out.Out.{Out}
use Rattle.warp_tag.proofs.Forms.{joint_kept, joint_widens, microstep_kept, microstep_widens, origins_kept, origins_widen, records_kept, records_widen, rows_widen, time_widens}
use Rattle.warp_record.specs.declared.line.Line.{Line}
use Rattle.warp_record.specs.declared.line.Line.TheVariants as line
use Rattle.warp_record.specs.declared.line.Query.{Query}
use Rattle.warp_record.specs.declared.line.Query.TheVariants as query
use Rattle.warp_record.specs.declared.record.Record.{Record}
use Rattle.warp_record.specs.declared.record.Record.TheVariants.{Event, Withdraw, Announce, Joint}
use Rattle.warp_record.specs.declared.reply.Reply.{Reply}
use Rattle.warp_record.specs.declared.reply.Reply.TheVariants.{Taken, Known, Refused, Var, Outputs, Output, Nothing, Horizon, Released, Lost, Breach, Log, Collected, Board, Row, NoRow}
use Rattle.warp_record.specs.Line.{IsLine, IsQuery}
use Rattle.warp_record.specs.Record.{IsRecord}
use Rattle.warp_record.specs.Reply.{IsLength, IsOut, IsPlace, IsReply}

-- each limit of a form is at most that of another
record IsWithin (f g : Form) : Type 0 where
  pub time : last_time f ≤ last_time g
  pub microstep : last_microstep f ≤ last_microstep g
  pub origins : most_origins f ≤ most_origins g
  pub records : most_records f ≤ most_records g
  pub rows : most_rows f ≤ most_rows g
  pub inputs : most_inputs f ≤ most_inputs g
  pub outputs : most_outputs f ≤ most_outputs g
  pub joint : has_joint f ≡ true → has_joint g ≡ true

inputs_widen : (f : Form) → most_inputs f ≤ most_inputs widest
inputs_widen One = omega arith
inputs_widen Two = omega arith
inputs_widen Three = omega arith
inputs_widen Four = omega arith

outputs_widen : (f : Form) → most_outputs f ≤ most_outputs widest
outputs_widen One = omega arith
outputs_widen Two = omega arith
outputs_widen Three = omega arith
outputs_widen Four = omega arith

in_widest : (f : Form) → IsWithin f widest
in_widest f = record {
  time = time_widens f;
  microstep = microstep_widens f;
  origins = origins_widen f;
  records = records_widen f;
  rows = rows_widen f;
  inputs = inputs_widen f;
  outputs = outputs_widen f;
  joint = joint_widens f;
}

time_kept : (f g : Form) → last_time f ≤ last_time (wider g f)
time_kept f One = omega arith
time_kept One Two = omega arith
time_kept Two Two = omega arith
time_kept Three Two = omega arith
time_kept Four Two = omega arith
time_kept One Three = omega arith
time_kept Two Three = omega arith
time_kept Three Three = omega arith
time_kept Four Three = omega arith
time_kept One Four = omega arith
time_kept Two Four = omega arith
time_kept Three Four = omega arith
time_kept Four Four = omega arith

rows_kept : (f g : Form) → most_rows f ≤ most_rows (wider g f)
rows_kept f One = omega arith
rows_kept One Two = omega arith
rows_kept Two Two = omega arith
rows_kept Three Two = omega arith
rows_kept Four Two = omega arith
rows_kept One Three = omega arith
rows_kept Two Three = omega arith
rows_kept Three Three = omega arith
rows_kept Four Three = omega arith
rows_kept One Four = omega arith
rows_kept Two Four = omega arith
rows_kept Three Four = omega arith
rows_kept Four Four = omega arith

inputs_kept : (f g : Form) → most_inputs f ≤ most_inputs (wider g f)
inputs_kept f One = omega arith
inputs_kept One Two = omega arith
inputs_kept Two Two = omega arith
inputs_kept Three Two = omega arith
inputs_kept Four Two = omega arith
inputs_kept One Three = omega arith
inputs_kept Two Three = omega arith
inputs_kept Three Three = omega arith
inputs_kept Four Three = omega arith
inputs_kept One Four = omega arith
inputs_kept Two Four = omega arith
inputs_kept Three Four = omega arith
inputs_kept Four Four = omega arith

outputs_kept : (f g : Form) → most_outputs f ≤ most_outputs (wider g f)
outputs_kept f One = omega arith
outputs_kept One Two = omega arith
outputs_kept Two Two = omega arith
outputs_kept Three Two = omega arith
outputs_kept Four Two = omega arith
outputs_kept One Three = omega arith
outputs_kept Two Three = omega arith
outputs_kept Three Three = omega arith
outputs_kept Four Three = omega arith
outputs_kept One Four = omega arith
outputs_kept Two Four = omega arith
outputs_kept Three Four = omega arith
outputs_kept Four Four = omega arith

in_wider : (f g : Form) → IsWithin f (wider g f)
in_wider f g = record {
  time = time_kept f g;
  microstep = microstep_kept g f;
  origins = origins_kept g f;
  records = records_kept g f;
  rows = rows_kept f g;
  inputs = inputs_kept f g;
  outputs = outputs_kept f g;
  joint = joint_kept g f;
}

module _ (f g : Form) (within : IsWithin f g) where
  -- a tag of a form
  tag_widens : (tag : Moment) → IsTagOf f tag → IsTagOf g tag
  tag_widens tag fits =
      let times = within.time in
      let microsteps = within.microstep in
      record { time = omega (arith, fits.time, times); microstep = omega (arith, fits.microstep, microsteps) }

  -- an origin of a form
  origin_widens : (origin : ℕ) → origin < most_origins f → origin < most_origins g
  origin_widens origin fits =
      let origins = within.origins in
      omega (arith, fits, origins)

  -- a length of a log of a form
  length_widens : (log : ℕ) → IsLength f log → IsLength g log
  length_widens log fits =
      let records = within.records in
      omega (arith, fits, records)

  -- a place of a log of a form
  place_widens : (place : ℕ) → IsPlace f place → IsPlace g place
  place_widens place fits = (fits.0, length_widens place fits.1)

  -- a count of rows of a form
  count_widens : (count : ℕ) → count ≤ most_rows f → count ≤ most_rows g
  count_widens count fits =
      let rows = within.rows in
      omega (arith, fits, rows)

  record_in : (said : Record) → IsRecord f said → IsRecord g said
  record_in (Event origin tag input value) fits = record {
    origin_fits = origin_widens origin fits.origin_fits;
    tag_fits = tag_widens tag fits.tag_fits;
    input_fits = (let inputs = within.inputs in omega (arith, fits.input_fits, inputs));
    value_fits = fits.value_fits;
  }
  record_in (Withdraw origin tag) fits = record {
    origin_fits = origin_widens origin fits.origin_fits;
    tag_fits = tag_widens tag fits.tag_fits;
  }
  record_in (Announce origin tag events withdrawn) fits = record {
    origin_fits = origin_widens origin fits.origin_fits;
    tag_fits = tag_widens tag fits.tag_fits;
    events_fit = length_widens events fits.events_fit;
    withdrawn_fit = length_widens withdrawn fits.withdrawn_fit;
  }
  record_in (Joint tag events withdrawn) fits = record {
    form_has = within.joint fits.form_has;
    tag_fits = tag_widens tag fits.tag_fits;
    events_fit = length_widens events fits.events_fit;
    withdrawn_fit = length_widens withdrawn fits.withdrawn_fit;
  }

  query_widens : (asked : Query) → IsQuery f asked → IsQuery g asked
  query_widens (query.Var number) fits = fits
  query_widens query.Outputs fits = fits
  query_widens (query.Output number) fits = fits
  query_widens query.Horizon fits = fits
  query_widens query.Released fits = fits
  query_widens query.Lost fits = fits
  query_widens (query.Breach origin) fits = origin_widens origin fits
  query_widens query.JointBreach fits = within.joint fits
  query_widens (query.Log place) fits = fits

  line_in : (said : Line) → IsLine f said → IsLine g said
  line_in (line.Put said) fits = record_in said fits
  line_in (line.Ask asked) fits = query_widens asked fits
  line_in line.Collect fits = fits
  line_in (line.Look look) fits = fits

  out_widens : (out : Out) → IsOut f out → IsOut g out
  out_widens out fits = record {
    tag_fits = tag_widens out.tag fits.tag_fits;
    port_fits = (let outputs = within.outputs in omega (arith, fits.port_fits, outputs));
    value_fits = fits.value_fits;
  }

  reply_in : (reply : Reply) → IsReply f reply → IsReply g reply
  reply_in (Taken place) fits = place_widens place fits
  reply_in (Known place) fits = place_widens place fits
  reply_in (Refused refusal) fits = fits
  reply_in (Var log value) fits = (length_widens log fits.0, fits.1)
  reply_in (Outputs log count) fits = (length_widens log fits.0, fits.1)
  reply_in (Output log out) fits = (length_widens log fits.0, out_widens out fits.1)
  reply_in (Nothing log) fits = length_widens log fits
  reply_in (Horizon log tag) fits = (length_widens log fits.0, tag_widens tag fits.1)
  reply_in (Released log count) fits = (length_widens log fits.0, fits.1)
  reply_in (Lost log count) fits = (length_widens log fits.0, fits.1)
  reply_in (Breach log broken) fits = length_widens log fits
  reply_in (Log log said) fits = (length_widens log fits.0, record_in said fits.1)
  reply_in (Collected log) fits = length_widens log fits
  reply_in (Board count frozen) fits = count_widens count fits
  reply_in (Row out) fits = out_widens out fits
  reply_in NoRow fits = fits

pub record_widens : (f : Form) (said : Record) → IsRecord f said → IsRecord widest said
record_widens f = record_in f widest (in_widest f)

pub line_widens : (f : Form) (said : Line) → IsLine f said → IsLine widest said
line_widens f = line_in f widest (in_widest f)

pub reply_widens : (f : Form) (reply : Reply) → IsReply f reply → IsReply widest reply
reply_widens f = reply_in f widest (in_widest f)

pub record_kept : (f g : Form) (said : Record) → IsRecord f said → IsRecord (wider g f) said
record_kept f g = record_in f (wider g f) (in_wider f g)

pub line_kept : (f g : Form) (said : Line) → IsLine f said → IsLine (wider g f) said
line_kept f g = line_in f (wider g f) (in_wider f g)

pub reply_kept : (f g : Form) (reply : Reply) → IsReply f reply → IsReply (wider g f) reply
reply_kept f g = reply_in f (wider g f) (in_wider f g)
