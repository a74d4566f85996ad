-- What a settled replica answers: the program's answers over the set of its records.
use Rattle.std.proofs.Common.{◌≡◌, ◌↔◌, ℕ, zero, suc, ℤ, ◌<◌, ◌≤◌, ◌-◌, Bool, true, false, if◌then◌else◌, IsTrue, List}
use Rattle.std.proofs.Common.{All, get_or, length, slice_get, Option, Some, None, refl, sym, ap, ◌∙◌, subst, arith}
use Rattle.std.specs.Option.{option_map, unwrap_or}
use Rattle.std.proofs.lemmas.Bool.{le-ltb}
use Rattle.std.proofs.lemmas.Bool.Decides.{Decides-ltb, same_from_decides}
use Rattle.std.proofs.lemmas.Option.{get_or_from_slice_get, slice_get-get_or, slice_get_within}
use Rattle.warp_tag.specs.Limits.{has_joint, most_outputs, widest}
use Rattle.warp_tag.specs.Moment.{Moment}
use Rattle.warp_tag.specs.Table.{Event, live}
use Rattle.warp_step.specs.Program.{Program}
use Rattle.warp_step.specs.Snapshot.{Snapshot, start_state}
use Rattle.warp_step.specs.Run.{Row, Run, state_at_end, outputs_of}
use Rattle.warp_step.specs.Events.{is_declared}
use Rattle.warp_step.specs.Valid.{is_valid}
use Rattle.warp_tag.specs.declared.out.Out.{Out}
use Rattle.warp_step.proofs.ValidLemmas.{validity}
use Rattle.warp_step.proofs.OutputsOfRun.{output_within}
use Rattle.warp_record.specs.declared.record.Record.{Record}
use Rattle.warp_record.specs.declared.line.Query.{Query}
use Rattle.warp_record.specs.declared.line.Query.TheVariants as query
use Rattle.warp_record.specs.declared.reply.Refusal.TheVariants.{NoOrigin, NoVar}
use Rattle.warp_record.specs.declared.reply.Reply.TheVariants as reply
use Rattle.warp_table.specs.Announced.{IsBroken, IsHorizon}
use Rattle.warp_table.specs.Joint.{IsBrokenJointly}
use Rattle.warp_table.specs.Log.{EachOnce, IsAt}
use Rattle.warp_table.specs.Records.{set_of}
use Rattle.warp_table.specs.LogNames.{table_of}
use Rattle.warp_table.specs.Check.{refusal_of}
use Rattle.warp_replica.specs.Replica.{AreAllowed}
use Rattle.warp_replica.specs.Answers.{Answers, AreAnswers, IsReleased, released_of}
use Rattle.warp_replica.specs.Gives.{GivesQuery, record_at, reply_to}
use Rattle.warp_table.proofs.Horizons.{one_horizon}
use Rattle.warp_table.proofs.LiveEvents.{live_by_set}
use Rattle.warp_table.proofs.Sets.{one_size}
use Rattle.warp_replica.proofs.SomeHorizon.{Announces}

-- the run over the records, each of which is there once, how many these are, and what they announce
module _ (P : Program) (records : List Record) (done : List Row) (log : ℕ) (once : EachOnce records) (long : log ≡ length records)
    (run : Run P (live (table_of records)) done) (announced : Announces P (set_of records)) where
  -- what the end of the run answers
  abbrev pub answers : Answers
  answers = record {
    state = state_at_end (start_state P) done;
    outputs = outputs_of done;
    count = log;
    horizon = announced.horizon;
    released = released_of announced.horizon (outputs_of done);
    broken = announced.broken;
    broken_jointly = announced.broken_jointly;
  }

  pub are_answers : AreAnswers P (set_of records) answers
  are_answers = record {
    events = live (table_of records);
    live = live_by_set records;
    trace = done;
    run = run;
    state = refl;
    outputs = refl;
    count = (records, once, refl, sym long);
    horizon = announced.reached;
    released = refl;
    broken = announced.breaks;
    broken_jointly = announced.breaks_jointly;
  }

  -- what a query gives: the reply by these answers
  gives : (asked : Query) → GivesQuery P records asked (reply_to P records answers asked)
  gives asked = (answers, are_answers, refl)

  -- the value of a variable, if there is one
  pub gives_var : (number : ℕ) (found : Option ℤ) → slice_get (state_at_end (start_state P) done).vars number ≡ found
      → GivesQuery P records (query.Var number) (unwrap_or (option_map (λ value. reply.Var log value) found) (reply.Refused NoVar))
  gives_var number found is =
      subst (λ (o : Option ℤ). GivesQuery P records (query.Var number) (unwrap_or (option_map (λ value. reply.Var log value) o) (reply.Refused NoVar)))
      is (gives (query.Var number))

  -- how many outputs
  pub gives_outputs : (outs : List Out) → outs ≡ outputs_of done → GivesQuery P records query.Outputs (reply.Outputs log (length outs))
  gives_outputs outs is =
      subst (λ (o : List Out). GivesQuery P records query.Outputs (reply.Outputs log (length o))) (sym is) (gives query.Outputs)

  -- an output, if there is one
  pub gives_output : (number : ℕ) (found : Option Out) → slice_get (outputs_of done) number ≡ found
      → GivesQuery P records (query.Output number) (unwrap_or (option_map (λ out. reply.Output log out) found) (reply.Nothing log))
  gives_output number found is =
      subst (λ (o : Option Out). GivesQuery P records (query.Output number) (unwrap_or (option_map (λ out. reply.Output log out) o) (reply.Nothing log)))
      is (gives (query.Output number))

  -- the horizon
  pub gives_horizon : (end : Moment) → IsHorizon P (set_of records) end → GivesQuery P records query.Horizon (reply.Horizon log end)
  gives_horizon end reached =
      subst (λ (tag : Moment). GivesQuery P records query.Horizon (reply.Horizon log tag))
      (one_horizon P (set_of records) announced.horizon end announced.reached reached) (gives query.Horizon)

  -- the released outputs are those before the horizon
  pub released_before : (end : Moment) (outs : List Out) → IsHorizon P (set_of records) end → outs ≡ released_of end (outputs_of done)
      → IsReleased P (set_of records) outs
  released_before end outs reached is =
      let same : end ≡ announced.horizon = one_horizon P (set_of records) end announced.horizon reached announced.reached in
      (answers, are_answers, is ∙ ap (λ (tag : Moment). released_of tag (outputs_of done)) same)

  -- whether the origin broke an announcement, where the program has it, and that it has no such origin
  breach_at : (origin : ℕ) (declared : Bool) → is_declared P origin ≡ declared
      → GivesQuery P records (query.Breach origin) (if declared then reply.Breach log (announced.broken origin) else reply.Refused NoOrigin)
  breach_at origin declared is =
      subst (λ (b : Bool). GivesQuery P records (query.Breach origin) (if b then reply.Breach log (announced.broken origin) else reply.Refused NoOrigin))
      is (gives (query.Breach origin))

  pub gives_breach : (origin : ℕ) (broken : Bool) → origin < P.origins → (IsTrue broken ↔ IsBroken (set_of records) origin)
      → GivesQuery P records (query.Breach origin) (reply.Breach log broken)
  gives_breach origin broken below breaks =
      subst (λ (b : Bool). GivesQuery P records (query.Breach origin) (reply.Breach log b))
      (same_from_decides (announced.broken origin) broken (announced.breaks origin) breaks)
      (breach_at origin true ((Decides-ltb origin P.origins).1 below))

  pub gives_no_origin : (origin : ℕ) → P.origins ≤ origin → GivesQuery P records (query.Breach origin) (reply.Refused NoOrigin)
  gives_no_origin origin past = breach_at origin false (le-ltb origin P.origins past)

  -- whether a joint announcement is broken, where the program has such, and that it has none
  joint_breach_at : (has : Bool) → has_joint P.form ≡ has
      → GivesQuery P records query.JointBreach (if has then reply.Breach log announced.broken_jointly else reply.Refused NoOrigin)
  joint_breach_at has is =
      subst (λ (b : Bool). GivesQuery P records query.JointBreach (if b then reply.Breach log announced.broken_jointly else reply.Refused NoOrigin))
      is (gives query.JointBreach)

  pub gives_joint_breach : (broken : Bool) → has_joint P.form ≡ true → (IsTrue broken ↔ IsBrokenJointly (set_of records))
      → GivesQuery P records query.JointBreach (reply.Breach log broken)
  gives_joint_breach broken has breaks =
      subst (λ (b : Bool). GivesQuery P records query.JointBreach (reply.Breach log b))
      (same_from_decides announced.broken_jointly broken announced.breaks_jointly breaks) (joint_breach_at true has)

  pub gives_no_joint : has_joint P.form ≡ false → GivesQuery P records query.JointBreach (reply.Refused NoOrigin)
  gives_no_joint none = joint_breach_at false none

  -- how much was lost
  pub gives_lost : (state : Snapshot) → state ≡ state_at_end (start_state P) done → GivesQuery P records query.Lost (reply.Lost log state.lost)
  gives_lost state is =
      subst (λ (s : Snapshot). GivesQuery P records query.Lost (reply.Lost log s.lost)) (sym is) (gives query.Lost)

  -- a record of the log, if there is one
  pub gives_log : (place : ℕ) (found : Option Record) → record_at records place ≡ found
      → GivesQuery P records (query.Log place) (unwrap_or (option_map (λ said. reply.Log log said) found) (reply.Nothing log))
  gives_log place found is =
      subst (λ (o : Option Record). GivesQuery P records (query.Log place) (unwrap_or (option_map (λ said. reply.Log log said) o) (reply.Nothing log)))
      is (gives (query.Log place))

-- how many outputs are released, where they are known
pub gives_released : (P : Program) (records : List Record) (log : ℕ) → EachOnce records → log ≡ length records
    → (outs : List Out) → IsReleased P (set_of records) outs → GivesQuery P records query.Released (reply.Released log (length outs))
gives_released P records log once long outs h =
    let count : log ≡ h.0.count = one_size (set_of records) log h.0.count (records, once, refl, sym long) h.1.count in
    (h.0, h.1, λ i. reply.Released (count i) (length (h.2 i)))

-- each output of a run is one of the outputs of the program, which are few
pub few_outputs : (P : Program) (E : List Event) (done : List Row) → Run P E done → (i : ℕ) (out : Out) → IsTrue (is_valid P)
    → slice_get (outputs_of done) i ≡ Some out → out.port < most_outputs widest
few_outputs P E done run i out valid found =
    let within = output_within P E done i out run found in
    let limit = (validity P valid).limits.outputs in
    omega arith

-- and so the ports of a list that has them all
pub few_ports : (P : Program) (E : List Event) (done : List Row) → Run P E done → IsTrue (is_valid P) → (outs : List Out)
    → outs ≡ outputs_of done → All (λ (out : Out). out.port < most_outputs widest) outs
few_ports P E done run valid outs is k d below =
    few_outputs P E done run k (get_or outs k d) valid (ap (λ (l : List Out). slice_get l k) (sym is) ∙ slice_get-get_or outs k d below)

-- the record at a place of a list, and none where no record stands there
pub at_place : (records : List Record) (place : ℕ) (said : Record) → IsAt records place said → record_at records place ≡ Some said
at_place records zero said at = absurd (omega (arith, at.0))
at_place records (suc index) said at = let same : suc index - 1 ≡ index = omega arith in subst (λ (i : ℕ). slice_get records i ≡ Some said) same at.1

pub at_none : (records : List Record) (place : ℕ) → ((said : Record) → ¬ IsAt records place said) → record_at records place ≡ None
at_none records zero none = refl
at_none records (suc index) none = by (slice_get records index) refl
  where
    by : (found : Option Record) → slice_get records index ≡ found → found ≡ None
    by (Some said) is = absurd (none said (omega arith, (let same : suc index - 1 ≡ index = omega arith in ap (slice_get records) same) ∙ is))
    by None is = refl

-- against a record of the list the program has no reason
pub allowed_at : (P : Program) (records : List Record) → AreAllowed P records → (i : ℕ) (said : Record) → slice_get records i ≡ Some said → refusal_of P said ≡ None
allowed_at P records allowed i said found =
    subst (λ (one : Record). refusal_of P one ≡ None) (get_or_from_slice_get records i said said found) (allowed i said (slice_get_within records i said found))
