-- What a program answers over a set of records, and what a query gives then.
use Rattle.std.proofs.Common.{◌≡◌, List, None, length, refl, sym, ap, subst, ◌∙◌}
use Rattle.std.proofs.lemmas.Bool.Decides.{same_from_decides}
use Rattle.warp_tag.specs.Table.{live}
use Rattle.warp_step.specs.Program.{Program}
use Rattle.warp_step.specs.Snapshot.{start_state}
use Rattle.warp_step.specs.Run.{Run, state_at_end, outputs_of}
use Rattle.warp_step.proofs.TraceExists.{exists}
use Rattle.warp_step.proofs.TraceLemmas.{one_rest}
use Rattle.warp_record.specs.declared.line.Query.{Query}
use Rattle.warp_record.specs.declared.line.Query.TheVariants as query
use Rattle.warp_record.specs.declared.record.Record.{Record}
use Rattle.warp_record.specs.declared.reply.Reply.{Reply}
use Rattle.warp_table.specs.Log.{EachOnce}
use Rattle.warp_table.specs.Records.{Records, set_of}
use Rattle.warp_table.specs.LogNames.{table_of}
use Rattle.warp_table.proofs.LiveEvents.{live_by_set, live_once}
use Rattle.warp_table.proofs.Horizons.{one_horizon}
use Rattle.warp_table.proofs.Sets.{one_size}
use Rattle.warp_replica.specs.Answers.{Answers, AreAnswers, released_of}
use Rattle.warp_replica.specs.Gives.{AsksPlace, GivesQuery, reply_to}
use Rattle.warp_replica.proofs.SomeHorizon.{Announces}

-- the answers are those of the one run over the table's live events, and of what is announced
pub some_answer : (P : Program) (records : List Record) → EachOnce records → Announces P (set_of records)
    → (a : Answers) × AreAnswers P (set_of records) a
some_answer P records once announced =
    let run = exists P (live (table_of records)) in (
      record {
        state = state_at_end (start_state P) run.0;
        outputs = outputs_of run.0;
        count = length records;
        horizon = announced.horizon;
        released = released_of announced.horizon (outputs_of run.0);
        broken = announced.broken;
        broken_jointly = announced.broken_jointly;
      },
      record {
        events = live (table_of records);
        live = live_by_set records;
        trace = run.0;
        run = run.1;
        state = refl;
        outputs = refl;
        count = (records, once, refl, refl);
        horizon = announced.reached;
        released = refl;
        broken = announced.breaks;
        broken_jointly = announced.breaks_jointly;
      },
    )

-- a set has one list of live events, and these one trace; it has one horizon
pub one_answer : (P : Program) (S : Records) (a b : Answers) → AreAnswers P S a → AreAnswers P S b → a ≡ b
one_answer P S a b h k =
    let events : h.events ≡ k.events = live_once S h.events k.events h.live k.live in
    let run : Run P k.events h.trace = subst (λ E. Run P E h.trace) events h.run in
    let rows : h.trace ≡ k.trace = one_rest P k.events None (start_state P) h.trace k.trace run k.run in
    let states : a.state ≡ b.state = h.state ∙ ap (state_at_end (start_state P)) rows ∙ sym k.state in
    let outputs : a.outputs ≡ b.outputs = h.outputs ∙ ap outputs_of rows ∙ sym k.outputs in
    let counts : a.count ≡ b.count = one_size S a.count b.count h.count k.count in
    let horizons : a.horizon ≡ b.horizon = one_horizon P S a.horizon b.horizon h.horizon k.horizon in
    let released : a.released ≡ b.released = h.released ∙ (λ i. released_of (horizons i) (outputs i)) ∙ sym k.released in
    let broken : a.broken ≡ b.broken =
    λ i origin. same_from_decides (a.broken origin) (b.broken origin) (h.broken origin) (k.broken origin) i in
    let jointly : a.broken_jointly ≡ b.broken_jointly =
    same_from_decides a.broken_jointly b.broken_jointly h.broken_jointly k.broken_jointly in
    λ i. record {
      state = states i;
      outputs = outputs i;
      count = counts i;
      horizon = horizons i;
      released = released i;
      broken = broken i;
      broken_jointly = jointly i;
    }

-- and so have two sets that are one
pub same_answers : (P : Program) (S T : Records) → S ≡ T → (a b : Answers) → AreAnswers P S a → AreAnswers P T b → a ≡ b
same_answers P S T same a b h k = one_answer P T a b (subst (λ R. AreAnswers P R a) same h) k

-- one set's answers give a query one reply
pub one_reply : (P : Program) (records : List Record) (query : Query) (a b : Reply) → GivesQuery P records query a → GivesQuery P records query b → a ≡ b
one_reply P records query a b h k =
    h.2 ∙ ap (λ (answers : Answers). reply_to P records answers query) (one_answer P (set_of records) h.0 k.0 h.1 k.1) ∙ sym k.2

-- logs of one set give a query the same replies, but where it asks for a place
pub same_gives : (P : Program) (records other : List Record) (asked : Query) (reply : Reply) → set_of records ≡ set_of other → ¬ AsksPlace asked
    → GivesQuery P records asked reply → GivesQuery P other asked reply
same_gives P records other (query.Var number) reply same places h = (h.0, subst (λ S. AreAnswers P S h.0) same h.1, h.2)
same_gives P records other query.Outputs reply same places h = (h.0, subst (λ S. AreAnswers P S h.0) same h.1, h.2)
same_gives P records other (query.Output number) reply same places h = (h.0, subst (λ S. AreAnswers P S h.0) same h.1, h.2)
same_gives P records other query.Horizon reply same places h = (h.0, subst (λ S. AreAnswers P S h.0) same h.1, h.2)
same_gives P records other query.Released reply same places h = (h.0, subst (λ S. AreAnswers P S h.0) same h.1, h.2)
same_gives P records other query.Lost reply same places h = (h.0, subst (λ S. AreAnswers P S h.0) same h.1, h.2)
same_gives P records other (query.Breach origin) reply same places h = (h.0, subst (λ S. AreAnswers P S h.0) same h.1, h.2)
same_gives P records other query.JointBreach reply same places h = (h.0, subst (λ S. AreAnswers P S h.0) same h.1, h.2)
same_gives P records other (query.Log place) reply same places h = absurd (places tt)
