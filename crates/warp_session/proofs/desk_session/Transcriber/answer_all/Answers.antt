use Rattle.std.proofs.Common.{[], ◌+◌, ◌++◌, ◌∙◌, ap, take, refl, arith}
use Rattle.std.proofs.KnownBytes.{Consumes-nil, Consumes-trans}
use Rattle.warp_session.specs.declared.desk_session.SessionEnd.TheVariants.{End, ReadFault, WriteFault}
use Rattle.warp_session.proofs.BreaksLemmas.{front_of_all, front_of_bytes}
use Rattle.warp_session.proofs.ReadsLemmas.{read_again, read_last, reads_more-none}
use Rattle.warp_session.proofs.TurnsLemmas.{Taken-nil, transcribed, read_more}
use Rattle.warp_session.proofs.desk_session.Transcriber.answer_all.Goals as goal

pub returns-then-has_ended-clause-bytes : goal.returns-then-has_ended-clause-bytes
returns-then-has_ended-clause-bytes g c = λ end.
    let was = c.reads.invariant in
    transcribed c.args.form g.D.Desk.gives _ _ _ was.seen c.read.new.buffer c.in-Ok.count _ _ _ refl refl was.taken
    (c.in-Ok-finish.ensures (g.D.Desk.state c.reads.desk)).does was.read c.in-Ok.ensures.bytes c.if-has_ended.true (omega (arith, c.requires.room, c.read.auto.buffer, c.reads.auto.buffer))

pub reads-preserved : goal.reads-preserved
reads-preserved g c =
    let was = c.reads.invariant in
    let piece = take c.in-Ok.count c.read.new.buffer in
    record {
      seen = was.seen ++ piece;
      read = Consumes-trans _ _ _ was.seen piece was.read c.in-Ok.ensures.bytes.0;
      taken = c.in-Ok-take.ensures.turn.does _ was.seen was.taken;
      reads = read_more was.seen c.read.new.buffer c.in-Ok.count c.reads._read was.reads c.in-Ok.ensures.bound c.if-has_ended.false;
      counted = read_again c.reads._read _ _ _ was.counted c.read.ensures.reads;
      waits = c.in-Ok-take.ensures.none;
      empty = c.in-Ok-take.ensures.empty;
      reads_sound = c.in-Ok.ensures.failures ∙ was.reads_sound;
      writes_sound = c.in-Ok-take.ensures.turn.failures ∙ was.writes_sound;
    }

pub reads-init : goal.reads-init
reads-init g c = rw c.requires.new (record {
  seen = [];
  read = Consumes-nil _;
  taken = Taken-nil c.args.form g.D.Desk.gives _ refl;
  reads = omega arith;
  counted = reads_more-none _;
  waits = refl;
  empty = refl;
  reads_sound = refl;
  writes_sound = refl;
})

pub returns-in_default-finish-clause-front : goal.returns-in_default-finish-clause-front
returns-in_default-finish-clause-front g c = λ _.
    let was = c.reads.invariant in
    front_of_all c.args.form g.D.Desk.gives _ _ _ was.seen c.read.new.buffer c.in-Ok.count _ _ _ refl refl was.taken
    (c.in_default-finish.ensures (g.D.Desk.state c.reads.desk)).breaks was.read c.in-Ok.ensures.bytes c.if-has_ended.true (omega (arith, c.requires.room, c.read.auto.buffer, c.reads.auto.buffer))

pub returns-in_default-take-clause-front : goal.returns-in_default-take-clause-front
returns-in_default-take-clause-front g c = λ _.
    let was = c.reads.invariant in
    front_of_bytes c.args.form g.D.Desk.gives _ _ _ was.seen (take c.in-Ok.count c.read.new.buffer) _ _ _ refl refl was.taken
    c.in_default-take.ensures.turn.breaks was.read c.in-Ok.ensures.bytes.0

pub returns-in_default-clause-reads : goal.returns-in_default-clause-reads
returns-in_default-clause-reads g c =
    read_last ReadFault c.reads._read _ _ _ c.reads.invariant.counted c.read.ensures.reads (omega arith, omega (arith, c.reads-test.true))

pub returns-in_default-finish-clause-reads : goal.returns-in_default-finish-clause-reads
returns-in_default-finish-clause-reads g c =
    read_last WriteFault c.reads._read _ _ _ c.reads.invariant.counted c.read.ensures.reads (omega arith, omega (arith, c.reads-test.true))

pub returns-then-has_ended-clause-reads : goal.returns-then-has_ended-clause-reads
returns-then-has_ended-clause-reads g c =
    read_last End c.reads._read _ _ _ c.reads.invariant.counted c.read.ensures.reads (omega arith, omega (arith, c.reads-test.true))

pub returns-in_default-take-clause-reads : goal.returns-in_default-take-clause-reads
returns-in_default-take-clause-reads g c =
    read_last WriteFault c.reads._read _ _ _ c.reads.invariant.counted c.read.ensures.reads (omega arith, omega (arith, c.reads-test.true))

pub returns-in_default-finish-clause-failures : goal.returns-in_default-finish-clause-failures
returns-in_default-finish-clause-failures g c =
    let was = c.reads.invariant in (
      c.in-Ok.ensures.failures ∙ was.reads_sound,
      (c.in_default-finish.ensures (g.D.Desk.state c.reads.desk)).failures ∙ ap (λ n. n + 1) was.writes_sound,
    )

pub returns-then-has_ended-clause-failures : goal.returns-then-has_ended-clause-failures
returns-then-has_ended-clause-failures g c =
    let was = c.reads.invariant in (
      c.in-Ok.ensures.failures ∙ was.reads_sound,
      (c.in-Ok-finish.ensures (g.D.Desk.state c.reads.desk)).failures ∙ was.writes_sound,
    )
