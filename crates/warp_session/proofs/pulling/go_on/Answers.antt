use Rattle.std.proofs.Common.{◌≡◌, ℕ, Bool, true, List, Option, Result, Ok, Err, IfErr, [], ◌++◌, append-nil, ap, sym, ◌∙◌}
use Rattle.std.specs.Io.KnownBytes.{Consumes}
use Rattle.std.proofs.KnownBytes.{Appends-nil}
use Rattle.warp_session.specs.declared.pulling.PullEnd.{PullEnd}
use Rattle.warp_session.specs.Pull.{IsBegun, question}
use Rattle.warp_session.specs.inner.Inbox.{InboxState, Moves, pending}
use Rattle.warp_session.specs.inner.Pulling.{IsCut}
use Rattle.warp_session.proofs.PullsLemmas.{begun_whole}
use Rattle.warp_session.proofs.pulling.go_on.Goals as goal

-- all of the question was written before, and then a read was the last
read_only : {T : Type 0} (r : Result T PullEnd) (waits : Bool) (place : ℕ) (left left' written : Option (List ℕ)) (old new : InboxState)
    → waits ≡ true → old.came ≡ [] → Consumes left left' new.came → new.kept ≡ old.kept → IfErr r IsCut
    → IfErr r (λ end. (text : List ℕ) × IsBegun end (question place) 1 (pending waits place ++ text) × Moves left left' written written text old new)
read_only (Ok v) waits place left left' written old new is none read kept cut = tt
read_only (Err end) waits place left left' written old new is none read kept cut =
    let all : pending waits place ≡ question place = ap (λ (b : Bool). pending b place) is in (
      [],
      begun_whole (question place) (pending waits place ++ []) end cut (append-nil (pending waits place) ∙ all),
      record {
        bytes = new.came;
        read = read;
        kept = kept;
        came = sym (ap (λ (l : List ℕ). l ++ new.came) none);
        out = Appends-nil written;
      },
    )

cut_of : {T : Type 0} (r : Result T PullEnd) (P : PullEnd → Type 0) → IfErr r (λ end. IsCut end × P end) → IfErr r IsCut
cut_of (Ok v) P cut = tt
cut_of (Err end) P cut = cut.0

pub returns-then-waits-clause-front : goal.returns-then-waits-clause-front
returns-then-waits-clause-front g c =
    read_only c.hear_more.result c.args.waits c.args.puller.now _ _ _ _ _ c.if-waits.true (c.requires c.if-waits.true) c.hear_more.ensures.read
    c.hear_more.ensures.kept (cut_of c.hear_more.result _ c.hear_more.ensures.cut)
