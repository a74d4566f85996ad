-- Each length that a reply of a replica says is that of the log which it leaves.
use Rattle.std.proofs.Common.{ℕ, List, length, refl, sym, subst, arith, length-append, Option, Some, None, Result, Ok}
use Rattle.std.proofs.Common.{Err, Bool, true, false, inl, inr}
use Rattle.std.specs.Prelude.{slice_get, if◌then◌else◌}
use Rattle.std.specs.Option.{option_map, unwrap_or}
use Rattle.warp_tag.specs.Limits.{has_joint}
use Rattle.warp_step.specs.Program.{Program}
use Rattle.warp_step.specs.Events.{is_declared}
use Rattle.warp_record.specs.declared.record.Record.{Record}
use Rattle.warp_record.specs.declared.line.Query.{Query}
use Rattle.warp_record.specs.declared.line.Query.TheVariants as query
use Rattle.warp_record.specs.declared.line.Line.{Line}
use Rattle.warp_record.specs.declared.line.Line.TheVariants as line
use Rattle.warp_record.specs.declared.reply.Refusal.{Refusal}
use Rattle.warp_record.specs.declared.reply.Reply.{Reply}
use Rattle.warp_table.specs.Log.{EachOnce}
use Rattle.warp_table.specs.Records.{set_of}
use Rattle.warp_table.proofs.Sets.{one_size}
use Rattle.warp_replica.specs.Answers.{Answers}
use Rattle.warp_replica.specs.Gives.{Gives, Takes, told, reply_to, record_at}
use Rattle.warp_replica.specs.Length.{SaysLength}
use Rattle.warp_replica.specs.declared.taking.Took.{Took}
use Rattle.warp_replica.specs.declared.taking.Took.TheVariants.{New, Known}

-- of a reply that is made of what is found, or else says no length but this
says_found : {X : Type 0} (len : ℕ) (make : X → Reply) (other : Reply) (found : Option X)
    → ((x : X) → SaysLength len (make x)) → SaysLength len other → SaysLength len (unwrap_or (option_map make found) other)
says_found len make other (Some x) makes o = makes x
says_found len make other None makes o = o

says_if : (len : ℕ) (b : Bool) (x y : Reply) → SaysLength len x → SaysLength len y → SaysLength len (if b then x else y)
says_if len true x y p q = p
says_if len false x y p q = q

says_query : (P : Program) (records : List Record) (a : Answers) (asked : Query) → SaysLength a.count (reply_to P records a asked)
says_query P records a (query.Var number) = says_found a.count _ _ (slice_get a.state.vars number) (λ _. refl) tt
says_query P records a query.Outputs = refl
says_query P records a (query.Output number) = says_found a.count _ _ (slice_get a.outputs number) (λ _. refl) refl
says_query P records a query.Horizon = refl
says_query P records a query.Released = refl
says_query P records a query.Lost = refl
says_query P records a (query.Breach origin) = says_if a.count (is_declared P origin) _ _ refl tt
says_query P records a query.JointBreach = says_if a.count (has_joint P.form) _ _ refl tt
says_query P records a (query.Log place) = says_found a.count _ _ (record_at records place) (λ _. refl) refl

says_told : (P : Program) (records : List Record) (said : Record) (result : Result Took Refusal) (after : List Record)
    → Takes P records said result after → SaysLength (length after) (told result)
says_told P records said (Ok (New place)) after t = grind (t, arith, length-append)
says_told P records said (Ok (Known place)) after t = tt
says_told P records said (Err refusal) after t = tt

pub says_length : (P : Program) (records : List Record) (said : Line) (answer : Reply) (after : List Record)
    → EachOnce records → Gives P records said answer after → SaysLength (length after) answer
says_length P records (line.Put said) answer after once g =
    subst (SaysLength (length after)) (sym g.2) (says_told P records said g.0 after g.1)
says_length P records (line.Ask asked) answer after once g =
    subst (λ (l : List Record). SaysLength (length l) answer) (sym g.1)
    (elim g.0 [
      | inl q ↦
          subst (SaysLength (length records)) (sym q.2)
          (subst (λ (n : ℕ). SaysLength n (reply_to P records q.0 asked)) (one_size (set_of records) _ _ q.1.count (records, once, refl, refl))
          (says_query P records q.0 asked))
      | inr why ↦ subst (SaysLength (length records)) (sym why) tt
    ])
says_length P records line.Collect answer after once g =
    subst (λ (l : List Record). SaysLength (length l) answer) (sym g.1)
    (elim g.0 [
      | inl e ↦ subst (SaysLength (length records)) (sym e) refl
      | inr why ↦ subst (SaysLength (length records)) (sym why) tt
    ])
says_length P records (line.Look look) answer after once g = subst (SaysLength (length after)) (sym g.0) tt
