-- its words, one after another
use Rattle.std.proofs.Common.{◌≡◌, ℕ, List, ◌∷◌, ◌++◌, codes, decimal, ap, append_assoc, ◌∙◌}
use Rattle.std.specs.List.{join_with_byte}
use Rattle.warp_tag.specs.Moment.{Moment}
use Rattle.warp_record.specs.Record.{record_spelling, tag_words}
use Rattle.warp_record.specs.declared.record.Record.TheVariants.{Joint}
use Rattle.warp_record.proofs.record.append_joint.Goals as goal

spelled : (xs : List ℕ) (tag : Moment) (events withdrawn : ℕ) →
    (xs ++ codes "announce *" ++ 32 ∷ join_with_byte 32 (tag_words tag)) ++ 32 ∷ decimal events ++ 32 ∷ decimal withdrawn ≡ xs ++ record_spelling (Joint tag events withdrawn)
spelled xs tag events withdrawn = simp append_assoc

pub returns-clause-items : goal.returns-clause-items
returns-clause-items c =
    c.append_counts.ensures.items
    ∙ ap (λ (l : List ℕ). l ++ 32 ∷ decimal c.args.events ++ 32 ∷ decimal c.args.withdrawn)
    (c.append_tag.ensures.items ∙ ap (λ (l : List ℕ). l ++ 32 ∷ join_with_byte 32 (tag_words c.args.tag)) c.append.ensures.items)
    ∙ spelled c.args.out.now.items c.args.tag c.args.events c.args.withdrawn
