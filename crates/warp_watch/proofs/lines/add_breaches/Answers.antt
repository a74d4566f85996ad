-- The line's words are those of any answers of the set.
use Rattle.std.proofs.Common.{◌∙◌, ◌∷◌, ◌++◌, ◌&&◌, [], ap, decimal, if◌then◌else◌, length}
use Rattle.std.specs.Prelude.{codes}
use Rattle.std.specs.List.{flat_map}
use Rattle.warp_tag.specs.Limits.{has_joint}
use Rattle.warp_watch.specs.Lines.{broken_below}
use Rattle.warp_watch.proofs.TextLines.{breach_added}
use Rattle.warp_watch.proofs.lines.add_breaches.Goals as goal

pub returns : goal.returns
returns g c = λ a answers.
    let t1 = c.extend_from_slice.new.self.items in
    let t2 = c.add_number.new.text.items in
    let P = c.args.replica.now.program in
    let t3 = c.add_broken.new.text.items in
    breach_added (length c.args.replica.now.records) (broken_below a.broken P.origins) (has_joint P.form && a.broken_jointly)
    c.args.text.now.items t1 t2 t3 c.add_star.new.text.items c.push.new.self.items
    c.in_ok-extend_from_slice.ensures.items
    (c.in_ok-add_number.ensures ∙ ap (λ n. t1 ++ 32 ∷ decimal n) c.len.ensures.value)
    (c.in_ok-add_broken.ensures a answers
    ∙ ap (λ n. t2 ++ flat_map (λ origin. 32 ∷ decimal origin) (broken_below a.broken n)) (c.origins.ensures ∙ ap (λ P. P.origins) c.program.ensures))
    (c.in_ok-add_star.ensures ∙ ap (λ b. t3 ++ (if b then codes " *" else [])) (c.is_jointly_broken.ensures a answers))
    c.in_ok-push.ensures.items
