-- What was not read as the next record told none.
use Rattle.std.proofs.Common.{◌∙◌, ap, inr, refl, subst, sym}
use Rattle.warp_hub.specs.Follow.{LeadsTo, PlacesBehind, TellsRecord}
use Rattle.warp_hub.specs.declared.follow.Phase.TheVariants.{Asked}
use Rattle.warp_hub.proofs.follow.Follower.on_reply.Goals as goal

pub returns-in_default-clause-hears : goal.returns-in_default-clause-hears
returns-in_default-clause-hears c =
    inr (
      refl,
      λ h. (
        ap (λ s. s.next) c.on_nothing.ensures.others ∙ ap (λ s. s.next) c.self.view_is,
        ap (λ s. s.missing) c.on_nothing.ensures.others ∙ ap (λ s. s.missing) c.self.view_is,
        c.on_nothing.ensures.ends,
      ),
      λ said tells. absurd (c.in_default.ensures.none said
          (subst (λ s. TellsRecord s.form Asked s.next c.args.line.now said) (sym c.self.view_is)
          (subst (λ p. TellsRecord c.args.self.now.form p c.args.self.now.next c.args.line.now said) c.requires tells))),
      subst (λ p. LeadsTo p c.args.self.now.program c.args.line.now c.on_nothing.new.self.phase) (sym c.requires)
          c.on_nothing.ensures.leads,
      subst (λ p. PlacesBehind p c.args.self.now.next c.args.self.now.missing c.on_nothing.new.self.next c.on_nothing.new.self.missing)
          (sym c.requires) (
            ap (λ s. s.next) c.on_nothing.ensures.others ∙ ap (λ s. s.next) c.self.view_is,
            ap (λ s. s.missing) c.on_nothing.ensures.others ∙ ap (λ s. s.missing) c.self.view_is,
          ),
    )
