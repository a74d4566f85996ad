-- the tags of what it announced are those of its tallies
use Rattle.std.proofs.Common.{List, map, subst, sym}
use Rattle.warp_tag.specs.Moment.{Moment}
use Rattle.warp_table.specs.inner.Closed.{IsLastTag}
use Rattle.warp_table.specs.inner.Heard.{Heard}
use Rattle.warp_table.proofs.LastTags.{announced_tags}
use Rattle.warp_table.proofs.announcer.Announcer.last_announced.Goals as goal

pub returns : goal.returns
returns c =
    subst (λ (h : Heard). IsLastTag (map (λ a. a.tag) h.announced) c.last.result) c.self.view_is
    (subst (λ (tags : List Moment). IsLastTag tags c.last.result) (sym (announced_tags c.self.inside.announced)) c.last.ensures)
