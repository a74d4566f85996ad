-- nothing is known or done, and the cursor is behind the last place
use Rattle.std.proofs.Common.{◌≡◌, [], None, ap, ◌∙◌, refl, subst, sym, true, false}
use Rattle.warp_arena.specs.Places.{Reaches, entries_of}
use Rattle.warp_run.specs.Walk.{ahead}
use Rattle.warp_run.proofs.PlacesWalks.{reaches_as}
use Rattle.warp_run.proofs.RowsFloor.{no_floor}
use Rattle.warp_run.proofs.warp.WarpTimeline.start.Goals as goal

pub returns-clause-stands : goal.returns-clause-stands
returns-clause-stands c =
    let arena = c.in_ok-start.ensures in
    let last = c.in_ok-start-2.field-0.last in
    record {
      program = c.valid.ensures;
      origins = ap (λ a. a.origins) arena ∙ c.origins.ensures;
      table = ap (λ a. entries_of a.places) arena;
      ordered = tt;
      events = refl;
      tip = c.in_ok-start-2.ensures [];
      cursor = reaches_as _ _ _ _ c.end.ensures
          (subst (λ a. Reaches a.places (ahead last a.places) None) (sym arena) (record { handle = refl; used = tt; left = refl }));
      latest = refl;
      settled = λ yes. let no : false ≡ true = yes in cc;
      skips = refl;
    }

pub returns-clause-floor : goal.returns-clause-floor
returns-clause-floor c =
    let tip = c.in_ok-start-2.ensures [] in
    tip.floor ∙ no_floor c.in_ok-start-2.field-0.base
