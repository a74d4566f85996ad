use Rattle.std.proofs.Common.{◌≡◌, ◌++◌, false, None, refl, sym, subst}
use Rattle.warp_record.specs.Lines.{piece_of}
use Rattle.warp_web.specs.Lines.{Passed}
use Rattle.warp_web.specs.Wire.{Passes, line_in}
use Rattle.warp_web.specs.declared.wire.Said.{Said}
use Rattle.warp_clients.specs.Client.{ClientState}
use Rattle.warp_clients.proofs.At.{keeps_line, rests_line}
use Rattle.warp_clients.proofs.client.Client.ask_next.Goals as goal

pub returns-in-Line : goal.returns-in-Line
returns-in-Line c =
    rw (← c.self.view_is) (piece_of c.in-Line.fed, c.keep.ensures.0, keeps_line c.args.facts.now c.args.is_failing (piece_of c.in-Line.fed) c.keep.ensures.0 (record { round = c.self.inside.round; here = c.self.inside.here; wire = c.self.inside.wire; rights = c.self.inside.rights; slot = c.self.inside.slot; owed = c.self.inside.owed; out = c.self.inside.out.items; wrong = c.self.inside.wrong; over = c.self.inside.over; gone = c.self.inside.gone }) c.keep.new.self c.said.new.self (subst (λ (x : ClientState). (x.gone ≡ false) × (x.over ≡ false) × (x.slot ≡ None)) (sym c.self.view_is) c.requires) c.keep.ensures.1 (subst (λ (x : Said). (p : Passed) → Passes p c.self.inside.wire → Passes (record p { said = p.said ++ line_in x }) c.said.new.self) c.in-Line.is c.in-Ok.ensures.passes) c.keep.ensures.2)

pub returns-in-Requests : goal.returns-in-Requests
returns-in-Requests c = rw (← c.self.view_is) (subst (λ (x : ClientState). x.gone ≡ false) (sym c.self.view_is) c.requires.0, subst (λ (x : Said). (p : Passed) → Passes p c.self.inside.wire → Passes (record p { said = p.said ++ line_in x }) c.said.new.self) c.in-Requests.is c.in-Ok.ensures.passes, refl)

pub returns-in-Upgrade : goal.returns-in-Upgrade
returns-in-Upgrade c = rw (← c.self.view_is) (subst (λ (x : ClientState). x.gone ≡ false) (sym c.self.view_is) c.requires.0, subst (λ (x : Said). (p : Passed) → Passes p c.self.inside.wire → Passes (record p { said = p.said ++ line_in x }) c.said.new.self) c.in-Upgrade.is c.in-Ok.ensures.passes, refl)

pub returns-in-More : goal.returns-in-More
returns-in-More c = rw (← c.self.view_is) (subst (λ (x : ClientState). x.gone ≡ false) (sym c.self.view_is) c.requires.0, subst (λ (x : Said). (p : Passed) → Passes p c.self.inside.wire → Passes (record p { said = p.said ++ line_in x }) c.said.new.self) c.in-More.is c.in-Ok.ensures.passes, refl)

pub returns-in-End : goal.returns-in-End
returns-in-End c = rw (← c.self.view_is) (subst (λ (x : ClientState). x.gone ≡ false) (sym c.self.view_is) c.requires.0, subst (λ (x : Said). (p : Passed) → Passes p c.self.inside.wire → Passes (record p { said = p.said ++ line_in x }) c.said.new.self) c.in-End.is c.in-Ok.ensures.passes, refl)

pub returns-in-Nothing : goal.returns-in-Nothing
returns-in-Nothing c =
    rw (← c.self.view_is) (rests_line c.args.facts.now c.args.is_failing c.rest.result (record { round = c.self.inside.round; here = c.self.inside.here; wire = c.self.inside.wire; rights = c.self.inside.rights; slot = c.self.inside.slot; owed = c.self.inside.owed; out = c.self.inside.out.items; wrong = c.self.inside.wrong; over = c.self.inside.over; gone = c.self.inside.gone }) c.rest.new.self c.said.new.self (subst (λ (x : ClientState). x.gone ≡ false) (sym c.self.view_is) c.requires.0) c.rest.ensures.quiet (subst (λ (x : Said). (p : Passed) → Passes p c.self.inside.wire → Passes (record p { said = p.said ++ line_in x }) c.said.new.self) c.in-Nothing.is c.in-Ok.ensures.passes) c.rest.ensures.same)
