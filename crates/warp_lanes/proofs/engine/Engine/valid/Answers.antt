use Rattle.warp_lanes.proofs.engine.Engine.valid.Goals as goal

pub returns-clause-board : goal.returns-clause-board
returns-clause-board g c = rw (← c.self.view_is) c.self.invariant.1.honest
