use Rattle.warp_session.proofs.serving.fn.serve_beside.scope+FnOnce.call_once.Goals as goal

-- what the closure asks of its types, and of what it holds, is what is asked here, behind the lifetimes
pub scope-requires : goal.scope-requires
scope-requires g c =
    let asked = c.requires.1.1.1.1.1.1.1 in
    let b = asked.1.1 in
    (b.0, (b.1, (b.2, (b.3, (b.4, (b.5, (asked.0, asked.1.0)))))))
