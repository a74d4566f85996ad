-- nothing came yet
use Rattle.std.proofs.Common.{◌≡◌, ◌∙◌, ◌++◌, ◌∷◌, [], List, ℕ, length, ap, refl}
use Rattle.warp_journal.specs.Journal.{line_of}
use Rattle.warp_journal.proofs.Ends.{reads_none}
use Rattle.warp_journal.proofs.reading.Reading.new.Goals as goal

pub returns : goal.returns
returns c =
    let line = line_of c.args.first.now in
    let is : c.push.new.self.items ≡ line =
    c.in_ok-push.ensures.items ∙ ap (λ (it : List ℕ). it ++ 10 ∷ []) c.in_ok-line.ensures.items in
    let many : c.len-kept.result ≡ length line = c.len-kept.ensures ∙ c.push.new.self.ok.0 ∙ ap length is in
    reads_none c.args.form c.args.first.now _ refl is refl refl c.new.ensures.items c.begin.ensures many refl many refl
