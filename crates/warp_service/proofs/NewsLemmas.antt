-- Two lines about one peer are a second apart; so many refused records wait.
use Rattle.std.proofs.Common.{◌≡◌, ◌∙◌, ℕ, ◌≤◌, List, length, take, Some, ap, arith, subst}
use Rattle.std.proofs.lemmas.List.{length-take}
use Rattle.warp_hub.specs.declared.follow.PeerEvent.{PeerEvent}
use Rattle.warp_service.specs.declared.news.NewsOfPeer.{NewsOfPeer}
use Rattle.warp_service.specs.declared.news.PeerNews.{PeerNews}
use Rattle.warp_service.specs.Contact.{later}
use Rattle.warp_service.specs.News.{TellsNews, behind_last, news_pause}

pub apart : (first second : ℕ) (a b c d : NewsOfPeer) (news other : PeerNews) (left more : ℕ) →
    TellsNews first (Some (record { 0 = news; 1 = left })) a b → c.told_at ≡ b.told_at →
    TellsNews second (Some (record { 0 = other; 1 = more })) c d → later first news_pause ≤ second
apart first second a b c d news other left more one same two =
    let at : c.told_at ≡ Some first = same ∙ ap (λ (n : NewsOfPeer). n.told_at) one.1 in
    subst (λ told. behind_last told ≤ second) at two.0

-- of sixteen places the first so many have so many
pub waiting : (events : List PeerEvent) (count : ℕ) → length events ≡ 16 → count ≤ 16 → length (take count events) ≡ count
waiting events count all few = omega (arith, length-take count events, all, few)
