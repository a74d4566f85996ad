-- Of a connection that speaks HTTP: the history that `http_server` keeps of it, and what passed over it.
use Rattle.std.specs.Prelude.{◌≡◌, ℕ, Bool, false, List, [], ◌∷◌}
use Rattle.http_server.specs.declared.state.Config.{Config}
use Rattle.http_server.specs.Connection.{config_of, history}
use Rattle.http_server.specs.History.{History, Rests, after_read}
use Rattle.warp_web.specs.declared.requests.Http.{Http}
use Rattle.warp_web.specs.Bounds.{most_part, read_size}
use Rattle.warp_web.specs.Lines.{Passed}

-- what was received, called, sent and is pending
abbrev pub history_in : Http → History
history_in h = history h.connection

-- the limits of the connection
abbrev pub config_in : Http → Config
config_in h = config_of h.connection

-- the limits with which HTTP begins
abbrev pub http_config : Config
http_config = record {
  limits = record { max_head_len = most_part; max_extensions_len = most_part; max_trailers_len = most_part };
  max_body_len = most_part;
  max_pending = most_part;
  read_size = read_size;
}

-- bytes came or ended, or were written, since requests were answered last, or none were yet
abbrev pub news_in : Http → Bool
news_in h = h.has_news

-- these bytes were received, if any
abbrev pub Receives : List ℕ → History → History → Type 0
Receives [] old new = new ≡ old
Receives (byte ∷ bytes) old new = new ≡ after_read old (byte ∷ bytes)

-- This passed: what was heard was received, what was written was sent, and no line was said and no text told. Where nothing
-- is new since requests were answered, each whole one that came was answered, unless many bytes wait to be written.
pub record Converses (p : Passed) (h : Http) : Type 0 where
  pub heard : (history_in h).received ≡ p.heard
  pub written : (history_in h).sent ≡ p.written
  pub says : p.said ≡ []
  pub tells : p.told ≡ []
  pub limits : config_in h ≡ http_config
  pub rests : news_in h ≡ false → Rests (config_in h) (history_in h)
