-- Pulling: what a reply of another replica, which was asked for the next place of its log, leads to.
use Rattle.std.specs.Prelude.{◌≡◌, ℕ, ◌+◌, ◌==◌, nat_lt, Option, Some, MatchBool, if◌then◌else◌}
use Rattle.warp_record.specs.declared.line.Line.{Line}
use Rattle.warp_record.specs.declared.line.Line.TheVariants.{Put}
use Rattle.warp_record.specs.declared.reply.Refusal.{Refusal}
use Rattle.warp_record.specs.declared.reply.Refusal.TheVariants.{NoMemory, Busy}
use Rattle.warp_record.specs.declared.reply.Reply.{Reply}
use Rattle.warp_record.specs.declared.reply.Reply.TheVariants as reply
use Rattle.warp_exchange.specs.declared.puller.Pulled.{Pulled}
use Rattle.warp_exchange.specs.declared.puller.Pulled.TheVariants.{Got, Held, Level, Strange}

-- the outcome, and which place is asked for next
pub record Turned : Type 0 where
  pub pulled : Pulled
  pub next : ℕ

-- what the desk's own reply to the record leads to: the next place where the record is there now, else the same place,
-- held for a refusal's reason, and strange at any other reply
abbrev pub after_put : ℕ → Reply → Turned
after_put next (reply.Taken place) = record { pulled = Got; next = next + 1 }
after_put next (reply.Known place) = record { pulled = Got; next = next + 1 }
after_put next (reply.Refused refusal) = record { pulled = Held refusal; next = next }
after_put next other = record { pulled = Strange; next = next }

-- the same place is asked for again
abbrev pub stays : ℕ → Pulled → Turned
stays next pulled = record { pulled = pulled; next = next }

-- A reply to the question for the place `next` may lead to this, with these states of the desk: a record from a log that
-- has that place is put to the desk, and nothing else is. Want of memory and a busy server hold it; `none` at a log that ends
-- just before that place says that all is there; anything else is strange.
abbrev pub Pulls : {S : Type 0} → (S → Line → Reply → S → Type 0) → S → ℕ → Option Reply → Turned → S → Type 0
Pulls gives s next (Some (reply.Log log said)) turned s' =
    MatchBool (nat_lt log next)
    ((turned ≡ stays next Strange) × (s' ≡ s))
    ((answer : Reply) × gives s (Put said) answer s' × (turned ≡ after_put next answer))
Pulls gives s next (Some (reply.Refused NoMemory)) turned s' = (turned ≡ stays next (Held NoMemory)) × (s' ≡ s)
Pulls gives s next (Some (reply.Refused Busy)) turned s' = (turned ≡ stays next (Held Busy)) × (s' ≡ s)
Pulls gives s next (Some (reply.Nothing log)) turned s' =
    (turned ≡ stays next (if log + 1 == next then Level else Strange)) × (s' ≡ s)
Pulls gives s next other turned s' = (turned ≡ stays next Strange) × (s' ≡ s)

-- a refusal that passes: there was no memory, or the one that was asked was busy
abbrev pub passes : Refusal → Type 0
passes NoMemory = Unit {0}
passes Busy = Unit {0}
passes other = ⊥
