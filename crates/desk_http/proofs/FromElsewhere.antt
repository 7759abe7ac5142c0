-- What was received shows whether all bytes of a connection come from elsewhere.
use Rattle.std.proofs.Common.{ℕ, List, Option, Some, None}
use Rattle.desk_access.specs.Seen.{Seen}
use Rattle.desk_http_head.specs.Origins.{IsFromElsewhere}
use Rattle.desk_http.specs.Receiving.{HasHeadOf}
use Rattle.desk_http.specs.Serving.{IsBarred, IsReply}
use Rattle.desk_http.specs.declared.asking.Reply.{Reply}
use Rattle.desk_http.specs.declared.asking.Reply.TheVariants.{Became, Bad, NoRoute, BadCommand, NotText, Memory, Elsewhere}
use Rattle.desk_model.specs.Readings.{Readings}
use Rattle.desk_model.specs.Tables.{Tables}
use Rattle.desk_model.specs.declared.command.StoreFault.{StoreFault}

pub IsFromElsewhere-whole : (port : ℕ) (front bytes : List ℕ) → HasHeadOf front bytes
    → IsFromElsewhere port front → IsFromElsewhere port bytes
IsFromElsewhere-whole port front bytes same (h, after, b, e) =
    let there = (same h).0 (after, b) in
    (h, there.0, there.1, e)

pub IsFromElsewhere-front : (port : ℕ) (front bytes : List ℕ) → HasHeadOf front bytes
    → IsFromElsewhere port bytes → IsFromElsewhere port front
IsFromElsewhere-front port front bytes same (h, after, b, e) =
    let there = (same h).1 (after, b) in
    (h, there.0, there.1, e)

-- what is barred, and what isn't, of a front with the head of all bytes
pub IsBarred-whole : (port : Option ℕ) (front bytes : List ℕ) → HasHeadOf front bytes
    → IsBarred port front → IsBarred port bytes
IsBarred-whole None front bytes same x = x
IsBarred-whole (Some port) front bytes same x = IsFromElsewhere-whole port front bytes same x

pub IsBarred-front : (port : Option ℕ) (front bytes : List ℕ) → HasHeadOf front bytes
    → IsBarred port bytes → IsBarred port front
IsBarred-front None front bytes same x = x
IsBarred-front (Some port) front bytes same x = IsFromElsewhere-front port front bytes same x

module _ (is_right : Readings → Type 0) (tells : StoreFault → Type 0) {Left Desk : Type 0}
    (stands : Left → Tables → Type 0) (seen : Desk → Seen Left) where
  -- what isn't barred gets the reply that it gets with no regard to a port
  pub IsReply-free : (port : Option ℕ) (before after : Desk) (bytes : List ℕ) (r : Reply)
      → (¬ (IsBarred port bytes))
      → IsReply is_right tells stands seen None before bytes r after
      → IsReply is_right tells stands seen port before bytes r after
  IsReply-free port before after bytes (Became o s short) free x =
      (free, x.1, x.2, x.3, x.4, x.5)
  IsReply-free port before after bytes (Bad status) free x = (free, x.1, x.2)
  IsReply-free port before after bytes NoRoute free x =
      (free, x.1, x.2, x.3, x.4, x.5)
  IsReply-free port before after bytes BadCommand free x =
      (free, x.1, x.2, x.3, x.4, x.5)
  IsReply-free port before after bytes NotText free x =
      (free, x.1, x.2, x.3, x.4, x.5)
  IsReply-free port before after bytes Memory free x = x
  IsReply-free port before after bytes Elsewhere free x = absurd x.0
