-- Connections that are accepted and served one after another, and how many of them failed.
use Rattle.std.specs.Prelude.{◌≡◌, ◌⊎◌, ℕ, ◌+◌, ◌≤◌, List, [], ◌∷◌, length, Option, Some, None, Result, Ok, Err}
use Rattle.std.specs.Io.KnownBytes.{Appends, Consumes, Keeps}
use Rattle.desk_script.specs.Losses.{AppendsFront}
use Rattle.desk_script.specs.Script.{AreLeft}
use Rattle.desk_http.specs.Connections.{Connection}
use Rattle.desk_http.specs.Limits as most
use Rattle.desk_http.specs.Replies.{Told, reply_bytes}
use Rattle.desk_http.specs.declared.receiving.ServeFault.{ServeFault}
use Rattle.desk_http.specs.declared.receiving.ServeFault.TheVariants.{Read, Write, Turns}
use Rattle.desk_http.specs.declared.serving.Served.{Served}
use Rattle.desk_http.specs.declared.serving.Served.TheVariants.{Nothing, Replied}

-- a connection that ended with a fault is a failure
abbrev pub failures : Result Served ServeFault → ℕ
failures (Ok served) = 0
failures (Err fault) = 1

-- how many connections failed, by the result of serving: none if it is Ok
abbrev pub failed_in : Result (Unit {0}) ℕ → ℕ
failed_in (Ok done) = 0
failed_in (Err failed) = failed

-- What was read of a connection and written to it, by how it ended: its reply, with this status;
-- nothing, since no byte came; after a fault of the writer a prefix of the reply; and after one of
-- the reader nothing.
abbrev pub HasEnded : Connection → Option (List ℕ) → Option (List ℕ) → Option (List ℕ)
    → Option (List ℕ) → Result Served ServeFault → Type 0
HasEnded c from to old new (Ok (Replied status)) = AreLeft from c.bytes
    × (told : Told) × (c.told ≡ Some told) × (status ≡ told.0) × Appends old new (reply_bytes told)
HasEnded c from to old new (Ok Nothing) = AreLeft from c.bytes × (length c.bytes ≡ 0)
    × (c.told ≡ None) × Keeps old new
HasEnded c from to old new (Err Write) = AreLeft from c.bytes
    × (told : Told) × (c.told ≡ Some told) × AppendsFront old new (reply_bytes told)
HasEnded c from to old new (Err Read) = (c.told ≡ None) × Keeps old new
HasEnded c from to old new (Err Turns) = (c.told ≡ None) × Keeps old new
    × ((bytes : List ℕ) × Consumes from to bytes × (most.reads ≤ length bytes))

module _ {A Reader Writer : Type 0} (accepts : A → Option (Reader × Writer) → A → Type 0)
    (ends : A → Reader × Writer → Result Served ServeFault → A → Type 0)
    (remaining : Reader → Option (List ℕ)) (contents : Writer → Option (List ℕ)) where
  -- a connection that was accepted, ended and was given back
  pub record IsGivenBack (c : Connection) (before : A) (failed : ℕ) (after : A) : Type 0 where
    pub reader : Reader
    pub writer : Writer
    pub accepted : A
    pub is_accepted : accepts before (Some (reader, writer)) accepted
    pub read : Reader
    pub written : Writer
    pub ending : Result Served ServeFault
    pub has_ended : HasEnded c (remaining reader) (remaining read) (contents writer)
        (contents written) ending
    pub is_back : ends accepted (read, written) ending after
    pub counts : failed ≡ failures ending

  -- one that couldn't be accepted is a failure, and has no reply
  abbrev pub IsCounted : Connection → A → ℕ → A → Type 0
  IsCounted c before failed after =
      (accepts before None after × (c.told ≡ None) × (failed ≡ 1))
      ⊎ IsGivenBack c before failed after

  -- so many connections to a port failed, one after another
  abbrev pub AreCounted : ℕ → List Connection → A → ℕ → A → Type 0
  AreCounted port [] before failed after = (before ≡ after) × (failed ≡ 0)
  AreCounted port (c ∷ cs) before failed after =
      (between : A) × (one : ℕ) × (others : ℕ) × (c.port ≡ Some port)
      × IsCounted c before one between × AreCounted port cs between others after
      × (failed ≡ one + others)
