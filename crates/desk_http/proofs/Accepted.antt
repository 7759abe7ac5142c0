-- Connections that are served one after another are answered and counted.
use Rattle.std.proofs.Common.{◌≡◌, ℕ, ◌+◌, List, [], ◌∷◌, ◌++◌, Option, Some, None, Ok, Err}
use Rattle.std.proofs.Common.{arith, refl, subst, sym}
use Rattle.std.specs.Prelude.{Result, IfOk, IfErr}
use Rattle.desk_access.specs.Seen.{Seen}
use Rattle.desk_model.specs.Readings.{Readings}
use Rattle.desk_model.specs.Tables.{Tables}
use Rattle.desk_model.specs.declared.command.StoreFault.{StoreFault}
use Rattle.desk_script.specs.Script.{AreLeft}
use Rattle.desk_http.specs.Accepting.{AreCounted, HasEnded, IsCounted}
use Rattle.desk_http.specs.Connections.{AreAnswered, Connection, IsConnected}
use Rattle.desk_http.specs.Serving.{IsServed, IsStopped}
use Rattle.desk_http.specs.declared.receiving.ServeFault.{ServeFault}
use Rattle.desk_http.specs.declared.receiving.ServeFault.TheVariants.{Read, Write, Turns}
use Rattle.desk_http.specs.declared.serving.Served.{Served}
use Rattle.desk_http.specs.declared.serving.Served.TheVariants.{Nothing, Replied}

module _ (is_right : Readings → Type 0) (tells : StoreFault → Type 0) {Left Desk : Type 0}
    (stands : Left → Tables → Type 0) (seen : Desk → Seen Left) where
  -- what serving a connection comes to
  pub ended : (port : ℕ) (before after : Desk) (from to old new : Option (List ℕ))
      (ending : Result Served ServeFault)
      → IfOk ending (λ served. (bytes : List ℕ) × AreLeft from bytes
      × IsServed is_right tells stands seen (Some port) before bytes after old new served)
      → IfErr ending (IsStopped is_right tells stands seen (Some port) from to before after old new)
      → (c : Connection) × (c.port ≡ Some port)
      × IsConnected is_right tells stands seen c.port c.bytes c.told before after
      × HasEnded c from to old new ending
  ended port before after from to old new (Ok (Replied status)) ok err =
      let it = ok.2 in (
        record { port = Some port; bytes = ok.0; told = Some it.0 },
        refl,
        it.1,
        (ok.1, it.0, refl, it.2, it.3),
      )
  ended port before after from to old new (Ok Nothing) ok err = (
    record { port = Some port; bytes = ok.0; told = None },
    refl,
    ok.2.1,
    (ok.1, ok.2.0, refl, ok.2.2),
  )
  ended port before after from to old new (Err Write) ok err = (
    record { port = Some port; bytes = err.0; told = Some err.1 },
    refl,
    err.3,
    (err.2, err.1, refl, err.4),
  )
  ended port before after from to old new (Err Read) ok err = (
    record { port = Some port; bytes = []; told = None },
    refl,
    err.0,
    (refl, err.1),
  )
  ended port before after from to old new (Err Turns) ok err = (
    record { port = Some port; bytes = []; told = None },
    refl,
    err.0,
    (refl, err.1, err.2),
  )

  -- one more connection
  pub answered_then : (before : Desk) (cs : List Connection) (between : Desk) (c : Connection)
      (after : Desk) → AreAnswered is_right tells stands seen before cs between
      → IsConnected is_right tells stands seen c.port c.bytes c.told between after
      → AreAnswered is_right tells stands seen before (cs ++ c ∷ []) after
  answered_then before [] between c after same one = (
    after,
    subst (λ (d : Desk). IsConnected is_right tells stands seen c.port c.bytes c.told d after)
        (sym same) one,
    refl,
  )
  answered_then before (first ∷ cs) between c after (next, done, more) one = (
    next,
    done,
    answered_then next cs between c after more one,
  )

module _ {A Reader Writer : Type 0} (accepts : A → Option (Reader × Writer) → A → Type 0)
    (ends : A → Reader × Writer → Result Served ServeFault → A → Type 0)
    (remaining : Reader → Option (List ℕ)) (contents : Writer → Option (List ℕ)) where
  pub counted_then : (port : ℕ) (before : A) (cs : List Connection) (n : ℕ) (between : A)
      (c : Connection) (one : ℕ) (after : A)
      → AreCounted accepts ends remaining contents port cs before n between → c.port ≡ Some port
      → IsCounted accepts ends remaining contents c between one after
      → AreCounted accepts ends remaining contents port (cs ++ c ∷ []) before (n + one) after
  counted_then port before [] n between c one after (same, none) to last = (
    after,
    one,
    0,
    to,
    subst (λ (a : A). IsCounted accepts ends remaining contents c a one after) (sym same) last,
    (refl, refl),
    omega (arith, none),
  )
  counted_then port before (first ∷ cs) n between c one after
      (next, front, others, at, done, more, sum) to last = (
        next,
        front,
        others + one,
        at,
        done,
        counted_then port next cs others between c one after more to last,
        omega (arith, sum),
      )
