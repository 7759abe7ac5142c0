-- What the answers of `clap` say about the call that words hold.
use Rattle.std.proofs.Common.{◌≡◌, true, [], ◌∷◌, List, Option, None, Some, inl, inr, refl, sym, ◌∙◌, subst}
use Rattle.std.specs.Prelude.{Result, Ok, Err, IfOk, IfErr}
use Rattle.clap.specs.Words.{App, HasKind, IsAmong, Kinds, Row, Text, fault_of, is_simple}
use Rattle.clap.specs.Words.{is_simple_and_free, kind_of, subcommand_of}
use Rattle.clap.specs.Kinds.{or_else}
use Rattle.clap.specs.declared.error.Error.{Error}
use Rattle.clap.specs.declared.error.kind.ErrorKind.{ErrorKind}
use Rattle.desk_line.specs.Words.{desk_app}
use Rattle.desk_line.specs.Calls.{call_at, call_of, lacking, unless, usage_of, IsFault, IsFaultOf, IsLack, IsLackOf}
use Rattle.desk_line.specs.declared.call.Call.{Call}
use Rattle.desk_line.specs.declared.call.LineFault.{LineFault}
use Rattle.desk_line.specs.declared.call.LineFault.TheVariants.{Memory, Usage}

-- if nothing is refused, what was found is the call
found_where_none : (kinds : Kinds) (found : Option Call) → kinds ≡ [] → unless kinds found ≡ found
found_where_none kinds found none = subst (λ (ks : Kinds). unless ks found ≡ found) (sym none) refl

none_where_refused : (kinds lacked : Kinds) (found : Option Call) (kind : ErrorKind)
    → IsAmong kind kinds
    → (unless kinds found ≡ None) × IsAmong kind (or_else kinds lacked)
none_where_refused [] lacked found kind among = absurd among
none_where_refused (first ∷ rest) lacked found kind among = (refl, among)

-- words that `clap` accepts hold the call of the subcommand that it found
pub taken : (app : App) (words : List Text) (met : Option (Text × List Row)) → app ≡ desk_app
    → (is_simple_and_free app ≡ true → fault_of app words ≡ [])
    → (is_simple app ≡ true → met ≡ subcommand_of app words)
    → (fault_of desk_app words ≡ []) × (call_of words ≡ call_at met)
taken app words met same none found =
    let taken_whole : fault_of desk_app words ≡ [] =
    subst (λ (a : App). is_simple_and_free a ≡ true → fault_of a words ≡ []) same none refl in
    let found_whole : met ≡ subcommand_of desk_app words =
    subst (λ (a : App). is_simple a ≡ true → met ≡ subcommand_of a words) same found refl in (
      taken_whole,
      found_where_none (fault_of desk_app words) (call_at (subcommand_of desk_app words))
          taken_whole
          ∙ sym (subst (λ m. call_at met ≡ call_at m) found_whole refl),
    )

-- what `clap` found is the subcommand of the words
pub found_of_app : (app : App) (words : List Text) (met : Option (Text × List Row)) → app ≡ desk_app
    → (is_simple app ≡ true → met ≡ subcommand_of app words) → met ≡ subcommand_of desk_app words
found_of_app app words met same found = subst (λ (a : App). is_simple a ≡ true
    → met ≡ subcommand_of a words) same found refl

-- words that `clap` refuses hold no call
pub refused : (app : App) (words : List Text) (error : Error) (fault : LineFault) → app ≡ desk_app
    → (is_simple_and_free app ≡ true → HasKind (fault_of app words) error) → IsFaultOf error fault
    → IsFault words fault
refused app words error fault same kinds of =
    go fault (subst (λ (a : App). is_simple_and_free a ≡ true → HasKind (fault_of a words) error)
    same kinds refl) of
  where
    go : (fault : LineFault) → HasKind (fault_of desk_app words) error → IsFaultOf error fault
        → IsFault words fault
    go (Usage told) (inl memory) of = absurd (of.1 memory)
    go (Usage told) (inr among) of = subst (λ e. (call_of words ≡ None)
        × IsAmong (kind_of e) (usage_of words)) (sym of.0)
        (none_where_refused (fault_of desk_app words) (lacking (subcommand_of desk_app words))
        (call_at (subcommand_of desk_app words)) (kind_of error) among)
    go (Memory refused) kinds of = tt

-- an error of one of these kinds is reported as one
pub lack_told : (kinds : Kinds) (kind : ErrorKind) (error : Error) (fault : LineFault)
    → IsAmong kind kinds → kind_of error ≡ kind → IsFaultOf error fault
    → IsLack kinds fault
lack_told kinds kind error (Memory refused) among is of = tt
lack_told kinds kind error (Usage told) among is of =
    let told_kind : kind_of told ≡ kind = subst (λ e. kind_of e ≡ kind) (sym of.0) is in
    subst (λ k. IsAmong k kinds) (sym told_kind) among

pub lack_of : (met : Option (Text × List Row)) (fault : LineFault) → call_at met ≡ None
    → IsLack (lacking met) fault → IsLackOf met fault
lack_of met (Memory refused) none lack = tt
lack_of met (Usage error) none lack = (none, lack)

-- words that `clap` accepts hold no call if the subcommand that it found is none
pub lacked : (words : List Text) (met : Option (Text × List Row)) (fault : LineFault)
    → (fault_of desk_app words ≡ []) × (call_of words ≡ call_at met)
    → met ≡ subcommand_of desk_app words → IsLackOf met fault → IsFault words fault
lacked words met (Memory refused) whole found lack = tt
lacked words met (Usage told) whole found lack =
    let kinds : usage_of words ≡ lacking met =
    subst (λ (ks : Kinds). or_else ks (lacking (subcommand_of desk_app words)) ≡ lacking met)
    (sym whole.0)
    (subst (λ m. lacking m ≡ lacking met) found refl) in
    (whole.1 ∙ lack.0, subst (λ (ks : Kinds). IsAmong (kind_of told) ks) (sym kinds) lack.1)

-- what is made of what `clap` found is made of the words
pub call_told : (words : List Text) (met : Option (Text × List Row)) (found : Result Call LineFault)
    → call_of words ≡ call_at met
    → IfOk found (λ call. call_at met ≡ Some call) → IfOk found (λ call. call_of words ≡ Some call)
call_told words met (Ok call) whole is = whole ∙ is
call_told words met (Err fault) whole is = tt

pub fault_told : (words : List Text) (met : Option (Text × List Row))
    (found : Result Call LineFault)
    → (fault_of desk_app words ≡ []) × (call_of words ≡ call_at met)
    → met ≡ subcommand_of desk_app words
    → IfErr found (IsLackOf met) → IfErr found (IsFault words)
fault_told words met (Ok call) whole found lack = tt
fault_told words met (Err fault) whole found lack = lacked words met fault whole found lack
