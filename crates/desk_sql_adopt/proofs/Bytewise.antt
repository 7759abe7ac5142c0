-- One column of an index after another, each compared byte by byte.
use Rattle.std.proofs.Common.{◌≡◌, ◌<◌, ℕ, true, false, List, length, drop, sym, ap, ◌∙◌}
use Rattle.std.specs.Prelude.{◌==◌, ◌+◌, ◌&&◌}
use Rattle.std.proofs.lemmas.List.{drop_more}
use Rattle.sqlite_value.specs.Keys.{collation_code, first_key, later}
use Rattle.sqlite_value.specs.declared.keys.Key.{Key}
use Rattle.sqlite_value.specs.declared.keys.Order.{Order}
use Rattle.desk_sql_layout.specs.Desk.{is_bytewise}

module _ (columns : List ℕ) (at : ℕ) (rest : Order) (within : at < length columns) (key : Key)
    (is : key ≡ first_key rest) (code : ℕ) (coded : code ≡ collation_code key.collation) where
  turn : is_bytewise (drop at columns) rest
      ≡ ((code == 0) && is_bytewise (drop (at + 1) columns) (later rest))
  turn = ap (λ l. is_bytewise l rest) (drop_more columns at 0 within)
      ∙ ap (λ n. (n == 0) && is_bytewise (drop (at + 1) columns) (later rest))
      (sym (coded ∙ ap (λ (k : Key). collation_code k.collation) is))

  pub otherwise : (code == 0) ≡ false → is_bytewise (drop at columns) rest ≡ false
  otherwise not = turn ∙ ap (λ b. b && is_bytewise (drop (at + 1) columns) (later rest)) not

  pub by_bytes : (code == 0) ≡ true
      → is_bytewise (drop (at + 1) columns) (later rest) ≡ is_bytewise (drop at columns) rest
  by_bytes so = sym (turn ∙ ap (λ b. b && is_bytewise (drop (at + 1) columns) (later rest)) so)
