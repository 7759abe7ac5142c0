-- Changes that have the right form.
use Rattle.std.proofs.Common.{◌≡◌, true, Some, refl, ap, ◌∙◌}
use Rattle.std.specs.Prelude.{◌&&◌, false}
use Rattle.std.specs.Option.{option_map_or}
use Rattle.desk_base.specs.Day.{is_day}
use Rattle.desk_model.specs.declared.state.Word.{Word}
use Rattle.desk_model.specs.Names.{word_named}
use Rattle.desk_snapshot.specs.Changes.{has_room, is_body, is_formed}
use Rattle.desk_snapshot.specs.declared.rows.StoredChange.{StoredChange}

pub formed : (row : StoredChange) (word : Word) → word_named row.word ≡ Some word
    → is_day row.day ≡ true
    → is_body word row.body ≡ true → is_formed row ≡ has_room word row.step
formed row word named day body =
    ap (λ found. is_day row.day && option_map_or
    (λ word. is_body word row.body && has_room word row.step) found false) named
    ∙ rw (day, body) refl
