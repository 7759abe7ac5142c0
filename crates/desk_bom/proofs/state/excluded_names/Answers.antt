use Rattle.std.proofs.Common.{◌∙◌, ap, sym}
use Rattle.std.specs.Prelude.{map}
use Rattle.std.specs.Option.{is_some}
use Rattle.std.specs.List.{list_any}
use Rattle.std.specs.Str.{bytes_eq}
use Rattle.desk_fields.specs.Text.{trimmed}
use Rattle.desk_tagvalue.specs.Entries.{value_text}
use Rattle.desk_bom.specs.Codes.{excluded_names, plain}
use Rattle.desk_bom.specs.Places.{place_of}
use Rattle.desk_bom.proofs.CodeLemmas.{is_some_place}
use Rattle.desk_bom.proofs.state.excluded_names.Goals as goal
use Rattle.desk_base.specs.Borrowed.{texts}

pub returns-in_ok-of-in-Some : goal.returns-in_ok-of-in-Some
returns-in_ok-of-in-Some c = λ q.
    let names = c.in_ok-names-in-Some.names.items in
    let parted = ap texts c.deref.ensures.value ∙ c.in_ok-parts-in-Some.ensures in
    let are = c.in_ok-names-in-Some.ensures ∙ ap (map (λ part. plain (trimmed part))) parted
    ∙ ap (λ text. excluded_names (value_text text)) (sym c.in-Some.is) in
    ap (λ l. is_some (place_of q (texts l))) c.in_ok-of-in-Some.ensures
    ∙ is_some_place q (texts names) ∙ ap (list_any (λ name. bytes_eq name q)) are
