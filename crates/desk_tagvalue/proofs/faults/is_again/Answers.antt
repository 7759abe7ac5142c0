use Rattle.std.proofs.Common.{sym, ◌∙◌, ap, drop}
use Rattle.std.specs.Prelude.{map}
use Rattle.std.specs.List.{list_any}
use Rattle.std.proofs.lemmas.List.{take_rest}
use Rattle.desk_tagvalue.specs.Entries.{entry_text}
use Rattle.desk_tagvalue.specs.Seen.{newest}
use Rattle.desk_tagvalue.specs.Sections.{once_in_section, is_placed}
use Rattle.desk_tagvalue.specs.Faults.{has_tag, kind_of, section}
use Rattle.desk_tagvalue.proofs.SeenLemmas.{any_reverse, again_in_document, again_in_section, by_third}
use Rattle.desk_tagvalue.proofs.faults.is_again.Goals as goal

pub returns-then-once_in_document : goal.returns-then-once_in_document
returns-then-once_in_document c = λ e is.
    c.has_tag.ensures ∙ sym (any_reverse (has_tag c.args.tag) (map entry_text c.args.before.now))
    ∙ again_in_document c.args.tag (newest c.args.before.now) e is
    (sym c.once_in_document.ensures ∙ c.if-once_in_document.true)

pub returns : goal.returns
returns c = λ e is.
    let b = newest c.args.before.now in
    let s = c.args.seen.now in
    let tag = c.args.tag in
    c.has_tag-2.ensures ∙ ap (λ l. list_any (has_tag tag) (map entry_text l))
    (take_rest c.args.before.now s.start)
    ∙ sym (any_reverse (has_tag tag) (map entry_text (drop s.start c.args.before.now)))
    ∙ ap (list_any (has_tag tag)) (sym c.requires.here)
    ∙ by_third (once_in_section tag) (is_placed (kind_of b) tag)
    (list_any (has_tag tag) (section b))
    (sym c.once_in_section.ensures ∙ c.if-not-once_in_section.false)
    (ap (λ k. is_placed k tag) (sym c.requires.kind) ∙ sym c.is_placed.ensures
    ∙ c.if-not-is_placed.false)
    ∙ again_in_section tag b e is (sym c.once_in_document.ensures ∙ c.if-once_in_document.false)
