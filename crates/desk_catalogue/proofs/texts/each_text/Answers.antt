use Rattle.std.proofs.Common.{◌∙◌, sym, ap, ◌++◌, ◌∷◌, [], length}
use Rattle.std.proofs.lemmas.List.{length-append}
use Rattle.std.specs.List.{list_any}
use Rattle.toml.specs.View.{view, items_view}
use Rattle.desk_base.specs.Folded.{folded}
use Rattle.desk_model.specs.declared.refusal.CatalogueFault.TheVariants.{Twice}
use Rattle.desk_model.specs.declared.refusal.CataloguePart.TheVariants as part
use Rattle.desk_catalogue.specs.Kept.{is_text_of}
use Rattle.desk_catalogue.specs.Reading.{each, text_at, with_text}
use Rattle.desk_catalogue.proofs.EntryLemmas.{taken_added}
use Rattle.desk_catalogue.proofs.SetLemmas.{is_new, ids_more}
use Rattle.desk_catalogue.proofs.texts.each_text.Goals as goal

pub loop-value-preserved : goal.loop-value-preserved
loop-value-preserved c =
    let texts = c.loop-value.texts in
    let rest = c.next.new.self.rest.items in
    let read = ap (λ l. text_at (length l) (view c.in-Some.value)) (sym c.as_slice-index.ensures)
    ∙ sym c.text_at.ensures ∙ c.in-Ok.is in
    let key = c.in_ok-folded-in-Ok.ensures ∙ ap folded c.as_str.ensures in
    let new = is_new texts c.loop-value.seen c.in-Ok.text _ _ key c.loop-value.invariant.1
    c.in_ok-insert-in-Ok.ensures.added ∙ c.if-not-branch.false in
    let put = c.in_ok-push-in-Ok.ensures.ok in (
      ap (λ n. each with_text c.push.new.self n (items_view rest))
          (ap length put ∙ length-append texts (c.in-Ok.text ∷ []))
          ∙ taken_added text_at (λ texts text. list_any (is_text_of text.licence) texts)
          (Twice part.Text) (λ texts text. texts ++ text ∷ []) texts c.push.new.self (length texts)
          c.in-Some.value rest c.loop-value.value-iterator.rest.items c.in-Ok.text
          c.in-Some.ensures.steps.0 read new put
          ∙ c.loop-value.invariant.0,
      ids_more texts c.in-Ok.text c.loop-value.seen c.insert.new.self _ key
          c.in_ok-insert-in-Ok.ensures.updates c.loop-value.invariant.1 c.push.new.self put,
    )
