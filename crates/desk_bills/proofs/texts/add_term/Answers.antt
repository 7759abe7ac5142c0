use Rattle.std.proofs.Common.{◌∙◌, ℕ, List, ap, refl, subst, sym}
use Rattle.desk_model.specs.Bills.{texts_named}
use Rattle.desk_bills.specs.Billing.{Adds, is_licence, main_text}
use Rattle.desk_bills.specs.declared.texts.Named.{Named}
use Rattle.desk_bills.proofs.Naming.{met_again, met_more, put_texts}
use Rattle.desk_bills.proofs.texts.add_term.Goals as goal

pub returns-then-contains : goal.returns-then-contains
returns-then-contains g c = λ w right.
    let d = c.args.document in
    let named = c.args.named.now in
    subst (λ (t : List ℕ). Adds w (texts_named w d t) named named) c.as_str-word.ensures
    (met_again w d c.as_str-word.result named (sym c.contains.ensures ∙ c.if-contains.true))

pub returns-in_ok-insert : goal.returns-in_ok-insert
returns-in_ok-insert g c = λ w right.
    let d = c.args.document in
    let old = c.args.named.now in
    let mid : Named = record { texts = c.add_texts.new.named; met = old.met } in
    let new : Named = record { texts = c.add_texts.new.named; met = c.insert.new.self } in
    let same = c.as_str-word.ensures in
    let is = ap (λ (t : List ℕ). is_licence (main_text w d t)) same
    ∙ (sym (c.in_ok-is_anywhere.ensures.anywhere w right) ∙ c.if-is_anywhere.true) in
    let put : Adds w (texts_named w d c.args.term.now) old mid =
    put_texts w (texts_named w d c.args.term.now) old mid
    (c.in_ok-is_anywhere.ensures.named w right) refl in
    subst (λ (t : List ℕ). Adds w (texts_named w d t) old new) same
    (met_more w d c.as_str-word.result old mid new is refl c.in_ok-insert.ensures.updates
    (subst (λ (t : List ℕ). Adds w (texts_named w d t) old mid) (sym same) put))

pub returns-else-is_anywhere : goal.returns-else-is_anywhere
returns-else-is_anywhere g c = λ w right.
    put_texts w (texts_named w c.args.document c.args.term.now) c.args.named.now
    (record { texts = c.add_texts.new.named; met = c.args.named.now.met })
    (c.in_ok-is_anywhere.ensures.named w right) refl
