use Rattle.std.proofs.Common.{◌≡◌, ◌∙◌, ap, sym, cond, true, false, nat_eq, nat_lt, codes}
use Rattle.std.specs.List.{list_any, ends_with}
use Rattle.desk_tree_problems.specs.Rows.{low_words, blank_words, part_words}
use Rattle.desk_tree_problems.proofs.rows.path_words.Goals as goal

pub returns-then-has_low : goal.returns-then-has_low
returns-then-has_low c =
    let path = c.args.path.now in
    let low : list_any (λ b. nat_lt b 32) path ≡ true =
    ap (list_any (λ b. nat_lt b 32)) (sym c.as_bytes.ensures.value) ∙ sym c.has_low.ensures
    ∙ c.if-has_low.true in
    sym (ap (λ b. cond b low_words
    (cond (ends_with nat_eq path (codes " ")) blank_words part_words)) low)

pub returns-then-ends_with : goal.returns-then-ends_with
returns-then-ends_with c =
    let path = c.args.path.now in
    let low : list_any (λ b. nat_lt b 32) path ≡ false =
    ap (list_any (λ b. nat_lt b 32)) (sym c.as_bytes.ensures.value) ∙ sym c.has_low.ensures
    ∙ c.if-has_low.false in
    let ends : ends_with nat_eq path (codes " ") ≡ true =
    ap (λ p. ends_with nat_eq p (codes " ")) (sym c.as_bytes-2.ensures.value)
    ∙ sym c.ends_with.ensures.value ∙ c.if-ends_with.true in
    sym (ap (λ b. cond b low_words
    (cond (ends_with nat_eq path (codes " ")) blank_words part_words)) low
    ∙ ap (λ b. cond b blank_words part_words) ends)

pub returns : goal.returns
returns c =
    let path = c.args.path.now in
    let low : list_any (λ b. nat_lt b 32) path ≡ false =
    ap (list_any (λ b. nat_lt b 32)) (sym c.as_bytes.ensures.value) ∙ sym c.has_low.ensures
    ∙ c.if-has_low.false in
    let ends : ends_with nat_eq path (codes " ") ≡ false =
    ap (λ p. ends_with nat_eq p (codes " ")) (sym c.as_bytes-2.ensures.value)
    ∙ sym c.ends_with.ensures.value ∙ c.if-ends_with.false in
    sym (ap (λ b. cond b low_words
    (cond (ends_with nat_eq path (codes " ")) blank_words part_words)) low
    ∙ ap (λ b. cond b blank_words part_words) ends)
