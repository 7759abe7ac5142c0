use Rattle.std.proofs.Common.{◌≡◌, ◌∙◌, ◌++◌, ◌+◌, ◌<◌, ℕ, List, [], ◌∷◌, false, true, length}
use Rattle.std.proofs.Common.{get_or, map, sym, ap, take}
use Rattle.std.specs.List.{list_any}
use Rattle.std.specs.Str.{bytes_eq}
use Rattle.std.proofs.lemmas.List.{take_more, map_push}
use Rattle.desk_model.specs.declared.command.DutyLine.{DutyLine}
use Rattle.desk_page.specs.Rows.{first_uses}
use Rattle.desk_page.proofs.Uses.{uses_more, uses_same}
use Rattle.desk_page.proofs.licences.licences.Goals as goal
use Rattle.desk_page.proofs.licences.licences.Goals.{then-not-is_known+in_ok-clone+in_ok-push, else-not-is_known}

next_rule : (duties : List DutyLine) (i : ℕ) (d : DutyLine) → i < length duties
    → d ≡ get_or duties i d
    → map (λ duty. duty.rule) (take (i + 1) duties) ≡ map (λ duty. duty.rule) (take i duties)
    ++ d.rule ∷ []
next_rule duties i d within is =
    ap (map (λ duty. duty.rule)) (take_more duties i d within)
    ∙ map_push (λ duty. duty.rule) (take i duties) (get_or duties i d)
    ∙ ap (λ (d : DutyLine). map (λ duty. duty.rule) (take i duties) ++ d.rule ∷ []) (sym is)

pub loop-duty-preserved : goal.loop-duty-preserved
loop-duty-preserved c =
    let duties = c.args.duties.now in
    let i = c.loop-duty.duty-index in
    let xs : List (List ℕ) = map (λ duty. duty.rule) (take i duties) in
    let x = c.duty-item.result.rule in
    let next : map (λ duty. duty.rule) (take (i + 1) duties) ≡ xs ++ x ∷ [] =
    next_rule duties i c.duty-item.result c.loop-duty-test.true c.duty-item.is in
    let told : list_any (bytes_eq x) c.loop-duty.found.items ≡ c.is_known.result =
    ap (list_any (bytes_eq x)) (sym c.as_slice.ensures.value) ∙ sym c.is_known.ensures in
    elim c.if-not-is_known.branch [
      | then-not-is_known+in_ok-clone+in_ok-push w ↦
          let new : list_any (bytes_eq x) c.loop-duty.found.items ≡ false = told
          ∙ w.if-not-is_known.true in
          let put : w.push.new.self.items ≡ c.loop-duty.found.items ++ x ∷ [] =
          ◌∙◌ {A = List (List ℕ)} w.in_ok-push.ensures.items
          (ap (λ t. c.loop-duty.found.items ++ t ∷ []) w.in_ok-clone.ensures.cases) in
          ap (λ v. v.items) w.found-is ∙ uses_more xs c.loop-duty.found.items w.push.new.self.items
          x c.loop-duty.invariant new put ∙ ap first_uses (sym next)
      | else-not-is_known w ↦
          let known : list_any (bytes_eq x) c.loop-duty.found.items ≡ true = told
          ∙ w.if-not-is_known.false in
          ap (λ v. v.items) w.found-is ∙ uses_same xs c.loop-duty.found.items x
          c.loop-duty.invariant known ∙ ap first_uses (sym next)
    ]
