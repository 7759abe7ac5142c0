use Rattle.std.proofs.Common.{◌≡◌, ◌++◌, ◌<◌, ◌/◌, ◌∙◌, ap, arith, rules, length, take, set, get_or, List, add-one}
use Rattle.std.specs.Prelude.{insert, Vec}
use Rattle.std.specs.declared.alloc.Global.{Global}
use Rattle.std.proofs.lemmas.List.{take-append-drop}
use Rattle.desk_sorted.specs.Blocks.{are_filled, has_rows, rows_in}
use Rattle.desk_sorted.proofs.Changing.{filled_halved, has_left, has_taken, rows_halved}
use Rattle.desk_sorted.proofs.blocks.halve.Goals as goal

pub returns : goal.returns
returns g c =
    let blocks = c.reserve.new.self.items in
    let at = c.args.at in
    let lower = c.split_off.new.self in
    let upper = c.in_ok-upper.upper in
    let block = c.index_mut-block.result.now in
    let half = c.len-half.result / 2 in
    let within : at < length blocks =
    omega (arith, c.requires.within, ap length c.in_ok-reserve.ensures.items) in
    let some : 0 < half = search rules in
    let any : 0 < length block.items = search rules in
    let less : half < length block.items = search rules in
    let put = c.in-Ok.ensures.items ∙ ap (λ k. insert (set blocks at lower) k upper) (add-one at) in
    let both : lower.items ++ upper.items ≡ (get_or blocks at block).items =
    ap (λ xs. xs ++ upper.items) c.in_ok-upper.ensures.items
    ∙ (ap (λ xs. take half block.items ++ xs) c.in_ok-upper.ensures.tail
    ∙ (take-append-drop half block.items
    ∙ ap (λ (b : Vec g.row.R.Denot Global). b.items) c.index_mut-block.ensures.value)) in
    record {
      rows =
          ap (λ (bs : List (Vec g.row.R.Denot Global)). rows_in bs) put
          ∙ (rows_halved blocks at lower upper block within both
          ∙ ap (λ (bs : List (Vec g.row.R.Denot Global)). rows_in bs)
          c.in_ok-reserve.ensures.items);
      filled =
          ap (λ (bs : List (Vec g.row.R.Denot Global)). are_filled bs) put
          ∙ filled_halved blocks at lower upper within
          (ap has_rows c.in_ok-upper.ensures.items ∙ has_taken half block.items some any)
          (ap has_rows c.in_ok-upper.ensures.tail ∙ has_left half block.items less)
          (ap (λ (bs : List (Vec g.row.R.Denot Global)). are_filled bs)
          c.in_ok-reserve.ensures.items
          ∙ c.requires.filled);
      length = search rules;
    }
