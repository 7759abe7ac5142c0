use Rattle.std.proofs.Common.{◌≡◌, ◌++◌, ◌+◌, ◌-◌, ◌<◌, ◌∷◌, [], ◌∙◌, ap, sym, arith, rules, length, get_or, set, List}
use Rattle.std.specs.Prelude.{Vec}
use Rattle.std.specs.declared.alloc.Global.{Global}
use Rattle.desk_sorted.specs.Blocks.{are_filled, rows_in}
use Rattle.desk_sorted.proofs.Changing.{alike_filled, alike_rows, filled_joined, pushed_alike, rows_joined, set_alike}
use Rattle.desk_sorted.proofs.blocks.join_last.Goals as goal

pub returns-in-Ok : goal.returns-in-Ok
returns-in-Ok g c =
    let blocks = c.pop.new.self.items in
    let last = c.in-Some.rows in
    let joined = c.append.new.self in
    let at = c.len-at.result - 1 in
    let end : at + 1 ≡ length blocks =
    omega (
      arith,
      c.len-at.ensures,
      c.pop.new.self.ok.0,
      c.requires.some,
      c.in-Some.ensures.cases,
    ) in
    let items : joined.items ≡ (get_or blocks at c.index_mut.result.now).items ++ last.items =
    c.in-Ok.ensures.items ∙ ap (λ (b : Vec g.row.R.Denot Global). b.items ++ last.items)
    c.index_mut.ensures.value in
    record {
      rows =
          rows_joined blocks last joined c.index_mut.result.now at end items
          ∙ ap (λ (bs : List (Vec g.row.R.Denot Global)). rows_in bs) (sym c.in-Some.ensures.items);
      filled =
          filled_joined blocks last joined c.index_mut.result.now at end items
          (ap (λ (bs : List (Vec g.row.R.Denot Global)). are_filled bs)
          (sym c.in-Some.ensures.items)
          ∙ c.requires.filled);
      len = search rules;
      same = search rules;
    }

pub returns-in-Err : goal.returns-in-Err
returns-in-Err g c =
    let blocks = c.pop.new.self.items in
    let last = c.in-Some.rows in
    let kept = c.append.new.self in
    let at = c.len-at.result - 1 in
    let within : at < length blocks =
    omega (
      arith,
      c.len-at.ensures,
      c.pop.new.self.ok.0,
      c.requires.some,
      c.in-Some.ensures.cases,
    ) in
    let block : kept.items ≡ (get_or blocks at c.index_mut.result.now).items =
    c.in-Err.ensures.items ∙ ap (λ (b : Vec g.row.R.Denot Global). b.items)
    c.index_mut.ensures.value in
    let alike = pushed_alike (set blocks at kept) blocks c.append.new.other last
    (set_alike blocks at kept c.index_mut.result.now within block) c.in-Err.ensures.other_items in
    let was = set blocks at kept ++ c.append.new.other ∷ [] in
    record {
      rows =
          ap (λ (bs : List (Vec g.row.R.Denot Global)). rows_in bs) c.push_reserved.ensures.items
          ∙ (alike_rows was (blocks ++ last ∷ []) alike
          ∙ ap (λ (bs : List (Vec g.row.R.Denot Global)). rows_in bs)
          (sym c.in-Some.ensures.items));
      filled =
          ap (λ (bs : List (Vec g.row.R.Denot Global)). are_filled bs) c.push_reserved.ensures.items
          ∙ (alike_filled was (blocks ++ last ∷ []) alike
          ∙ (ap (λ (bs : List (Vec g.row.R.Denot Global)). are_filled bs)
          (sym c.in-Some.ensures.items)
          ∙ c.requires.filled));
      len = search rules;
      same = search rules;
    }
