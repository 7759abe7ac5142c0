use Rattle.std.proofs.Common.{◌-◌, ◌++◌, ◌+◌, ◌≡◌, ◌∙◌, ap, arith, drop, rules, sym, take, List}
use Rattle.std.specs.Prelude.{Vec}
use Rattle.std.specs.declared.alloc.Global.{Global}
use Rattle.desk_model.specs.Keys.{below_by}
use Rattle.desk_sorted.specs.Blocks.{are_all_filled, are_filled, rows_in}
use Rattle.desk_sorted.proofs.Blocking.{ascends_drop, ascends_take, filled_take}
use Rattle.desk_sorted.proofs.Changing.{filled_within, whole_within}
use Rattle.desk_sorted.proofs.Searching.{cut_in_run, drop_further}
use Rattle.desk_sorted.proofs.Walking.{rows_put}
use Rattle.desk_sorted.proofs.blocks.cut_within.Goals as goal

pub cut_each-requires : goal.cut_each-requires
cut_each-requires g c =
    let below = below_by g.R.Keyed.order in
    let low = c.blocks_of-run.result.start in
    let high = c.blocks_of-run.result.end in
    ascends_take below (high - low) (drop low c.args.blocks.now)
    (ascends_drop below low c.args.blocks.now c.requires.ascending)

pub returns : goal.returns
returns g c =
    let key = c.args.key.now in
    let blocks = c.args.blocks.now in
    let low = c.blocks_of-run.result.start in
    let high = c.blocks_of-run.result.end in
    let cut = c.cut_each.new.blocks in
    let ordered = c.blocks_of-run.ensures.ordered in
    let far : low + (high - low) ≡ high = omega (arith, ordered) in
    let rest = drop_further low (high - low) high blocks far in
    record {
      rows =
          rows_put (take low blocks) cut (drop (high - low) (drop low blocks))
          ∙ (ap (λ (l : List (Vec g.row.R.Denot Global)). rows_in (take low blocks)
          ++ (rows_in cut ++ rows_in l)) rest
          ∙ cut_in_run (g.K.Sought.is_at key) (g.K.Sought.side key) (g.met.K.Sought.meets key)
          blocks low high
          (rows_in cut) c.blocks_of-run.ensures c.cut_each.ensures.rows);
      length = search rules;
      filled = λ none.
          ap (λ (l : List (Vec g.row.R.Denot Global)). are_filled (take low blocks ++ (cut ++ l)))
          rest
          ∙ filled_within blocks cut low high ordered c.cut_each.ensures.length
          (sym c.has_empty.ensures ∙ none)
          (filled_take low blocks c.requires.filled) c.requires.filled;
      whole = λ none all.
          ap (λ (l : List (Vec g.row.R.Denot Global)). are_all_filled
          (take low blocks ++ (cut ++ l))) rest
          ∙ whole_within blocks cut low high (sym c.has_empty.ensures ∙ none) all;
    }
