use Rattle.std.proofs.Common.{◌∙◌, ap, arith}
use Rattle.std.specs.Prelude.{filter, not}
use Rattle.desk_model.specs.Keys.{below_by}
use Rattle.desk_model.specs.Lists.{ascends}
use Rattle.desk_model.proofs.Lists.{ascends-filter}
use Rattle.desk_sorted.specs.Blocks.{rows_in}
use Rattle.desk_sorted.proofs.Changing.{changed_filled, changed_rows}
use Rattle.desk_sorted.proofs.Counting.{count_left, cut_fits, no_more}
use Rattle.desk_sorted.proofs.blocks.Blocks.cut.Goals as goal

pub tidy-requires : goal.tidy-requires
tidy-requires g c = λ none. changed_filled c.args.self.now.blocks c.deref_mut.result.now
    c.cut_within-has_empty.new.blocks c.cut_within-has_empty.ensures.length
    c.deref_mut.ensures.value (c.cut_within-has_empty.ensures.filled none)

pub overflow_sub-self : goal.overflow_sub-self
overflow_sub-self g c = omega (
  arith,
  c.count_of-count.ensures,
  no_more (g.K.Sought.is_at c.args.key.now) (rows_in c.args.self.now.blocks.items),
  c.args.self.now.counted,
)

pub invariant_of-self : goal.invariant_of-self
invariant_of-self g c =
    let self = c.args.self.now in
    let at = g.K.Sought.is_at c.args.key.now in
    let below = below_by g.R.Keyed.order in
    let had = rows_in self.blocks.items in
    let rows = changed_rows self.blocks c.deref_mut.result.now c.cut_within-has_empty.new.blocks
    c.cut_within-has_empty.ensures.length c.deref_mut.ensures.value (filter (λ row. not (at row)))
    c.tidy.new.blocks.items c.tidy.ensures.rows c.cut_within-has_empty.ensures.rows in
    record {
      ascending = ap (ascends below) rows
          ∙ ascends-filter below (λ row. not (at row)) had self.ascending;
      filled = c.tidy.ensures.filled;
      counted = count_left at had (rows_in c.tidy.new.blocks.items) self.count
          c.count_of-count.result rows self.counted c.count_of-count.ensures;
      fits = cut_fits (λ row. not (at row)) had (rows_in c.tidy.new.blocks.items) rows self.fits;
    }

pub returns : goal.returns
returns g c =
    changed_rows c.args.self.now.blocks c.deref_mut.result.now c.cut_within-has_empty.new.blocks
    c.cut_within-has_empty.ensures.length c.deref_mut.ensures.value
    (filter (λ row. not (g.K.Sought.is_at c.args.key.now row))) c.tidy.new.blocks.items
    c.tidy.ensures.rows c.cut_within-has_empty.ensures.rows
