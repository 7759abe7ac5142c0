use Rattle.std.proofs.Common.{◌∙◌, ap, arith}
use Rattle.std.specs.Prelude.{filter, not}
use Rattle.desk_model.specs.Keys.{below_by}
use Rattle.desk_model.specs.Lists.{ascends, put_all}
use Rattle.desk_sorted.specs.Blocks.{rows_in}
use Rattle.desk_model.proofs.Orders.{order_of}
use Rattle.desk_model.proofs.Lists.{ascends-filter}
use Rattle.desk_sorted.proofs.Ascending.{ascends-put_all}
use Rattle.desk_sorted.proofs.Changing.{changed_filled, changed_rows}
use Rattle.desk_sorted.proofs.Counting.{no_more, put_fits, put_in_counted}
use Rattle.desk_sorted.proofs.blocks.Blocks.replace.Goals as goal

pub overflow_sub-count : goal.overflow_sub-count
overflow_sub-count g c = omega (
  arith,
  c.count_of.ensures,
  no_more (g.K.Sought.is_at c.args.key.now) (rows_in c.args.self.now.blocks.items),
  c.args.self.now.counted,
)

pub overflow_add-count : goal.overflow_add-count
overflow_add-count g c = omega (arith, c.args.self.now.counted, c.requires.fits, c.args.more.ok.0)

pub tidy-requires : goal.tidy-requires
tidy-requires g c = λ none. changed_filled c.args.self.now.blocks c.deref_mut.result.now
    c.replace_within-has_empty.new.blocks c.replace_within-has_empty.ensures.length
    c.deref_mut.ensures.value (c.replace_within-has_empty.ensures.filled none)

pub invariant_of-self : goal.invariant_of-self
invariant_of-self g c =
    let self = c.args.self.now in
    let more = c.args.more in
    let at = g.K.Sought.is_at c.args.key.now in
    let below = below_by g.R.Keyed.order in
    let had = rows_in self.blocks.items in
    let rows = changed_rows self.blocks c.deref_mut.result.now
    c.replace_within-has_empty.new.blocks c.replace_within-has_empty.ensures.length
    c.deref_mut.ensures.value (λ xs. put_all below more.items (filter (λ row. not (at row)) xs))
    c.tidy.new.blocks.items c.tidy.ensures.rows c.replace_within-has_empty.ensures.rows in
    record {
      ascending = ap (ascends below) rows
          ∙ ascends-put_all below (order_of g.met.R.Keyed.total) more.items
          (filter (λ row. not (at row)) had)
          (ascends-filter below (λ row. not (at row)) had self.ascending);
      filled = c.tidy.ensures.filled;
      counted = omega (
        arith,
        more.ok.0,
        put_in_counted below at more.items had (rows_in c.tidy.new.blocks.items) self.count
            c.count_of.result rows self.counted c.count_of.ensures,
      );
      fits = put_fits below (λ row. not (at row)) more.items had
          (rows_in c.tidy.new.blocks.items) rows c.requires.fits;
    }

pub returns : goal.returns
returns g c =
    changed_rows c.args.self.now.blocks c.deref_mut.result.now
    c.replace_within-has_empty.new.blocks c.replace_within-has_empty.ensures.length
    c.deref_mut.ensures.value (λ xs. put_all (below_by g.R.Keyed.order) c.args.more.items
    (filter (λ row. not (g.K.Sought.is_at c.args.key.now row)) xs)) c.tidy.new.blocks.items
    c.tidy.ensures.rows c.replace_within-has_empty.ensures.rows
