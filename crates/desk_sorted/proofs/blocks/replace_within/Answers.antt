use Rattle.std.proofs.Common.{◌≡◌, ◌++◌, ◌+◌, ◌≤◌, ◌∷◌, [], Bool, true, ◌∙◌, suc, ap, sym, subst}
use Rattle.std.proofs.Common.{arith, length, take, drop, List}
use Rattle.std.specs.Prelude.{◌||◌, ◌==◌, filter, not, vec_len, Vec}
use Rattle.std.specs.Vec.{vec_capacity}
use Rattle.std.specs.declared.alloc.Global.{Global}
use Rattle.std.proofs.lemmas.List.{append-nil}
use Rattle.std.proofs.lemmas.List.Elements.{filter-append}
use Rattle.desk_model.specs.Keys.{below_by}
use Rattle.desk_model.specs.Lists.{ascends, put_all}
use Rattle.desk_model.proofs.Lists.{ascends-filter}
use Rattle.desk_sorted.specs.Blocks.{are_all_filled, are_filled, rows_in}
use Rattle.desk_base.proofs.Bools.{or_left, or_right}
use Rattle.desk_sorted.proofs.Blocking.{ascends_drop, ascends_take, filled_drop}
use Rattle.desk_sorted.proofs.Changing.{behind_filled, filled_around, put_all_between, rows_at}
use Rattle.desk_sorted.proofs.Walking.{block_ascends, parted, rows_put}
use Rattle.desk_sorted.proofs.blocks.replace_within.Goals as goal

pub cut_within-front_has_empty-requires-clause-ascending : goal.cut_within-front_has_empty-requires-clause-ascending
cut_within-front_has_empty-requires-clause-ascending g c =
    let below = below_by g.R.Keyed.order in
    ap (λ (bs : List (Vec g.row.R.Denot Global)). ascends below (rows_in bs))
    c.split_at_mut-front.ensures.front
    ∙ ascends_take below c.args.at c.args.blocks.now c.requires.ascending

pub cut_run-requires : goal.cut_run-requires
cut_run-requires g c =
    let below = below_by g.R.Keyed.order in
    let blocks = c.args.blocks.now in
    let at = c.args.at in
    let part = parted blocks at c.in-Some.block.now c.in-Some.back.now c.requires.room.within
    (sym c.split_at_mut-front.ensures.back ∙ c.in-Some.ensures.cases.0) in
    ap (λ (b : Vec g.row.R.Denot Global). ascends below b.items) part.0
    ∙ block_ascends below blocks at c.in-Some.block.now c.requires.room.within
    (ascends_drop below at blocks c.requires.ascending)

pub put_rows-requires-clause-ascending : goal.put_rows-requires-clause-ascending
put_rows-requires-clause-ascending g c =
    let below = below_by g.R.Keyed.order in
    let blocks = c.args.blocks.now in
    let at = c.args.at in
    let part = parted blocks at c.in-Some.block.now c.in-Some.back.now c.requires.room.within
    (sym c.split_at_mut-front.ensures.back ∙ c.in-Some.ensures.cases.0) in
    ap (ascends below) c.cut_run.ensures.items
    ∙ ascends-filter below (λ row. not (g.K.Sought.is_at c.args.key.now row))
    c.in-Some.block.now.items
    (ap (λ (b : Vec g.row.R.Denot Global). ascends below b.items) part.0
    ∙ block_ascends below blocks at c.in-Some.block.now c.requires.room.within
    (ascends_drop below at blocks c.requires.ascending))

pub put_rows-requires-clause-room : goal.put_rows-requires-clause-room
put_rows-requires-clause-room g c =
    let blocks = c.args.blocks.now in
    let at = c.args.at in
    let part = parted blocks at c.in-Some.block.now c.in-Some.back.now c.requires.room.within
    (sym c.split_at_mut-front.ensures.back ∙ c.in-Some.ensures.cases.0) in
    let room : vec_len c.in-Some.block.now + length c.args.more.items
    ≤ vec_capacity c.in-Some.block.now =
    subst (λ (b : Vec g.row.R.Denot Global). vec_len b + length c.args.more.items ≤ vec_capacity b)
    (sym part.0) (c.requires.room.room c.in-Some.block.now) in
    omega (arith, room, c.cut_run.ensures.len, c.cut_run.ensures.capacity, c.args.more.ok.0)

pub cut_within-back_has_empty-requires-clause-ascending : goal.cut_within-back_has_empty-requires-clause-ascending
cut_within-back_has_empty-requires-clause-ascending g c =
    let below = below_by g.R.Keyed.order in
    let blocks = c.args.blocks.now in
    let at = c.args.at in
    let part = parted blocks at c.in-Some.block.now c.in-Some.back.now c.requires.room.within
    (sym c.split_at_mut-front.ensures.back ∙ c.in-Some.ensures.cases.0) in
    ap (λ (bs : List (Vec g.row.R.Denot Global)). ascends below (rows_in bs)) part.1
    ∙ ascends_drop below (suc at) blocks c.requires.ascending

pub cut_within-back_has_empty-requires-clause-filled : goal.cut_within-back_has_empty-requires-clause-filled
cut_within-back_has_empty-requires-clause-filled g c =
    let blocks = c.args.blocks.now in
    let at = c.args.at in
    let part = parted blocks at c.in-Some.block.now c.in-Some.back.now c.requires.room.within
    (sym c.split_at_mut-front.ensures.back ∙ c.in-Some.ensures.cases.0) in
    ap (λ (bs : List (Vec g.row.R.Denot Global)). are_filled bs) part.1
    ∙ filled_drop (suc at) blocks c.requires.filled

pub returns-clause-rows : goal.returns-clause-rows
returns-clause-rows g c =
    let below = below_by g.R.Keyed.order in
    let blocks = c.args.blocks.now in
    let at = c.args.at in
    let more = c.args.more.items in
    let left : g.row.R.Denot → Bool = λ row. not (g.K.Sought.is_at c.args.key.now row) in
    let block = c.in-Some.block.now in
    let part = parted blocks at block c.in-Some.back.now c.requires.room.within
    (sym c.split_at_mut-front.ensures.back ∙ c.in-Some.ensures.cases.0) in
    let front = rows_in (take at blocks) in
    let back = rows_in (drop (suc at) blocks) in
    let front_cut : rows_in c.cut_within-front_has_empty.new.blocks ≡ filter left front =
    c.cut_within-front_has_empty.ensures.rows
    ∙ ap (λ (bs : List (Vec g.row.R.Denot Global)). filter left (rows_in bs))
    c.split_at_mut-front.ensures.front in
    let put_in : c.put_rows.new.rows.items ≡ put_all below more (filter left block.items) =
    c.put_rows.ensures ∙ ap (put_all below more) c.cut_run.ensures.items in
    let back_cut : rows_in c.cut_within-back_has_empty.new.blocks ≡ filter left back =
    c.cut_within-back_has_empty.ensures.rows
    ∙ ap (λ (bs : List (Vec g.row.R.Denot Global)). filter left (rows_in bs)) part.1 in
    let whole : rows_in blocks ≡ front ++ (block.items ++ back) =
    rows_at blocks at block c.requires.room.within
    ∙ ap (λ (b : Vec g.row.R.Denot Global). front ++ (b.items ++ back)) (sym part.0) in
    rows_put c.cut_within-front_has_empty.new.blocks (c.put_rows.new.rows ∷ [])
    c.cut_within-back_has_empty.new.blocks
    ∙ (ap (λ xs. xs ++ ((c.put_rows.new.rows.items ++ [])
    ++ rows_in c.cut_within-back_has_empty.new.blocks)) front_cut
    ∙ (ap (λ xs. filter left front ++ (xs ++ rows_in c.cut_within-back_has_empty.new.blocks))
    (append-nil c.put_rows.new.rows.items ∙ put_in)
    ∙ (ap (λ xs. filter left front ++ (put_all below more (filter left block.items) ++ xs)) back_cut
    ∙ (sym (put_all_between below more (filter left front) (filter left block.items)
    (filter left back) c.requires.room.place)
    ∙ ap (put_all below more) (ap (λ xs. filter left front ++ xs)
    (sym (filter-append left block.items back))
    ∙ (sym (filter-append left front (block.items ++ back)) ∙ ap (filter left) (sym whole)))))))

pub returns-clause-filled : goal.returns-clause-filled
returns-clause-filled g c = λ none.
    let blocks = c.args.blocks.now in
    let at = c.args.at in
    let part = parted blocks at c.in-Some.block.now c.in-Some.back.now c.requires.room.within
    (sym c.split_at_mut-front.ensures.back ∙ c.in-Some.ensures.cases.0) in
    let in_front = c.cut_within-front_has_empty.result in
    let behind = c.cut_within-back_has_empty.result in
    let here = c.is_empty.result in
    let counted : length c.put_rows.new.rows.items ≡ vec_len c.put_rows.new.rows =
    omega (arith, c.put_rows.new.rows.ok.0) in
    let before = or_left (in_front || here) behind none in
    let back : are_all_filled c.in-Some.back.now ≡ true =
    ap (λ (bs : List (Vec g.row.R.Denot Global)). are_all_filled bs) part.1
    ∙ behind_filled blocks at c.requires.filled in
    filled_around c.cut_within-front_has_empty.new.blocks c.cut_within-back_has_empty.new.blocks
    c.put_rows.new.rows
    (c.cut_within-front_has_empty.ensures.filled (or_left in_front here before))
    (ap (λ n. n == 0) counted ∙ (sym c.is_empty.ensures ∙ or_right in_front here before))
    (c.cut_within-back_has_empty.ensures.whole (or_right (in_front || here) behind none) back)
