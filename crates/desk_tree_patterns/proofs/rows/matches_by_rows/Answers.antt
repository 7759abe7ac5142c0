use Rattle.std.proofs.Common.{◌≡◌, ◌∙◌, ◌++◌, ◌∷◌, [], ap, sym, subst, refl, append-nil, append_assoc}
use Rattle.std.proofs.Common.{List, ℕ, Bool, true, false, length, arith}
use Rattle.std.specs.Prelude.{replicate, get_or, IsTrue, ◌↔◌}
use Rattle.std.proofs.lemmas.List.{get_or_read, nil_from_length}
use Rattle.desk_tree_patterns.specs.Glob.{IsMatch}
use Rattle.desk_tree_patterns.specs.Parts.{pieces}
use Rattle.desk_tree_patterns.specs.Rows.{IsRow}
use Rattle.desk_tree_patterns.proofs.RowLemmas.{row_start, row_more, row_whole, row_places, written}
use Rattle.desk_tree_patterns.proofs.rows.matches_by_rows.Goals as goal

pub loop-byte-init : goal.loop-byte-init
loop-byte-init c =
    let bytes = c.args.bytes.now in
    let row = c.push.new.self.items in
    let is : row ≡ replicate (length bytes) false ++ (true ∷ []) =
    c.in_ok-push.ensures.items ∙ ap (λ l. l ++ (true ∷ []))
    (c.in_ok-row.ensures.items_if_clones_equal (λ y e. e)) in
    record {
      places = row_places row (length bytes) is;
      seen = ([], sym (append-nil c.args.path.now), row_start c.in_ok-stars.stars bytes row is);
    }

pub loop-byte-preserved : goal.loop-byte-preserved
loop-byte-preserved c =
    let bytes = c.args.bytes.now in
    let stars = c.in_ok-stars.stars in
    let spread = c.in_ok-stars.ensures in
    let was = c.loop-byte.row in
    let places = c.loop-byte.invariant.places in
    let seen = c.loop-byte.invariant.seen in
    let byte = c.in-Some.byte.now in
    let before = c.in-Some.before.now in
    let old = c.as_mut_slice.result.now in
    let new = c.put_before.new.row in
    let kept : length old ≡ length was.items = ap length c.as_mut_slice.ensures.value in
    let len : length new ≡ length old = c.put_before.ensures.len in
    let is = written was.items new was.len (sym was.ok.0) (omega arith) in
    let row : IsRow stars bytes (byte ∷ seen.0) new =
    row_more stars bytes byte seen.0 old new c.staying-stays.result.now spread.double_any
    c.staying-stays.ensures.slash c.staying-stays.ensures.other c.put_before.ensures.each
    c.put_before.ensures.last
    (subst (IsRow stars bytes seen.0) (sym c.as_mut_slice.ensures.value) seen.2) in
    record {
      places = ap length is ∙ len ∙ kept ∙ places;
      seen = (
        byte ∷ seen.0,
        seen.1 ∙ ap (λ l. l ++ seen.0) c.in-Some.ensures.cases.0
            ∙ append_assoc before (byte ∷ []) seen.0,
        subst (IsRow stars bytes (byte ∷ seen.0)) (sym is) row,
      );
    }

pub returns : goal.returns
returns c =
    let bytes = c.args.bytes.now in
    let stars = c.in_ok-stars.stars in
    let seen = c.loop-byte.invariant.seen in
    let places = c.loop-byte.invariant.places in
    let row = c.loop-byte.row.items in
    let whole : c.args.path.now ≡ seen.0 = seen.1
    ∙ ap (λ l. l ++ seen.0) (nil_from_length c.loop-byte.rest.now c.in_default.ensures.cases) in
    let first : c.index.result.now ≡ get_or row 0 false =
    get_or_read row 0 c.index.result.now (omega arith) c.index.ensures false in
    let is : IsRow stars bytes c.args.path.now row = subst (λ l. IsRow stars bytes l row) (sym whole) seen.2 in
    subst (λ b. IsTrue b ↔ IsMatch (pieces bytes c.args.parts.now) c.args.path.now) (sym first)
    (row_whole stars bytes c.args.parts.now c.args.path.now row c.in_ok-stars.ensures.same is)
