use Rattle.std.proofs.Common.{◌∙◌, string_bytes, arith}
use Rattle.desk_base.proofs.Pieces.{is_inside, is_piece}
use Rattle.desk_base.proofs.text_list.TextList.at.Goals as goal

pub start_of-start-requires : goal.start_of-start-requires
start_of-start-requires c =
    let s = c.self.inside in
    omega (
      arith,
      is_inside (string_bytes s.bytes) s.ends.items c.args.self.now c.args.place
          c.self.view_is c.requires,
      c.as_slice.ensures.len,
      s.ends.ok.0,
    )

pub index-requires : goal.index-requires
index-requires c =
    let s = c.self.inside in
    omega (
      arith,
      is_inside (string_bytes s.bytes) s.ends.items c.args.self.now c.args.place
          c.self.view_is c.requires,
      s.ends.ok.0,
    )

pub range-requires : goal.range-requires
range-requires c =
    let s = c.self.inside in
    let piece = is_piece (string_bytes s.bytes) s.ends.items c.args.self.now c.args.place
    c.self.view_is c.requires c.deref.result.now c.as_slice.result.now
    c.start_of-start.result c.index.result.now c.deref.utf8 c.self.invariant c.deref.ensures
    c.as_slice.ensures.value c.start_of-start.ensures c.index.ensures in
    record {
      start_le_end = piece.cut.in_order;
      start_boundary = λ _. piece.cut.begins;
      end_boundary =
          piece.cut.stops;
    }

pub returns : goal.returns
returns c =
    let s = c.self.inside in
    let piece = is_piece (string_bytes s.bytes) s.ends.items c.args.self.now c.args.place
    c.self.view_is c.requires c.deref.result.now c.as_slice.result.now
    c.start_of-start.result c.index.result.now c.deref.utf8 c.self.invariant c.deref.ensures
    c.as_slice.ensures.value c.start_of-start.ensures c.index.ensures in
    c.range.ensures.value ∙ piece.is
