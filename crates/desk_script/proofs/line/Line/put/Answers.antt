use Rattle.std.proofs.Common.{◌≡◌, ◌∙◌, ◌++◌, ◌-◌, ℕ, refl, ap, length, take, arith}
use Rattle.std.specs.Prelude.{true}
use Rattle.std.proofs.lemmas.Result.{on_ok_weaker}
use Rattle.desk_base.specs.Limits.{line_bytes}
use Rattle.desk_base.proofs.Results.{OnOk-items}
use Rattle.desk_script.proofs.Gathering.{HasCome-all, HasCome-front}
use Rattle.desk_script.proofs.line.Line.put.Goals as goal

pub returns-then-run-room-clause-came : goal.returns-then-run-room-clause-came
returns-then-run-room-clause-came c = λ text h.
    on_ok_weaker c.extend_from_slice.result (λ items.
    HasCome-all c.args.self.now
    (record {
      kept = c.extend_from_slice.new.self;
      is_long = c.args.self.now.is_long;
      is_blank = c.stays_blank-self.result;
      ends_by_cr = c.args.self.now.ends_by_cr;
    })
    text c.args.run.now h (omega (
      arith,
      c.if-run-room.true,
      c.saturating_sub-room.ensures,
      c.len.ensures,
    )) items refl c.stays_blank-self.ensures)
    (OnOk-items c.extend_from_slice.result c.extend_from_slice.new.self.items
    (c.args.self.now.kept.items ++ c.args.run.now) c.args.self.now.kept.items
    c.extend_from_slice.ensures.items)

pub returns-clause-came : goal.returns-clause-came
returns-clause-came c = λ text h.
    let room : c.saturating_sub-room.result ≡ line_bytes - length c.args.self.now.kept.items =
    omega arith in
    on_ok_weaker c.extend_from_slice-2.result (λ items.
    HasCome-front c.args.self.now
    (record {
      kept = c.extend_from_slice-2.new.self;
      is_long = true;
      is_blank = c.stays_blank-self.result;
      ends_by_cr = c.args.self.now.ends_by_cr;
    })
    text c.args.run.now h (omega (
      arith,
      c.if-run-room.false,
      c.saturating_sub-room.ensures,
      c.len.ensures,
    ))
    (items ∙ ap (λ (n : ℕ). c.args.self.now.kept.items ++ take n c.args.run.now) room) refl
    c.stays_blank-self.ensures)
    (OnOk-items c.extend_from_slice-2.result c.extend_from_slice-2.new.self.items
    (c.args.self.now.kept.items ++ take c.saturating_sub-room.result c.args.run.now)
    c.args.self.now.kept.items c.extend_from_slice-2.ensures.items)
