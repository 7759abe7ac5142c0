use Rattle.desk_history.proofs.Raising.{rising_owed, numbers_rise, counted_in}
use Rattle.desk_history.proofs.freezes_raise_in_order.Goals as goal

pub returns : goal.returns
returns c = record { order = rising_owed; numbers = numbers_rise; counts = counted_in }
