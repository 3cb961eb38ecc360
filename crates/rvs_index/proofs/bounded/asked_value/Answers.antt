use Rattle.rvs_index.proofs.Bounding.{slot_asks}
use Rattle.rvs_index.proofs.bounded.asked_value.Goals as goal

pub returns-in-Some-shortcut : goal.returns-in-Some-shortcut
returns-in-Some-shortcut c =
    slot_asks c.args.asked c.args.slot.now c.in-Some-shortcut.shortcut c.number_in.result
    c.in-Some-shortcut.is c.number_in.ensures
