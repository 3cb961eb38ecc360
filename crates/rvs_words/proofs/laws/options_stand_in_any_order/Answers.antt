use Rattle.rvs_words.proofs.laws.options_stand_in_any_order.Goals as goal
use Rattle.rvs_words.proofs.OptionNames.{options_are_pairs, flags_are_pairs}
use Rattle.rvs_words.proofs.OptionOrder.{options_change_places}

pub returns-clause-pairs : goal.returns-clause-pairs
returns-clause-pairs c = options_are_pairs

pub returns-clause-flags : goal.returns-clause-flags
returns-clause-flags c = flags_are_pairs

pub returns-clause-places : goal.returns-clause-places
returns-clause-places c = options_change_places
