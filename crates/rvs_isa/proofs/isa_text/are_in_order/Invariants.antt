use Rattle.std.proofs.Common.{◌≡◌, drop}
use Rattle.rvs_isa.specs.IsaText.{are_in_order, letter_order}
use Rattle.rvs_isa.proofs.isa_text.are_in_order.Given as goal

abbrev pub invariant-loop-letter : goal.invariant-loop-letter
invariant-loop-letter l =
    are_in_order l.left (drop l.letter-index letter_order) ≡ are_in_order l.fn.letters letter_order
