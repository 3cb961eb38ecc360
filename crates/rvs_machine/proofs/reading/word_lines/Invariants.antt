use Rattle.std.proofs.Common.{◌≡◌, ◌-◌}
use Rattle.rvs_machine.specs.ImageText.{word_lines, put_before}
use Rattle.rvs_machine.proofs.reading.word_lines.Given as goal

abbrev pub invariant-loop : goal.invariant-loop
invariant-loop l = word_lines l.count l.fn.lines
    ≡ put_before l.bytes.items (word_lines (l.count - l.counter) l.lines)
