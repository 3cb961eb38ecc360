use Rattle.std.proofs.Common.{◌≡◌, ◌++◌, List, drop, option_map}
use Rattle.rvs_base.specs.declared.asked.Window.{Window}
use Rattle.rvs_words.specs.Windows.{all_windows}
use Rattle.rvs_words.proofs.windows.read_ranges.Given as goal

abbrev pub invariant-loop-text : goal.invariant-loop-text
invariant-loop-text l = option_map (λ (more : List Window). l.windows ++ more)
    (all_windows (drop l.text-index l.texts)) ≡ all_windows l.texts
