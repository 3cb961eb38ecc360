use Rattle.std.proofs.Common.{◌≡◌, ◌≤◌, ◌-◌, length, false}
use denote.Shadow.{shadow}
use denote.Text.{Utf8}
use Rattle.rvs_text.specs.Spaces.{without_spaces}
use Rattle.rvs_yaml.specs.Stack.{steps}
use Rattle.rvs_yaml_text.specs.Text.{words_at}
use Rattle.rvs_yaml.specs.StackView.{open_blocks}
use Rattle.rvs_yaml.proofs.line.read_words.Given as goal

abbrev pub invariant-loop-behind : goal.invariant-loop-behind
invariant-loop-behind l =
    (steps (open_blocks l.stack)
    (words_at l.line l.item (length l.text - length l.rest) l.rest) ≡ steps
    (open_blocks l.initial.stack) (words_at l.line false 0 l.text))
    × (without_spaces l.rest ≡ l.rest) × (length l.rest ≤ length l.text) × shadow (Utf8 l.rest)

abbrev pub decreases-loop-behind : goal.decreases-loop-behind
decreases-loop-behind l = length l.rest
