use Rattle.std.proofs.Common.{◌∙◌, List, ℕ, ap, codes, sym}
use Rattle.rvs_words.specs.LogWords.{signed_logs}
use Rattle.rvs_words.specs.Words.{values_of}
use Rattle.rvs_words.proofs.CommandWords.{of-values}
use Rattle.rvs_words.proofs.LogCommands.{propagate-of}
use Rattle.rvs_words.proofs.group_commands.propagate_asked.Goals as goal

pub returns : goal.returns
returns c =
    let spelled = values_of (codes "--signature") c.args.pairs.now in
    propagate-of (of-values c.args.pairs.now) c.in_ok-isa.isa c.in_ok-isa.groups
    c.in_ok-names.names c.in_ok-logs.logs c.in_ok-isa.families c.in_ok-progress.progress
    c.in_ok-isa.ensures.read.0 c.in_ok-isa.ensures.read.1.0 c.in_ok-names.ensures
    (ap (λ (l : List (List ℕ)). signed_logs l spelled) (sym c.as_slice.ensures)
    ∙ c.in_ok-logs.ensures) c.in_ok-isa.ensures.read.1.1 c.in_ok-progress.ensures
