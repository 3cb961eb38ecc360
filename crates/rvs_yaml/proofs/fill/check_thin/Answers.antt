use Rattle.std.proofs.Common.{arith}
use Rattle.rvs_yaml_text.specs.Tokens.{tokens_of}
use Rattle.rvs_yaml.specs.StackView.{all_known}
use Rattle.rvs_yaml.proofs.Giving.{refuses_denies}
use Rattle.rvs_yaml.proofs.Heights.{flow-height}
use Rattle.rvs_yaml.proofs.fill.check_thin.Goals as goal

pub returns : goal.returns
returns c = λ line b v e s.
    let deep = flow-height (all_known c.args.known.now) line b (tokens_of c.args.text.now) v e in
    refuses_denies _ _ (c.check_nodes.ensures v s
    (omega (arith, c.in_ok-height.ensures.bound, deep)))
