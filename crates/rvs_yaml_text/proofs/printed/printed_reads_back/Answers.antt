use Rattle.rvs_yaml_text.proofs.Printing.{printed-reads-back}
use Rattle.rvs_yaml_text.proofs.printed.printed_reads_back.Goals as goal

pub returns : goal.returns
returns c = printed-reads-back
