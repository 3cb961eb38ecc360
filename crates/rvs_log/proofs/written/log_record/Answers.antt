use Rattle.rvs_log.proofs.Back.{reads_back}
use Rattle.rvs_log.proofs.written.log_record.Goals as goal

pub returns-clause-said : goal.returns-clause-said
returns-clause-said c =
    let words = c.are_words.ensures in reads_back c.args.e.now words.pc words.word words.commit
