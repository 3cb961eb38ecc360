use Rattle.rvs_page.proofs.Back.{texts_are_read_back, texts_hold_no_marks}
use Rattle.rvs_page.proofs.Back.{texts_keep_their_size}
use Rattle.rvs_page.proofs.laws.pages_tell_texts.Goals as goal

pub returns-clause-back : goal.returns-clause-back
returns-clause-back c = texts_are_read_back

pub returns-clause-plain : goal.returns-clause-plain
returns-clause-plain c = texts_hold_no_marks

pub returns-clause-size : goal.returns-clause-size
returns-clause-size c = texts_keep_their_size
