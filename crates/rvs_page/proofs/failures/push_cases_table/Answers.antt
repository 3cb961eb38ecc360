use Rattle.rvs_page.proofs.Telling.{behind, more-told, all-told}
use Rattle.rvs_page.specs.Pieces.{piece_text, told}
use Rattle.rvs_page.specs.Failures.{case_row, cases_head, cases_table}
use Rattle.rvs_page.proofs.failures.push_cases_table.Goals as goal

pub loop-case-preserved : goal.loop-case-preserved
loop-case-preserved c =
    more-told case_row c.loop-case.page.items c.args.cases.now _ c.loop-case-test.true
    c.case-item.is c.in_ok-push_case_row.ensures c.loop-case.invariant

pub returns : goal.returns
unfolding cases_table cases_head told piece_text
returns c =
    behind c.push_html-2.result c.args.page.now.items c.push_html.new.page.items
    c.push_html-2.new.page.items _ _ c.in_ok-push_html.ensures
    (behind c.push_html-2.result c.push_html.new.page.items c.loop-case.page.items
    c.push_html-2.new.page.items _ _
    (all-told case_row c.loop-case.page.items c.args.cases.now c.loop-case-test.false
    c.loop-case.invariant)
    c.push_html-2.ensures)
