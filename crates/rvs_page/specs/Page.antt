-- A page.
use Rattle.std.specs.Prelude.{ℕ, ◌++◌, List, is_some}
use Rattle.rvs_page.specs.Shown.{verdict_of, totals_of}
use Rattle.rvs_page.specs.Head.{head_text, tiles_text}
use Rattle.rvs_page.specs.Failures.{failures_text}
use Rattle.rvs_page.specs.Labels.{labels_text}
use Rattle.rvs_page.specs.Points.{points_text}
use Rattle.rvs_page.specs.declared.shown.Page.{Page}

-- from above: the verdict with the device and the core, numbers, the failures, a row a label, and
-- the points of each label
unfoldable pub page_of : Page → List ℕ
page_of page =
    head_text (verdict_of page.labels) page
    ++ (tiles_text page.instructions (totals_of page.labels)
    ++ (failures_text page.labels ++ (labels_text (is_some page.instructions) page.labels
    ++ points_text (is_some page.instructions) page.labels)))
