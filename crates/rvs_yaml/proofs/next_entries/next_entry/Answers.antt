use Rattle.std.proofs.Common.{◌∙◌, refl, sym, ap, Ok}
use Rattle.rvs_tree.specs.ValueView.{value_view, entries_view}
use Rattle.rvs_yaml.specs.Checks.{Checked}
use Rattle.rvs_yaml.specs.Stack.{Done}
use Rattle.rvs_yaml_text.specs.KeyView.{key_view}
use Rattle.rvs_yaml_text.specs.Word.{Content}
use Rattle.rvs_yaml_text.specs.WordView.{content_view, word_view}
use Rattle.rvs_yaml.proofs.Deciding.{keyed-as, keyed-not, gave, failed}
use Rattle.rvs_yaml.proofs.Giving.{fails_with}
use Rattle.rvs_yaml.proofs.next_entries.next_entry.Goals as goal

pub returns-in_err-done-in-Ok-key_at-clause-refused
    : goal.returns-in_err-done-in-Ok-key_at-clause-refused
returns-in_err-done-in-Ok-key_at-clause-refused c =
    let a = c.args in
    gave _ _ _ (keyed-as (entries_view a.entries.entries.items) (key_view a.key) a.column
    (value_view a.value) (word_view a.word) _ c.in-Ok.ensures c.in-Ok-key_at.ensures)

pub returns-in_ok-done-in-Ok-key_at : goal.returns-in_ok-done-in-Ok-key_at
returns-in_ok-done-in-Ok-key_at c =
    let a = c.args in
    let e = keyed-as (entries_view a.entries.entries.items) (key_view a.key) a.column
    (value_view a.value) (word_view a.word) _ c.in-Ok.ensures c.in-Ok-key_at.ensures in
    record {
      given = e ∙ ap (λ d. let r : Checked (Done × Content) =
          Ok (d, content_view c.in-Ok-key_at.content) in r) (sym c.in_ok-done-in-Ok-key_at.ensures);
      refused = gave _ _ _ e;
    }

pub returns-in-Err-key_at : goal.returns-in-Err-key_at
returns-in-Err-key_at c =
    let a = c.args in
    let e = keyed-as (entries_view a.entries.entries.items) (key_view a.key) a.column
    (value_view a.value) (word_view a.word) _ c.in-Ok.ensures c.in-Err-key_at.ensures in
    record { given = fails_with _ _ e; refused = failed _ _ _ refl e }

pub returns-in-Err : goal.returns-in-Err
returns-in-Err c =
    let a = c.args in
    let e = keyed-not (entries_view a.entries.entries.items) (key_view a.key) a.column
    (value_view a.value) (word_view a.word) c.in-Err.kind c.in-Err.ensures in
    record { given = fails_with _ _ e; refused = failed _ _ _ refl e }
