-- Why coverage groups are refused.
use Rattle.std.specs.Prelude.{ℕ, List, codes}
use Rattle.rvs_plan.specs.Refusing.{input_text}
use Rattle.rvs_cgf.specs.Groups.{Refusal}
use Rattle.rvs_cgf.specs.Print.{refusal_text}

-- what the joined group files are called in a line for errors
abbrev pub groups_name : List ℕ
groups_name = codes "coverage files"

-- why the groups are refused: the first rule that is broken, and where
abbrev pub group_text : Refusal → List ℕ
group_text r = input_text groups_name (refusal_text r)
