-- Groups by their normal text.
use Rattle.std.specs.Prelude.{ℕ, List, [], length, Ok}
use Rattle.rvs_insn.specs.Isa.{Isa}
use Rattle.rvs_tree.specs.Data.{Data}
use Rattle.rvs_abstract.specs.declared.families.Families.{Families}
use Rattle.rvs_cgf.specs.Groups.{Found, ◌>>=◌, Listed, groups_of}
use Rattle.rvs_cgf.specs.Print.{normal_text}

-- the normal text of a tree's groups
abbrev pub normal_of : Isa → Families → Data → Found (List ℕ)
normal_of isa families d = groups_of isa families d >>= (λ groups. Ok (normal_text groups))

-- labels by their normal text, how many they are, and the sum of their points times mnemonics
pub record Told : Type 0 where
  pub text : List ℕ
  pub count : ℕ
  pub total : ℕ

-- what is told of labels
abbrev pub told : Listed → Told
told listed =
    record { text = normal_text listed.labels; count = length listed.labels; total = listed.total }

-- what is told of an answer that gives labels
abbrev pub told_of : Found Listed → Found Told
told_of found = found >>= (λ listed. Ok (told listed))

-- before the first label
abbrev pub nothing_told : Told
nothing_told = record { text = []; count = 0; total = 0 }
