-- The numbers under which refusals are printed.
use Rattle.std.specs.Prelude.{ℕ}
use Rattle.rvs_yaml_text.specs.declared.kind.YamlKind.{YamlKind}
use Rattle.rvs_yaml_text.specs.declared.kind.YamlKind.TheVariants.{NotUtf8, TabIndent, BadIndent}
use Rattle.rvs_yaml_text.specs.declared.kind.YamlKind.TheVariants.{BadScalar, BadFlow, DuplicateKey}
use Rattle.rvs_yaml_text.specs.declared.kind.YamlKind.TheVariants.{UnknownAlias, BadMerge}
use Rattle.rvs_yaml_text.specs.declared.kind.YamlKind.TheVariants.{Unsupported, TooDeep}
use Rattle.rvs_yaml_text.specs.declared.kind.YamlKind.TheVariants.{TooManyNodes}

abbrev pub number_of : YamlKind → ℕ
number_of NotUtf8 = 1
number_of TabIndent = 2
number_of BadIndent = 3
number_of BadScalar = 4
number_of BadFlow = 5
number_of DuplicateKey = 6
number_of UnknownAlias = 7
number_of BadMerge = 8
number_of Unsupported = 9
number_of TooDeep = 10
number_of TooManyNodes = 11
