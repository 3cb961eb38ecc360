-- What the keys of the code stand for.
use Rattle.std.specs.Prelude.{string_bytes}
use Rattle.rvs_yaml_text.specs.Word as spec
use Rattle.rvs_yaml_text.specs.declared.key.Key.{Key}

abbrev pub key_view : Key → spec.Key
key_view k = record { name = string_bytes k.name; merges = k.merges }
