-- An entry of a map, from its key and its value.
use Rattle.rvs_tree.specs.Value.{Value, Written}
use Rattle.rvs_yaml_text.specs.Word.{Key}

abbrev pub written : Key → Value → Written
written k v = record { key = k.name; merges = k.merges; value = v }
