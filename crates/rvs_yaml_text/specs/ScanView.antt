-- Texts that are cut, as contracts see them.
use Rattle.std.specs.Prelude.{ℕ, List, Option, option_map, String, string_bytes}
use Rattle.std.specs.declared.alloc.Global.{Global}
use Rattle.std.specs.Borrow.{Bor}
use Rattle.rvs_yaml_text.specs.Scalar.{Split}

abbrev pub pair_now : Bor (List ℕ) × Bor (List ℕ) → List ℕ × List ℕ
pair_now p = (p.0.now, p.1.now)

abbrev pub split_now : Option (Bor (List ℕ) × Bor (List ℕ)) → Split
split_now o = option_map pair_now o

abbrev pub owned_now : String Global × Bor (List ℕ) → List ℕ × List ℕ
owned_now p = (string_bytes p.0, p.1.now)

abbrev pub owned_split : Option (String Global × Bor (List ℕ)) → Split
owned_split o = option_map owned_now o
