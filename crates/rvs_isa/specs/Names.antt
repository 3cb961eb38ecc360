-- What the names in an ISA text come to.
use Rattle.std.specs.Prelude.{ℕ, ◌&&◌, if◌then◌else◌, List, Option, Some, None, codes, nat_le}
use Rattle.std.specs.Prelude.{nat_lt}
use Rattle.std.specs.List.{list_all}
use Rattle.rvs_isa.specs.declared.isa_text.Names.{Names}
use Rattle.rvs_isa.specs.IsaText.{is_name, is_known_name, times}

abbrev pub summary : List (List ℕ) → Names
summary names = record {
  zicsr = nat_lt 0 (times (codes "Zicsr") names);
  zifencei = nat_lt 0 (times (codes "Zifencei") names);
  supported = list_all is_known_name names
      && (nat_le (times (codes "Zicsr") names) 1 && nat_le (times (codes "Zifencei") names) 1);
}

-- which of them are there, where each is a name
abbrev pub known_names : List (List ℕ) → Option Names
known_names names = if list_all is_name names then Some (summary names) else None
