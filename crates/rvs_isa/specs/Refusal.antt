-- What a check comes to: what it finds, or why the specification is refused.
use Rattle.std.specs.Prelude.{ℕ, List, Result}
use Rattle.std.specs.List.{join_with_byte}
use Rattle.rvs_isa.specs.declared.refusal.IsaKind.{IsaKind}
use Rattle.rvs_isa.specs.declared.refusal.IsaRefusal.{IsaRefusal}

-- the keys from the root to an entry
abbrev pub Path : Type 0
Path = List (List ℕ)

-- they are printed with a dot between
abbrev pub path_text : Path → List ℕ
path_text path = join_with_byte 46 path

abbrev pub refusal_at : Path → IsaKind → IsaRefusal
refusal_at path kind = record { path = path_text path; kind = kind }

abbrev pub Found : Type 0 → Type 0
Found A = Result A IsaRefusal
