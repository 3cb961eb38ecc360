-- Classes of bytes, and the name at the front of a text.
use Rattle.std.specs.Prelude.{ℕ, suc, ◌==◌, ◌&&◌, ◌||◌, nat_le, Bool, if◌then◌else◌, List, []}
use Rattle.std.specs.Prelude.{◌∷◌}

abbrev pub is_digit : ℕ → Bool
is_digit c = nat_le 48 c && nat_le c 57

abbrev pub is_letter : ℕ → Bool
is_letter c = (nat_le 65 c && nat_le c 90) || (nat_le 97 c && nat_le c 122)

-- a name begins with a letter or _
abbrev pub begins_name : ℕ → Bool
begins_name c = is_letter c || c == 95

-- and goes on with letters, _ and digits
abbrev pub continues_name : ℕ → Bool
continues_name c = begins_name c || is_digit c

-- how many of these stand at the front
abbrev pub name_length : List ℕ → ℕ
name_length [] = 0
name_length (c ∷ cs) = if continues_name c then suc (name_length cs) else 0
