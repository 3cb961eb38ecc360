-- Texts as they stand in a page.
use Rattle.std.specs.Prelude.{ℕ, ◌+◌, ◌/◌, ◌%◌, ◌*◌, ◌-◌, ◌==◌, ◌||◌}
use Rattle.std.specs.Prelude.{nat_lt, if◌then◌else◌, List, []}
use Rattle.std.specs.Prelude.{◌∷◌, ◌++◌, Option, Some, None, codes, bytes_eq, true, false}
use Rattle.std.specs.List.{flat_map}

-- a byte by its number, in three digits
abbrev pub control : ℕ → List ℕ
control b = codes "&#" ++ ((48 + b / 100) ∷ (48 + b / 10 % 10) ∷ (48 + b % 10) ∷ []) ++ codes ";"

abbrev pub plain : ℕ → List ℕ
plain b = if nat_lt b 32 || b == 127 then control b else (b ∷ [])

-- a byte: `&`, `<`, `>` and `"` by their names, control characters by their numbers, any other as
-- it is
abbrev pub mark : ℕ → List ℕ
mark b =
    if b == 38 then codes "&amp;" else (if b == 60 then codes "&lt;"
    else (if b == 62 then codes "&gt;" else (if b == 34 then codes "&quot;" else plain b)))

abbrev pub escaped : List ℕ → List ℕ
escaped text = flat_map mark text

-- ---- reading it
-- a byte by what stands between `&` and `;`
abbrev pub numbered : List ℕ → List ℕ
numbered (x ∷ y ∷ z ∷ []) = ((x - 48) * 100 + (y - 48) * 10 + (z - 48)) ∷ []
numbered _ = []

abbrev pub by_number : List ℕ → List ℕ
by_number (b ∷ digits) = if b == 35 then numbered digits else []
by_number [] = []

abbrev pub named : List ℕ → List ℕ
named name =
    if bytes_eq name (codes "amp") then (38 ∷ []) else (if bytes_eq name (codes "lt") then (60 ∷ [])
    else (if bytes_eq name (codes "gt") then (62 ∷ [])
    else (if bytes_eq name (codes "quot") then (34 ∷ []) else by_number name)))

-- a text of a page as a reader reads it; the first is what has come of a name that is still open
abbrev pub read_from : Option (List ℕ) → List ℕ → List ℕ
read_from waiting [] = []
read_from None (b ∷ bs) =
    elim (b == 38) [ true ↦ read_from (Some []) bs | false ↦ b ∷ read_from None bs ]
read_from (Some name) (b ∷ bs) =
    elim (b == 59) [
      | true ↦ named name ++ read_from None bs
      | false ↦ read_from (Some (name ++ b ∷ [])) bs
    ]

abbrev pub read_back : List ℕ → List ℕ
read_back bytes = read_from None bytes
