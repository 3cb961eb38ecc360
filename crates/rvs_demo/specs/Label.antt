-- The coverage group of the demonstration.
use Rattle.std.specs.Prelude.{ℕ, true, List, [], ◌∷◌, ◌++◌, Option, Some, None, codes}
use Rattle.std.specs.List.{filter_map}
use Rattle.rvs_insn.specs.declared.op.Op.{Op}
use Rattle.rvs_insn.specs.declared.op.Op.TheVariants.{Add, Sub, Xor, Or, And, Slt, Sltu, Mul}
use Rattle.rvs_points.specs.declared.group.Kind.{Kind}
use Rattle.rvs_points.specs.declared.group.Kind.TheVariants.{Mnemonic, Rs1, Rs2, Rd, OpComb}
use Rattle.rvs_points.specs.declared.group.Kind.TheVariants.{ValComb}
use Rattle.rvs_points.specs.declared.group.Kind.TheVariants.{CrossComb}
use Rattle.rvs_points.specs.Points.{Point, Label, point, Said, means, says}

-- the point of a key that means something
abbrev pub told : Kind → List ℕ → Said → Option Point
told kind key (means m) = Some (point kind key m)
told kind key _ = None

-- the points that keys say under a kind
unfoldable pub points_of : Kind → List (List ℕ) → List Point
points_of kind keys = filter_map (λ key. told kind key (says kind key)) keys

unfoldable pub mnemonics : List (List ℕ)
mnemonics =
    codes "add" ∷ codes "sub" ∷ codes "xor" ∷ codes "or" ∷ codes "and" ∷ codes "slt" ∷ codes "sltu"
    ∷ codes "mul" ∷ []

unfoldable pub registers : List (List ℕ)
registers =
    codes "x8" ∷ codes "x9" ∷ codes "x10" ∷ codes "x11" ∷ codes "x12" ∷ codes "x13" ∷ codes "x14"
    ∷ codes "x15" ∷ []

unfoldable pub equations : List (List ℕ)
equations = codes "rs1 == rs2" ∷ codes "rs1 != rs2" ∷ codes "rs1 == rd" ∷ []

unfoldable pub comparisons : List (List ℕ)
comparisons = codes "rs1_val > 0" ∷ codes "rs1_val < 0" ∷ codes "rs1_val == 0" ∷ []

-- the second of two instructions reads what the first writes
unfoldable pub hazards : List (List ℕ)
hazards = codes "[? : ?] :: [a=rd : ?] :: [? : rs1 == a or rs2 == a]" ∷ []

abbrev pub points : List Point
points =
    points_of Mnemonic mnemonics ++ (points_of Rs1 registers ++ (points_of Rs2 registers
    ++ (points_of Rd registers ++ (points_of OpComb equations ++ (points_of ValComb comparisons
    ++ points_of CrossComb hazards)))))

abbrev pub ops : List Op
ops = Add ∷ Sub ∷ Xor ∷ Or ∷ And ∷ Slt ∷ Sltu ∷ Mul ∷ []

unfoldable pub label : Label
label =
    record { name = codes "demo"; selected = true; ops = ops; points = points; skipped = [] }
