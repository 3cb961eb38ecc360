-- The kinds of points.
use Rattle.std.specs.Prelude.{ℕ, Bool, true, false, List, codes}
use Rattle.rvs_points.specs.declared.group.Kind.{Kind}
use Rattle.rvs_points.specs.declared.group.Kind.TheVariants as kind

-- one kind
abbrev pub same_kind : Kind → Kind → Bool
same_kind kind.Mnemonic kind.Mnemonic = true
same_kind kind.Rs1 kind.Rs1 = true
same_kind kind.Rs2 kind.Rs2 = true
same_kind kind.Rd kind.Rd = true
same_kind kind.OpComb kind.OpComb = true
same_kind kind.ValComb kind.ValComb = true
same_kind kind.CrossComb kind.CrossComb = true
same_kind _ _ = false

-- the node of a kind
abbrev pub kind_name : Kind → List ℕ
kind_name kind.Mnemonic = codes "mnemonics"
kind_name kind.Rs1 = codes "rs1"
kind_name kind.Rs2 = codes "rs2"
kind_name kind.Rd = codes "rd"
kind_name kind.OpComb = codes "op_comb"
kind_name kind.ValComb = codes "val_comb"
kind_name kind.CrossComb = codes "cross_comb"

-- a byte for each kind
abbrev pub mark : Kind → ℕ
mark kind.Mnemonic = 109
mark kind.Rs1 = 49
mark kind.Rs2 = 50
mark kind.Rd = 100
mark kind.OpComb = 111
mark kind.ValComb = 118
mark kind.CrossComb = 99
