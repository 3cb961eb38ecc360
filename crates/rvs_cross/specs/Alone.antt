-- The shortest cross point: one instruction of one mnemonic.
use Rattle.std.specs.Prelude.{◌≡◌, [], ◌∷◌, ◌++◌, Some, None, Ok, codes}
use Rattle.rvs_insn.specs.declared.op.Op.{Op}
use Rattle.rvs_insn.specs.Table.{row}
use Rattle.rvs_cross.specs.Parse.{parse, read}

-- `[add] :: [?] :: [?]` is read as a place that lists add, and so for each mnemonic
abbrev pub AloneIsRead : Type 0
AloneIsRead = (op : Op) → parse (codes "[" ++ ((row op).name ++ codes "] :: [?] :: [?]"))
    ≡ Ok (read (record { ops = Some (op ∷ []); sets = []; condition = None } ∷ []))
