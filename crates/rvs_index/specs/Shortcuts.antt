-- Points that say a mnemonic, a register, or numbers and signs.
use Rattle.std.specs.Prelude.{Bool, ◌&&◌}
use Rattle.rvs_points.specs.Hits.{is_register}
use Rattle.rvs_index.specs.declared.shortcut.Shortcut.{Shortcut}
use Rattle.rvs_index.specs.Signs.{has_signs}
use Rattle.rvs_index.specs.declared.shortcut.Shortcut.TheVariants.{Mnemonic, Register, Number}
use Rattle.rvs_index.specs.declared.shortcut.Shortcut.TheVariants.{Signs, Valued, Values}
use Rattle.rvs_expr.specs.Equated.{is_value}
use Rattle.rvs_expr.specs.Meaning.{Table}
use Rattle.rvs_facts.specs.Mnemonics.{is_same}
use Rattle.rvs_insn.specs.declared.op.Op.{Op}

-- it is so of an instruction of this mnemonic and with these facts
abbrev pub says : Shortcut → Op → Table → Bool
says (Mnemonic mnemonic) op t = is_same mnemonic op
says (Register name number) op t = is_register number (t.reg name)
says (Number name value) op t = is_value value (t.num name)
says (Signs mask) op t = has_signs mask t
says (Valued mask name value) op t = is_value value (t.num name) && has_signs mask t
says (Values mask name other value second) op t =
    (is_value value (t.num name) && is_value second (t.num other)) && has_signs mask t
