-- The numbers of the kinds of traps.
use Rattle.std.specs.Prelude.{ℕ}
use Rattle.rvs_machine.specs.declared.event.TrapKind.{TrapKind}
use Rattle.rvs_machine.specs.declared.event.TrapKind.TheVariants.{Illegal, MisalignedTarget}
use Rattle.rvs_machine.specs.declared.event.TrapKind.TheVariants.{MisalignedAccess, AccessFault}
use Rattle.rvs_machine.specs.declared.event.TrapKind.TheVariants.{Ecall, Ebreak}

abbrev pub trap_number : TrapKind → ℕ
trap_number (Illegal word) = 1
trap_number (MisalignedTarget target) = 2
trap_number (MisalignedAccess addr) = 3
trap_number (AccessFault addr) = 4
trap_number Ecall = 5
trap_number Ebreak = 6
