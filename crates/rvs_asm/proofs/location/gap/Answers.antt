use Rattle.std.proofs.Common.{ℕ, ◌*◌, ◌-◌, ◌%◌, ◌^◌, ◌<◌, ◌≤◌, arith}
use Rattle.std.proofs.Math.Pow.{pow_mono}
use Rattle.std.proofs.lemmas.Nat.{pow_pos}
use Rattle.rvs_asm.proofs.location.gap.Goals as goal

below_unit : (at unit : ℕ) → 0 < unit → unit ≤ 4096 → (unit - at % unit) % unit < 4096
below_unit at unit p h = omega arith

unit_is : (power : ℕ) → power ≤ 12
    → (0 < 1 * 2 ^ power % 4294967296) × (1 * 2 ^ power % 4294967296 ≤ 4096)
unit_is power h =
    let high : 2 ^ power ≤ 2 ^ 12 = pow_mono h in
    let low : 0 < 2 ^ power = pow_pos power in
    (omega arith, omega arith)

pub returns-clause-small : goal.returns-clause-small
returns-clause-small c =
    let u = unit_is c.args.power c.requires in
    below_unit c.args.at (1 * 2 ^ c.args.power % 4294967296) u.0 u.1
