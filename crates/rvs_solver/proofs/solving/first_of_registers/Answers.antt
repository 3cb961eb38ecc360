use Rattle.std.proofs.Common.{◌≡◌, ◌*◌, ◌≤◌, ◌∙◌, [], length, sym, ap, subst, arith}
use Rattle.std.specs.Prelude.{All}
use Rattle.std.specs.List.{find, flat_map}
use Rattle.rvs_insn.specs.Isa.{Isa}
use Rattle.rvs_insn.specs.Memory.{Memory}
use Rattle.rvs_insn.specs.Table.{row}
use Rattle.rvs_insn.specs.Fields.{IsRegister}
use Rattle.rvs_points.specs.PointView.{meaning_view}
use Rattle.rvs_points.specs.Hits.{steps_of}
use Rattle.rvs_solver.specs.Least.{at_rd}
use Rattle.rvs_solver.specs.Point.{hits}
use Rattle.rvs_solver.proofs.Low.{rds_low, rs1s_low, rs2s_low}
use Rattle.rvs_solver.proofs.RegisterPoints.{no_system}
use Rattle.rvs_solver.proofs.RegisterCalls.{Orders, register_call, register_cost_call}
use Rattle.rvs_solver.proofs.solving.first_of_registers.Goals as goal

pub first-requires-clause-rd : goal.first-requires-clause-rd
first-requires-clause-rd g c =
    subst (All IsRegister) (sym c.rds.ensures) (rds_low c.args.spec.now.e c.format-form.result)

pub first-requires-clause-rs1 : goal.first-requires-clause-rs1
first-requires-clause-rs1 g c =
    subst (All IsRegister) (sym c.rs1s.ensures) (rs1s_low c.args.spec.now.e c.format-form.result)

pub first-requires-clause-rs2 : goal.first-requires-clause-rs2
first-requires-clause-rs2 g c =
    subst (All IsRegister) (sym c.rs2s.ensures) (rs2s_low c.args.spec.now.e c.format-form.result)

pub returns-in-System-clause-first : goal.returns-in-System-clause-first
returns-in-System-clause-first g c =
    sym (no_system c.args.spec.now c.args.op c.args.kind (meaning_view c.args.meaning.now) []
    (sym c.format-form.ensures ∙ c.in-System.is))

pub returns-in_default : goal.returns-in_default
returns-in_default g c =
    let orders : Orders c.args.spec.now c.args.op c.format-form.result c.rds.result.now
    c.rs1s.result.now c.rs2s.result.now =
    record {
      form_is = c.format-form.ensures;
      rds_are = c.rds.ensures;
      rs1s_are =
          c.rs1s.ensures;
      rs2s_are = c.rs2s.ensures;
      not_none = c.in_default.not-System;
    } in
    let cost : length c.rds.result.now * (length
    c.rs1s.result.now * (length c.rs2s.result.now * steps_of
    (meaning_view c.args.meaning.now))) ≤ _ =
    register_cost_call c.args.spec.now c.args.op c.format-form.result c.rds.result.now
    c.rs1s.result.now c.rs2s.result.now (meaning_view c.args.meaning.now) orders
    c.requires.registers in
    let same : c.spec.inside.memory ≡ c.args.spec.now.memory =
    ap (λ (s : Isa). s.memory) c.spec.view_is in
    let first : c.first.result ≡ find (hits c.args.kind (meaning_view c.args.meaning.now))
    (flat_map (at_rd c.args.spec.now.memory c.args.op (row c.args.op).form c.rs1s.result.now
    c.rs2s.result.now) c.rds.result.now) =
    subst (λ (m : Memory). c.first.result ≡ find (hits c.args.kind
    (meaning_view c.args.meaning.now)) (flat_map (at_rd m c.args.op (row c.args.op).form
    c.rs1s.result.now c.rs2s.result.now) c.rds.result.now)) same c.first.ensures.first in
    record {
      first = first
          ∙ register_call c.args.spec.now c.args.op c.format-form.result c.rds.result.now
          c.rs1s.result.now c.rs2s.result.now c.args.kind (meaning_view c.args.meaning.now) orders
          c.requires.valid c.requires.registers;
      cost = omega (arith, c.first.ensures.cost, cost);
    }
