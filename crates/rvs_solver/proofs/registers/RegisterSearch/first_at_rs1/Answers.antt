use Rattle.std.proofs.Common.{◌∙◌, sym, ap, arith}
use Rattle.std.specs.Prelude.{find}
use Rattle.rvs_insn.specs.Table.{row}
use Rattle.rvs_points.specs.PointView.{meaning_view}
use Rattle.rvs_points.specs.Hits.{is_meant}
use Rattle.rvs_solver.specs.Choices.{ChoiceValue, table_of}
use Rattle.rvs_solver.specs.Least.{least}
use Rattle.rvs_solver.specs.RegisterWalk.{hits_of, with_rs1}
use Rattle.rvs_solver.proofs.Others.{other_rs1}
use Rattle.rvs_solver.proofs.Turns.{map_passed}
use Rattle.rvs_solver.proofs.registers.RegisterSearch.first_at_rs1.Goals as goal

pub returns-then-asks_other_rs1-clause-first : goal.returns-then-asks_other_rs1-clause-first
returns-then-asks_other_rs1-clause-first g c =
    let s = c.args.self.now in
    other_rs1 s.kind (meaning_view s.meaning.now) s.memory s.op (row s.op).form s.rs2s.now c.args.rd
    c.args.rs1 (sym c.asks_other_rs1.ensures ∙ c.if-asks_other_rs1.true)

pub loop-rs2-preserved : goal.loop-rs2-preserved
loop-rs2-preserved g c =
    let s = c.args.self.now in
    record {
      first = map_passed (hits_of s) (λ rs2. least s.memory s.op (row s.op).form
          (record { rd = c.args.rd; rs1 = c.args.rs1; rs2 = rs2 })) s.rs2s.now
          c.loop-rs2.rs2-index _ c.least-choice.result
          (find (hits_of s) (with_rs1 s c.args.rd c.args.rs1)) (omega (arith, c.loop-rs2-test.true))
          c.loop-rs2.invariant.first c.least-choice.ensures
          (ap (λ op. is_meant s.kind (meaning_view s.meaning.now) op (table_of c.least-choice.result))
          (sym (ap (λ (choice : ChoiceValue). choice.op) c.choice.view_is))
          ∙ sym c.is_meant.ensures.value ∙ c.if-is_meant.false);
      cost = omega (arith, c.is_meant.ensures.steps, c.loop-rs2.invariant.cost);
    }
