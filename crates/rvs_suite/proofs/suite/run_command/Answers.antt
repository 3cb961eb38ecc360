use Rattle.std.proofs.Common.{Err, refl}
use Rattle.rvs_plan.specs.declared.stop.Stop.TheVariants.{Usage}
use Rattle.rvs_plan.specs.World.{world}
use Rattle.rvs_promises.proofs.ProgressEnds.{nothing-unlost}
use Rattle.rvs_suite.proofs.Performing.{performs-unlost}
use Rattle.rvs_suite.proofs.Performing.{Performs-meets, Performs-demo, Performs-unknown}
use Rattle.rvs_suite.proofs.suite.run_command.Goals as goal

pub returns-in-Unknown-clause-done : goal.returns-in-Unknown-clause-done
returns-in-Unknown-clause-done g c = rw c.in-Unknown.is
    (performs-unlost _ c.unlost.result c.unlost.ensures (Performs-unknown
    (world (g.H.Host.state c.args.host.now) (g.O.Sink.state c.args.out.now))))

pub returns-in-Unknown-clause-told : goal.returns-in-Unknown-clause-told
returns-in-Unknown-clause-told g c = rw c.in-Unknown.is
    (nothing-unlost (Err Usage) c.unlost.result c.unlost.ensures)

pub returns-in-Compare-clause-done : goal.returns-in-Compare-clause-done
returns-in-Compare-clause-done g c =
    rw c.in-Compare.is (performs-unlost _ c.unlost-in-Compare.result c.unlost-in-Compare.ensures
    (Performs-meets refl c.compare_files.ensures))

pub returns-in-Compare-clause-told : goal.returns-in-Compare-clause-told
returns-in-Compare-clause-told g c = rw c.in-Compare.is
    (nothing-unlost _ c.unlost-in-Compare.result c.unlost-in-Compare.ensures)

pub returns-in-Validate-clause-done : goal.returns-in-Validate-clause-done
returns-in-Validate-clause-done g c =
    rw c.in-Validate.is (performs-unlost _ c.unlost-in-Validate.result c.unlost-in-Validate.ensures
    (Performs-meets refl c.validate_file.ensures))

pub returns-in-Validate-clause-told : goal.returns-in-Validate-clause-told
returns-in-Validate-clause-told g c = rw c.in-Validate.is
    (nothing-unlost _ c.unlost-in-Validate.result c.unlost-in-Validate.ensures)

pub returns-in-Normalize-clause-done : goal.returns-in-Normalize-clause-done
returns-in-Normalize-clause-done g c =
    rw c.in-Normalize.is (performs-unlost _ c.unlost-in-Normalize.result
    c.unlost-in-Normalize.ensures
    (Performs-meets refl c.normalize_files.ensures))

pub returns-in-Normalize-clause-told : goal.returns-in-Normalize-clause-told
returns-in-Normalize-clause-told g c = rw c.in-Normalize.is
    (nothing-unlost _ c.unlost-in-Normalize.result c.unlost-in-Normalize.ensures)

pub returns-in-Generate-clause-done : goal.returns-in-Generate-clause-done
returns-in-Generate-clause-done g c =
    rw c.in-Generate.is (performs-unlost _ c.unlost-in-Generate.result c.unlost-in-Generate.ensures
    (Performs-meets refl c.generate_tests.ensures))

pub returns-in-Generate-clause-told : goal.returns-in-Generate-clause-told
returns-in-Generate-clause-told g c = rw c.in-Generate.is
    (nothing-unlost _ c.unlost-in-Generate.result c.unlost-in-Generate.ensures)

pub returns-in-Reference-clause-done : goal.returns-in-Reference-clause-done
returns-in-Reference-clause-done g c =
    rw c.in-Reference.is (performs-unlost _ c.unlost-in-Reference.result
    c.unlost-in-Reference.ensures
    (Performs-meets refl c.run_reference.ensures))

pub returns-in-Reference-clause-told : goal.returns-in-Reference-clause-told
returns-in-Reference-clause-told g c = rw c.in-Reference.is
    (nothing-unlost _ c.unlost-in-Reference.result c.unlost-in-Reference.ensures)

pub returns-in-Run-clause-done : goal.returns-in-Run-clause-done
returns-in-Run-clause-done g c =
    rw c.in-Run.is (performs-unlost _ c.unlost-in-Run.result c.unlost-in-Run.ensures
    (Performs-meets refl c.run_tests.ensures))

pub returns-in-Run-clause-told : goal.returns-in-Run-clause-told
returns-in-Run-clause-told g c = rw c.in-Run.is
    (nothing-unlost _ c.unlost-in-Run.result c.unlost-in-Run.ensures)

pub returns-in-RunDatabase-clause-done : goal.returns-in-RunDatabase-clause-done
returns-in-RunDatabase-clause-done g c =
    rw c.in-RunDatabase.is (performs-unlost _ c.unlost-in-RunDatabase.result
    c.unlost-in-RunDatabase.ensures
    (Performs-meets refl c.run_selected.ensures))

pub returns-in-RunDatabase-clause-told : goal.returns-in-RunDatabase-clause-told
returns-in-RunDatabase-clause-told g c = rw c.in-RunDatabase.is
    (nothing-unlost _ c.unlost-in-RunDatabase.result c.unlost-in-RunDatabase.ensures)

pub returns-in-Report-clause-done : goal.returns-in-Report-clause-done
returns-in-Report-clause-done g c =
    rw c.in-Report.is (performs-unlost _ c.unlost-in-Report.result c.unlost-in-Report.ensures
    (Performs-meets refl c.report_run.ensures))

pub returns-in-Report-clause-told : goal.returns-in-Report-clause-told
returns-in-Report-clause-told g c = rw c.in-Report.is
    (nothing-unlost _ c.unlost-in-Report.result c.unlost-in-Report.ensures)

pub returns-in-Select-clause-done : goal.returns-in-Select-clause-done
returns-in-Select-clause-done g c =
    rw c.in-Select.is (performs-unlost _ c.unlost-in-Select.result c.unlost-in-Select.ensures
    (Performs-meets refl c.select_tests.ensures))

pub returns-in-Select-clause-told : goal.returns-in-Select-clause-told
returns-in-Select-clause-told g c = rw c.in-Select.is
    (nothing-unlost _ c.unlost-in-Select.result c.unlost-in-Select.ensures)

pub returns-in-Coverage-clause-done : goal.returns-in-Coverage-clause-done
returns-in-Coverage-clause-done g c =
    rw c.in-Coverage.is (Performs-meets refl c.cover_log.ensures.met)

pub returns-in-Coverage-clause-told : goal.returns-in-Coverage-clause-told
returns-in-Coverage-clause-told g c = rw c.in-Coverage.is c.cover_log.ensures.told

pub returns-in-Propagate-clause-done : goal.returns-in-Propagate-clause-done
returns-in-Propagate-clause-done g c =
    rw c.in-Propagate.is (Performs-meets refl c.propagate_log.ensures.met)

pub returns-in-Propagate-clause-told : goal.returns-in-Propagate-clause-told
returns-in-Propagate-clause-told g c = rw c.in-Propagate.is c.propagate_log.ensures.told

pub returns-in-Demo-clause-done : goal.returns-in-Demo-clause-done
returns-in-Demo-clause-done g c = rw c.in-Demo.is
    (performs-unlost _ c.unlost-in-Demo.result c.unlost-in-Demo.ensures
    (Performs-demo c.in-Demo.count (g.H.Host.state c.args.host.now) (g.O.Sink.state c.args.out.now)
    (g.O.Sink.state c.demonstrate.new.out) c.demonstrate.result c.demonstrate.ensures))

pub returns-in-Demo-clause-told : goal.returns-in-Demo-clause-told
returns-in-Demo-clause-told g c = rw c.in-Demo.is
    (nothing-unlost _ c.unlost-in-Demo.result c.unlost-in-Demo.ensures)
