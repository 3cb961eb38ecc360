use Rattle.std.proofs.Common.{[], ◌∷◌, ◌++◌, codes}
use Rattle.std.proofs.lemmas.Result.{on_ok_weaker}
use Rattle.rvs_plan.specs.Account.{fault_line}
use Rattle.rvs_plan.proofs.Putting.{appended-then, PutsFront-longer, PutsFront-behind}
use Rattle.rvs_plan.proofs.reports.put_line.Goals as goal

pub returns-in_err-put_all-clause-front : goal.returns-in_err-put_all-clause-front
unfolding fault_line
returns-in_err-put_all-clause-front g c =
    PutsFront-longer (10 ∷ []) (PutsFront-longer c.args.which.now
    (PutsFront-longer c.args.what.now c.in_err-put_all.ensures.front))

pub returns-in_err-put_all-2-clause-front : goal.returns-in_err-put_all-2-clause-front
unfolding fault_line
returns-in_err-put_all-2-clause-front g c =
    PutsFront-longer (10 ∷ []) (PutsFront-longer c.args.which.now (PutsFront-behind
    (codes "rvsuite: ") c.in_ok-put_all.ensures.all c.in_err-put_all-2.ensures.front))

pub returns-in_err-put_all-3-clause-front : goal.returns-in_err-put_all-3-clause-front
unfolding fault_line
returns-in_err-put_all-3-clause-front g c =
    let two = appended-then (g.E.Sink.state c.args.err.now).bytes
    (g.E.Sink.state c.put_all.new.sink).bytes (g.E.Sink.state c.put_all-2.new.sink).bytes
    (codes "rvsuite: ") c.args.what.now c.in_ok-put_all.ensures.all
    c.in_ok-put_all-2.ensures.all in
    PutsFront-longer (10 ∷ []) (PutsFront-behind (codes "rvsuite: " ++ c.args.what.now) two
    c.in_err-put_all-3.ensures.front)

pub returns-clause-whole : goal.returns-clause-whole
unfolding fault_line
returns-clause-whole g c =
    let two = appended-then (g.E.Sink.state c.args.err.now).bytes
    (g.E.Sink.state c.put_all.new.sink).bytes (g.E.Sink.state c.put_all-2.new.sink).bytes
    (codes "rvsuite: ") c.args.what.now c.in_ok-put_all.ensures.all
    c.in_ok-put_all-2.ensures.all in
    let three = appended-then (g.E.Sink.state c.args.err.now).bytes
    (g.E.Sink.state c.put_all-2.new.sink).bytes (g.E.Sink.state c.put_all-3.new.sink).bytes
    (codes "rvsuite: " ++ c.args.what.now) c.args.which.now two c.in_ok-put_all-3.ensures.all in
    on_ok_weaker c.put_all-4.result (appended-then (g.E.Sink.state c.args.err.now).bytes
    (g.E.Sink.state c.put_all-3.new.sink).bytes (g.E.Sink.state c.put_all-4.new.sink).bytes
    (codes "rvsuite: " ++ c.args.what.now ++ c.args.which.now) (10 ∷ []) three)
    c.put_all-4.ensures.all

pub returns-clause-front : goal.returns-clause-front
unfolding fault_line
returns-clause-front g c =
    let two = appended-then (g.E.Sink.state c.args.err.now).bytes
    (g.E.Sink.state c.put_all.new.sink).bytes (g.E.Sink.state c.put_all-2.new.sink).bytes
    (codes "rvsuite: ") c.args.what.now c.in_ok-put_all.ensures.all
    c.in_ok-put_all-2.ensures.all in
    let three = appended-then (g.E.Sink.state c.args.err.now).bytes
    (g.E.Sink.state c.put_all-2.new.sink).bytes (g.E.Sink.state c.put_all-3.new.sink).bytes
    (codes "rvsuite: " ++ c.args.what.now) c.args.which.now two c.in_ok-put_all-3.ensures.all in
    PutsFront-behind (codes "rvsuite: " ++ c.args.what.now ++ c.args.which.now) three
    c.put_all-4.ensures.front
