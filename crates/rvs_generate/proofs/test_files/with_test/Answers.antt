use Rattle.rvs_generate.proofs.test_files.with_test.Goals as goal

pub returns : goal.returns
returns c = λ i. record {
  test = c.args.test;
  executable = c.in_ok-path.ensures i;
  reference = c.in_ok-path-2.ensures i;
  device = c.in_ok-path-3.ensures i;
}
