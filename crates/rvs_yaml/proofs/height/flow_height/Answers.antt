use Rattle.std.proofs.Common.{◌≡◌, ◌-◌, suc, ap, arith}
use Rattle.rvs_yaml_text.specs.Tokens.{tokens}
use Rattle.rvs_yaml.specs.Heights.{height, height_by, alike}
use Rattle.rvs_yaml.specs.StackView.{all_known}
use Rattle.rvs_yaml.proofs.height.flow_height.Goals as goal

pub loop-left-preserved : goal.loop-left-preserved
loop-left-preserved c =
    let known = all_known c.args.known.now in
    let s = c.loop-left.scan in
    let n = c.loop-left.left - 1 in
    let one : c.loop-left.left ≡ suc n = omega arith in
    let same : height known s.level (tokens c.loop-left.left s.closed s.spaced s.rest.now)
    ≡ height known s.level (tokens (suc n) s.closed s.spaced s.rest.now) =
    ap (λ k. height known s.level (tokens k s.closed s.spaced s.rest.now)) one in
    record {
      reaches = omega (arith, c.loop-left.invariant.reaches, c.in_ok-scan.ensures.height n, same);
      kept = λ most up.
          let alike-same : height_by (alike most) s.level
          (tokens c.loop-left.left s.closed s.spaced s.rest.now)
          ≡ height_by (alike most) s.level (tokens (suc n) s.closed s.spaced s.rest.now) =
          ap (λ k. height_by (alike most) s.level (tokens k s.closed s.spaced s.rest.now)) one in
          omega (
            arith,
            c.loop-left.invariant.kept most up,
            c.in_ok-scan.ensures.kept n most up,
            alike-same,
          );
      low = omega (arith, c.loop-left.invariant.low, c.in_ok-scan.ensures.level);
      shallow = c.in_ok-scan.ensures.shallow c.loop-left.invariant.shallow;
    }
