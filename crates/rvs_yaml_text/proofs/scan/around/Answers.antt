use Rattle.std.proofs.lemmas.Str.{IsCharBoundary-after_ascii}
use Rattle.rvs_yaml_text.proofs.scan.around.Goals as goal

pub range_from-requires : goal.range_from-requires
range_from-requires c = λ h. IsCharBoundary-after_ascii c.args.text.now c.args.at c.utf8.text
    c.requires.inside c.requires.ascii
