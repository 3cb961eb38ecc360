use Rattle.std.proofs.Common.{◌≡◌, length, string_bytes}
use denote.Shadow.{shadow}
use denote.Text.{Utf8}
use Rattle.rvs_yaml_text.specs.Scalar.{single}
use Rattle.rvs_yaml_text.proofs.Scans.{onto_all}
use Rattle.rvs_yaml_text.proofs.quoted.single.Given as goal

abbrev pub invariant-loop-piece : goal.invariant-loop-piece
invariant-loop-piece l =
    (onto_all (string_bytes l.done) (single l.rest) ≡ single l.text) × shadow (Utf8 l.rest)

abbrev pub decreases-loop-piece : goal.decreases-loop-piece
decreases-loop-piece l = length l.rest
