-- How much coverage groups may hold.
use Rattle.std.specs.Prelude.{ℕ}

-- the most labels of a text of groups
abbrev pub most_labels : ℕ
most_labels = 256

-- the most points of a label
abbrev pub most_points : ℕ
most_points = 2048

-- the most pairs of a point and a mnemonic of its label, over all labels
abbrev pub most_pairs : ℕ
most_pairs = 65536
