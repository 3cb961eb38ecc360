-- What a tally's fields say, and what always holds of them.
use Rattle.std.specs.Prelude.{◌≡◌, ◌≤◌, All, length}
use Rattle.rvs_index.specs.Counting.{aims_in}
use Rattle.rvs_index.specs.State.{Tallied, followed}
use Rattle.rvs_count.specs.declared.tally.Tally.TheInside.{Inside}

abbrev pub tallied : Inside → Tallied
tallied t = record {
  labels = t.index;
  windows = t.windows;
  counts = t.counts.items;
  instructions = t.instructions;
  run = t.run;
  heard = record { words = t.registers; started = t.started };
}

pub record IsSound (t : Inside) : Type 0 where
  pub crosses : t.crosses ≡ t.index
  pub count : length t.counts.items ≡ length (aims_in t.index)
  pub low : All (λ n. n ≤ t.instructions) t.counts.items
  pub follows : t.run ≡ followed t.index t.run
