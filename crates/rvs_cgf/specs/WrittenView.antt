-- What labels that were written out stand for.
use Rattle.rvs_cgf.specs.Writing.{Told}
use Rattle.rvs_cgf.specs.declared.written.Written.{Written}

-- its text and its counts
abbrev pub written_view : Written → Told
written_view w = record { text = w.text; count = w.count; total = w.total }
