-- What the code's places stand for.
use Rattle.rvs_cgf.specs.Groups.{EntryNames}
use Rattle.rvs_cgf.specs.declared.place.At.{At}

-- the names that a check looks at
abbrev pub place_view : At → EntryNames
place_view a = record { label = a.label.now; node = a.node.now; key = a.key.now }
