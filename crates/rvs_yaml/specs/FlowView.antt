-- What the open flow collections of the code stand for.
use Rattle.std.specs.Prelude.{List, map, reverse}
use Rattle.rvs_yaml_text.specs.Word as word_spec
use Rattle.rvs_yaml.specs.Flow as spec
use Rattle.rvs_yaml.specs.FlowSteps as steps_spec
use Rattle.rvs_tree.specs.ValueView.{value_view, values_view, entries_view}
use Rattle.rvs_yaml_text.specs.KeyView.{key_view}
use Rattle.rvs_yaml_text.specs.WordView.{bracket_view}
use Rattle.rvs_yaml.specs.declared.reading.FlowState.{FlowState}
use Rattle.rvs_yaml.specs.declared.reading.FlowState.TheVariants.{Member, BehindMember, KeyPlace}
use Rattle.rvs_yaml.specs.declared.reading.FlowState.TheVariants.{EntryValue, BehindEntry}
use Rattle.rvs_yaml.specs.declared.reading.Level.{Level}
use Rattle.rvs_yaml.specs.TokenParts as token_spec
use Rattle.rvs_yaml.specs.declared.reading.Flowing.{Flowing}
use Rattle.rvs_yaml.specs.declared.reading.Reading.{Reading}
use Rattle.rvs_yaml.specs.declared.reading.Reading.TheVariants.{Inside, Whole}

abbrev pub place_view : FlowState → spec.FlowState
place_view (Member l) = spec.member (values_view l.values.items)
place_view (BehindMember l) = spec.behind_member (values_view l.values.items)
place_view (KeyPlace l) = spec.key_place (entries_view l.entries.items)
place_view (EntryValue p) =
    spec.entry_value (entries_view p.value.list.entries.items) (key_view p.value.key)
place_view (BehindEntry l) = spec.behind_entry (entries_view l.entries.items)

abbrev pub level_view : Level → word_spec.Bracket × spec.FlowState
level_view l = (bracket_view l.bracket, place_view l.place)

-- the innermost is the last of the code's list, and the first of the definition's
abbrev pub levels_view : List Level → List (word_spec.Bracket × spec.FlowState)
levels_view ls = reverse (map level_view ls)

abbrev pub reading_view : Reading → steps_spec.Reading
reading_view (Inside good level outer) = steps_spec.open_in good (bracket_view level.bracket)
    (place_view level.place) (levels_view outer.items)
reading_view (Whole v good) = steps_spec.whole (value_view v, good)

abbrev pub flowing_view : Flowing → token_spec.Flowing
flowing_view f = token_spec.flowing (reading_view f.reading) f.closed f.spaced f.rest.now
