use Rattle.std.proofs.Common.{◌≡◌, ◌+◌, ◌-◌, ◌*◌, sym, ap, ◌∙◌, arith, length}
use Rattle.rvs_facts.specs.Mnemonics.{number}
use Rattle.rvs_insn.specs.Fields.{Fields}
use Rattle.rvs_insn.specs.Table.{op_count}
use Rattle.rvs_index.specs.Counting.{aims_in}
use Rattle.rvs_index.specs.Index.{is_for, places_for, windows_key}
use Rattle.rvs_index.proofs.Places.{added_window, slots_at, slots_few, slots_low}
use Rattle.rvs_index.proofs.crosses.Crosses.add_window.Goals as goal

pub add_matched-requires-clause-within : goal.add_matched-requires-clause-within
add_matched-requires-clause-within c =
    let key = (length c.args.window.now - 1) * op_count + c.number.result in
    let mine =
    slots_at windows_key c.self.inside.labels.now c.self.inside.lists c.as_slice.result.now key
    c.index-as_slice-key.result c.as_slice-slots.result.now c.self.invariant.index
    (omega (arith, c.requires.some, c.requires.few, c.number.ensures.low, c.self.invariant.count))
    c.as_slice.ensures c.as_slice-slots.ensures c.index-as_slice-key.is in
    slots_low (is_for (windows_key key)) (aims_in c.self.inside.labels.now)
    c.as_slice-slots.result.now (length c.args.counts.now) mine
    (ap (λ ls. length (aims_in ls)) c.self.view_is ∙ sym c.requires.count)

pub add_matched-requires-clause-few : goal.add_matched-requires-clause-few
add_matched-requires-clause-few c =
    let key = (length c.args.window.now - 1) * op_count + c.number.result in
    let mine =
    slots_at windows_key c.self.inside.labels.now c.self.inside.lists c.as_slice.result.now key
    c.index-as_slice-key.result c.as_slice-slots.result.now c.self.invariant.index
    (omega (arith, c.requires.some, c.requires.few, c.number.ensures.low, c.self.invariant.count))
    c.as_slice.ensures c.as_slice-slots.ensures c.index-as_slice-key.is in
    omega (
      arith,
      slots_few (is_for (windows_key key)) (aims_in c.self.inside.labels.now)
          c.as_slice-slots.result.now mine,
      ap (λ ls. length (aims_in ls)) c.self.view_is,
      c.requires.count,
    )

pub returns : goal.returns
returns c =
    let window = c.args.window.now in
    let key = (length window - 1) * op_count + c.number.result in
    let mine =
    slots_at windows_key c.self.inside.labels.now c.self.inside.lists c.as_slice.result.now key
    c.index-as_slice-key.result c.as_slice-slots.result.now c.self.invariant.index
    (omega (arith, c.requires.some, c.requires.few, c.number.ensures.low, c.self.invariant.count))
    c.as_slice.ensures c.as_slice-slots.ensures c.index-as_slice-key.is in
    let first = c.index-window-0.result in
    let same : c.number.result ≡ number first.op =
    c.number.ensures.place ∙ ap (λ (i : Fields). number i.op) c.first.view_is in
    added_window c.args.self.now window first first key
    c.as_slice-slots.result.now c.args.counts.now c.add_matched.new.counts
    c.requires.some c.requires.few c.index-window-0.is (ap (λ n.
    (length window - 1) * op_count + n) same)
    (omega (arith, same, c.number.ensures.low))
    (mine ∙ ap (λ ls. places_for (is_for (windows_key key)) 0 (aims_in ls)) c.self.view_is)
    c.requires.count c.add_matched.ensures
