use Rattle.std.proofs.Common.{◌+◌, ◌*◌, sym, ap, ◌∙◌, arith, length}
use Rattle.rvs_facts.specs.Mnemonics.{number}
use Rattle.rvs_insn.specs.Fields.{Fields}
use Rattle.rvs_index.specs.Buckets.{bucket_count}
use Rattle.rvs_index.specs.Counting.{aims_in}
use Rattle.rvs_index.specs.Index.{insns_key, is_for, places_for}
use Rattle.rvs_index.proofs.Places.{added_bucket, slots_at, slots_few, slots_low}
use Rattle.rvs_index.proofs.index.Index.add_list.Goals as goal

pub add_insn-requires-clause-within : goal.add_insn-requires-clause-within
add_insn-requires-clause-within c =
    let key = c.number.result * bucket_count + c.args.bucket in
    let mine =
    slots_at insns_key c.self.inside.labels.now c.self.inside.lists c.as_slice.result.now key
    c.index-as_slice-key.result c.as_slice-slots.result.now c.self.invariant.0
    (omega (arith, c.requires.bucket, c.number.ensures.low, c.self.invariant.1))
    c.as_slice.ensures c.as_slice-slots.ensures c.index-as_slice-key.is in
    slots_low (is_for (insns_key key)) (aims_in c.self.inside.labels.now)
    c.as_slice-slots.result.now (length c.args.counts.now) mine
    (ap (λ ls. length (aims_in ls)) c.self.view_is ∙ sym c.requires.fits.count)

pub add_insn-requires-clause-few : goal.add_insn-requires-clause-few
add_insn-requires-clause-few c =
    let key = c.number.result * bucket_count + c.args.bucket in
    let mine =
    slots_at insns_key c.self.inside.labels.now c.self.inside.lists c.as_slice.result.now key
    c.index-as_slice-key.result c.as_slice-slots.result.now c.self.invariant.0
    (omega (arith, c.requires.bucket, c.number.ensures.low, c.self.invariant.1))
    c.as_slice.ensures c.as_slice-slots.ensures c.index-as_slice-key.is in
    omega (
      arith,
      slots_few (is_for (insns_key key)) (aims_in c.self.inside.labels.now)
          c.as_slice-slots.result.now mine,
      ap (λ ls. length (aims_in ls)) c.self.view_is,
      c.requires.fits.count,
    )

pub returns : goal.returns
returns c =
    let key = c.number.result * bucket_count + c.args.bucket in
    let mine =
    slots_at insns_key c.self.inside.labels.now c.self.inside.lists c.as_slice.result.now key
    c.index-as_slice-key.result c.as_slice-slots.result.now c.self.invariant.0
    (omega (arith, c.requires.bucket, c.number.ensures.low, c.self.invariant.1))
    c.as_slice.ensures c.as_slice-slots.ensures c.index-as_slice-key.is in
    added_bucket c.args.self.now c.args.facts.insn c.args.facts.first
    c.args.facts.second c.number.result c.args.bucket c.as_slice-slots.result.now
    c.args.counts.now c.add_insn.new.counts
    (c.number.ensures.place ∙ ap (λ (i : Fields). number i.op) c.insn.view_is) c.requires.bucket
    (mine ∙ ap (λ ls. places_for (is_for (insns_key key)) 0 (aims_in ls)) c.self.view_is)
    c.requires.fits.count c.add_insn.ensures
