use Rattle.std.proofs.Common.{◌^◌, ℕ, List, Some, [], refl, ap, ◌∙◌, ◌∷◌, arith}
use Rattle.std.proofs.Common.{Option, pos, sym}
use Rattle.std.specs.Prelude.{option_map}
use Rattle.rvs_facts.specs.Facts.{facts_of}
use Rattle.rvs_index.specs.Cells.{sight}
use Rattle.rvs_index.specs.Counting.{Aim, aims_in, hits_insn}
use Rattle.rvs_index.specs.Index.{added_all}
use Rattle.rvs_index.specs.declared.asked.Asked.TheVariants.{Rd, Rs1, Rs2, Rs1Val, Rs2Val, ImmVal}
use Rattle.rvs_index.specs.declared.asked.Asked.TheVariants.{EaAlign}
use Rattle.rvs_index.proofs.Cells.{fits_more, fits_weaker, sights_visited, then_all}
use Rattle.rvs_index.proofs.Sums.{all_added}
use Rattle.rvs_index.proofs.index.Index.add_lists.Goals as goal

pub add_field-requires : goal.add_field-requires
add_field-requires c = record {
  field = refl;
  small = c.args.facts.now.rd_small;
  fact = ap (option_map (λ n. pos n)) (sym c.args.facts.now.rd_known);
  fits = fits_weaker (2 ^ 41) (omega arith)
      (fits_more _ c.add_first.new.counts c.requires.fits c.add_first.ensures);
}

pub add_field-requires-2 : goal.add_field-requires-2
add_field-requires-2 c = record {
  field = refl;
  small = c.args.facts.now.first_small;
  fact = ap (option_map (λ n. pos n)) (sym c.args.facts.now.first_known);
  fits = fits_weaker (2 ^ 41) (omega arith) (fits_more _
      c.add_field.new.counts
      (fits_more _ c.add_first.new.counts c.requires.fits c.add_first.ensures)
      c.add_field.ensures);
}

pub add_field-requires-3 : goal.add_field-requires-3
add_field-requires-3 c = record {
  field = refl;
  small = c.args.facts.now.second_small;
  fact = ap (option_map (λ n. pos n)) (sym c.args.facts.now.second_known);
  fits = fits_weaker (2 ^ 41) (omega arith) (fits_more _
      c.add_field-2.new.counts (fits_more _ c.add_field.new.counts
      (fits_more _ c.add_first.new.counts c.requires.fits c.add_first.ensures)
      c.add_field.ensures) c.add_field-2.ensures);
}

pub add_asked-requires : goal.add_asked-requires
add_asked-requires c = record {
  fact = sym c.args.facts.now.rs1_known;
  small = c.args.facts.now.rs1_small;
  fits = fits_weaker (2 ^ 41) (omega arith) (fits_more _
      c.add_field-3.new.counts (fits_more _ c.add_field-2.new.counts (fits_more _
      c.add_field.new.counts
      (fits_more _ c.add_first.new.counts c.requires.fits c.add_first.ensures)
      c.add_field.ensures) c.add_field-2.ensures) c.add_field-3.ensures);
}

pub add_asked-requires-2 : goal.add_asked-requires-2
add_asked-requires-2 c = record {
  fact = sym c.args.facts.now.rs2_known;
  small = c.args.facts.now.rs2_small;
  fits = fits_weaker (2 ^ 41) (omega arith) (fits_more _
      c.add_asked.new.counts (fits_more _ c.add_field-3.new.counts (fits_more _
      c.add_field-2.new.counts (fits_more _ c.add_field.new.counts
      (fits_more _ c.add_first.new.counts c.requires.fits c.add_first.ensures)
      c.add_field.ensures) c.add_field-2.ensures) c.add_field-3.ensures) c.add_asked.ensures);
}

pub add_asked-requires-3 : goal.add_asked-requires-3
add_asked-requires-3 c = record {
  fact = sym c.args.facts.now.imm_known;
  small = c.args.facts.now.imm_small;
  fits = fits_weaker (2 ^ 41) (omega arith) (fits_more _
      c.add_asked-2.new.counts (fits_more _ c.add_asked.new.counts (fits_more _
      c.add_field-3.new.counts (fits_more _ c.add_field-2.new.counts (fits_more _
      c.add_field.new.counts
      (fits_more _ c.add_first.new.counts c.requires.fits c.add_first.ensures)
      c.add_field.ensures) c.add_field-2.ensures) c.add_field-3.ensures) c.add_asked.ensures)
      c.add_asked-2.ensures);
}

pub add_aligned-requires : goal.add_aligned-requires
add_aligned-requires c = record {
  fits = fits_weaker (2 ^ 41) (omega arith) (fits_more _
      c.add_asked-3.new.counts (fits_more _ c.add_asked-2.new.counts (fits_more _
      c.add_asked.new.counts (fits_more _ c.add_field-3.new.counts (fits_more _
      c.add_field-2.new.counts (fits_more _ c.add_field.new.counts
      (fits_more _ c.add_first.new.counts c.requires.fits c.add_first.ensures)
      c.add_field.ensures) c.add_field-2.ensures) c.add_field-3.ensures) c.add_asked.ensures)
      c.add_asked-2.ensures) c.add_asked-3.ensures);
}

pub returns : goal.returns
returns c =
    let i = c.args.facts.now.insn in
    let v1 = c.args.facts.now.first in
    let v2 = c.args.facts.now.second in
    let t = facts_of i v1 v2 in
    let hit : Aim → _ = λ a. hits_insn a (Some i) v1 v2 in
    let aims = aims_in c.args.self.now in
    let cs = c.args.counts.now in
    let last = c.add_aligned.new.counts in
    (then_all hit aims (Some 0) (sight Rd t ∷ sight Rs1 t ∷ sight Rs2 t ∷ sight Rs1Val t ∷ sight
    Rs2Val t ∷ sight ImmVal t ∷ sight EaAlign t ∷ []) cs c.add_first.new.counts last
    c.add_first.ensures (then_all hit aims (sight Rd t) (sight Rs1 t ∷ sight Rs2 t ∷ sight Rs1Val
    t ∷ sight Rs2Val t ∷ sight ImmVal t ∷ sight EaAlign t ∷ []) c.add_first.new.counts
    c.add_field.new.counts last
    c.add_field.ensures (then_all hit aims (sight Rs1 t) (sight Rs2 t ∷ sight Rs1Val t ∷ sight
    Rs2Val t ∷ sight ImmVal t ∷ sight EaAlign t ∷ []) c.add_field.new.counts
    c.add_field-2.new.counts last
    c.add_field-2.ensures (then_all hit aims (sight Rs2 t) (sight Rs1Val t ∷ sight Rs2Val t ∷
    sight ImmVal t ∷ sight EaAlign t ∷ []) c.add_field-2.new.counts
    c.add_field-3.new.counts last
    c.add_field-3.ensures (then_all hit aims (sight Rs1Val t) (sight Rs2Val t ∷ sight ImmVal t ∷
    sight EaAlign t ∷ []) c.add_field-3.new.counts c.add_asked.new.counts last
    c.add_asked.ensures (then_all hit aims (sight Rs2Val t) (sight ImmVal t ∷ sight EaAlign t ∷
    []) c.add_asked.new.counts c.add_asked-2.new.counts last
    c.add_asked-2.ensures (then_all hit aims (sight ImmVal t) (sight EaAlign t ∷ [])
    c.add_asked-2.new.counts c.add_asked-3.new.counts last
    c.add_asked-3.ensures (then_all hit aims (sight EaAlign t) ([]) c.add_asked-3.new.counts
    c.add_aligned.new.counts last
    c.add_aligned.ensures refl))))))))
    ∙ ap (λ (os : List (Option ℕ)). added_all hit os aims cs) (sights_visited t)
    ∙ all_added i v1 v2 aims cs
