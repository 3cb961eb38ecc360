use Rattle.std.proofs.Common.{◌≡◌, ℕ, List, [], Some, None, sym, ap, ◌∙◌, replicate, rules}
use Rattle.rvs_insn.specs.Memory.{usual_memory}
use Rattle.rvs_machine.specs.Image.{ImageValue, if_image}
use Rattle.rvs_machine.specs.declared.symbol.Symbol.{Symbol}
use Rattle.rvs_demo.specs.Program.{code, program, image}
use Rattle.rvs_demo.proofs.Regions.{in_order}
use Rattle.rvs_demo.proofs.program.image.Goals as goal

abbrev image_with : List ℕ → List ℕ → List Symbol → ImageValue
image_with text bytes symbols =
    record {
      memory = usual_memory;
      text = text;
      data_bytes = bytes;
      tohost = usual_memory.data_base;
      sig_begin = usual_memory.data_base;
      sig_end = usual_memory.data_base;
      symbols = symbols;
    }

made : (text bytes : List ℕ) (symbols : List Symbol) (n : ℕ) → text ≡ code (program n)
    → bytes ≡ replicate 8 0 → symbols ≡ [] → image_with text bytes symbols ≡ image n
made text bytes symbols n p q r = λ i. image_with (p i) (q i) (r i)

pub unreachable-requires : goal.unreachable-requires
unreachable-requires c =
    let text : c.from-text.result ≡ code (program c.args.count) =
    c.from-text.ensures ∙ c.in_ok-text.ensures in
    let items : c.in_ok-to_vec.field-0.items ≡ replicate 8 0 = search rules in
    let same =
    made c.from-text.result c.from-data.result c.new-symbols.result c.args.count text
    (c.from-data.ensures ∙ items) c.new-symbols.ensures in
    let none : None ≡ Some (image c.args.count) =
    sym c.in-None.is ∙ c.new.ensures ∙ ap if_image same
    ∙ in_order c.args.count c.requires in
    cc
