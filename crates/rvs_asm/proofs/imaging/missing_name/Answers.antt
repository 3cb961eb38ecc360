use Rattle.std.proofs.Common.{[], ◌∷◌, Some, None, cond, ap, sym, ◌∙◌}
use Rattle.std.specs.Prelude.{codes}
use Rattle.rvs_asm.specs.Faults.{first_missing}
use Rattle.rvs_asm.proofs.imaging.missing_name.Goals as goal

pub returns-then-is_missing_name : goal.returns-then-is_missing_name
returns-then-is_missing_name c =
    ap (λ b. cond b (Some (codes "tohost")) (first_missing c.args.symbols.now
    (codes "begin_signature" ∷ codes "end_signature" ∷ [])))
    (sym c.if-is_missing_name.true ∙ c.is_missing_name.ensures)

pub returns-then-is_missing_name-2 : goal.returns-then-is_missing_name-2
returns-then-is_missing_name-2 c =
    ap (λ b. cond b (Some (codes "begin_signature")) (first_missing c.args.symbols.now
    (codes "end_signature" ∷ [])))
    (sym c.if-is_missing_name-2.true ∙ c.is_missing_name-else-is_missing_name.ensures)
    ∙ ap (λ b. cond b (Some (codes "tohost")) (first_missing c.args.symbols.now
    (codes "begin_signature" ∷ codes "end_signature" ∷ [])))
    (sym c.if-is_missing_name.false ∙ c.is_missing_name.ensures)

pub returns-then-is_missing_name-3 : goal.returns-then-is_missing_name-3
returns-then-is_missing_name-3 c =
    ap (λ b. cond b (Some (codes "end_signature")) None)
    (sym c.if-is_missing_name-3.true ∙ c.is_missing_name-else-is_missing_name-2.ensures)
    ∙ ap (λ b. cond b (Some (codes "begin_signature")) (first_missing c.args.symbols.now
    (codes "end_signature" ∷ [])))
    (sym c.if-is_missing_name-2.false ∙ c.is_missing_name-else-is_missing_name.ensures)
    ∙ ap (λ b. cond b (Some (codes "tohost")) (first_missing c.args.symbols.now
    (codes "begin_signature" ∷ codes "end_signature" ∷ [])))
    (sym c.if-is_missing_name.false ∙ c.is_missing_name.ensures)

pub returns-else-is_missing_name-3 : goal.returns-else-is_missing_name-3
returns-else-is_missing_name-3 c =
    ap (λ b. cond b (Some (codes "end_signature")) None)
    (sym c.if-is_missing_name-3.false ∙ c.is_missing_name-else-is_missing_name-2.ensures)
    ∙ ap (λ b. cond b (Some (codes "begin_signature")) (first_missing c.args.symbols.now
    (codes "end_signature" ∷ [])))
    (sym c.if-is_missing_name-2.false ∙ c.is_missing_name-else-is_missing_name.ensures)
    ∙ ap (λ b. cond b (Some (codes "tohost")) (first_missing c.args.symbols.now
    (codes "begin_signature" ∷ codes "end_signature" ∷ [])))
    (sym c.if-is_missing_name.false ∙ c.is_missing_name.ensures)
