use Rattle.std.proofs.Common.{List, ℕ, Result, Ok, codes, ap, ◌∙◌}
use Rattle.std.proofs.lemmas.Result.{err_from_is_err_and}
use Rattle.rvs_text.specs.Outcomes.{◌>>=◌}
use Rattle.rvs_elf.specs.declared.marks.Bounds.{Bounds}
use Rattle.rvs_elf.specs.declared.refusal.ElfRefusal.{ElfRefusal}
use Rattle.rvs_elf.specs.Names.{needed}
use Rattle.rvs_elf.proofs.marks.read_bounds.Goals as goal

-- the bounds by what is said of the end, and by what is said of the beginning
abbrev by_end : ℕ → Result ℕ ElfRefusal → Result Bounds ElfRefusal
by_end b r = r >>= (λ e. Ok (record { sig_begin = b; sig_end = e }))

abbrev by_begin : List ℕ → List ℕ → Result ℕ ElfRefusal → Result Bounds ElfRefusal
by_begin symbols strings r =
    r >>= (λ b. by_end b (needed symbols strings (codes "end_signature")))

pub returns : goal.returns
returns c =
    ap (by_begin c.args.symbols.now c.args.strings.now) c.in_ok-sig_begin.ensures
    ∙ ap (by_end c.in_ok-sig_begin.sig_begin) c.in_ok-sig_end.ensures

pub returns-in_err-sig_begin : goal.returns-in_err-sig_begin
returns-in_err-sig_begin c =
    let p = err_from_is_err_and c.from_residual.result c.from_residual.ensures.1 in
    rw (p.1, p.2) (λ refusal is. ap (by_begin c.args.symbols.now c.args.strings.now)
    (c.in_err-sig_begin.ensures refusal is))

pub returns-in_err-sig_end : goal.returns-in_err-sig_end
returns-in_err-sig_end c =
    let p = err_from_is_err_and c.from_residual-in_err-sig_end.result
    c.from_residual-in_err-sig_end.ensures.1 in
    rw (p.1, p.2) (λ refusal is.
    ap (by_begin c.args.symbols.now c.args.strings.now) c.in_ok-sig_begin.ensures
    ∙ ap (by_end c.in_ok-sig_begin.sig_begin) (c.in_err-sig_end.ensures refusal is))
