use Rattle.std.proofs.Common.{◌≡◌, ℕ, Bool, true, false, List, IfOk, drop, sym, ap, subst, ◌∙◌}
use Rattle.rvs_yaml_text.specs.Scalar.{starts_quoted, starts_with, quoted, name_split, start_fault}
use Rattle.rvs_yaml_text.specs.Tokens.{tokens_of}
use Rattle.rvs_yaml_text.specs.Word.{Content, flow, square, curly}
use Rattle.rvs_yaml_text.specs.Text.{quoted_ended, alias_ended, plain}
use Rattle.rvs_yaml_text.specs.WordView.{content_view}
use Rattle.rvs_yaml_text.proofs.content.content.Goals as goal

-- the content by each test, where those before it fail
abbrev by_curly : List ℕ → Bool → Content
by_curly t b =
    elim b [ true ↦ flow curly (tokens_of (drop 1 t)) | false ↦ plain (start_fault t) t ]

abbrev by_square : List ℕ → Bool → Content
by_square t b = elim b [
  | true ↦ flow square (tokens_of (drop 1 t))
  | false ↦ by_curly t (starts_with 123 t)
]

abbrev by_star : List ℕ → Bool → Content
by_star t b = elim b [
  | true ↦ alias_ended (name_split (drop 1 t))
  | false ↦ by_square t (starts_with 91 t)
]

abbrev by_quote : List ℕ → Bool → Content
by_quote t b = elim b [ true ↦ quoted_ended (quoted t) | false ↦ by_star t (starts_with 42 t) ]

pub returns-then-starts_quoted : goal.returns-then-starts_quoted
returns-then-starts_quoted c =
    let t = c.args.text.now in
    c.quoted_ended.ensures ∙ ap quoted_ended c.in_ok-quoted.ensures.value
    ∙ sym (ap (by_quote t) (ap starts_quoted (sym c.as_bytes-bytes.ensures.value)
    ∙ sym c.starts_quoted.ensures ∙ c.if-starts_quoted.true))

pub returns-then-starts_with : goal.returns-then-starts_with
returns-then-starts_with c =
    let t = c.args.text.now in
    let same = sym c.as_bytes-bytes.ensures.value in
    c.alias_content.ensures
    ∙ ap (λ (l : List ℕ). alias_ended (name_split l)) c.behind_first.ensures
    ∙ sym (ap (by_quote t) (ap starts_quoted same ∙ sym c.starts_quoted.ensures
    ∙ c.if-starts_quoted.false)
    ∙ ap (by_star t) (ap (starts_with 42) same ∙ sym c.starts_with.ensures
    ∙ c.if-starts_with.true))

pub returns-then-starts_with-2 : goal.returns-then-starts_with-2
returns-then-starts_with-2 c =
    let t = c.args.text.now in
    let same = sym c.as_bytes-bytes.ensures.value in
    ap (λ (l : List ℕ). flow square (tokens_of l)) c.behind_first-then-starts_with-2.ensures
    ∙ sym (ap (by_quote t) (ap starts_quoted same ∙ sym c.starts_quoted.ensures
    ∙ c.if-starts_quoted.false)
    ∙ ap (by_star t) (ap (starts_with 42) same ∙ sym c.starts_with.ensures
    ∙ c.if-starts_with.false)
    ∙ ap (by_square t) (ap (starts_with 91) same ∙ sym c.starts_with-2.ensures
    ∙ c.if-starts_with-2.true))

pub returns-then-starts_with-3 : goal.returns-then-starts_with-3
returns-then-starts_with-3 c =
    let t = c.args.text.now in
    let same = sym c.as_bytes-bytes.ensures.value in
    ap (λ (l : List ℕ). flow curly (tokens_of l)) c.behind_first-then-starts_with-3.ensures
    ∙ sym (ap (by_quote t) (ap starts_quoted same ∙ sym c.starts_quoted.ensures
    ∙ c.if-starts_quoted.false)
    ∙ ap (by_star t) (ap (starts_with 42) same ∙ sym c.starts_with.ensures
    ∙ c.if-starts_with.false)
    ∙ ap (by_square t) (ap (starts_with 91) same ∙ sym c.starts_with-2.ensures
    ∙ c.if-starts_with-2.false)
    ∙ ap (by_curly t) (ap (starts_with 123) same ∙ sym c.starts_with-3.ensures
    ∙ c.if-starts_with-3.true))

pub returns : goal.returns
returns c =
    let t = c.args.text.now in
    let same = sym c.as_bytes-bytes.ensures.value in
    subst (λ (w : Content). IfOk c.plain_content.result (λ x. content_view x ≡ w))
    (sym (ap (by_quote t) (ap starts_quoted same ∙ sym c.starts_quoted.ensures
    ∙ c.if-starts_quoted.false)
    ∙ ap (by_star t) (ap (starts_with 42) same ∙ sym c.starts_with.ensures
    ∙ c.if-starts_with.false)
    ∙ ap (by_square t) (ap (starts_with 91) same ∙ sym c.starts_with-2.ensures
    ∙ c.if-starts_with-2.false)
    ∙ ap (by_curly t) (ap (starts_with 123) same ∙ sym c.starts_with-3.ensures
    ∙ c.if-starts_with-3.false)))
    c.plain_content.ensures
