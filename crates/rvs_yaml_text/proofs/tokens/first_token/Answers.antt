use Rattle.std.proofs.Common.{◌≡◌, ◌<◌, ℕ, Bool, true, false, ◌&&◌, List, [], ◌∷◌}
use Rattle.std.proofs.Common.{Option, IfOk, drop, refl, sym, ap, subst, ◌∙◌, arith}
use Rattle.std.specs.Prelude.{◌==◌, slice_index, option_map}
use Rattle.std.proofs.lemmas.Bool.Decides.{nat_tests}
use Rattle.std.proofs.lemmas.List.{take_rest}
use Rattle.rvs_yaml_text.specs.Scalar.{ends_indicator}
use Rattle.rvs_yaml_text.specs.Word.{Token, colon}
use Rattle.rvs_yaml_text.specs.Tokens.{FirstToken, first_byte, punctuation, punctuation_or_word}
use Rattle.rvs_yaml_text.specs.Tokens.{word_token}
use Rattle.rvs_yaml_text.specs.TokenView.{token_view, first_view}
use Rattle.rvs_yaml_text.proofs.tokens.first_token.Goals as goal

first_at : (bytes : List ℕ) → first_byte bytes ≡ slice_index bytes 0
first_at [] = refl
first_at (b ∷ bs) = refl

colon_low : (n : ℕ) (b : Bool) → (n == 58 && b) ≡ true → n < 128
colon_low n b h = grind (arith, nat_tests)

-- the first token where punctuation is none, by whether a key ends here
abbrev by_colon : List ℕ → Bool → FirstToken
by_colon bytes ends = elim ends [ true ↦ (colon, drop 1 bytes) | false ↦ word_token bytes ]

pub behind_first-requires-clause-some : goal.behind_first-requires-clause-some
behind_first-requires-clause-some c = c.requires

pub behind_first-requires-clause-ascii : goal.behind_first-requires-clause-ascii
behind_first-requires-clause-ascii c =
    subst (λ (n : ℕ). n < 128) (c.first_byte-first.ensures
    ∙ ap first_byte c.as_bytes-bytes.ensures.value ∙ first_at c.args.text.now)
    c.in-Some.ensures.ascii.1

pub returns-in-Some : goal.returns-in-Some
returns-in-Some c =
    let t = c.args.text.now in
    let first = c.first_byte-first.ensures ∙ ap first_byte c.as_bytes-bytes.ensures.value in
    let mark = ap punctuation (sym first) ∙ sym c.punctuation.ensures.value
    ∙ ap (option_map token_view) c.in-Some.is in
    ap (λ (r : List ℕ). (token_view c.in-Some.token, r)) c.behind_first.ensures
    ∙ sym (ap (λ (o : Option Token). punctuation_or_word o t) mark)

pub behind_first-requires-then-ends_key-clause-some :
    goal.behind_first-requires-then-ends_key-clause-some
behind_first-requires-then-ends_key-clause-some c = c.requires

pub behind_first-requires-then-ends_key-clause-ascii :
    goal.behind_first-requires-then-ends_key-clause-ascii
behind_first-requires-then-ends_key-clause-ascii c =
    subst (λ (n : ℕ). n < 128) (c.first_byte-first.ensures
    ∙ ap first_byte c.as_bytes-bytes.ensures.value ∙ first_at c.args.text.now)
    (colon_low c.first_byte-first.result _ (sym c.ends_key.ensures ∙ c.if-ends_key.true))

pub returns-then-ends_key : goal.returns-then-ends_key
returns-then-ends_key c =
    let t = c.args.text.now in
    let first = c.first_byte-first.ensures ∙ ap first_byte c.as_bytes-bytes.ensures.value in
    let mark = ap punctuation (sym first) ∙ sym c.punctuation.ensures.value
    ∙ ap (option_map token_view) c.in_default.is in
    let rest = take_rest c.as_bytes-bytes.result.now 1
    ∙ ap (λ (l : List ℕ). drop 1 l) c.as_bytes-bytes.ensures.value in
    let ends = ap (λ (n : ℕ). n == 58 && ends_indicator (drop 1 t)) (sym first)
    ∙ ap (λ (l : List ℕ). c.first_byte-first.result == 58 && ends_indicator l) (sym rest)
    ∙ sym c.ends_key.ensures ∙ c.if-ends_key.true in
    ap (λ (r : List ℕ). (colon, r)) c.behind_first-then-ends_key.ensures
    ∙ sym (ap (λ (o : Option Token). punctuation_or_word o t) mark ∙ ap (by_colon t) ends)

pub word_token-requires : goal.word_token-requires
word_token-requires c = c.requires

pub returns : goal.returns
returns c =
    let t = c.args.text.now in
    let first = c.first_byte-first.ensures ∙ ap first_byte c.as_bytes-bytes.ensures.value in
    let mark = ap punctuation (sym first) ∙ sym c.punctuation.ensures.value
    ∙ ap (option_map token_view) c.in_default.is in
    let rest = take_rest c.as_bytes-bytes.result.now 1
    ∙ ap (λ (l : List ℕ). drop 1 l) c.as_bytes-bytes.ensures.value in
    let ends = ap (λ (n : ℕ). n == 58 && ends_indicator (drop 1 t)) (sym first)
    ∙ ap (λ (l : List ℕ). c.first_byte-first.result == 58 && ends_indicator l) (sym rest)
    ∙ sym c.ends_key.ensures ∙ c.if-ends_key.false in
    subst (λ (w : FirstToken). IfOk c.word_token.result (λ p. first_view p ≡ w))
    (sym (ap (λ (o : Option Token). punctuation_or_word o t) mark ∙ ap (by_colon t) ends))
    c.word_token.ensures
