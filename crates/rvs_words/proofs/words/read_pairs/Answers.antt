use Rattle.std.proofs.Common.{◌≡◌, ◌++◌, ◌∷◌, ◌∙◌, List, ℕ, [], Option, Some, None, option_map}
use Rattle.std.proofs.Common.{append_assoc, refl, sym, ap}
use Rattle.rvs_words.specs.Words.{texts, with_pair, pairs_of}
use Rattle.rvs_words.specs.declared.words.Pair.{Pair}
use Rattle.rvs_words.proofs.words.read_pairs.Goals as goal

-- a pair behind those before it, and then more
one-more : (pairs : List Pair) (pair : Pair) (more : Option (List Pair))
    → option_map (λ (ps : List Pair). (pairs ++ pair ∷ []) ++ ps) more
    ≡ option_map (λ (ps : List Pair). pairs ++ ps) (with_pair pair more)
one-more pairs pair None = refl
one-more pairs pair (Some ps) =
    ap (λ (all : List Pair). Some all) (append_assoc pairs (pair ∷ []) ps)

pub loop-word-preserved : goal.loop-word-preserved
loop-word-preserved c =
    let pairs = c.loop-word.pairs in
    let more = texts c.in_ok-pair.more.now in
    let here : texts c.loop-word.rest.now ≡ c.as_str.result.now ∷ texts c.in-Some.after.now =
    ap texts c.in-Some.ensures.cases.0
    ∙ ap (λ (w : List ℕ). w ∷ texts c.in-Some.after.now) (sym c.as_str.ensures.value) in
    ap (λ (ps : List Pair). option_map (λ (m : List Pair). ps ++ m) (pairs_of more))
    c.in_ok-push.ensures.added
    ∙ one-more pairs c.in_ok-pair.pair (pairs_of more)
    ∙ ap (option_map (λ (m : List Pair). pairs ++ m)) (sym c.in_ok-pair.ensures.first)
    ∙ ap (λ (ws : List (List ℕ)). option_map (λ (m : List Pair). pairs ++ m) (pairs_of ws))
    (sym here)
    ∙ c.loop-word.invariant
