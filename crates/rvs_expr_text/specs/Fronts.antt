-- How a front of a text's tokens is read.
use Rattle.std.specs.Prelude.{ℕ, List, [], ◌∷◌, Ok}
use Rattle.rvs_text.specs.Outcomes.{◌>>=◌}
use Rattle.rvs_expr_text.specs.Refusal.{Found}
use Rattle.rvs_expr_text.specs.Tree.{Tree}
use Rattle.rvs_expr_text.specs.Reading.{State, step, ended}
use Rattle.rvs_expr_text.specs.declared.lexeme.Token.{Token}

-- the state behind the tokens, or the first fault among them
abbrev pub after_all : State → List Token → Found State
after_all s [] = Ok s
after_all s (t ∷ ts) = step s t >>= (λ next. after_all next ts)

-- what a text is that ends behind the tokens
abbrev pub ended_behind : State → List Token → ℕ → Found Tree
ended_behind s ts column = after_all s ts >>= (λ last. ended last column)
