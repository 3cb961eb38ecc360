-- What the tokens of the code stand for.
use Rattle.std.specs.Prelude.{ℕ, List}
use Rattle.std.specs.Borrow.{Bor}
use Rattle.rvs_yaml_text.specs.Word as spec
use Rattle.rvs_yaml_text.specs.Tokens.{FirstToken}
use Rattle.rvs_yaml_text.specs.KeyView.{key_view}
use Rattle.rvs_yaml_text.specs.WordView.{bracket_view}
use Rattle.rvs_yaml_text.specs.declared.token.Token.{Token}
use Rattle.rvs_yaml_text.specs.declared.token.Token.TheVariants as token

abbrev pub token_view : Token → spec.Token
token_view (token.Opening b) = spec.opening (bracket_view b)
token_view (token.Closing b) = spec.closing (bracket_view b)
token_view token.Comma = spec.comma
token_view token.Colon = spec.colon
token_view (token.Scalar k) = spec.scalar_token (key_view k)
token_view (token.Keyed k) = spec.key_token (key_view k)
token_view (token.CutKey k) = spec.cut_key (key_view k)
token_view (token.ColonScalar b) = spec.colon_scalar b
token_view (token.Alias name) = spec.alias_token name.now
token_view token.LateColon = spec.late_colon
token_view (token.Fault kind) = spec.fault kind

abbrev pub first_view : Token × Bor (List ℕ) → FirstToken
first_view p = (token_view p.0, p.1.now)
