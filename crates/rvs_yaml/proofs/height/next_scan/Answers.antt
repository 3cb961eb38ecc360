use Rattle.std.proofs.Common.{◌≡◌, ◌≤◌, ◌+◌, ◌∷◌, ◌∙◌, ℕ, suc, max, sym, ap, arith, true, false}
use Rattle.rvs_yaml_text.specs.Bytes.{space_byte}
use Rattle.rvs_yaml_text.specs.Scalar.{starts_with}
use Rattle.rvs_yaml_text.specs.Tokens.{tokens, closes}
use Rattle.rvs_yaml_text.specs.TokenView.{token_view}
use Rattle.rvs_yaml_text.specs.Word.{Token}
use Rattle.rvs_yaml.specs.Heights.{height, height_by, reach, reach_by, alike, level_behind}
use Rattle.rvs_yaml.specs.StackView.{all_known}
use Rattle.rvs_yaml.proofs.Tokens.{tokens-space, tokens-token}
use Rattle.rvs_yaml.proofs.height.next_scan.Goals as goal

level-most : (level : ℕ) (m : Token) → level_behind level m ≤ level + 1
level-most level m = grind arith

pub returns-then-starts_with : goal.returns-then-starts_with
returns-then-starts_with c =
    let known = all_known c.args.known.now in
    let s = c.args.scan in
    let space : starts_with space_byte s.rest.now ≡ true =
    ap (starts_with space_byte) (sym c.as_bytes.ensures.value) ∙ sym c.starts_with.ensures
    ∙ c.if-starts_with.true in
    let same : (n : ℕ) → tokens (suc n) s.closed s.spaced s.rest.now
    ≡ tokens n s.closed true c.behind_first.result.now =
    λ n. tokens-space n s.closed s.spaced s.rest.now space
    ∙ ap (tokens n s.closed true) (sym c.behind_first.ensures) in
    record {
      height = λ n. let e = ap (height known s.level) (same n) in omega (arith, e);
      kept = λ n most up.
          let e = ap (height_by (alike most) s.level) (same n) in omega (arith, e);
      level = omega arith;
      shallow = λ h. h;
    }

pub returns : goal.returns
returns c =
    let known = all_known c.args.known.now in
    let s = c.args.scan in
    let token = token_view c.in_ok-token.token in
    let behind = c.in_ok-token.behind.now in
    let no_space : starts_with space_byte s.rest.now ≡ false =
    ap (starts_with space_byte) (sym c.as_bytes.ensures.value) ∙ sym c.starts_with.ensures
    ∙ c.if-starts_with.false in
    let split : (n : ℕ) → tokens (suc n) s.closed s.spaced s.rest.now
    ≡ token ∷ tokens n c.closes.result false behind =
    λ n. tokens-token n s.closed s.spaced s.rest.now no_space c.requires.goes
    ∙ ap (λ q. q.0 ∷ tokens n (closes q.0) false q.1) (sym c.in_ok-token.ensures)
    ∙ ap (λ t. token ∷ tokens n t false behind) (sym c.closes.ensures) in
    record {
      height = λ n.
          let ms = tokens n c.closes.result false behind in
          let here : height known s.level (tokens (suc n) s.closed s.spaced s.rest.now)
          ≡ max (reach known s.level token) (height known (level_behind s.level token) ms) =
          ap (height known s.level) (split n) in
          let next : height known c.level_behind.result ms
          ≡ height known (level_behind s.level token) ms =
          ap (λ l. height known l ms) c.level_behind.ensures in
          omega (arith, here, next, c.reach.ensures.bound, c.max.ensures);
      kept = λ n most up.
          let ms = tokens n c.closes.result false behind in
          let h = height_by (alike most) in
          let here : h s.level (tokens (suc n) s.closed s.spaced s.rest.now)
          ≡ max (reach_by (alike most) s.level token) (h (level_behind s.level token) ms) =
          ap (h s.level) (split n) in
          let next : h c.level_behind.result ms ≡ h (level_behind s.level token) ms =
          ap (λ l. h l ms) c.level_behind.ensures in
          omega (arith, here, next, c.reach.ensures.kept most up, c.max.ensures);
      level = omega (arith, c.level_behind.ensures, level-most s.level token);
      shallow = λ low. omega (arith, c.reach.ensures.shallow, c.max.ensures, low);
    }
