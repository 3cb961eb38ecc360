-- Putting piece after piece.
use Rattle.std.proofs.Common.{◌≡◌, ℕ, List, ◌++◌, take, drop, Option, Some, None, refl, sym, ap}
use Rattle.std.proofs.Common.{◌∙◌}
use Rattle.std.proofs.lemmas.List.{append_assoc, take-append-drop}
use Rattle.rvs_base.specs.Sink.{appended}

pub appended-appended : (old : Option (List ℕ)) (a b : List ℕ)
    → appended (appended old a) b ≡ appended old (a ++ b)
appended-appended None a b = refl
appended-appended (Some l) a b = ap (λ (x : List ℕ). Some x) (append_assoc l a b)

-- of these bytes a front was put, and this is left
pub record HasPut (bytes left : List ℕ) (old new : Option (List ℕ)) : Type 0 where
  pub front : List ℕ
  pub split : bytes ≡ front ++ left
  pub put : new ≡ appended old front

-- and then the next n bytes are put
pub HasPut-more : {bytes left : List ℕ} {old mid new : Option (List ℕ)} (n : ℕ)
    → HasPut bytes left old mid → new ≡ appended mid (take n left)
    → HasPut bytes (drop n left) old new
HasPut-more {left = left} {old = old} n h more = record {
  front = h.front ++ take n left;
  split = h.split ∙ ap (λ (l : List ℕ). h.front ++ l) (sym (take-append-drop n left))
      ∙ sym (append_assoc h.front (take n left) (drop n left));
  put = more ∙ ap (λ (o : Option (List ℕ)). appended o (take n left)) h.put
      ∙ appended-appended old h.front (take n left);
}
