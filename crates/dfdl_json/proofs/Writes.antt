-- What is written token by token.
use Rattle.std.proofs.Common.{◌≡◌, List, [], ◌∷◌, ◌++◌, append_assoc, Ok, ap, ◌∙◌}
use Rattle.json.specs.Token.{Token}
use Rattle.json.specs.Written.{Written, Writes}
use Rattle.dfdl_json.specs.Adding.{Adds}

-- one token
pub wrote : {E : Type 0} (old new : Written) (t : Token) → Writes {E = E} (Ok tt) old new t → Adds old new (t ∷ [])
wrote old new t writes = record { before = writes.room.0; tokens = writes.ok }

-- some tokens, and others behind them
pub adds_more : (old mid new : Written) (xs ys : List Token) → Adds old mid xs → Adds mid new ys → Adds old new (xs ++ ys)
adds_more old mid new xs ys first second = record {
  before = second.before ∙ first.before;
  tokens = second.tokens ∙ (ap (λ ts. ts ++ ys) first.tokens ∙ append_assoc old.tokens xs ys);
}

-- the same tokens
pub adds_as : (old new : Written) (xs ys : List Token) → xs ≡ ys → Adds old new xs → Adds old new ys
adds_as old new xs ys same adds = record { before = adds.before; tokens = adds.tokens ∙ ap (λ ts. old.tokens ++ ts) same }
