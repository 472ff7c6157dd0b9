-- The characters that a literal in quotes tells, one after the other.
use Rattle.std.proofs.Common.{◌≡◌, ℕ, ◌+◌, ◌<◌, ◌==◌, if◌then◌else◌, true, false, Some, None, List, [], ◌∷◌, ◌++◌, length, get_or, drop}
use Rattle.std.proofs.Common.{refl, ap, sym, ◌∙◌, append_assoc}
use Rattle.std.proofs.lemmas.List.{append-nil, drop_more}
use Rattle.dfdl_expression_tree.specs.declared.quoting.Quoting.{Quoting}
use Rattle.dfdl_expression_tree.specs.declared.quoting.Quoting.TheVariants.{Unopened, Inside, Behind}
use Rattle.dfdl_expression_tree.specs.TokenLists.{coded}
use Rattle.dfdl_expression_tree.specs.Quotes.{unquoted_by}
use Rattle.dfdl_expression_tree.specs.Quoting.{quoted_next, quoted_tells, quoted_rest, told_bytes}

quoted_step : (s : Quoting) (c : ℕ) (cs : List ℕ)
    → coded (quoted_rest s (c ∷ cs)) ≡ told_bytes (quoted_tells s c) ++ coded (quoted_rest (quoted_next s c) cs)
quoted_step Unopened c cs = refl
quoted_step (Inside quote) c [] =
    elim (c == quote) as (λ b. coded (if b then [] else c ∷ []) ≡ told_bytes (if b then None else Some c)
    ++ coded (quoted_rest (if b then Behind quote else Inside quote) [])) [ true ↦ refl | false ↦ refl ]
quoted_step (Inside quote) c (d ∷ rest) =
    elim (c == quote) as (λ b. coded (if b then quote ∷ unquoted_by quote rest else c ∷ unquoted_by quote (d ∷ rest))
    ≡ told_bytes (if b then None else Some c) ++ coded (quoted_rest (if b then Behind quote else Inside quote) (d ∷ rest)))
    [ true ↦ refl | false ↦ refl ]
quoted_step (Behind quote) c cs = refl

-- what was told and what the rest tells is the same behind one character more
pub told_more : (s : Quoting) (text : List ℕ) (n c : ℕ) (told later : List ℕ) → n < length text → c ≡ get_or text n c
    → later ≡ told ++ told_bytes (quoted_tells s c)
    → later ++ coded (quoted_rest (quoted_next s c) (drop (n + 1) text)) ≡ told ++ coded (quoted_rest s (drop n text))
told_more s text n c told later inside is more =
    let left = coded (quoted_rest (quoted_next s c) (drop (n + 1) text)) in
    ap (λ l. l ++ left) more ∙ (append_assoc told (told_bytes (quoted_tells s c)) left
    ∙ (ap (λ l. told ++ l) (sym (quoted_step s c (drop (n + 1) text)))
    ∙ ap (λ l. told ++ coded (quoted_rest s l)) (ap (λ x. x ∷ drop (n + 1) text) is ∙ sym (drop_more text n c inside))))

none_left : (s : Quoting) → quoted_rest s [] ≡ []
none_left Unopened = refl
none_left (Inside quote) = refl
none_left (Behind quote) = refl

-- where no character is left, all was told
pub told_all : (s : Quoting) (told left : List ℕ) → left ≡ [] → told ++ coded (quoted_rest s left) ≡ told
told_all s told left is = ap (λ l. told ++ coded (quoted_rest s l)) is ∙ (ap (λ l. told ++ coded l) (none_left s) ∙ append-nil told)
