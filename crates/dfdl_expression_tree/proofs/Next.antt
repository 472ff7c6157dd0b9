-- The token that is found in a text from a place on.
use Rattle.std.proofs.Common.{◌≡◌, ℕ, ◌+◌, ◌-◌, ◌<◌, Bool, List, ◌∷◌, length, get_or, take, drop, Some, ap, sym, ◌∙◌, arith}
use Rattle.std.proofs.lemmas.List.{drop-drop, drop_more}
use Rattle.dfdl_expression_tree.specs.declared.piece.Piece.TheVariants as p
use Rattle.dfdl_expression_tree.specs.Lexing.{begun, rest_of, token_by, first_token, next_token}

pub next_is : (bytes : List ℕ) (at from to : ℕ) (ended : Bool) → from ≡ at + rest_of p.White (drop at bytes) → from < length bytes
    → to ≡ from + 1 + rest_of (begun (get_or bytes from 0)) (drop (from + 1) bytes)
    → next_token ended at (drop at bytes) ≡ Some (token_by ended from (take (to - from) (drop from bytes)))
next_is bytes at from to ended is inside end =
    let white = rest_of p.White (drop at bytes) in
    let b = get_or bytes from 0 in
    let here : drop white (drop at bytes) ≡ b ∷ drop (from + 1) bytes =
    drop-drop white at bytes ∙ (ap (λ n. drop n bytes) (sym is) ∙ drop_more bytes from 0 inside) in
    let size : rest_of (begun b) (drop (from + 1) bytes) + 1 ≡ to - from = omega arith in
    ap (λ n. first_token ended n (drop white (drop at bytes))) (sym is)
    ∙ (ap (λ l. first_token ended from l) here
    ∙ (ap (λ n. Some (token_by ended from (take n (b ∷ drop (from + 1) bytes)))) size
    ∙ ap (λ l. Some (token_by ended from (take (to - from) l))) (sym (drop_more bytes from 0 inside))))
