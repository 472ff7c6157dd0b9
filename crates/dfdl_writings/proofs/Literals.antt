-- The pieces of a literal, one after another.
use Rattle.std.proofs.Common.{◌≡◌, ℕ, ◌+◌, ◌<◌, List, [], ◌∷◌, ◌++◌, length, drop, get_or, Option, Some, None, refl, sym, ap, ◌∙◌, append_assoc, arith}
use Rattle.std.proofs.lemmas.List.{append-nil, drop_all, get_or_default}
use Rattle.dfdl_lemmas.proofs.Lists.{left_at}
use Rattle.dfdl_chars.specs.Encodings.{joined}
use Rattle.dfdl_forms.specs.declared.encoding.Encoding.{Encoding}
use Rattle.dfdl_forms.specs.declared.literals.Piece.{Piece}
use Rattle.dfdl_writings.specs.Literals.{literal_bytes, literal_count, piece_bytes, piece_characters}

joined_more : (old bytes : List ℕ) (rest : Option (List ℕ)) → joined (Some old) (joined (Some bytes) rest) ≡ joined (Some (old ++ bytes)) rest
joined_more old bytes None = refl
joined_more old bytes (Some xs) = ap Some (sym (append_assoc old bytes xs))

bytes_of : (encoding : Encoding) (new_line : List ℕ) (piece : Piece) (pieces : List Piece)
    → literal_bytes encoding new_line (piece ∷ pieces) ≡ joined (piece_bytes encoding new_line piece) (literal_bytes encoding new_line pieces)
unfolding literal_bytes
bytes_of encoding new_line piece pieces = refl

no_bytes : (encoding : Encoding) (new_line : List ℕ) → literal_bytes encoding new_line [] ≡ Some []
unfolding literal_bytes
no_bytes encoding new_line = refl

count_of : (new_line : List ℕ) (piece : Piece) (pieces : List Piece)
    → literal_count new_line (piece ∷ pieces) ≡ length (piece_characters new_line piece) + literal_count new_line pieces
unfolding literal_count
count_of new_line piece pieces = refl

no_count : (new_line : List ℕ) → literal_count new_line [] ≡ 0
unfolding literal_count
no_count new_line = refl

opened : (pieces : List Piece) (at : ℕ) (d : Piece) → at < length pieces → drop at pieces ≡ get_or pieces at d ∷ drop (at + 1) pieces
opened pieces at d within = left_at pieces at (get_or pieces at d) within (get_or_default pieces at d (get_or pieces at d) within)

-- the encoding has the piece at a place
pub further : (encoding : Encoding) (new_line : List ℕ) (pieces : List Piece) (at : ℕ) (d : Piece) (old bytes new : List ℕ) (all : Option (List ℕ))
    → at < length pieces → Some bytes ≡ piece_bytes encoding new_line (get_or pieces at d) → new ≡ old ++ bytes
    → joined (Some old) (literal_bytes encoding new_line (drop at pieces)) ≡ all
    → joined (Some new) (literal_bytes encoding new_line (drop (at + 1) pieces)) ≡ all
further encoding new_line pieces at d old bytes new all within is put so_far =
    let rest : Option (List ℕ) = literal_bytes encoding new_line (drop (at + 1) pieces) in
    let left = ap (literal_bytes encoding new_line) (opened pieces at d within) ∙ bytes_of encoding new_line (get_or pieces at d) (drop (at + 1) pieces)
    ∙ ap (λ xs. joined xs rest) (sym is) in
    ap (λ xs. joined (Some xs) rest) put ∙ (sym (joined_more old bytes rest) ∙ (ap (joined (Some old)) (sym left) ∙ so_far))

-- it lacks it
pub lacks : (encoding : Encoding) (new_line : List ℕ) (pieces : List Piece) (at : ℕ) (d : Piece) (old : List ℕ) (all : Option (List ℕ))
    → at < length pieces → None ≡ piece_bytes encoding new_line (get_or pieces at d)
    → joined (Some old) (literal_bytes encoding new_line (drop at pieces)) ≡ all → None ≡ all
lacks encoding new_line pieces at d old all within is so_far =
    let rest : Option (List ℕ) = literal_bytes encoding new_line (drop (at + 1) pieces) in
    let left = ap (literal_bytes encoding new_line) (opened pieces at d within) ∙ bytes_of encoding new_line (get_or pieces at d) (drop (at + 1) pieces)
    ∙ ap (λ xs. joined xs rest) (sym is) in
    sym (ap (joined (Some old)) left) ∙ so_far

-- no piece is left
pub ended : (encoding : Encoding) (new_line : List ℕ) (pieces : List Piece) (at : ℕ) (old : List ℕ) (all : Option (List ℕ)) → length pieces ≡ at
    → joined (Some old) (literal_bytes encoding new_line (drop at pieces)) ≡ all → Some old ≡ all
ended encoding new_line pieces at old all done so_far =
    let none = ap (literal_bytes encoding new_line) (drop_all at pieces (omega arith)) ∙ no_bytes encoding new_line in
    ap Some (sym (append-nil old)) ∙ (ap (joined (Some old)) (sym none) ∙ so_far)

-- a piece more is counted
pub counted : (new_line : List ℕ) (pieces : List Piece) (at : ℕ) (d : Piece) (count more all : ℕ) → at < length pieces
    → more ≡ count + length (piece_characters new_line (get_or pieces at d))
    → count + literal_count new_line (drop at pieces) ≡ all → more + literal_count new_line (drop (at + 1) pieces) ≡ all
counted new_line pieces at d count more all within is so_far =
    let left = ap (literal_count new_line) (opened pieces at d within) ∙ count_of new_line (get_or pieces at d) (drop (at + 1) pieces) in
    omega (arith, left, is, so_far)

-- all are counted
pub all_counted : (new_line : List ℕ) (pieces : List Piece) (at count all : ℕ) → length pieces ≡ at
    → count + literal_count new_line (drop at pieces) ≡ all → count ≡ all
all_counted new_line pieces at count all done so_far =
    let none = ap (literal_count new_line) (drop_all at pieces (omega arith)) ∙ no_count new_line in
    omega (arith, none, so_far)
