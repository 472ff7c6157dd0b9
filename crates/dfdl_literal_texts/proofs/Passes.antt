-- Marks that are moved behind the texts of a piece.
use Rattle.std.proofs.Common.{◌≡◌, ℕ, ◌+◌, ◌-◌, ◌<◌, List, length, set, get_or, take, drop, Bool, true, false, ◌||◌, sym, ap, ◌∙◌, arith}
use mathlib.Core.Path.{fun_ext}
use Rattle.std.proofs.lemmas.List.{take_rest}
use Rattle.dfdl_forms.specs.declared.encoding.Encoding.{Encoding}
use Rattle.dfdl_forms.specs.declared.literals.Piece.{Piece}
use Rattle.dfdl_literal_texts.specs.Places.{piece_front, rest_at, some_marked, split, taken_at}
use Rattle.dfdl_literal_texts.proofs.Marks.{split_behind, split_off}

-- a mark is taken off and moved
pub pass_marked : (encoding : Encoding) (fold : Bool) (piece : Piece) (is_rest : List ℕ → Bool) (bytes : List ℕ) (places new : List Bool) (at : ℕ)
    → at < length places → get_or places at false ≡ true
    → ((passes : ℕ → Bool) → some_marked new passes
    ≡ (some_marked (set places at false) passes || piece_front encoding fold piece (take (length bytes - at) (drop at bytes)) (λ n. passes (at + n))))
    → some_marked new (split at (taken_at encoding fold piece is_rest bytes) (rest_at is_rest bytes))
    ≡ some_marked places (split (at + 1) (taken_at encoding fold piece is_rest bytes) (rest_at is_rest bytes))
unfolding taken_at
pass_marked encoding fold piece is_rest bytes places new at within marked moved =
    let first = taken_at encoding fold piece is_rest bytes in
    let second = rest_at is_rest bytes in
    moved (split at first second)
    ∙ ap (λ l. some_marked (set places at false) (split at first second) || piece_front encoding fold piece l (λ n. split at first second (at + n)))
    (take_rest bytes at)
    ∙ ap (λ (f : ℕ → Bool). some_marked (set places at false) (split at first second) || piece_front encoding fold piece (drop at bytes) f)
    (fun_ext (λ n. split_behind at first second (at + n) (omega arith)))
    ∙ sym (split_off places at first second within marked)
