-- None of the candidates that others come to is dead, if none of those is.
use Rattle.std.proofs.Common.{◌≡◌, ℕ, ◌+◌, List, [], ◌∷◌, ◌++◌, Option, Some, None, Bool, true, false, ◌||◌, not, if◌then◌else◌, refl, ap, ◌∙◌}
use Rattle.std.proofs.lemmas.Bool.{and_parts}
use Rattle.std.proofs.lemmas.List.Folds.{list_any-append}
use Rattle.std.specs.List.{list_all, list_any}
use Rattle.dfdl_forms.specs.declared.literals.Piece.{Piece}
use Rattle.dfdl_forms.specs.declared.literals.Piece.TheVariants.{Char, Byte, NewLine, Space, Spaces, MaybeSpaces, Nothing}
use Rattle.dfdl_chars.specs.Encodings.{encoded_of, encoded_text}
use Rattle.dfdl_literal_texts.specs.Texts.{white_space}
use Rattle.dfdl_delims.specs.declared.left.Left.{Left}
use Rattle.dfdl_delims.specs.declared.left.Left.TheVariants.{Done, One, Two, Three}
use Rattle.dfdl_delims.specs.declared.candidate.Candidate.{Candidate}
use Rattle.dfdl_delims.specs.Candidates.{begun, begun_each, begun_from, begun_line_break, begun_loop, begun_piece, cases, further, has_text, have_texts, is_dead, left_behind, left_then, line_ends, passes, pieces_from, some_dead, step, stepped}
use Rattle.dfdl_delims.proofs.Completing.{next_pieces}

neither : (a b : Bool) → a ≡ false → b ≡ false → (a || b) ≡ false
neither true b first second = first
neither false b first second = second

pub first_none : (a b : Bool) → (a || b) ≡ false → (a ≡ false) × (b ≡ false)
first_none true b is = let no_it : ⊥ = cc in absurd no_it
first_none false b is = (refl, is)

no_not : (t : Bool) → t ≡ true → not t ≡ false
no_not true is = refl
no_not false is = let no_it : ⊥ = cc in absurd no_it

none_not : (t : Bool) → not t ≡ false → t ≡ true
none_not true is = refl
none_not false is = let no_it : ⊥ = cc in absurd no_it

module _ (pieces : List Piece) (byte : ℕ) where
  both_live : (xs ys : List Candidate) → list_any (is_dead pieces) xs ≡ false → list_any (is_dead pieces) ys ≡ false
      → list_any (is_dead pieces) (xs ++ ys) ≡ false
  both_live xs ys first second = list_any-append (is_dead pieces) xs ys ∙ neither _ _ first second

  begun_live : (left : Option Left) (next : Candidate) → is_dead pieces next ≡ false → list_any (is_dead pieces) (begun left next) ≡ false
  unfolding begun
  begun_live None next live = refl
  begun_live (Some left) next live = neither (is_dead pieces next) false live refl

  each_live : (characters : List ℕ) (next : Candidate) → is_dead pieces next ≡ false → list_any (is_dead pieces) (begun_each characters byte next) ≡ false
  unfolding begun_each
  each_live [] next live = refl
  each_live (c ∷ characters) next live =
      both_live (begun (left_behind (encoded_of next.encoding c) byte) next) (begun_each characters byte next)
      (begun_live (left_behind (encoded_of next.encoding c) byte) next live) (each_live characters next live)

  piece_live : (piece : Piece) (next : Candidate) → is_dead pieces next ≡ false → list_any (is_dead pieces) (begun_piece piece byte next) ≡ false
  unfolding begun_piece begun_line_break
  piece_live (Char c) next live = each_live (cases next.fold c) next live
  piece_live (Byte b) next live = begun_live (left_behind (Some (b ∷ [])) byte) next live
  piece_live NewLine next live =
      both_live (begun (left_behind (encoded_text next.encoding (0xD ∷ 0xA ∷ [])) byte) next) (begun_each line_ends byte next)
      (begun_live (left_behind (encoded_text next.encoding (0xD ∷ 0xA ∷ [])) byte) next live) (each_live line_ends next live)
  piece_live Space next live = each_live white_space next live
  piece_live Spaces next live = each_live white_space (record next { loops = true }) live
  piece_live MaybeSpaces next live = each_live white_space (record next { loops = true }) live
  piece_live Nothing next live = refl

  if_live : (t : Bool) (all : List Candidate) → list_any (is_dead pieces) all ≡ false → list_any (is_dead pieces) (if t then all else []) ≡ false
  if_live true all live = live
  if_live false all live = refl

  from_live : (before : List Piece) (candidate : Candidate) → pieces_from pieces candidate.at candidate.end ≡ before
      → have_texts candidate.encoding candidate.fold before ≡ true → list_any (is_dead pieces) (begun_from before byte candidate) ≡ false
  unfolding begun_from have_texts
  from_live [] candidate is all = refl
  from_live (piece ∷ before) candidate is all =
      let parts = and_parts (has_text candidate.encoding candidate.fold piece) (list_all (has_text candidate.encoding candidate.fold) before) all in
      let next_is : pieces_from pieces (candidate.at + 1) candidate.end ≡ before = next_pieces pieces before piece candidate.at candidate.end is in
      both_live (begun_piece piece byte (further candidate)) (if passes piece then begun_from before byte (further candidate) else [])
      (piece_live piece (further candidate)
      (ap (λ l. not (have_texts candidate.encoding candidate.fold l)) next_is ∙ no_not _ parts.1))
      (if_live (passes piece) (begun_from before byte (further candidate)) (from_live before (further candidate) next_is parts.1))

  loop_live : (loops : Bool) (candidate : Candidate) → is_dead pieces candidate ≡ false → list_any (is_dead pieces) (begun_loop loops byte candidate) ≡ false
  unfolding begun_loop
  loop_live true candidate live = each_live white_space candidate live
  loop_live false candidate live = refl

  stepped_live : (left : Left) (candidate : Candidate) → is_dead pieces candidate ≡ false → list_any (is_dead pieces) (stepped pieces byte left candidate) ≡ false
  unfolding stepped
  stepped_live Done candidate live =
      both_live (begun_loop candidate.loops byte candidate) (begun_from (pieces_from pieces candidate.at candidate.end) byte (record candidate { loops = false }))
      (loop_live candidate.loops candidate live)
      (from_live (pieces_from pieces candidate.at candidate.end) (record candidate { loops = false }) refl (none_not _ live))
  stepped_live (One a) candidate live = begun_live (left_then (One a) byte) candidate live
  stepped_live (Two a b) candidate live = begun_live (left_then (Two a b) byte) candidate live
  stepped_live (Three a b c) candidate live = begun_live (left_then (Three a b c) byte) candidate live

  pub step_live : (candidates : List Candidate) → some_dead pieces candidates ≡ false → some_dead pieces (step pieces byte candidates) ≡ false
  unfolding step some_dead
  step_live [] live = refl
  step_live (candidate ∷ candidates) live =
      let parts = first_none (is_dead pieces candidate) (list_any (is_dead pieces) candidates) live in
      both_live (stepped pieces byte candidate.left candidate) (step pieces byte candidates)
      (stepped_live candidate.left candidate parts.0) (step_live candidates parts.1)

pub still_live : (pieces : List Piece) (byte : ℕ) (from new : List Candidate)
    → ((test : Candidate → Bool) → list_any test new ≡ (list_any test [] || list_any test (step pieces byte from)))
    → some_dead pieces from ≡ false → some_dead pieces new ≡ false
unfolding some_dead
still_live pieces byte from new adds live = adds (is_dead pieces) ∙ step_live pieces byte from live
