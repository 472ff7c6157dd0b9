-- What completes the texts of candidates, behind a byte and before it.
use Rattle.std.proofs.Common.{◌≡◌, ℕ, zero, suc, ◌+◌, ◌-◌, ◌<◌, List, [], ◌∷◌, ◌++◌, length, take, drop, Option, Some, None, Bool, true, false, ◌&&◌, ◌||◌, ◌==◌, if◌then◌else◌, refl, sym, ap, ◌∙◌, arith}
use Rattle.std.proofs.lemmas.Bool.Decides.{nat_tests}
use Rattle.std.proofs.lemmas.List.{drop-drop}
use Rattle.std.proofs.lemmas.List.Folds.{list_any-append}
use Rattle.std.specs.List.{list_any}
use Rattle.dfdl_forms.specs.declared.literals.Piece.{Piece}
use Rattle.dfdl_forms.specs.declared.literals.Piece.TheVariants.{Char, Byte, NewLine, Space, Spaces, MaybeSpaces, Nothing}
use Rattle.dfdl_chars.specs.Encodings.{encoded_of, encoded_text}
use Rattle.dfdl_literal_texts.specs.Texts.{after_any, after_bytes, after_encoded, after_one, after_piece, cases_of, is_text, line_breaks, one_each, spaces, white_space}
use Rattle.dfdl_delims.specs.declared.left.Left.{Left}
use Rattle.dfdl_delims.specs.declared.left.Left.TheVariants.{Done, One, Two, Three}
use Rattle.dfdl_delims.specs.declared.candidate.Candidate.{Candidate}
use Rattle.dfdl_delims.specs.Candidates.{after_left, begun, begun_each, begun_from, begun_line_break, begun_loop, begun_piece, cases, complete, completes_at, further, is_tail, is_tail_of, left_behind, left_bytes, left_then, line_ends, passes, pieces_from, step, stepped}
use Rattle.dfdl_delims.proofs.Encoded.{HasBytes, after_first, any_first, char_bytes, has_bytes, left_has, one_text, pair_bytes}

and_false : (a : Bool) → (a && false) ≡ false
and_false true = refl
and_false false = refl

or_false : (b : Bool) → (b || false) ≡ b
or_false true = refl
or_false false = refl

both : (t a b : Bool) → ((t && a) || (t && b)) ≡ (t && (a || b))
both true a b = refl
both false a b = refl

no_more : (x t : Bool) → x ≡ (x || (t && false))
no_more true t = refl
no_more false true = refl
no_more false false = refl

turned : (t r x : Bool) → (t && (r || x)) ≡ ((t && x) || (t && r))
turned false r x = refl
turned true true true = refl
turned true true false = refl
turned true false true = refl
turned true false false = refl

pub some_bytes : (n : ℕ) → 0 < n → (n == 0) ≡ false
some_bytes n some = grind (arith, nat_tests)

either_way : (q t r : Bool) (all : List Candidate) (test : Candidate → Bool) → list_any test all ≡ (t && r)
    → list_any test (if q then all else []) ≡ (t && (q && r))
either_way true t r all test is = is
either_way false t r all test is = sym (and_false t)

pub same_cases : (fold : Bool) (c : ℕ) → cases_of fold c ≡ one_each (cases fold c)
same_cases true c = refl
same_cases false c = refl

tail_of : (n : ℕ) (pieces rest : List Piece) (piece : Piece) → take n pieces ≡ piece ∷ rest → take (n - 1) (drop 1 pieces) ≡ rest
tail_of zero [] rest piece is = let no_it : ⊥ = cc in absurd no_it
tail_of zero (first ∷ pieces) rest piece is = let no_it : ⊥ = cc in absurd no_it
tail_of (suc n) [] rest piece is = let no_it : ⊥ = cc in absurd no_it
tail_of (suc n) (first ∷ pieces) rest piece is =
    ap (λ k. take k pieces) (one_less n) ∙ same_tail (take n pieces) rest first piece is
  where
    one_less : (n : ℕ) → suc n - 1 ≡ n
    one_less n = omega arith

    same_tail : (xs ys : List Piece) (x y : Piece) → x ∷ xs ≡ y ∷ ys → xs ≡ ys
    same_tail xs ys x y is = cc

pub next_pieces : (pieces rest : List Piece) (piece : Piece) (at end : ℕ) → pieces_from pieces at end ≡ piece ∷ rest → pieces_from pieces (at + 1) end ≡ rest
next_pieces pieces rest piece at end is =
    ap (λ l. take (end - (at + 1)) l) (sym (drop-drop 1 at pieces)) ∙ ap (λ n. take n (drop 1 (drop at pieces))) (counts at end)
    ∙ tail_of (end - at) (drop at pieces) rest piece is
  where
    counts : (at end : ℕ) → end - (at + 1) ≡ end - at - 1
    counts at end = omega arith

module _ (pieces : List Piece) (place byte : ℕ) (rest : List ℕ) where
  begun_completes : (left : Option Left) (next : Candidate)
      → list_any (completes_at pieces place rest) (begun left next) ≡ ((next.list == place) && after_left left (is_tail_of pieces next) rest)
  unfolding begun
  begun_completes None next = sym (and_false (next.list == place))
  begun_completes (Some left) next = or_false ((next.list == place) && after_left (Some left) (is_tail_of pieces next) rest)

  text_completes : (text : Option (List ℕ)) (next : Candidate) → HasBytes text
      → list_any (completes_at pieces place rest) (begun (left_behind text byte) next)
      ≡ ((next.list == place) && after_encoded text (is_tail_of pieces next) (byte ∷ rest))
  text_completes text next has =
      begun_completes (left_behind text byte) next
      ∙ ap (λ b. (next.list == place) && b) (sym (after_first text has (is_tail_of pieces next) byte rest))

  each_completes : (characters : List ℕ) (next : Candidate)
      → list_any (completes_at pieces place rest) (begun_each characters byte next)
      ≡ ((next.list == place) && after_one next.encoding (one_each characters) (is_tail_of pieces next) (byte ∷ rest))
  unfolding begun_each after_one
  each_completes [] next = sym (and_false (next.list == place))
  each_completes (c ∷ characters) next =
      list_any-append (completes_at pieces place rest) (begun (left_behind (encoded_of next.encoding c) byte) next) (begun_each characters byte next)
      ∙ ap (λ b. b || list_any (completes_at pieces place rest) (begun_each characters byte next))
      (text_completes (encoded_of next.encoding c) next (char_bytes next.encoding c)
      ∙ ap (λ b. (next.list == place) && b) (sym (one_text (encoded_of next.encoding c) (is_tail_of pieces next) (byte ∷ rest))))
      ∙ ap (λ b. ((next.list == place) && after_encoded (encoded_text next.encoding (c ∷ [])) (is_tail_of pieces next) (byte ∷ rest)) || b)
      (each_completes characters next)
      ∙ both (next.list == place) (after_encoded (encoded_text next.encoding (c ∷ [])) (is_tail_of pieces next) (byte ∷ rest))
      (after_one next.encoding (one_each characters) (is_tail_of pieces next) (byte ∷ rest))

  break_completes : (next : Candidate)
      → list_any (completes_at pieces place rest) (begun_line_break byte next)
      ≡ ((next.list == place) && after_one next.encoding line_breaks (is_tail_of pieces next) (byte ∷ rest))
  unfolding begun_line_break line_ends line_breaks after_one
  break_completes next =
      list_any-append (completes_at pieces place rest) (begun (left_behind (encoded_text next.encoding (0xD ∷ 0xA ∷ [])) byte) next) (begun_each line_ends byte next)
      ∙ ap (λ b. b || list_any (completes_at pieces place rest) (begun_each line_ends byte next))
      (text_completes (encoded_text next.encoding (0xD ∷ 0xA ∷ [])) next (pair_bytes next.encoding))
      ∙ ap (λ b. ((next.list == place) && after_encoded (encoded_text next.encoding (0xD ∷ 0xA ∷ [])) (is_tail_of pieces next) (byte ∷ rest)) || b)
      (each_completes line_ends next)
      ∙ both (next.list == place) (after_encoded (encoded_text next.encoding (0xD ∷ 0xA ∷ [])) (is_tail_of pieces next) (byte ∷ rest))
      (after_one next.encoding (one_each line_ends) (is_tail_of pieces next) (byte ∷ rest))

  -- the bytes behind a piece, where nothing loops
  abbrev behind : Candidate → List ℕ → Bool
  behind next = is_text next.encoding next.fold (pieces_from pieces next.at next.end)

  tail_plain : (next : Candidate) → next.loops ≡ false → is_tail_of pieces next ≡ behind next
  tail_plain next plain = ap (λ b. is_tail next.encoding next.fold b (pieces_from pieces next.at next.end)) plain

  piece_completes : (piece : Piece) (next : Candidate) → next.loops ≡ false
      → ((next.list == place) && after_piece next.encoding next.fold piece (behind next) (byte ∷ rest))
      ≡ (list_any (completes_at pieces place rest) (begun_piece piece byte next) || ((next.list == place) && (passes piece && behind next (byte ∷ rest))))
  unfolding begun_piece after_piece spaces
  piece_completes (Char c) next plain =
      ap (λ l. (next.list == place) && after_one next.encoding l (behind next) (byte ∷ rest)) (same_cases next.fold c)
      ∙ ap (λ go. (next.list == place) && after_one next.encoding (one_each (cases next.fold c)) go (byte ∷ rest)) (sym (tail_plain next plain))
      ∙ sym (each_completes (cases next.fold c) next) ∙ no_more _ (next.list == place)
  piece_completes (Byte b) next plain =
      ap (λ go. (next.list == place) && after_encoded (Some (b ∷ [])) go (byte ∷ rest)) (sym (tail_plain next plain))
      ∙ sym (text_completes (Some (b ∷ [])) next (has_bytes (b ∷ []) (omega arith) (omega arith))) ∙ no_more _ (next.list == place)
  piece_completes NewLine next plain =
      ap (λ go. (next.list == place) && after_one next.encoding line_breaks go (byte ∷ rest)) (sym (tail_plain next plain))
      ∙ sym (break_completes next) ∙ no_more _ (next.list == place)
  piece_completes Space next plain =
      ap (λ go. (next.list == place) && after_one next.encoding (one_each white_space) go (byte ∷ rest)) (sym (tail_plain next plain))
      ∙ sym (each_completes white_space next) ∙ no_more _ (next.list == place)
  piece_completes Spaces next plain = sym (each_completes white_space (record next { loops = true })) ∙ no_more _ (next.list == place)
  piece_completes MaybeSpaces next plain =
      ap (λ b. (next.list == place) && b) (any_first next.encoding white_space (behind next) byte rest)
      ∙ turned (next.list == place) (behind next (byte ∷ rest))
      (after_one next.encoding (one_each white_space) (after_any next.encoding (one_each white_space) (behind next)) (byte ∷ rest))
      ∙ ap (λ b. b || ((next.list == place) && behind next (byte ∷ rest))) (sym (each_completes white_space (record next { loops = true })))
  piece_completes Nothing next plain = refl

  from_completes : (before : List Piece) (candidate : Candidate) → candidate.loops ≡ false → pieces_from pieces candidate.at candidate.end ≡ before
      → list_any (completes_at pieces place rest) (begun_from before byte candidate)
      ≡ ((candidate.list == place) && is_text candidate.encoding candidate.fold before (byte ∷ rest))
  unfolding begun_from is_text
  from_completes [] candidate plain is =
      sym (ap (λ b. (candidate.list == place) && b) (some_bytes (length (byte ∷ rest)) (omega arith)) ∙ and_false (candidate.list == place))
  from_completes (piece ∷ before) candidate plain is =
      let t : Bool = candidate.list == place in
      let next_is : pieces_from pieces (candidate.at + 1) candidate.end ≡ before = next_pieces pieces before piece candidate.at candidate.end is in
      list_any-append (completes_at pieces place rest) (begun_piece piece byte (further candidate)) (if passes piece then begun_from before byte (further candidate) else [])
      ∙ ap (λ b. list_any (completes_at pieces place rest) (begun_piece piece byte (further candidate)) || b)
      (either_way (passes piece) t (is_text candidate.encoding candidate.fold before (byte ∷ rest)) (begun_from before byte (further candidate))
      (completes_at pieces place rest) (from_completes before (further candidate) plain next_is))
      ∙ ap (λ l. list_any (completes_at pieces place rest) (begun_piece piece byte (further candidate)) || (t && (passes piece && is_text candidate.encoding candidate.fold l (byte ∷ rest))))
      (sym next_is)
      ∙ sym (piece_completes piece (further candidate) plain)
      ∙ ap (λ l. t && after_piece candidate.encoding candidate.fold piece (is_text candidate.encoding candidate.fold l) (byte ∷ rest)) next_is

  loop_completes : (loops : Bool) (candidate : Candidate) → candidate.loops ≡ loops
      → list_any (completes_at pieces place rest)
      (begun_loop loops byte candidate ++ begun_from (pieces_from pieces candidate.at candidate.end) byte (record candidate { loops = false }))
      ≡ ((candidate.list == place) && is_tail candidate.encoding candidate.fold loops (pieces_from pieces candidate.at candidate.end) (byte ∷ rest))
  unfolding begun_loop spaces
  loop_completes false candidate is = from_completes (pieces_from pieces candidate.at candidate.end) (record candidate { loops = false }) refl refl
  loop_completes true candidate is =
      list_any-append (completes_at pieces place rest) (begun_each white_space byte candidate)
      (begun_from (pieces_from pieces candidate.at candidate.end) byte (record candidate { loops = false }))
      ∙ ap (λ b. b || list_any (completes_at pieces place rest) (begun_from (pieces_from pieces candidate.at candidate.end) byte (record candidate { loops = false })))
      (each_completes white_space candidate
      ∙ ap (λ l. (candidate.list == place) && after_one candidate.encoding (one_each white_space)
      (is_tail candidate.encoding candidate.fold l (pieces_from pieces candidate.at candidate.end)) (byte ∷ rest)) is)
      ∙ ap (λ b. ((candidate.list == place) && after_one candidate.encoding (one_each white_space)
      (after_any candidate.encoding (one_each white_space) (behind candidate)) (byte ∷ rest)) || b)
      (from_completes (pieces_from pieces candidate.at candidate.end) (record candidate { loops = false }) refl refl)
      ∙ sym (turned (candidate.list == place) (behind candidate (byte ∷ rest))
      (after_one candidate.encoding (one_each white_space) (after_any candidate.encoding (one_each white_space) (behind candidate)) (byte ∷ rest)))
      ∙ ap (λ b. (candidate.list == place) && b) (sym (any_first candidate.encoding white_space (behind candidate) byte rest))

  left_completes : (left : Left) (candidate : Candidate) → (left ≡ Done → ⊥)
      → list_any (completes_at pieces place rest) (begun (left_then left byte) candidate)
      ≡ ((candidate.list == place) && after_bytes (left_bytes left) (is_tail_of pieces candidate) (byte ∷ rest))
  left_completes left candidate some = text_completes (Some (left_bytes left)) candidate (left_has left some)

  stepped_completes : (left : Left) (candidate : Candidate)
      → list_any (completes_at pieces place rest) (stepped pieces byte left candidate)
      ≡ ((candidate.list == place) && after_bytes (left_bytes left) (is_tail_of pieces candidate) (byte ∷ rest))
  unfolding stepped
  stepped_completes Done candidate = loop_completes candidate.loops candidate refl
  stepped_completes (One a) candidate = left_completes (One a) candidate (λ is. (let no_it : ⊥ = cc in no_it))
  stepped_completes (Two a b) candidate = left_completes (Two a b) candidate (λ is. (let no_it : ⊥ = cc in no_it))
  stepped_completes (Three a b c) candidate = left_completes (Three a b c) candidate (λ is. (let no_it : ⊥ = cc in no_it))

  -- what completes the candidates behind a byte is what completes those before it, behind the byte
  pub step_completes : (candidates : List Candidate) → complete pieces place (step pieces byte candidates) rest ≡ complete pieces place candidates (byte ∷ rest)
  unfolding step complete
  step_completes [] = refl
  step_completes (candidate ∷ candidates) =
      list_any-append (completes_at pieces place rest) (stepped pieces byte candidate.left candidate) (step pieces byte candidates)
      ∙ ap (λ b. b || list_any (completes_at pieces place rest) (step pieces byte candidates)) (stepped_completes candidate.left candidate)
      ∙ ap (λ b. completes_at pieces place (byte ∷ rest) candidate || b) (step_completes candidates)

-- the same of candidates that pass each test as these do
pub advanced : (pieces : List Piece) (byte : ℕ) (from new : List Candidate)
    → ((test : Candidate → Bool) → list_any test new ≡ (list_any test [] || list_any test (step pieces byte from)))
    → (place : ℕ) (rest : List ℕ) → complete pieces place new rest ≡ complete pieces place from (byte ∷ rest)
unfolding complete
advanced pieces byte from new adds place rest = adds (completes_at pieces place rest) ∙ step_completes pieces place byte rest from
