-- What may follow the bytes that were seen: that a text is whole, and that one is longer.
use Rattle.std.proofs.Common.{◌≡◌, ℕ, zero, suc, List, [], ◌∷◌, ◌++◌, length, Option, Some, None, Bool, true, false, ◌&&◌, ◌||◌, ◌==◌, not, refl, sym, ap, subst, ◌∙◌, arith}
use Rattle.std.proofs.lemmas.Bool.{and_parts}
use Rattle.std.proofs.lemmas.Bool.Decides.{nat_tests}
use Rattle.std.specs.List.{list_all}
use Rattle.dfdl_forms.specs.declared.encoding.Encoding.{Encoding}
use Rattle.dfdl_forms.specs.declared.encoding.Encoding.TheVariants.{Utf8, UsAscii, Iso88591, Utf16Be, Utf16Le}
use Rattle.dfdl_forms.specs.declared.literals.Piece.{Piece}
use Rattle.dfdl_forms.specs.declared.literals.Piece.TheVariants.{Char, Byte, NewLine, Space, Spaces, MaybeSpaces, Nothing}
use Rattle.dfdl_chars.specs.Encodings.{encoded_of, encoded_text}
use Rattle.dfdl_literal_texts.specs.Texts.{after_any, after_bytes, after_encoded, after_most, after_one, after_piece, cases_of, is_text, line_breaks, one_each, spaces, white_space}
use Rattle.dfdl_delims.specs.declared.left.Left.{Left}
use Rattle.dfdl_delims.specs.declared.left.Left.TheVariants.{Done, One, Two, Three}
use Rattle.dfdl_delims.specs.declared.candidate.Candidate.{Candidate}
use Rattle.dfdl_delims.specs.Candidates.{cases, completes, has_more, has_one, has_text, have_texts, is_dead, is_done, is_nothing, is_tail, is_tail_of, is_there, is_whole, left_bytes, line_ends, passes, pieces_from}
use Rattle.dfdl_delims.proofs.Encoded.{HasBytes, any_first, char_bytes, has_bytes, no_one, no_pair, one_text, pair_bytes}
use Rattle.dfdl_delims.proofs.Completing.{same_cases, some_bytes}

or_first : (a b : Bool) → a ≡ true → (a || b) ≡ true
or_first true b is = refl
or_first false b is = let no_it : ⊥ = cc in absurd no_it

or_second : (a b : Bool) → b ≡ true → (a || b) ≡ true
or_second true b is = refl
or_second false b is = is

-- no byte more

none_of_cases : (encoding : Encoding) (fold : Bool) (c : ℕ) (go : List ℕ → Bool) → after_one encoding (cases_of fold c) go [] ≡ false
none_of_cases encoding fold c go = ap (λ l. after_one encoding l go []) (same_cases fold c) ∙ no_one encoding (cases fold c) go

none_of_breaks : (encoding : Encoding) (go : List ℕ → Bool) → after_one encoding line_breaks go [] ≡ false
unfolding line_breaks line_ends after_one
none_of_breaks encoding go =
    ap (λ b. b || after_one encoding (one_each line_ends) go []) (no_pair encoding go) ∙ no_one encoding line_ends go

text_whole : (encoding : Encoding) (fold : Bool) (pieces : List Piece) → is_text encoding fold pieces [] ≡ list_all passes pieces
unfolding is_text after_piece after_most spaces
text_whole encoding fold [] = refl
text_whole encoding fold (Char c ∷ pieces) = none_of_cases encoding fold c (is_text encoding fold pieces)
text_whole encoding fold (Byte b ∷ pieces) = refl
text_whole encoding fold (NewLine ∷ pieces) = none_of_breaks encoding (is_text encoding fold pieces)
text_whole encoding fold (Space ∷ pieces) = no_one encoding white_space (is_text encoding fold pieces)
text_whole encoding fold (Spaces ∷ pieces) = no_one encoding white_space (after_any encoding (one_each white_space) (is_text encoding fold pieces))
text_whole encoding fold (MaybeSpaces ∷ pieces) = text_whole encoding fold pieces
text_whole encoding fold (Nothing ∷ pieces) = text_whole encoding fold pieces

tail_whole : (encoding : Encoding) (fold loops : Bool) (pieces : List Piece) → is_tail encoding fold loops pieces [] ≡ list_all passes pieces
unfolding after_most
tail_whole encoding fold false pieces = text_whole encoding fold pieces
tail_whole encoding fold true pieces = text_whole encoding fold pieces

left_whole : (left : Left) (go : List ℕ → Bool) (all : Bool) → go [] ≡ all → after_bytes (left_bytes left) go [] ≡ (is_done left && all)
left_whole Done go all is = is
left_whole (One a) go all is = refl
left_whole (Two a b) go all is = refl
left_whole (Three a b c) go all is = refl

-- no byte more completes exactly a whole text
pub whole : (pieces : List Piece) (candidate : Candidate) → completes pieces candidate [] ≡ is_whole pieces candidate
whole pieces candidate =
    left_whole candidate.left (is_tail_of pieces candidate) (list_all passes (pieces_from pieces candidate.at candidate.end))
    (tail_whole candidate.encoding candidate.fold candidate.loops (pieces_from pieces candidate.at candidate.end))

-- no text is longer

no_text : (encoding : Encoding) (fold : Bool) (pieces : List Piece) (next : ℕ) (more : List ℕ) → list_all is_nothing pieces ≡ true
    → is_text encoding fold pieces (next ∷ more) ≡ false
unfolding is_text after_piece
no_text encoding fold [] next more all = some_bytes (length (next ∷ more)) (omega arith)
no_text encoding fold (Nothing ∷ pieces) next more all = no_text encoding fold pieces next more all
no_text encoding fold (Char c ∷ pieces) next more all = let no_it : ⊥ = cc in absurd no_it
no_text encoding fold (Byte b ∷ pieces) next more all = let no_it : ⊥ = cc in absurd no_it
no_text encoding fold (NewLine ∷ pieces) next more all = let no_it : ⊥ = cc in absurd no_it
no_text encoding fold (Space ∷ pieces) next more all = let no_it : ⊥ = cc in absurd no_it
no_text encoding fold (Spaces ∷ pieces) next more all = let no_it : ⊥ = cc in absurd no_it
no_text encoding fold (MaybeSpaces ∷ pieces) next more all = let no_it : ⊥ = cc in absurd no_it

none_left : (left : Left) (loops all : Bool) → (not (is_done left) || (loops || not all)) ≡ false → (left ≡ Done) × ((loops ≡ false) × (all ≡ true))
none_left Done false true is = (refl, (refl, refl))
none_left Done false false is = let no_it : ⊥ = cc in absurd no_it
none_left Done true all is = let no_it : ⊥ = cc in absurd no_it
none_left (One a) loops all is = let no_it : ⊥ = cc in absurd no_it
none_left (Two a b) loops all is = let no_it : ⊥ = cc in absurd no_it
none_left (Three a b c) loops all is = let no_it : ⊥ = cc in absurd no_it

pub no_more : (pieces : List Piece) (candidate : Candidate) (next : ℕ) (more : List ℕ) → has_more pieces candidate ≡ false
    → completes pieces candidate (next ∷ more) ≡ false
no_more pieces candidate next more none =
    let all : Bool = list_all is_nothing (pieces_from pieces candidate.at candidate.end) in
    let are = none_left candidate.left candidate.loops all none in
    ap (λ left. after_bytes (left_bytes left) (is_tail_of pieces candidate) (next ∷ more)) are.0
    ∙ ap (λ loops. is_tail candidate.encoding candidate.fold loops (pieces_from pieces candidate.at candidate.end) (next ∷ more)) are.1.0
    ∙ no_text candidate.encoding candidate.fold (pieces_from pieces candidate.at candidate.end) next more are.1.1

-- some text is longer

-- some bytes pass
pub record Has (go : List ℕ → Bool) : Type 0 where
  pub text : List ℕ
  pub passes_it : go text ≡ true

-- some bytes pass, one or more
pub record Goes (go : List ℕ → Bool) : Type 0 where
  pub next : ℕ
  pub more : List ℕ
  pub passes_it : go (next ∷ more) ≡ true

has_some : (go : List ℕ → Bool) → Goes go → Has go
has_some go goes = record { text = goes.next ∷ goes.more; passes_it = goes.passes_it }

equal : (n : ℕ) → (n == n) ≡ true
equal n = grind (arith, nat_tests)

and_second : (a b : Bool) → a ≡ true → (a && b) ≡ b
and_second true b is = refl
and_second false b is = let no_it : ⊥ = cc in absurd no_it

onwards : (front more : List ℕ) (go : List ℕ → Bool) → after_bytes front go (front ++ more) ≡ go more
onwards [] more go = refl
onwards (a ∷ front) more go = and_second (a == a) (after_bytes front go (front ++ more)) (equal a) ∙ onwards front more go

text_goes : (o : Option (List ℕ)) (text : List ℕ) (go : List ℕ → Bool) → o ≡ Some text → HasBytes o → Has go → Goes (after_encoded o go)
text_goes o [] go is has rest = let least = (has [] is).0 in absurd (omega (arith, least))
text_goes o (a ∷ text) go is has rest = record {
  next = a;
  more = text ++ rest.text;
  passes_it = ap (λ p. after_encoded p go (a ∷ text ++ rest.text)) is ∙ onwards (a ∷ text) rest.text go ∙ rest.passes_it;
}

one_goes : (encoding : Encoding) (characters : List ℕ) (go : List ℕ → Bool) → has_one encoding characters ≡ true → Has go
    → Goes (after_one encoding (one_each characters) go)
unfolding after_one
one_goes encoding [] go has rest = let no_it : ⊥ = cc in absurd no_it
one_goes encoding (c ∷ characters) go has rest = by (encoded_of encoding c) refl has (λ others. one_goes encoding characters go others rest)
  where
    by : (o : Option (List ℕ)) → encoded_of encoding c ≡ o → (is_there o || has_one encoding characters) ≡ true
        → (has_one encoding characters ≡ true → Goes (after_one encoding (one_each characters) go))
        → Goes (after_one encoding (one_each (c ∷ characters)) go)
    by None is some again =
        let other = again some in
        record {
          next = other.next;
          more = other.more;
          passes_it = or_second (after_encoded (encoded_text encoding (c ∷ [])) go (other.next ∷ other.more)) _ other.passes_it;
        }
    by (Some text) is some again =
        let this = text_goes (encoded_of encoding c) text go is (char_bytes encoding c) rest in
        record {
          next = this.next;
          more = this.more;
          passes_it = or_first (after_encoded (encoded_text encoding (c ∷ [])) go (this.next ∷ this.more)) _
              (one_text (encoded_of encoding c) go (this.next ∷ this.more) ∙ this.passes_it);
        }

white_there : (encoding : Encoding) → has_one encoding white_space ≡ true
unfolding white_space
white_there Utf8 = refl
white_there UsAscii = refl
white_there Iso88591 = refl
white_there Utf16Be = refl
white_there Utf16Le = refl

most_keeps : (encoding : Encoding) (texts : List (List ℕ)) (go : List ℕ → Bool) (n : ℕ) (bytes : List ℕ) → go bytes ≡ true
    → after_most encoding texts n go bytes ≡ true
unfolding after_most
most_keeps encoding texts go zero bytes is = is
most_keeps encoding texts go (suc n) bytes is = or_first (go bytes) _ is

any_has : (encoding : Encoding) (texts : List (List ℕ)) (go : List ℕ → Bool) → Has go → Has (after_any encoding texts go)
any_has encoding texts go has = record { text = has.text; passes_it = most_keeps encoding texts go (length has.text) has.text has.passes_it }

any_goes : (encoding : Encoding) (go : List ℕ → Bool) → Has go → Goes (after_any encoding (one_each white_space) go)
any_goes encoding go has =
    let one = one_goes encoding white_space (after_any encoding (one_each white_space) go) (white_there encoding) (any_has encoding (one_each white_space) go has) in
    record {
      next = one.next;
      more = one.more;
      passes_it = any_first encoding white_space go one.next one.more ∙ or_second (go (one.next ∷ one.more)) _ one.passes_it;
    }

pair_of : Encoding → List ℕ
pair_of Utf8 = 0xD ∷ 0xA ∷ []
pair_of UsAscii = 0xD ∷ 0xA ∷ []
pair_of Iso88591 = 0xD ∷ 0xA ∷ []
pair_of Utf16Be = 0 ∷ 0xD ∷ 0 ∷ 0xA ∷ []
pair_of Utf16Le = 0xD ∷ 0 ∷ 0xA ∷ 0 ∷ []

pair_there : (encoding : Encoding) → encoded_text encoding (0xD ∷ 0xA ∷ []) ≡ Some (pair_of encoding)
unfolding lib.Utf8.encode pair_of
pair_there Utf8 = refl
pair_there UsAscii = refl
pair_there Iso88591 = refl
pair_there Utf16Be = refl
pair_there Utf16Le = refl

breaks_go : (encoding : Encoding) (go : List ℕ → Bool) → Has go → Goes (after_one encoding line_breaks go)
unfolding line_breaks after_one
breaks_go encoding go has =
    let pair = text_goes (encoded_text encoding (0xD ∷ 0xA ∷ [])) (pair_of encoding) go (pair_there encoding) (pair_bytes encoding) has in
    record { next = pair.next; more = pair.more; passes_it = or_first _ _ pair.passes_it }

piece_goes : (encoding : Encoding) (fold : Bool) (piece : Piece) (go : List ℕ → Bool) → is_nothing piece ≡ false
    → has_text encoding fold piece ≡ true → Has go → Goes (after_piece encoding fold piece go)
unfolding after_piece spaces
piece_goes encoding fold (Char c) go some there has =
    subst (λ l. Goes (after_one encoding l go)) (sym (same_cases fold c)) (one_goes encoding (cases fold c) go there has)
piece_goes encoding fold (Byte b) go some there has =
    text_goes (Some (b ∷ [])) (b ∷ []) go refl (has_bytes (b ∷ []) (omega arith) (omega arith)) has
piece_goes encoding fold NewLine go some there has = breaks_go encoding go has
piece_goes encoding fold Space go some there has = one_goes encoding white_space go (white_there encoding) has
piece_goes encoding fold Spaces go some there has =
    one_goes encoding white_space (after_any encoding (one_each white_space) go) (white_there encoding) (any_has encoding (one_each white_space) go has)
piece_goes encoding fold MaybeSpaces go some there has = any_goes encoding go has
piece_goes encoding fold Nothing go some there has = let no_it : ⊥ = cc in absurd no_it

piece_has : (encoding : Encoding) (fold : Bool) (piece : Piece) (go : List ℕ → Bool) (t : Bool) → is_nothing piece ≡ t
    → has_text encoding fold piece ≡ true → Has go → Has (after_piece encoding fold piece go)
unfolding after_piece
piece_has encoding fold piece go false is there has = has_some _ (piece_goes encoding fold piece go is there has)
piece_has encoding fold Nothing go true is there has = has
piece_has encoding fold (Char c) go true is there has = let no_it : ⊥ = cc in absurd no_it
piece_has encoding fold (Byte b) go true is there has = let no_it : ⊥ = cc in absurd no_it
piece_has encoding fold NewLine go true is there has = let no_it : ⊥ = cc in absurd no_it
piece_has encoding fold Space go true is there has = let no_it : ⊥ = cc in absurd no_it
piece_has encoding fold Spaces go true is there has = let no_it : ⊥ = cc in absurd no_it
piece_has encoding fold MaybeSpaces go true is there has = let no_it : ⊥ = cc in absurd no_it

pub pieces_have : (encoding : Encoding) (fold : Bool) (pieces : List Piece) → have_texts encoding fold pieces ≡ true → Has (is_text encoding fold pieces)
unfolding have_texts is_text
pieces_have encoding fold [] all = record { text = []; passes_it = refl }
pieces_have encoding fold (piece ∷ pieces) all =
    let parts = and_parts (has_text encoding fold piece) (list_all (has_text encoding fold) pieces) all in
    piece_has encoding fold piece (is_text encoding fold pieces) (is_nothing piece) refl parts.0 (pieces_have encoding fold pieces parts.1)

nothing_same : (encoding : Encoding) (fold : Bool) (piece : Piece) (go : List ℕ → Bool) → is_nothing piece ≡ true → Goes go → Goes (after_piece encoding fold piece go)
unfolding after_piece
nothing_same encoding fold Nothing go is goes = goes
nothing_same encoding fold (Char c) go is goes = let no_it : ⊥ = cc in absurd no_it
nothing_same encoding fold (Byte b) go is goes = let no_it : ⊥ = cc in absurd no_it
nothing_same encoding fold NewLine go is goes = let no_it : ⊥ = cc in absurd no_it
nothing_same encoding fold Space go is goes = let no_it : ⊥ = cc in absurd no_it
nothing_same encoding fold Spaces go is goes = let no_it : ⊥ = cc in absurd no_it
nothing_same encoding fold MaybeSpaces go is goes = let no_it : ⊥ = cc in absurd no_it

pieces_go : (encoding : Encoding) (fold : Bool) (pieces : List Piece) → have_texts encoding fold pieces ≡ true → list_all is_nothing pieces ≡ false
    → Goes (is_text encoding fold pieces)
unfolding have_texts is_text
pieces_go encoding fold [] all some = let no_it : ⊥ = cc in absurd no_it
pieces_go encoding fold (piece ∷ pieces) all some =
    let parts = and_parts (has_text encoding fold piece) (list_all (has_text encoding fold) pieces) all in
    by (is_nothing piece) refl parts.0 parts.1 some (λ others. pieces_go encoding fold pieces parts.1 others)
  where
    by : (t : Bool) → is_nothing piece ≡ t → has_text encoding fold piece ≡ true → list_all (has_text encoding fold) pieces ≡ true
        → (t && list_all is_nothing pieces) ≡ false → (list_all is_nothing pieces ≡ false → Goes (is_text encoding fold pieces))
        → Goes (after_piece encoding fold piece (is_text encoding fold pieces))
    by false is there rest some again = piece_goes encoding fold piece (is_text encoding fold pieces) is there (pieces_have encoding fold pieces rest)
    by true is there rest some again = nothing_same encoding fold piece (is_text encoding fold pieces) is (again some)

tail_has : (encoding : Encoding) (fold loops : Bool) (pieces : List Piece) → have_texts encoding fold pieces ≡ true → Has (is_tail encoding fold loops pieces)
tail_has encoding fold false pieces all = pieces_have encoding fold pieces all
tail_has encoding fold true pieces all = any_has encoding spaces (is_text encoding fold pieces) (pieces_have encoding fold pieces all)

tail_goes : (encoding : Encoding) (fold loops : Bool) (pieces : List Piece) → have_texts encoding fold pieces ≡ true
    → (loops || not (list_all is_nothing pieces)) ≡ true → Goes (is_tail encoding fold loops pieces)
unfolding spaces
tail_goes encoding fold true pieces all some = any_goes encoding (is_text encoding fold pieces) (pieces_have encoding fold pieces all)
tail_goes encoding fold false pieces all some = pieces_go encoding fold pieces all (none (list_all is_nothing pieces) some)
  where
    none : (t : Bool) → not t ≡ true → t ≡ false
    none true is = let no_it : ⊥ = cc in absurd no_it
    none false is = refl

left_goes : (left : Left) (go : List ℕ → Bool) (t : Bool) → (not (is_done left) || t) ≡ true → Has go → (t ≡ true → Goes go)
    → Goes (after_bytes (left_bytes left) go)
left_goes Done go t some has goes = goes some
left_goes (One a) go t some has goes = text_goes (Some (a ∷ [])) (a ∷ []) go refl (has_bytes (a ∷ []) (omega arith) (omega arith)) has
left_goes (Two a b) go t some has goes = text_goes (Some (a ∷ b ∷ [])) (a ∷ b ∷ []) go refl (has_bytes (a ∷ b ∷ []) (omega arith) (omega arith)) has
left_goes (Three a b c) go t some has goes =
    text_goes (Some (a ∷ b ∷ c ∷ [])) (a ∷ b ∷ c ∷ []) go refl (has_bytes (a ∷ b ∷ c ∷ []) (omega arith) (omega arith)) has

alive : (t : Bool) → not t ≡ false → t ≡ true
alive true is = refl
alive false is = let no_it : ⊥ = cc in absurd no_it

pub goes_on : (pieces : List Piece) (candidate : Candidate) → is_dead pieces candidate ≡ false → has_more pieces candidate ≡ true
    → Goes (completes pieces candidate)
goes_on pieces candidate live more =
    let all = alive (have_texts candidate.encoding candidate.fold (pieces_from pieces candidate.at candidate.end)) live in
    left_goes candidate.left (is_tail_of pieces candidate) (candidate.loops || not (list_all is_nothing (pieces_from pieces candidate.at candidate.end))) more
    (tail_has candidate.encoding candidate.fold candidate.loops (pieces_from pieces candidate.at candidate.end) all)
    (λ some. tail_goes candidate.encoding candidate.fold candidate.loops (pieces_from pieces candidate.at candidate.end) all some)
