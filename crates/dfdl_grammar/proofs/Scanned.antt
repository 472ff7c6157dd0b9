-- The characters of a content that markup ends are characters, where the bytes of the data are bytes.
use Rattle.std.proofs.Common.{◌≡◌, ℕ, zero, suc, ◌+◌, ◌-◌, ◌/◌, ◌<◌, ◌≤◌, refl, arith, Bool, true, false, cond, ◌&&◌, ◌||◌, List, [], ◌∷◌, ◌++◌, Option, Some, None, sym, subst}
use Rattle.std.specs.Char.{IsScalar}
use Rattle.dfdl_bits.specs.declared.window.Seen.{Seen}
use Rattle.dfdl_bits.specs.declared.window.Seen.TheVariants.{Byte}
use Rattle.dfdl_forms.specs.declared.text.Justify.{Justify}
use Rattle.dfdl_forms.specs.declared.text.Justify.TheVariants.{Left, Right, Center}
use Rattle.dfdl_forms.specs.declared.text.PadForm.{PadForm}
use Rattle.dfdl_terms.specs.declared.text.ScanForm.{ScanForm}
use Rattle.dfdl_looks.specs.Asks.{Ask, Answer, Reached, Told, TooFar, Missing, Reading, and_then, ask, go_on}
use Rattle.dfdl_looks.specs.Tallies.{Tally}
use Rattle.dfdl_looks.proofs.Sequels.{ask-then}
use Rattle.dfdl_texts.specs.Units.{Piece, Holds, Broken, NoMore, unit_at}
use Rattle.dfdl_texts.proofs.Lying.{Lies, unit-lies}
use Rattle.dfdl_delims.specs.Lists.{Opened}
use Rattle.dfdl_delims.specs.Deciding.{goes_on}
use Rattle.dfdl_escapes.specs.declared.character.Character.{Character}
use Rattle.dfdl_escapes.specs.declared.form.Form.{Form}
use Rattle.dfdl_escapes.specs.declared.form.Mode.{Mode}
use Rattle.dfdl_escapes.specs.declared.form.Mode.TheVariants.{Plain, Escaping, Before, Inside}
use Rattle.dfdl_escapes.specs.declared.form.Stand.{Stand}
use Rattle.dfdl_escapes.specs.Contents.{Content, after_step, content_from}
use Rattle.dfdl_escapes.specs.Steps.{Step, Takes, Passes, Closes, RunsOut, Fails, as_content, before_case, by_piece, case_in, escaped, escaping_case, in_block, in_block_escaped, inside_case, is_mark, is_plain, is_there, markup_at, pair_case, piece_at, replaced, step_at, unless_closed, unless_markup}
use Rattle.dfdl_escapes.specs.Trims.{bare_content, before_pads, before_rest, behind_pads, end_trimmed, front_trimmed, is_pad, keeps_one_zero, trimmed_content, unescaped}
use Rattle.dfdl_grammar.specs.Delimited.{plain, scanned, scanned_as, scanned_from}
use Rattle.std.specs.List.{All}
use Rattle.dfdl_grammar.proofs.Holding.{both_have}

-- a fact of what is told
abbrev pub Says : {F : Type 0} → (F → Type 0) → Reached F → Type 0
Says P (Told found) = P found
Says P TooFar = Unit {0}
Says P Missing = Unit {0}

-- what stands there is a character
abbrev OfPiece : Piece → Type 0
OfPiece (Holds c bytes) = IsScalar c
OfPiece (Broken bytes) = Unit {0}
OfPiece NoMore = Unit {0}

-- what a step takes is a character
abbrev OfStep : Step → Type 0
OfStep (Takes c escaped next) = IsScalar c
OfStep (Passes next) = Unit {0}
OfStep (Closes which) = Unit {0}
OfStep RunsOut = Unit {0}
OfStep (Fails cause) = Unit {0}

-- these are characters, escaped or not
abbrev pub AreScalars : List Character → Type 0
AreScalars [] = Unit {0}
AreScalars (x ∷ xs) = IsScalar x.c × AreScalars xs

-- the list with one more
one-more : (xs : List Character) (x : Character) → AreScalars xs → IsScalar x.c → AreScalars (xs ++ x ∷ [])
one-more [] x all is = (is, tt)
one-more (y ∷ ys) x all is = (all.0, one-more ys x all.1 is)

pub plain-scalars : (xs : List Character) → AreScalars xs → All IsScalar (plain xs)
plain-scalars [] all = λ i d less. absurd (omega arith)
plain-scalars (x ∷ xs) all = both_have IsScalar x.c (plain xs) all.0 (plain-scalars xs all.1)

-- what is left of them after trimming
module _ (trim : Option ℕ) where
  behind-at : (x : Character) (xs : List Character) (test : Bool) → AreScalars (behind_pads trim xs) → AreScalars (x ∷ xs)
      → AreScalars (cond test (behind_pads trim xs) (x ∷ xs))
  behind-at x xs true rest all = rest
  behind-at x xs false rest all = all

  behind : (xs : List Character) → AreScalars xs → AreScalars (behind_pads trim xs)
  behind [] all = all
  behind (x ∷ xs) all = behind-at x xs (is_pad trim x) (behind xs all.1) all

  last-at : (x : Character) (test : Bool) → IsScalar x.c → AreScalars (cond test [] (x ∷ []))
  last-at x true is = tt
  last-at x false is = (is, tt)

  rest-before : (x : Character) (rest : List Character) → IsScalar x.c → AreScalars rest → AreScalars (before_rest trim x rest)
  rest-before x [] is all = last-at x (is_pad trim x) is
  rest-before x (y ∷ ys) is all = (is, all)

  before : (xs : List Character) → AreScalars xs → AreScalars (before_pads trim xs)
  before [] all = all
  before (x ∷ xs) all = rest-before x (before_pads trim xs) all.0 (before xs all.1)

  front-kept : (justify : Justify) (xs : List Character) → AreScalars xs → AreScalars (front_trimmed justify trim xs)
  front-kept Left xs all = all
  front-kept Right xs all = behind xs all
  front-kept Center xs all = behind xs all

  end-kept : (justify : Justify) (xs : List Character) → AreScalars xs → AreScalars (end_trimmed justify trim xs)
  end-kept Left xs all = before xs all
  end-kept Right xs all = all
  end-kept Center xs all = before xs all

zero-scalar : IsScalar 48
zero-scalar = refl

one-zero : (form : PadForm) (xs : List Character) (test : Bool) → AreScalars (bare_content form xs)
    → AreScalars (cond test (unescaped 48 ∷ []) (bare_content form xs))
one-zero form xs true all = (zero-scalar, tt)
one-zero form xs false all = all

pub trimmed-content-scalars : (form : PadForm) (xs : List Character) → AreScalars xs → AreScalars (trimmed_content form xs)
trimmed-content-scalars form xs all =
    one-zero form xs (keeps_one_zero form xs)
    (end-kept form.trim form.justify (front_trimmed form.justify form.trim xs) (front-kept form.trim form.justify xs all))

module _ (look : ℕ → Seen) (small : (j b : ℕ) → look j ≡ Byte b → b < 256) where
  -- a fact of what a program comes to behind any cost
  abbrev Tells : {F : Type 0} → (F → Type 0) → Ask F → Type 0
  Tells P a = (t : Tally) → Says P (ask look a t).reached

  go-tells : {F G : Type 0} (P : F → Type 0) (Q : G → Type 0) (go : F → Ask G) → ((f : F) → P f → Tells Q (go f)) → (r : Reached F) (t : Tally)
      → Says P r → Says Q (go_on look go r t).reached
  go-tells P Q go then (Told f) t first = then f first t
  go-tells P Q go then TooFar t first = tt
  go-tells P Q go then Missing t first = tt

  then-tells : {F G : Type 0} (P : F → Type 0) (Q : G → Type 0) (a : Ask F) (go : F → Ask G) → Tells P a → ((f : F) → P f → Tells Q (go f))
      → Tells Q (and_then a go)
  then-tells {G} P Q a go first then t =
      subst (λ (r : Reading G). Says Q r.reached) (sym (ask-then look go a t))
      (go-tells P Q go then (ask look a t).reached (ask look a t).tally (first t))

  -- a fact that holds of any answer
  any-tells : {F : Type 0} (a : Ask F) → Tells (λ (f : F). Unit {0}) a
  any-tells {F} a t = any (ask look a t).reached
    where
      any : (r : Reached F) → Says (λ (f : F). Unit {0}) r
      any (Told f) = tt
      any TooFar = tt
      any Missing = tt

  either-tells : {F : Type 0} (P : F → Type 0) (test : Bool) (a b : Ask F) → Tells P a → Tells P b → Tells P (cond test a b)
  either-tells P true a b first second = first
  either-tells P false a b first second = second

  module _ (lists : List Opened) (form : Form) where
    lies-piece : (k : ℕ) (shown : (j b : ℕ) → k ≤ j → look j ≡ Byte b → (Unit {0} → b < 256) × (⊥ → j + 1 ≤ 0)) (r : Reached Piece)
        → Lies look (Unit {0}) ⊥ form.stop 0 k shown r → Says OfPiece r
    lies-piece k shown (Told (Holds c bytes)) lies = lies.0 tt
    lies-piece k shown (Told (Broken bytes)) lies = tt
    lies-piece k shown (Told NoMore) lies = tt
    lies-piece k shown TooFar lies = tt
    lies-piece k shown Missing lies = tt

    unit-tells : (k : ℕ) → Tells OfPiece (unit_at form.enc form.stop k)
    unit-tells k t =
        let shown : (j b : ℕ) → k ≤ j → look j ≡ Byte b → (Unit {0} → b < 256) × (⊥ → j + 1 ≤ 0) =
        λ j b behind seen. ((λ always. small j b seen), (λ never. absurd never)) in
        lies-piece k shown (ask look (unit_at form.enc form.stop k) t).reached
        (unit-lies look (Unit {0}) ⊥ form.stop 0 k shown form.enc t)

    bad-scalar : IsScalar 0xFFFD
    bad-scalar = refl

    bad-replaced : (bytes : ℕ) (test : Bool) → OfPiece (cond test (Holds 0xFFFD bytes) (Broken bytes))
    bad-replaced bytes true = bad-scalar
    bad-replaced bytes false = tt

    replaced-piece : (piece : Piece) → OfPiece piece → OfPiece (replaced form.replaces piece)
    replaced-piece (Holds c bytes) is = is
    replaced-piece (Broken bytes) is = bad-replaced bytes form.replaces
    replaced-piece NoMore is = tt

    piece-tells : (k : ℕ) → Tells OfPiece (piece_at form k)
    piece-tells k =
        then-tells OfPiece OfPiece (unit_at form.enc form.stop k) (λ piece. Answer (replaced form.replaces piece)) (unit-tells k)
        (λ piece is t. replaced-piece piece is)

    abbrev Stepped : Ask Step → Type 0
    Stepped a = Tells OfStep a

    -- what goes on where no markup stands
    unless-tells : (k : ℕ) (go : Ask Step) → Stepped go → Stepped (unless_markup (goes_on lists) lists form k go)
    unless-tells k go then =
        then-tells (λ (found : Option ℕ). Unit {0}) OfStep (markup_at (goes_on lists) lists form.stop k) (λ found. unless_closed go found)
        (any-tells (markup_at (goes_on lists) lists form.stop k)) closed
      where
        closed : (found : Option ℕ) → Unit {0} → Stepped (unless_closed go found)
        closed None always = then
        closed (Some which) always = λ t. tt

    content-step : (mode : Mode) (k : ℕ) (piece : Piece) → OfPiece piece → OfStep (as_content mode k piece)
    content-step mode k (Holds c bytes) is = is
    content-step mode k (Broken bytes) is = tt
    content-step mode k NoMore is = tt

    escaped-step : (c next : ℕ) (piece : Piece) → IsScalar c → OfPiece piece → OfStep (escaped c next piece)
    escaped-step c next (Holds d bytes) is there = there
    escaped-step c next (Broken bytes) is there = tt
    escaped-step c next NoMore is there = is

    pair-step : (k c next : ℕ) (piece : Piece) → IsScalar c → OfPiece piece → Stepped (pair_case (goes_on lists) lists form k c next piece)
    pair-step k c next piece is there =
        either-tells OfStep (is_mark form.escape_escape c && is_there form.escape piece) (Answer (escaped c next piece))
        (cond (is_mark form.escape c) (Answer (escaped c next piece))
        (unless_markup (goes_on lists) lists form k (Answer (Takes c false (record { mode = Escaping; byte = next })))))
        (λ t. escaped-step c next piece is there)
        (either-tells OfStep (is_mark form.escape c) (Answer (escaped c next piece))
        (unless_markup (goes_on lists) lists form k (Answer (Takes c false (record { mode = Escaping; byte = next }))))
        (λ t. escaped-step c next piece is there)
        (unless-tells k (Answer (Takes c false (record { mode = Escaping; byte = next }))) (λ t. is)))

    escaping-step : (k : ℕ) (piece : Piece) → OfPiece piece → Stepped (escaping_case (goes_on lists) lists form k piece)
    escaping-step k (Holds c bytes) is =
        let next : ℕ = k + bytes in
        either-tells OfStep (is_mark form.escape_escape c || is_mark form.escape c)
        (and_then (piece_at form next) (λ piece. pair_case (goes_on lists) lists form k c next piece))
        (unless_markup (goes_on lists) lists form k (Answer (Takes c false (record { mode = Escaping; byte = next }))))
        (then-tells OfPiece OfStep (piece_at form next) (λ piece. pair_case (goes_on lists) lists form k c next piece) (piece-tells next)
        (λ piece there. pair-step k c next piece is there))
        (unless-tells k (Answer (Takes c false (record { mode = Escaping; byte = next }))) (λ t. is))
    escaping-step k (Broken bytes) is = unless-tells k (Answer (Fails _)) (λ t. tt)
    escaping-step k NoMore is = λ t. tt

    before-step : (k : ℕ) (piece : Piece) → OfPiece piece → Stepped (before_case (goes_on lists) lists form k piece)
    before-step k (Holds c bytes) is =
        let next : ℕ = k + bytes in
        let padded : Ask Step = unless_markup (goes_on lists) lists form k (Answer (Takes c false (record { mode = Before; byte = next }))) in
        let other : Ask Step = unless_markup (goes_on lists) lists form k (Answer (Takes c false (record { mode = Plain; byte = next }))) in
        let begun : Ask Step = Answer (Passes (record { mode = Inside; byte = next })) in
        either-tells OfStep (is_mark form.lead c) padded (cond (is_mark form.start c) begun other)
        (unless-tells k (Answer (Takes c false (record { mode = Before; byte = next }))) (λ t. is))
        (either-tells OfStep (is_mark form.start c) begun other (λ t. tt)
        (unless-tells k (Answer (Takes c false (record { mode = Plain; byte = next }))) (λ t. is)))
    before-step k (Broken bytes) is = unless-tells k (Answer (Fails _)) (λ t. tt)
    before-step k NoMore is = λ t. tt

    block-at : (c next : ℕ) (test : Bool) → IsScalar c
        → OfStep (cond test (Passes (record { mode = Plain; byte = next })) (Takes c true (record { mode = Inside; byte = next })))
    block-at c next true is = tt
    block-at c next false is = is

    block-step : (c next : ℕ) → IsScalar c → OfStep (in_block form c next)
    block-step c next is = block-at c next (is_mark form.end c) is

    end-at : (c next d bytes : ℕ) (test : Bool) → IsScalar c → IsScalar d
        → OfStep (cond test (Takes d true (record { mode = Inside; byte = next + bytes })) (in_block form c next))
    end-at c next d bytes true is there = there
    end-at c next d bytes false is there = block-step c next is

    block-escaped : (c next : ℕ) (piece : Piece) → IsScalar c → OfPiece piece → OfStep (in_block_escaped form c next piece)
    block-escaped c next (Holds d bytes) is there = end-at c next d bytes (is_mark form.end d) is there
    block-escaped c next (Broken bytes) is there = block-step c next is
    block-escaped c next NoMore is there = block-step c next is

    inside-step : (k : ℕ) (piece : Piece) → OfPiece piece → Stepped (inside_case form k piece)
    inside-step k (Holds c bytes) is =
        let next : ℕ = k + bytes in
        either-tells OfStep (is_mark form.escape_escape c) (and_then (piece_at form next) (λ piece. Answer (in_block_escaped form c next piece)))
        (Answer (in_block form c next))
        (then-tells OfPiece OfStep (piece_at form next) (λ piece. Answer (in_block_escaped form c next piece)) (piece-tells next)
        (λ piece there t. block-escaped c next piece is there))
        (λ t. block-step c next is)
    inside-step k (Broken bytes) is = λ t. tt
    inside-step k NoMore is = λ t. tt

    case-step : (mode : Mode) (k : ℕ) (piece : Piece) → OfPiece piece → Stepped (case_in (goes_on lists) lists form mode k piece)
    case-step Plain k piece is = λ t. content-step Plain k piece is
    case-step Escaping k piece is = escaping-step k piece is
    case-step Before k piece is = before-step k piece is
    case-step Inside k piece is = inside-step k piece is

    step-tells : (at : Stand) → Stepped (step_at (goes_on lists) lists form at)
    step-tells at =
        let by : Ask Step = by_piece (goes_on lists) lists form at in
        let here : Stepped by = then-tells OfPiece OfStep (piece_at form at.byte) (λ piece. case_in (goes_on lists) lists form at.mode at.byte piece)
        (piece-tells at.byte) (λ piece is. case-step at.mode at.byte piece is) in
        either-tells OfStep (is_plain at.mode) (unless_markup (goes_on lists) lists form at.byte by) by (unless-tells at.byte by here) here

    -- the content
    abbrev OfContent : Content → Type 0
    OfContent content = AreScalars content.characters

    after-tells : (go : List Character → Stand → Ask Content) → ((read : List Character) (at : Stand) → AreScalars read → Tells OfContent (go read at))
        → (read : List Character) (at : Stand) → AreScalars read → (step : Step) → OfStep step → Tells OfContent (after_step go read at step)
    after-tells go then read at all (Takes c escaped next) is =
        then (read ++ record { c = c; is_escaped = escaped } ∷ []) next (one-more read (record { c = c; is_escaped = escaped }) all is)
    after-tells go then read at all (Passes next) is = then read next all
    after-tells go then read at all (Closes which) is = λ t. all
    after-tells go then read at all RunsOut is = λ t. all
    after-tells go then read at all (Fails cause) is = λ t. all

    from-tells : (more : ℕ) (read : List Character) (at : Stand) → AreScalars read
        → Tells OfContent (content_from (goes_on lists) lists form more read at)
    from-tells zero read at all = λ t. all
    from-tells (suc more) read at all =
        let go : List Character → Stand → Ask Content = λ next_read next. content_from (goes_on lists) lists form more next_read next in
        then-tells OfStep OfContent (step_at (goes_on lists) lists form at) (λ step. after_step go read at step) (step-tells at)
        (after-tells go (from-tells more) read at all)

  -- the characters of the content at a bit
  pub scanned-scalars : (lists : List Opened) (scan : ScanForm) (bit stop : ℕ) (t : Tally)
      → Says (λ (content : Content). AreScalars content.characters) (ask look (scanned lists scan bit stop) t).reached
  scanned-scalars lists scan bit stop t =
      from-tells lists (scanned_as scan stop) (suc (stop / 8 - (scanned_from scan bit).byte)) [] (scanned_from scan bit) tt t
