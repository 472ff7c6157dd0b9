-- What a scan of delimited text comes to at a place, as a program over looks. 'Simple Types' (escape schemes).
use Rattle.std.specs.Prelude.{ℕ, zero, suc, ◌+◌, Bool, true, false, ◌&&◌, ◌||◌, nat_eq, if◌then◌else◌, List, Option, Some, None}
use Rattle.dfdl_looks.specs.Asks.{Ask, Answer, and_then}
use Rattle.dfdl_texts.specs.Units.{Piece, Holds, Broken, NoMore, unit_at}
use Rattle.dfdl_delims.specs.Lists.{Opened}
use Rattle.dfdl_delims.specs.Longest.{Longest, Text, NoText, longest_at}
use Rattle.dfdl_forms.specs.declared.text.EscapeKind.{EscapeKind}
use Rattle.dfdl_forms.specs.declared.text.EscapeKind.TheVariants.{Absent, Character, Block}
use Rattle.dfdl_report.specs.declared.cause.ParseCause.{ParseCause}
use Rattle.dfdl_report.specs.declared.cause.ParseCause.TheVariants.{DataEnds, BadCharacter}
use Rattle.dfdl_escapes.specs.declared.form.Form.{Form}
use Rattle.dfdl_escapes.specs.declared.form.Mode.{Mode}
use Rattle.dfdl_escapes.specs.declared.form.Mode.TheVariants.{Plain, Escaping, Before, Inside}
use Rattle.dfdl_escapes.specs.declared.form.Stand.{Stand}

-- what a step of a scan comes to: a character, whether it is escaped, and where the scan stands behind it; a mark that gives no
-- character, and where the scan stands behind it; terminating markup, of the list at a place; the end of the box or of the data; or
-- why the content is broken
pub data Step : Type 0 where
  Takes : ℕ → Bool → Stand → Step
  Passes : Stand → Step
  Closes : ℕ → Step
  RunsOut : Step
  Fails : ParseCause → Step

-- in a mode, before byte k
abbrev pub stand : Mode → ℕ → Stand
stand mode k = record { mode = mode; byte = k }

-- how a scan begins
abbrev pub first_mode : EscapeKind → Mode
first_mode Absent = Plain
first_mode Character = Escaping
first_mode Block = Before

-- the character is this mark, if there is such a mark
abbrev pub is_mark : Option ℕ → ℕ → Bool
is_mark None c = false
is_mark (Some mark) c = nat_eq c mark

-- this mark stands there
abbrev pub is_there : Option ℕ → Piece → Bool
is_there mark (Holds c bytes) = is_mark mark c
is_there mark (Broken bytes) = false
is_there mark NoMore = false

-- a bad unit is the character U+FFFD, if it is replaced
abbrev pub replaced : Bool → Piece → Piece
replaced replaces (Holds c bytes) = Holds c bytes
replaced replaces (Broken bytes) = if replaces then Holds 0xFFFD bytes else Broken bytes
replaced replaces NoMore = NoMore

-- what stands at byte k of the content
abbrev pub piece_at : Form → ℕ → Ask Piece
piece_at form k = and_then (unit_at form.enc form.stop k) (λ piece. Answer (replaced form.replaces piece))

-- the list of the terminating markup that was found; a text of no bits is no markup that ends content
abbrev pub ended_by : Longest → Option ℕ
ended_by (Text which zero) = None
ended_by (Text which (suc bits)) = Some which
ended_by NoText = None

-- the list whose terminating markup stands at byte k, if there is such markup
abbrev pub markup_at : (List ℕ → Bool) → List Opened → ℕ → ℕ → Ask (Option ℕ)
markup_at goes_on lists stop k = and_then (longest_at goes_on lists stop k) (λ found. Answer (ended_by found))

-- terminating markup ends the content, and without it the content goes on so
abbrev pub unless_closed : Ask Step → Option ℕ → Ask Step
unless_closed go None = go
unless_closed go (Some which) = Answer (Closes which)

-- terminating markup at byte k ends the content, and without it the content goes on so
abbrev pub unless_markup : (List ℕ → Bool) → List Opened → Form → ℕ → Ask Step → Ask Step
unless_markup goes_on lists form k go = and_then (markup_at goes_on lists form.stop k) (λ found. unless_closed go found)

-- what stands at byte k is content, in a mode from then on
abbrev pub as_content : Mode → ℕ → Piece → Step
as_content mode k (Holds c bytes) = Takes c false (stand mode (k + bytes))
as_content mode k (Broken bytes) = Fails BadCharacter
as_content mode k NoMore = RunsOut

-- what stands at a byte behind the escape character c is given as it is; where nothing does, c is content
abbrev pub escaped : ℕ → ℕ → Piece → Step
escaped c next (Holds d bytes) = Takes d true (stand Escaping (next + bytes))
escaped c next (Broken bytes) = Fails BadCharacter
escaped c next NoMore = Takes c false (stand Escaping next)

-- The cases of the character c at byte k, by what stands behind it: the escape-escape character followed by the escape character
-- gives the escape character; the escape character followed by any character gives that character; terminating markup ends the
-- content; any other character is content.
abbrev pub pair_case : (List ℕ → Bool) → List Opened → Form → ℕ → ℕ → ℕ → Piece → Ask Step
pair_case goes_on lists form k c next piece =
    if is_mark form.escape_escape c && is_there form.escape piece then Answer (escaped c next piece)
    else if is_mark form.escape c then Answer (escaped c next piece)
    else unless_markup goes_on lists form k (Answer (Takes c false (stand Escaping next)))

-- The cases with an escape character: what follows is looked at behind the escape-escape and the escape character alone.
abbrev pub escaping_case : (List ℕ → Bool) → List Opened → Form → ℕ → Piece → Ask Step
escaping_case goes_on lists form k (Holds c bytes) =
    if is_mark form.escape_escape c || is_mark form.escape c then
    and_then (piece_at form (k + bytes)) (λ next. pair_case goes_on lists form k c (k + bytes) next)
    else unless_markup goes_on lists form k (Answer (Takes c false (stand Escaping (k + bytes))))
escaping_case goes_on lists form k (Broken bytes) = unless_markup goes_on lists form k (Answer (Fails BadCharacter))
escaping_case goes_on lists form k NoMore = Answer RunsOut

-- The cases before a block, where only pad characters that trimming takes off stood before: terminating markup at one of them ends
-- the content; the block start behind them begins a block; where another character stands there is no block.
abbrev pub before_case : (List ℕ → Bool) → List Opened → Form → ℕ → Piece → Ask Step
before_case goes_on lists form k (Holds c bytes) =
    if is_mark form.lead c then unless_markup goes_on lists form k (Answer (Takes c false (stand Before (k + bytes))))
    else if is_mark form.start c then Answer (Passes (stand Inside (k + bytes)))
    else unless_markup goes_on lists form k (Answer (Takes c false (stand Plain (k + bytes))))
before_case goes_on lists form k (Broken bytes) = unless_markup goes_on lists form k (Answer (Fails BadCharacter))
before_case goes_on lists form k NoMore = Answer RunsOut

-- a block end alone closes the block, and all else is content
abbrev pub in_block : Form → ℕ → ℕ → Step
in_block form c next = if is_mark form.end c then Passes (stand Plain next) else Takes c true (stand Inside next)

-- behind the escape-escape character c the block end is given as it is
abbrev pub in_block_escaped : Form → ℕ → ℕ → Piece → Step
in_block_escaped form c next (Holds d bytes) =
    if is_mark form.end d then Takes d true (stand Inside (next + bytes)) else in_block form c next
in_block_escaped form c next (Broken bytes) = in_block form c next
in_block_escaped form c next NoMore = in_block form c next

-- The cases in a block: what follows is looked at behind the escape-escape character alone. A box or data that ends there is broken.
abbrev pub inside_case : Form → ℕ → Piece → Ask Step
inside_case form k (Holds c bytes) =
    if is_mark form.escape_escape c then
    and_then (piece_at form (k + bytes)) (λ next. Answer (in_block_escaped form c (k + bytes) next))
    else Answer (in_block form c (k + bytes))
inside_case form k (Broken bytes) = Answer (Fails BadCharacter)
inside_case form k NoMore = Answer (Fails DataEnds)

-- the cases of a mode, by what stands at byte k
abbrev pub case_in : (List ℕ → Bool) → List Opened → Form → Mode → ℕ → Piece → Ask Step
case_in goes_on lists form Plain k piece = Answer (as_content Plain k piece)
case_in goes_on lists form Escaping k piece = escaping_case goes_on lists form k piece
case_in goes_on lists form Before k piece = before_case goes_on lists form k piece
case_in goes_on lists form Inside k piece = inside_case form k piece

-- what a step comes to by what stands where the scan does
abbrev pub by_piece : (List ℕ → Bool) → List Opened → Form → Stand → Ask Step
by_piece goes_on lists form at = and_then (piece_at form at.byte) (λ piece. case_in goes_on lists form at.mode at.byte piece)

-- nothing is escaped in this mode
abbrev pub is_plain : Mode → Bool
is_plain Plain = true
is_plain Escaping = false
is_plain Before = false
is_plain Inside = false

-- what a step of a scan comes to, where the test tells of which bytes some text of the lists is longer; where nothing is escaped,
-- terminating markup is sought first
abbrev pub step_at : (List ℕ → Bool) → List Opened → Form → Stand → Ask Step
step_at goes_on lists form at =
    if is_plain at.mode then unless_markup goes_on lists form at.byte (by_piece goes_on lists form at) else by_piece goes_on lists form at
