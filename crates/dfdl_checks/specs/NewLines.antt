-- What is written for `%NL;` ('Framing', on outputNewLine). It is asked of components with a delimiter that has one in a literal, and plays
-- no part in parsing.
use Rattle.std.specs.Prelude.{ℕ, List, Bool, true, false, not, ◌&&◌, ◌||◌, codes}
use Rattle.std.specs.List.{list_any}
use Rattle.std.specs.Str.{bytes_eq}
use Rattle.dfdl_forms.specs.declared.literals.Piece.{Piece}
use Rattle.dfdl_forms.specs.declared.literals.Piece.TheVariants.{Char, Byte, NewLine, Space, Spaces, MaybeSpaces, Nothing as NoPiece}
use Rattle.dfdl_scope.specs.Expressions.{is_expression, literal}
use Rattle.dfdl_scope.specs.Scoping.{Told, Value, Absent, Twice}
use Rattle.dfdl_checks.specs.Delimiters.{delimiter_at, separator_at}
use Rattle.dfdl_checks.specs.Judged.{Judged}
use Rattle.dfdl_checks.specs.Subjects.{told_at}
use Rattle.dfdl_checks.specs.declared.delimiters.DelimiterText.{DelimiterText}
use Rattle.dfdl_checks.specs.declared.delimiters.DelimiterText.TheVariants.{Nothing, Literals, Malformed, Empty}

-- a line break
abbrev pub is_line_break : Piece → Bool
is_line_break (Char c) = false
is_line_break (Byte b) = false
is_line_break NewLine = true
is_line_break Space = false
is_line_break Spaces = false
is_line_break MaybeSpaces = false
is_line_break NoPiece = false

-- a literal has a line break
abbrev pub have_line_break : List (List Piece) → Bool
have_line_break literals = list_any (list_any is_line_break) literals

-- a literal of a delimiter has one
abbrev pub breaks_line : DelimiterText → Bool
breaks_line Nothing = false
breaks_line (Literals literals) = have_line_break literals
breaks_line Malformed = false
breaks_line Empty = false

-- a delimiter of the component has one
abbrev pub is_line_breaking : Judged → Bool
is_line_breaking subject =
    breaks_line (delimiter_at subject (codes "initiator")) || breaks_line (delimiter_at subject (codes "terminator")) || breaks_line (separator_at subject)

-- the text is that of a line break, by the names of its characters
abbrev pub is_new_line : List ℕ → Bool
is_new_line text =
    bytes_eq text (codes "%CR;%LF;") || bytes_eq text (codes "%LF;") || bytes_eq text (codes "%CR;") || bytes_eq text (codes "%NEL;")
    || bytes_eq text (codes "%LS;")

-- another text is told, and no expression
abbrev pub is_other_line_told : Told → Bool
is_other_line_told (Value written) = not (is_expression written) && not (is_new_line (literal written))
is_other_line_told Absent = false
is_other_line_told (Twice place) = false

-- an expression is told
abbrev pub is_expression_told : Told → Bool
is_expression_told (Value written) = is_expression written
is_expression_told Absent = false
is_expression_told (Twice place) = false

-- a component with a line break in a delimiter, for which another text is to be written
abbrev pub is_new_line_other : Judged → Bool
is_new_line_other subject = is_line_breaking subject && is_other_line_told (told_at subject (codes "outputNewLine"))

-- the same, where an expression is to tell what is written
abbrev pub is_new_line_expression : Judged → Bool
is_new_line_expression subject = is_line_breaking subject && is_expression_told (told_at subject (codes "outputNewLine"))
