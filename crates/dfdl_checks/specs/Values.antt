-- Whether a text is a value of a property: 'Property Scoping and DFDL Schema Checking', and the chapters on each property.
use Rattle.std.specs.Prelude.{ℕ, List, Bool, true, false, not, nat_le, length, ◌==◌, ◌&&◌, ◌||◌, Option, Some, None, is_some, codes, if◌then◌else◌}
use Rattle.std.specs.List.{list_any}
use Rattle.std.specs.Str.{all_ascii_digits, bytes_eq}
use Rattle.std.specs.Str.Parse.{digits_value}
use Rattle.dfdl_scope.specs.Expressions.{is_expression, literal}
use Rattle.dfdl_scope.specs.Table.{Values, Words, Range, Formed}
use Rattle.dfdl_scope.specs.declared.row.Form.{Form}
use Rattle.dfdl_scope.specs.declared.row.Form.TheVariants.{Encoding, Number, NumberOrEmpty, NumberOrExpression, Alignment, Expression}
use Rattle.dfdl_checks.specs.Encodings.{encoding_named}

-- one of these words
abbrev pub is_among : List (List ℕ) → List ℕ → Bool
is_among words text = list_any (λ word. bytes_eq text word) words

-- nothing
abbrev pub is_empty : List ℕ → Bool
is_empty text = length text == 0

-- a number: decimal digits, at least one, and no sign
abbrev pub is_number : List ℕ → Bool
is_number text = not (is_empty text) && all_ascii_digits text

-- a number from the first to the second
abbrev pub is_within : ℕ → ℕ → List ℕ → Bool
is_within least most text = is_number text && (nat_le least (digits_value 10 text) && nat_le (digits_value 10 text) most)

-- the number that digits stand for, if it is one from the first to the second
abbrev pub number_within : ℕ → ℕ → List ℕ → Option ℕ
number_within least most text = if is_within least most text then Some (digits_value 10 text) else None

-- a text has the form. Those whose form is left to what takes them, as literals and names, are taken as they are here
abbrev pub has_form : Form → List ℕ → Bool
has_form Encoding text = is_some (encoding_named text)
has_form Number text = is_number text
has_form NumberOrEmpty text = is_empty text || is_number text
has_form NumberOrExpression text = is_number text
has_form Alignment text = bytes_eq text (codes "implicit") || is_within 1 65536 text
has_form Expression text = false
has_form _ text = true

-- a text that is no expression is one of the values
abbrev pub is_plain_value : Values → List ℕ → Bool
is_plain_value (Words words) text = is_among words text
is_plain_value (Range least most) text = is_within least most text
is_plain_value (Formed form) text = has_form form text

-- the values of this form may be expressions
abbrev pub is_expression_form : Form → Bool
is_expression_form Expression = true
is_expression_form NumberOrExpression = true
is_expression_form _ = false

-- expressions are among the values
abbrev pub takes_expressions : Values → Bool
takes_expressions (Words words) = false
takes_expressions (Range least most) = false
takes_expressions (Formed form) = is_expression_form form

-- what is written is a value: an expression where expressions are values, else by the text that it stands for
abbrev pub is_value : Values → List ℕ → Bool
is_value values written =
    if is_expression written then takes_expressions values else is_plain_value values (literal written)
