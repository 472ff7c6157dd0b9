-- What the operators and functions of expressions answer by the values of their operands.
use Rattle.std.specs.Prelude.{ℕ, ◌||◌, ◌==◌, Bool, not, List, [], ◌∷◌, Option, Some, None, Ok, Err, pos, length, encode_utf8_all}
use Rattle.std.specs.List.{starts_with, ends_with}
use Rattle.std.specs.Str.{chars}
use Rattle.dfdl_operators.specs.Comparisons.{comparison, holds, Outcome}
use Rattle.dfdl_operators.specs.Constructors.{constructed}
use Rattle.dfdl_operators.specs.Numbers.{Answer, number_of, on_number, on_numbers}
use Rattle.dfdl_operators.specs.Operators.{ceiling_answer, difference_answer, floor_answer, magnitude_answer, negated_answer, product_answer, quotient_answer, remainder_answer, sum_answer, whole_quotient_answer}
use Rattle.dfdl_operators.specs.Places.{Part, from_place, up_to_sum}
use Rattle.dfdl_operators.specs.TextFunctions.{text_of_value}
use Rattle.dfdl_operators.specs.declared.fault.OperatorFault.TheVariants.{NoQuotient, WrongType}
use Rattle.dfdl_operators.specs.declared.order.Relation.{Relation}
use Rattle.dfdl_operators.specs.declared.order.Relation.TheVariants.{Same, Other}
use Rattle.dfdl_value.specs.declared.value.Value.{Value}
use Rattle.dfdl_value.specs.declared.value.Value.TheVariants.{Int, Dec, Text, Truth}
use Rattle.dfdl_expressions.specs.declared.operator.BinaryOperator.{BinaryOperator}
use Rattle.dfdl_expressions.specs.declared.operator.BinaryOperator.TheVariants.{Add, Subtract, Multiply, Divide, IntegerDivide, Modulo, Compare, Contains, StartsWith, EndsWith, SubstringFrom}
use Rattle.dfdl_expressions.specs.declared.operator.Question.{Question}
use Rattle.dfdl_expressions.specs.declared.operator.Question.TheVariants as question
use Rattle.dfdl_expressions.specs.declared.operator.UnaryOperator.{UnaryOperator}
use Rattle.dfdl_expressions.specs.declared.operator.UnaryOperator.TheVariants.{Negative, Not, Absolute, Floor, Ceiling, StringLength, Construct}
use Rattle.dfdl_expressions.specs.declared.operator.Unit.{Unit as LengthUnit}
use Rattle.dfdl_expressions.specs.declared.operator.Unit.TheVariants.{Bits, Bytes as WholeBytes}

-- the other truth
abbrev pub negation : Value → Answer
negation (Truth b) = Ok (Truth (not b))
negation v = Err WrongType

-- what a function on a text answers, of a value that may be none
abbrev pub on_text : (List ℕ → Answer) → Option (List ℕ) → Answer
on_text f (Some t) = f t
on_text f None = Err WrongType

-- what an operator or a function of one operand answers
abbrev pub unary_answer : UnaryOperator → Value → Answer
unary_answer Negative v = on_number negated_answer (number_of v)
unary_answer Not v = negation v
unary_answer Absolute v = on_number magnitude_answer (number_of v)
unary_answer Floor v = on_number floor_answer (number_of v)
unary_answer Ceiling v = on_number ceiling_answer (number_of v)
unary_answer StringLength v = on_text (λ t. Ok (Int (pos (length (chars t))))) (text_of_value v)
unary_answer (Construct kind) v = constructed kind v

-- whether a comparison operator holds, where the values compare
abbrev pub relation_answer : Relation → Outcome → Answer
relation_answer relation (Ok order) = Ok (Truth (holds relation order))
relation_answer relation (Err why) = Err why

-- a text stands somewhere in another one
abbrev pub has_part : List ℕ → List ℕ → Bool
has_part part [] = starts_with ◌==◌ [] part
has_part part (b ∷ bs) = starts_with ◌==◌ (b ∷ bs) part || has_part part bs

-- what a test of two texts answers, of values that may be none
abbrev pub on_texts : (List ℕ → List ℕ → Bool) → Option (List ℕ) → Option (List ℕ) → Answer
on_texts f (Some t) (Some u) = Ok (Truth (f t u))
on_texts f _ _ = Err WrongType

-- characters as a text
abbrev pub text_part : Part → Answer
text_part (Ok cs) = Ok (Text (encode_utf8_all cs))
text_part (Err why) = Err why

-- what an operator or a function of two operands answers
abbrev pub binary_answer : BinaryOperator → Value → Value → Answer
binary_answer Add v w = on_numbers sum_answer (number_of v) (number_of w)
binary_answer Subtract v w = on_numbers difference_answer (number_of v) (number_of w)
binary_answer Multiply v w = on_numbers product_answer (number_of v) (number_of w)
binary_answer Divide v w = on_numbers quotient_answer (number_of v) (number_of w)
binary_answer IntegerDivide v w = on_numbers whole_quotient_answer (number_of v) (number_of w)
binary_answer Modulo v w = on_numbers remainder_answer (number_of v) (number_of w)
binary_answer (Compare relation) v w = relation_answer relation (comparison v w)
binary_answer Contains v w = on_texts (λ t part. has_part part t) (text_of_value v) (text_of_value w)
binary_answer StartsWith v w = on_texts (λ t front. starts_with ◌==◌ t front) (text_of_value v) (text_of_value w)
binary_answer EndsWith v w = on_texts (λ t end. ends_with ◌==◌ t end) (text_of_value v) (text_of_value w)
binary_answer SubstringFrom v w = on_text (λ t. text_part (from_place (number_of w) (chars t))) (text_of_value v)

-- the characters of a text whose place is at least a number, and below its sum with another one
abbrev pub substring_answer : Value → Value → Value → Answer
substring_answer v first count =
    on_text
    (λ t. text_part (up_to_sum (number_of first) (on_numbers sum_answer (number_of first) (number_of count)) (chars t)))
    (text_of_value v)

-- the last operand of `and` and `or` has to be a truth
abbrev pub truth_answer : Value → Answer
truth_answer (Truth b) = Ok (Truth b)
truth_answer v = Err WrongType

-- a quotient that has to be whole
abbrev pub whole_answer : Answer → Answer
whole_answer (Ok (Dec d)) = Err NoQuotient
whole_answer answer = answer

-- a length of so many bits in a unit: of bytes it has to be a whole number
abbrev pub length_answer : LengthUnit → Value → Answer
length_answer Bits v = Ok v
length_answer WholeBytes v = whole_answer (on_numbers quotient_answer (number_of v) (number_of (Int (pos 8))))

-- what a path's question answers by the value that is found for it: the item's value, the number of the items or whether
-- that isn't zero or is, or the length
abbrev pub question_answer : Question → Value → Answer
question_answer question.Item v = Ok v
question_answer question.Count v = Ok v
question_answer question.Exists v = relation_answer Other (comparison v (Int (pos 0)))
question_answer question.Empty v = relation_answer Same (comparison v (Int (pos 0)))
question_answer (question.Length extent unit) v = length_answer unit v
