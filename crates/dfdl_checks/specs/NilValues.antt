-- The values that stand for nil ('DFDL Data Syntax Grammar', on nilKind logicalValue).
use Rattle.std.specs.Prelude.{ℕ, List, [], ◌∷◌, ◌++◌, Bool, false, not, ◌&&◌, ◌||◌, Option, Some, None, encode_utf8, is_some, option_and_then}
use Rattle.std.specs.Option.{option_map_or}
use Rattle.dfdl_forms.specs.declared.literals.Piece.{Piece}
use Rattle.dfdl_forms.specs.declared.literals.Piece.TheVariants.{Char, Byte, NewLine, Space, Spaces, MaybeSpaces, Nothing}
use Rattle.dfdl_forms.specs.declared.simple.Simple.{Simple}
use Rattle.dfdl_value.specs.declared.value.Value.{Value}
use Rattle.dfdl_checks.specs.Defaults.{value_of}
use Rattle.dfdl_checks.specs.Judged.{Judged}
use Rattle.dfdl_checks.specs.Nils.{is_nil_by_value, is_nil_unfit, nil_literals}
use Rattle.dfdl_checks.specs.Subjects.{is_complex}
use Rattle.dfdl_checks.specs.declared.subject.Kind.{Kind}
use Rattle.dfdl_checks.specs.declared.subject.Kind.TheVariants.{SimpleElement}

-- a text with a piece behind it, where that is a character or nothing
abbrev pub with_piece : List ℕ → Piece → Option (List ℕ)
with_piece text (Char c) = Some (text ++ encode_utf8 c)
with_piece text (Byte b) = None
with_piece text NewLine = None
with_piece text Space = None
with_piece text Spaces = None
with_piece text MaybeSpaces = None
with_piece text Nothing = Some text

-- the same with several pieces behind it
abbrev pub with_pieces : List ℕ → List Piece → Option (List ℕ)
with_pieces text [] = Some text
with_pieces text (piece ∷ others) = option_and_then (λ more. with_pieces more others) (with_piece text piece)

-- the value of the type that a literal of characters says
abbrev pub literal_value : Simple → List Piece → Option Value
literal_value simple pieces = option_and_then (value_of simple) (with_pieces [] pieces)

-- values with those behind them that literals say, where each says one
abbrev pub with_values : Simple → List Value → List (List Piece) → Option (List Value)
with_values simple values [] = Some values
with_values simple values (pieces ∷ others) =
    option_and_then (λ value. with_values simple (values ++ value ∷ []) others) (literal_value simple pieces)

-- the values of the type that literals say, where each says one
abbrev pub values_in : Simple → List (List Piece) → Option (List Value)
values_in simple literals = with_values simple [] literals

-- the values of the type that stand for nil at the component
abbrev pub nil_values : Judged → Simple → Option (List Value)
nil_values subject simple = option_and_then (values_in simple) (nil_literals subject)

-- a literal of nil at an element of the kind says no value of its type; of a type that is not carried any says one
abbrev pub is_no_value : Judged → Kind → Bool
is_no_value subject (SimpleElement simple) = option_map_or (λ literals. not (is_some (values_in simple literals))) (nil_literals subject) false
is_no_value subject _ = false

-- nil by a literal that says no value of the element's type
abbrev pub is_nil_no_value : Judged → Bool
is_nil_no_value subject = is_nil_by_value subject && is_no_value subject subject.kind

-- 29: a complex element that may be nil, or nil by what can't stand for it
abbrev pub is_nil_not_allowed : Judged → Bool
is_nil_not_allowed subject =
    (is_complex subject.kind && subject.facts.is_nillable) || is_nil_unfit subject || is_nil_no_value subject
