-- The numbers and texts of causes and limits, as the program prints them.
use Rattle.std.specs.Prelude.{ℕ, List, codes}
use Rattle.dfdl_report.specs.declared.cause.ParseCause.{ParseCause}
use Rattle.dfdl_report.specs.declared.cause.ParseCause.TheVariants.{InitiatorMissing, TerminatorMissing, SeparatorMissing, DataEnds, BadCharacter, NotANumber, BadNibble}
use Rattle.dfdl_report.specs.declared.cause.ParseCause.TheVariants.{NoDispatchBranch, NegativeCount, ExpressionFault}
use Rattle.dfdl_report.specs.declared.cause.ParseCause.TheVariants.{LengthOutOfRange, PastType, AssertionFalse, DiscriminatorFalse, NoBranch, EmptyTrailingSlot, UnknownBoolean, RequiredEmpty, NotFilled}
use Rattle.dfdl_report.specs.declared.cause.VariableCause.{VariableCause}
use Rattle.dfdl_report.specs.declared.cause.VariableCause.TheVariants.{SetTwice, SetAfterRead}
use Rattle.dfdl_report.specs.declared.cause.UnparseCause.{UnparseCause}
use Rattle.dfdl_report.specs.declared.cause.UnparseCause.TheVariants.{BinaryForm, PackedForm, TextForm, TooLong, NotInEncoding}
use Rattle.dfdl_report.specs.declared.cause.UnparseCause.TheVariants.{PrefixUnfit, BooleanUnfit, WrongOccurrences, AlignmentImpossible, EscapeImpossible, HiddenWithoutValue, SuspensionCycle}
use Rattle.dfdl_report.specs.declared.cause.UnparseCause.TheVariants as unparse
use Rattle.dfdl_report.specs.declared.cause.SchemaCause.{SchemaCause}
use Rattle.dfdl_report.specs.declared.cause.SchemaCause.TheVariants.{NameNotFound, GlobalTwice, OutsideSubset, ValueNotAllowed, Recursive, PropertyTwice, PropertyMissing}
use Rattle.dfdl_report.specs.declared.cause.SchemaCause.TheVariants.{UnknownAnnotation, PropertyNotCarried, ExpressionNotAllowed, LiteralMalformed, EmptyDelimiter, TypeNotCarried, MaxLengthMissing, LengthKind}
use Rattle.dfdl_report.specs.declared.cause.SchemaCause.TheVariants.{LengthUnits, ConstantLength, PrefixType, PrefixLength, PatternRefused, OrdersApart, SecondBitOrder}
use Rattle.dfdl_report.specs.declared.cause.SchemaCause.TheVariants.{EncodingNotAllowed, Alignment, NumberPattern, SignCodes, BooleanRepresentations, PadCharacter, NilNotAllowed}
use Rattle.dfdl_report.specs.declared.cause.SchemaCause.TheVariants.{DefaultNotAValue, UnboundedElement, OccurrenceBounds, TestsTogether, NoInitiator, ElementTwice, EscapeScheme}
use Rattle.dfdl_report.specs.declared.cause.SchemaCause.TheVariants.{ExpressionMalformed, ExpressionType, PathNowhere, VariableMalformed, BranchKey, CalculationNotAllowed}
use Rattle.dfdl_report.specs.declared.cause.DocCause.{DocCause}
use Rattle.dfdl_report.specs.declared.cause.DocCause.TheVariants.{NotUtf8, CharacterNotAllowed, Malformed, EndTagMismatch, AttributeTwice}
use Rattle.dfdl_report.specs.declared.cause.DocCause.TheVariants.{UnknownReference, PrefixNotDeclared, DocumentType, EncodingRefused, OneRoot, TooDeep, DocumentEnds}
use Rattle.dfdl_report.specs.declared.cause.InfosetCause.{InfosetCause}
use Rattle.dfdl_report.specs.declared.cause.InfosetCause.TheVariants.{NotJson, RootExpected, UnknownMember, ObjectExpected, ArrayExpected, StringExpected, NotAValue, NullNotAllowed}
use Rattle.dfdl_report.specs.declared.cause.LimitCause.{LimitCause}
use Rattle.dfdl_report.specs.declared.cause.LimitCause.TheVariants.{Input, Window, Nodes, Text, Depth, Cells, Held, Schema, Schemas, Rows}

-- processing errors, P
abbrev pub parse_number : ParseCause → ℕ
parse_number InitiatorMissing = 1
parse_number TerminatorMissing = 2
parse_number SeparatorMissing = 3
parse_number DataEnds = 4
parse_number BadCharacter = 5
parse_number NotANumber = 6
parse_number BadNibble = 7
parse_number LengthOutOfRange = 8
parse_number PastType = 9
parse_number (AssertionFalse test) = 10
parse_number (DiscriminatorFalse test) = 11
parse_number NoBranch = 12
parse_number NoDispatchBranch = 13
parse_number NegativeCount = 14
parse_number (ExpressionFault fault) = 15
parse_number EmptyTrailingSlot = 16
parse_number UnknownBoolean = 17
parse_number RequiredEmpty = 18
parse_number NotFilled = 19

-- what a processing error is told as
abbrev pub parse_text : ParseCause → List ℕ
parse_text InitiatorMissing = codes "initiator missing"
parse_text TerminatorMissing = codes "terminator missing"
parse_text SeparatorMissing = codes "separator missing"
parse_text DataEnds = codes "data ends"
parse_text BadCharacter = codes "bad character"
parse_text NotANumber = codes "not a number of the pattern"
parse_text BadNibble = codes "bad nibble or zone"
parse_text LengthOutOfRange = codes "length out of range"
parse_text PastType = codes "value past its type"
parse_text (AssertionFalse test) = codes "assertion false"
parse_text (DiscriminatorFalse test) = codes "discriminator false"
parse_text NoBranch = codes "no branch"
parse_text NoDispatchBranch = codes "no dispatch branch"
parse_text NegativeCount = codes "occurrence count negative"
parse_text (ExpressionFault fault) = codes "expression fault"
parse_text EmptyTrailingSlot = codes "empty trailing slot"
parse_text UnknownBoolean = codes "unknown boolean"
parse_text RequiredEmpty = codes "required element empty"
parse_text NotFilled = codes "content does not fill its box"

-- settings of variables that can't be, V
abbrev pub variable_number : VariableCause → ℕ
variable_number SetTwice = 1
variable_number SetAfterRead = 2

-- what such a setting is told as
abbrev pub variable_text : VariableCause → List ℕ
variable_text SetTwice = codes "variable set twice"
variable_text SetAfterRead = codes "variable set after it was read"

-- unparse errors, U
abbrev pub unparse_number : UnparseCause → ℕ
unparse_number BinaryForm = 1
unparse_number PackedForm = 2
unparse_number TextForm = 3
unparse_number TooLong = 4
unparse_number NotInEncoding = 5
unparse_number unparse.LengthOutOfRange = 6
unparse_number PrefixUnfit = 7
unparse_number (unparse.ExpressionFault fault) = 8
unparse_number BooleanUnfit = 9
unparse_number WrongOccurrences = 10
unparse_number AlignmentImpossible = 11
unparse_number EscapeImpossible = 12
unparse_number HiddenWithoutValue = 13
unparse_number SuspensionCycle = 14

-- what an unparse error is told as
abbrev pub unparse_text : UnparseCause → List ℕ
unparse_text BinaryForm = codes "value does not fit its binary form"
unparse_text PackedForm = codes "value does not fit its packed form"
unparse_text TextForm = codes "value does not fit its text form"
unparse_text TooLong = codes "value too long"
unparse_text NotInEncoding = codes "character not in the encoding"
unparse_text unparse.LengthOutOfRange = codes "length out of range"
unparse_text PrefixUnfit = codes "prefix does not fit"
unparse_text (unparse.ExpressionFault fault) = codes "expression fault"
unparse_text BooleanUnfit = codes "boolean does not fit"
unparse_text WrongOccurrences = codes "wrong number of occurrences"
unparse_text AlignmentImpossible = codes "alignment impossible"
unparse_text EscapeImpossible = codes "escape impossible"
unparse_text HiddenWithoutValue = codes "hidden element without a value"
unparse_text SuspensionCycle = codes "suspension cycle"

-- refusals of schemas, C
abbrev pub schema_number : SchemaCause → ℕ
schema_number NameNotFound = 1
schema_number GlobalTwice = 2
schema_number OutsideSubset = 3
schema_number ValueNotAllowed = 4
schema_number Recursive = 5
schema_number PropertyTwice = 6
schema_number PropertyMissing = 7
schema_number UnknownAnnotation = 8
schema_number PropertyNotCarried = 9
schema_number ExpressionNotAllowed = 10
schema_number LiteralMalformed = 11
schema_number EmptyDelimiter = 12
schema_number TypeNotCarried = 13
schema_number MaxLengthMissing = 14
schema_number LengthKind = 15
schema_number LengthUnits = 16
schema_number ConstantLength = 17
schema_number PrefixType = 18
schema_number PrefixLength = 19
schema_number PatternRefused = 20
schema_number OrdersApart = 21
schema_number SecondBitOrder = 22
schema_number EncodingNotAllowed = 23
schema_number Alignment = 24
schema_number NumberPattern = 25
schema_number SignCodes = 26
schema_number BooleanRepresentations = 27
schema_number PadCharacter = 28
schema_number NilNotAllowed = 29
schema_number DefaultNotAValue = 30
schema_number UnboundedElement = 31
schema_number OccurrenceBounds = 32
schema_number TestsTogether = 33
schema_number ExpressionMalformed = 34
schema_number ExpressionType = 35
schema_number PathNowhere = 36
schema_number VariableMalformed = 37
schema_number BranchKey = 38
schema_number NoInitiator = 39
schema_number ElementTwice = 40
schema_number CalculationNotAllowed = 41
schema_number EscapeScheme = 42

-- what a refusal of a schema is told as
abbrev pub schema_text : SchemaCause → List ℕ
schema_text NameNotFound = codes "name not found"
schema_text GlobalTwice = codes "global name twice"
schema_text OutsideSubset = codes "construct outside the subset"
schema_text ValueNotAllowed = codes "attribute value not allowed"
schema_text Recursive = codes "recursive definition"
schema_text PropertyTwice = codes "property given twice"
schema_text PropertyMissing = codes "property missing"
schema_text UnknownAnnotation = codes "unknown annotation"
schema_text PropertyNotCarried = codes "property value not carried"
schema_text ExpressionNotAllowed = codes "expression not allowed here"
schema_text LiteralMalformed = codes "literal malformed"
schema_text EmptyDelimiter = codes "delimiter can match nothing"
schema_text TypeNotCarried = codes "simple type not carried"
schema_text MaxLengthMissing = codes "maxLength missing"
schema_text LengthKind = codes "length kind not allowed"
schema_text LengthUnits = codes "length units not allowed"
schema_text ConstantLength = codes "constant length out of range"
schema_text PrefixType = codes "prefix type not allowed"
schema_text PrefixLength = codes "prefix length not whole in its units"
schema_text PatternRefused = codes "pattern refused"
schema_text OrdersApart = codes "orders do not go together"
schema_text SecondBitOrder = codes "second bit order"
schema_text EncodingNotAllowed = codes "encoding not allowed"
schema_text Alignment = codes "alignment not allowed"
schema_text NumberPattern = codes "number pattern malformed"
schema_text SignCodes = codes "sign codes malformed"
schema_text BooleanRepresentations = codes "boolean representations malformed"
schema_text PadCharacter = codes "pad character malformed"
schema_text NilNotAllowed = codes "nil not allowed"
schema_text DefaultNotAValue = codes "default is not a value"
schema_text UnboundedElement = codes "unbounded element not allowed"
schema_text OccurrenceBounds = codes "occurrence bounds not allowed"
schema_text TestsTogether = codes "assert and discriminator together"
schema_text ExpressionMalformed = codes "expression malformed"
schema_text ExpressionType = codes "expression type does not fit"
schema_text PathNowhere = codes "path leads nowhere"
schema_text VariableMalformed = codes "variable malformed"
schema_text BranchKey = codes "branch key missing or twice"
schema_text NoInitiator = codes "initiator missing in initiated content"
schema_text ElementTwice = codes "element name twice"
schema_text CalculationNotAllowed = codes "calculated value not allowed here"
schema_text EscapeScheme = codes "escape scheme malformed"

-- refusals of documents, X
abbrev pub document_number : DocCause → ℕ
document_number NotUtf8 = 1
document_number CharacterNotAllowed = 2
document_number Malformed = 3
document_number EndTagMismatch = 4
document_number AttributeTwice = 5
document_number UnknownReference = 6
document_number PrefixNotDeclared = 7
document_number DocumentType = 8
document_number EncodingRefused = 9
document_number OneRoot = 10
document_number TooDeep = 11
document_number DocumentEnds = 12

-- what a refusal of a document is told as
abbrev pub document_text : DocCause → List ℕ
document_text NotUtf8 = codes "bytes not UTF-8"
document_text CharacterNotAllowed = codes "character not allowed"
document_text Malformed = codes "markup malformed"
document_text EndTagMismatch = codes "end tag does not match"
document_text AttributeTwice = codes "attribute twice"
document_text UnknownReference = codes "unknown reference"
document_text PrefixNotDeclared = codes "prefix not declared"
document_text DocumentType = codes "document type refused"
document_text EncodingRefused = codes "encoding refused"
document_text OneRoot = codes "one root expected"
document_text TooDeep = codes "nested deeper than 250"
document_text DocumentEnds = codes "document ends"

-- refusals of infosets, I
abbrev pub infoset_number : InfosetCause → ℕ
infoset_number NotJson = 1
infoset_number RootExpected = 2
infoset_number UnknownMember = 3
infoset_number ObjectExpected = 4
infoset_number ArrayExpected = 5
infoset_number StringExpected = 6
infoset_number NotAValue = 7
infoset_number NullNotAllowed = 8

-- what a refusal of an infoset is told as
abbrev pub infoset_text : InfosetCause → List ℕ
infoset_text NotJson = codes "not JSON"
infoset_text RootExpected = codes "root expected"
infoset_text UnknownMember = codes "unknown member"
infoset_text ObjectExpected = codes "object expected"
infoset_text ArrayExpected = codes "array expected"
infoset_text StringExpected = codes "string expected"
infoset_text NotAValue = codes "not a value of the type"
infoset_text NullNotAllowed = codes "null not allowed"

-- limits, L
abbrev pub limit_number : LimitCause → ℕ
limit_number Input = 1
limit_number Window = 2
limit_number Nodes = 3
limit_number Text = 4
limit_number Depth = 5
limit_number Cells = 6
limit_number Held = 7
limit_number Schema = 8
limit_number Schemas = 9
limit_number Rows = 10
