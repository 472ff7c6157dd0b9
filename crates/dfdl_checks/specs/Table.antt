-- Which properties are asked of which components, and which of their values are built. Each property of the profile that
-- is not here applies to components of later forms alone, as to the least length of strings; but outputNewLine, which NewLines judges.
use Rattle.std.specs.Prelude.{ℕ, List, [], ◌∷◌, Bool, true, false, codes}
use Rattle.dfdl_checks.specs.Values.{is_among, is_number, is_within}
use Rattle.dfdl_checks.specs.declared.applicability.Bearers.{Bearers}
use Rattle.dfdl_checks.specs.declared.applicability.Bearers.TheVariants.{EveryComponent, FramedComponents, Elements, OtherElements, SimpleElements, NillableElements, TextNillables, RepresentedElements, BoxedElements, Strings, PaddedStrings, PaddedBooleans, PaddedNumbers, Texts, TextNumbers, TextBooleans, StandardNumbers, ZonedNumbers, PatternNumbers, LooseTexts, BinaryNumbers, BinaryBooleans, OrderedBinaries, ExplicitBinaries, ExplicitBoxes, ImplicitStrings, PrefixedElements, PackedNumbers, BinaryDecimals, PatternElements, DelimitedBytes, DelimitedComponents, Groups, Sequences, SeparatedSequences, EmptySequences, Choices, CountedElements, CountedByExpression, TestedComponents, KeyedBranches}
use Rattle.dfdl_checks.specs.declared.purpose.Purpose.{Purpose}
use Rattle.dfdl_checks.specs.declared.purpose.Purpose.TheVariants.{Parsing, Unparsing}

-- which values are built
pub data Built : Type 0 where
  Words : List (List ℕ) → Built
  Number : ℕ → Built
  EachNumber : Built
  EveryValue : Built
  NoValue : Built

-- a text is a value that is built
abbrev pub is_built : Built → List ℕ → Bool
is_built (Words words) text = is_among words text
is_built (Number number) text = is_within number number text
is_built EachNumber text = is_number text
is_built EveryValue text = true
is_built NoValue text = false

-- a property, some of the components that it applies to, and which of its values are built there, for parsing and for
-- unparsing
pub record Applicability : Type 0 where
  pub name : List ℕ
  pub bearers : Bearers
  pub parsing : Built
  pub unparsing : Built

-- the values that are built for a purpose
abbrev pub built_for : Purpose → Applicability → Built
built_for Parsing a = a.parsing
built_for Unparsing a = a.unparsing

-- the property of this name
abbrev pub applies_by : List ℕ → Bearers → Built → Built → Applicability
applies_by name bearers parsing unparsing = record { name = name; bearers = bearers; parsing = parsing; unparsing = unparsing }

-- the property of this name, where the same values are built for both
abbrev pub applies : List ℕ → Bearers → Built → Applicability
applies name bearers built = applies_by name bearers built built

-- one word alone is built
abbrev pub word : List ℕ → Built
word text = Words (text ∷ [])

-- each kind of length
abbrev pub length_kinds : Built
length_kinds = Words (codes "implicit" ∷ codes "explicit" ∷ codes "prefixed" ∷ codes "delimited" ∷ codes "pattern" ∷ [])

-- the properties, in the order of the profile, and last one for what isn't told by properties. A binary number of delimited length, with a length by a pattern or with a
-- length in characters is refused by a rule of its own, so these values, and its pattern, are no forms that come later; so is
-- a binary boolean of delimited length or with a length in characters
unfoldable pub applicability_table : List Applicability
applicability_table =
    applies_by (codes "representation") RepresentedElements EveryValue (word (codes "binary"))
    ∷ applies (codes "encoding") Texts EveryValue
    ∷ applies (codes "encoding") TextNillables EveryValue
    ∷ applies (codes "encoding") PatternElements EveryValue
    ∷ applies (codes "encoding") DelimitedBytes EveryValue
    ∷ applies (codes "encoding") DelimitedComponents EveryValue
    ∷ applies (codes "encodingErrorPolicy") Texts EveryValue
    ∷ applies (codes "byteOrder") OrderedBinaries EveryValue
    ∷ applies_by (codes "bitOrder") EveryComponent EveryValue (word (codes "mostSignificantBitFirst"))
    ∷ applies_by (codes "lengthKind") OtherElements length_kinds (word (codes "implicit"))
    ∷ applies_by (codes "lengthKind") BoxedElements length_kinds (word (codes "implicit"))
    ∷ applies_by (codes "lengthKind") BinaryNumbers length_kinds (Words (codes "implicit" ∷ codes "delimited" ∷ codes "pattern" ∷ []))
    ∷ applies_by (codes "lengthKind") BinaryBooleans length_kinds (word (codes "implicit"))
    ∷ applies_by (codes "length") ExplicitBinaries EveryValue EachNumber
    ∷ applies_by (codes "length") ExplicitBoxes EveryValue EachNumber
    ∷ applies (codes "lengthUnits") ExplicitBinaries EveryValue
    ∷ applies (codes "lengthUnits") ExplicitBoxes EveryValue
    ∷ applies (codes "lengthUnits") ImplicitStrings EveryValue
    ∷ applies (codes "lengthUnits") PrefixedElements EveryValue
    ∷ applies (codes "lengthPattern") PatternElements EveryValue
    ∷ applies (codes "prefixLengthType") PrefixedElements EveryValue
    ∷ applies (codes "prefixIncludesPrefixLength") PrefixedElements EveryValue
    ∷ applies_by (codes "alignment") FramedComponents EveryValue (Number 1)
    ∷ applies_by (codes "alignmentUnits") FramedComponents EveryValue (word (codes "bits"))
    ∷ applies_by (codes "leadingSkip") FramedComponents EveryValue (Number 0)
    ∷ applies_by (codes "trailingSkip") FramedComponents EveryValue (Number 0)
    ∷ applies_by (codes "fillByte") FramedComponents EveryValue (word (codes "%#r00;"))
    ∷ applies_by (codes "initiator") FramedComponents EveryValue (word (codes ""))
    ∷ applies_by (codes "terminator") FramedComponents EveryValue (word (codes ""))
    ∷ applies_by (codes "separator") Sequences EveryValue (word (codes ""))
    ∷ applies (codes "separatorPosition") SeparatedSequences EveryValue
    ∷ applies (codes "separatorSuppressionPolicy") SeparatedSequences EveryValue
    ∷ applies_by (codes "initiatedContent") Groups EveryValue (word (codes "no"))
    ∷ applies (codes "ignoreCase") TextBooleans EveryValue
    ∷ applies (codes "ignoreCase") TextNillables EveryValue
    ∷ applies (codes "ignoreCase") DelimitedComponents EveryValue
    ∷ applies (codes "sequenceKind") Sequences (word (codes "ordered"))
    ∷ applies_by (codes "hiddenGroupRef") EmptySequences EveryValue NoValue
    ∷ applies_by (codes "choiceDispatchKey") Choices EveryValue NoValue
    ∷ applies_by (codes "occursCountKind") CountedElements EveryValue NoValue
    ∷ applies_by (codes "occursCount") CountedByExpression EveryValue NoValue
    ∷ applies_by (codes "textTrimKind") Texts EveryValue (word (codes "none"))
    ∷ applies_by (codes "textPadKind") Texts EveryValue (word (codes "none"))
    ∷ applies (codes "textStringJustification") Strings EveryValue
    ∷ applies (codes "textBooleanJustification") TextBooleans EveryValue
    ∷ applies (codes "textNumberJustification") TextNumbers EveryValue
    ∷ applies (codes "textStringPadCharacter") PaddedStrings EveryValue
    ∷ applies (codes "textBooleanPadCharacter") PaddedBooleans EveryValue
    ∷ applies (codes "textNumberPadCharacter") PaddedNumbers EveryValue
    ∷ applies (codes "textOutputMinLength") LooseTexts EveryValue
    ∷ applies (codes "truncateSpecifiedLengthString") Strings EveryValue
    ∷ applies_by (codes "escapeSchemeRef") Texts EveryValue (word (codes ""))
    ∷ applies (codes "textNumberRep") TextNumbers EveryValue
    ∷ applies (codes "textNumberPattern") PatternNumbers EveryValue
    ∷ applies (codes "textStandardBase") StandardNumbers EveryValue
    ∷ applies (codes "textStandardDecimalSeparator") StandardNumbers EveryValue
    ∷ applies (codes "textStandardGroupingSeparator") StandardNumbers EveryValue
    ∷ applies (codes "textNumberRounding") StandardNumbers EveryValue
    ∷ applies (codes "textNumberRoundingMode") StandardNumbers EveryValue
    ∷ applies (codes "textZonedSignStyle") ZonedNumbers EveryValue
    ∷ applies (codes "textBooleanTrueRep") TextBooleans EveryValue
    ∷ applies (codes "textBooleanFalseRep") TextBooleans EveryValue
    ∷ applies (codes "binaryBooleanTrueRep") BinaryBooleans EveryValue
    ∷ applies (codes "binaryBooleanFalseRep") BinaryBooleans EveryValue
    ∷ applies_by (codes "binaryNumberRep") BinaryNumbers EveryValue (word (codes "binary"))
    ∷ applies (codes "binaryPackedSignCodes") PackedNumbers EveryValue
    ∷ applies (codes "binaryNumberCheckPolicy") PackedNumbers EveryValue
    ∷ applies (codes "binaryDecimalVirtualPoint") BinaryDecimals EveryValue
    ∷ applies (codes "nilKind") NillableElements EveryValue
    ∷ applies (codes "nilValue") NillableElements EveryValue
    ∷ applies (codes "nilValueDelimiterPolicy") SimpleElements EveryValue
    ∷ applies (codes "emptyValueDelimiterPolicy") SimpleElements EveryValue
    ∷ applies_by (codes "inputValueCalc") Elements EveryValue NoValue
    ∷ applies_by (codes "outputValueCalc") Elements EveryValue NoValue
    ∷ applies (codes "encoding") TestedComponents EveryValue
    ∷ applies (codes "choiceBranchKey") KeyedBranches EveryValue
    ∷ []
