-- The properties of the profile: their names, which values each may have, and what stands where no scope gives it
-- ('Property Scoping and DFDL Schema Checking', and the chapters on each property).
use Rattle.std.specs.Prelude.{ℕ, List, [], ◌∷◌, map, codes, Option, Some, None, is_some, if◌then◌else◌, Bool}
use Rattle.std.specs.Str.{bytes_eq}
use Rattle.dfdl_scope.specs.declared.row.Form.{Form}
use Rattle.dfdl_scope.specs.declared.row.Form.TheVariants as form

-- which values a property may have: one of these words, a number from the first to the second, or values of a form
pub data Values : Type 0 where
  Words : List (List ℕ) → Values
  Range : ℕ → ℕ → Values
  Formed : Form → Values

-- what stands where no scope gives a property: a value, a refusal for a property that is missing, a refusal for a branch
-- without a key, or nothing
pub data Absence : Type 0 where
  Else : List ℕ → Absence
  Missing : Absence
  MissingKey : Absence
  Nothing : Absence

-- a property
pub record Row : Type 0 where
  pub name : List ℕ
  pub values : Values
  pub absent : Absence

-- the property of this name
abbrev pub row : List ℕ → Values → Absence → Row
row name values absent = record { name = name; values = values; absent = absent }

-- the words of a property that is set or not
abbrev pub yes_or_no : Values
yes_or_no = Words (codes "yes" ∷ codes "no" ∷ [])

-- the properties, each with its values and what stands in its place
unfoldable pub property_table : List Row
property_table =
    row (codes "representation") (Words (codes "text" ∷ codes "binary" ∷ [])) Missing
    ∷ row (codes "encoding") (Formed form.Encoding) Missing
    ∷ row (codes "encodingErrorPolicy") (Words (codes "error" ∷ codes "replace" ∷ [])) (Else (codes "replace"))
    ∷ row (codes "byteOrder") (Words (codes "bigEndian" ∷ codes "littleEndian" ∷ [])) Missing
    ∷ row (codes "bitOrder") (Words (codes "mostSignificantBitFirst" ∷ codes "leastSignificantBitFirst" ∷ [])) (Else (codes "mostSignificantBitFirst"))
    ∷ row (codes "lengthKind") (Words (codes "explicit" ∷ codes "implicit" ∷ codes "prefixed" ∷ codes "delimited" ∷ codes "pattern" ∷ [])) Missing
    ∷ row (codes "length") (Formed form.NumberOrExpression) Missing
    ∷ row (codes "lengthUnits") (Words (codes "bits" ∷ codes "bytes" ∷ codes "characters" ∷ [])) (Else (codes "bytes"))
    ∷ row (codes "lengthPattern") (Formed form.Pattern) Missing
    ∷ row (codes "prefixLengthType") (Formed form.Name) Missing
    ∷ row (codes "prefixIncludesPrefixLength") yes_or_no (Else (codes "no"))
    ∷ row (codes "alignment") (Formed form.Alignment) (Else (codes "1"))
    ∷ row (codes "alignmentUnits") (Words (codes "bits" ∷ codes "bytes" ∷ [])) (Else (codes "bits"))
    ∷ row (codes "leadingSkip") (Range 0 65536) (Else (codes "0"))
    ∷ row (codes "trailingSkip") (Range 0 65536) (Else (codes "0"))
    ∷ row (codes "fillByte") (Formed form.FillByte) (Else (codes "%#r00;"))
    ∷ row (codes "initiator") (Formed form.LiteralsOrEmpty) (Else (codes ""))
    ∷ row (codes "terminator") (Formed form.LiteralsOrEmpty) (Else (codes ""))
    ∷ row (codes "separator") (Formed form.LiteralsOrEmpty) (Else (codes ""))
    ∷ row (codes "separatorPosition") (Words (codes "infix" ∷ codes "prefix" ∷ codes "postfix" ∷ [])) (Else (codes "infix"))
    ∷ row (codes "separatorSuppressionPolicy") (Words (codes "never" ∷ codes "trailingEmpty" ∷ codes "trailingEmptyStrict" ∷ codes "anyEmpty" ∷ [])) (Else (codes "anyEmpty"))
    ∷ row (codes "initiatedContent") yes_or_no (Else (codes "no"))
    ∷ row (codes "ignoreCase") yes_or_no (Else (codes "no"))
    ∷ row (codes "outputNewLine") (Formed form.NewLine) (Else (codes "%LF;"))
    ∷ row (codes "sequenceKind") (Words (codes "ordered" ∷ [])) (Else (codes "ordered"))
    ∷ row (codes "hiddenGroupRef") (Formed form.Name) Nothing
    ∷ row (codes "choiceDispatchKey") (Formed form.Expression) Nothing
    ∷ row (codes "choiceBranchKey") (Formed form.Literals) MissingKey
    ∷ row (codes "occursCountKind") (Words (codes "fixed" ∷ codes "expression" ∷ codes "implicit" ∷ codes "parsed" ∷ [])) (Else (codes "implicit"))
    ∷ row (codes "occursCount") (Formed form.Expression) Missing
    ∷ row (codes "textTrimKind") (Words (codes "none" ∷ codes "padChar" ∷ [])) (Else (codes "none"))
    ∷ row (codes "textPadKind") (Words (codes "none" ∷ codes "padChar" ∷ [])) (Else (codes "none"))
    ∷ row (codes "textStringJustification") (Words (codes "left" ∷ codes "right" ∷ codes "center" ∷ [])) (Else (codes "left"))
    ∷ row (codes "textBooleanJustification") (Words (codes "left" ∷ codes "right" ∷ codes "center" ∷ [])) (Else (codes "left"))
    ∷ row (codes "textNumberJustification") (Words (codes "left" ∷ codes "right" ∷ codes "center" ∷ [])) (Else (codes "right"))
    ∷ row (codes "textStringPadCharacter") (Formed form.Character) (Else (codes "%SP;"))
    ∷ row (codes "textBooleanPadCharacter") (Formed form.Character) (Else (codes "%SP;"))
    ∷ row (codes "textNumberPadCharacter") (Formed form.Character) (Else (codes "%SP;"))
    ∷ row (codes "textOutputMinLength") (Formed form.Number) (Else (codes "0"))
    ∷ row (codes "truncateSpecifiedLengthString") yes_or_no (Else (codes "no"))
    ∷ row (codes "escapeSchemeRef") (Formed form.NameOrEmpty) (Else (codes ""))
    ∷ row (codes "textNumberRep") (Words (codes "standard" ∷ codes "zoned" ∷ [])) (Else (codes "standard"))
    ∷ row (codes "textNumberPattern") (Formed form.NumberPattern) Missing
    ∷ row (codes "textStandardBase") (Words (codes "2" ∷ codes "8" ∷ codes "10" ∷ codes "16" ∷ [])) (Else (codes "10"))
    ∷ row (codes "textStandardDecimalSeparator") (Formed form.Character) (Else (codes "."))
    ∷ row (codes "textStandardGroupingSeparator") (Formed form.Character) (Else (codes ","))
    ∷ row (codes "textNumberRounding") (Words (codes "pattern" ∷ codes "explicit" ∷ [])) (Else (codes "pattern"))
    ∷ row (codes "textNumberRoundingMode") (Words (codes "roundCeiling" ∷ codes "roundFloor" ∷ codes "roundDown" ∷ codes "roundUp" ∷ codes "roundHalfEven" ∷ codes "roundHalfDown" ∷ codes "roundHalfUp" ∷ codes "roundUnnecessary" ∷ [])) (Else (codes "roundHalfEven"))
    ∷ row (codes "textZonedSignStyle") (Words (codes "asciiStandard" ∷ codes "asciiTranslatedEBCDIC" ∷ [])) (Else (codes "asciiStandard"))
    ∷ row (codes "textBooleanTrueRep") (Formed form.Literals) (Else (codes "true"))
    ∷ row (codes "textBooleanFalseRep") (Formed form.Literals) (Else (codes "false"))
    ∷ row (codes "binaryBooleanTrueRep") (Formed form.NumberOrEmpty) (Else (codes ""))
    ∷ row (codes "binaryBooleanFalseRep") (Formed form.NumberOrEmpty) (Else (codes "0"))
    ∷ row (codes "binaryNumberRep") (Words (codes "binary" ∷ codes "packed" ∷ codes "bcd" ∷ codes "ibm4690Packed" ∷ [])) Missing
    ∷ row (codes "binaryPackedSignCodes") (Formed form.SignCodes) (Else (codes "C D F C"))
    ∷ row (codes "binaryNumberCheckPolicy") (Words (codes "strict" ∷ codes "lax" ∷ [])) (Else (codes "lax"))
    ∷ row (codes "binaryDecimalVirtualPoint") (Range 0 38) (Else (codes "0"))
    ∷ row (codes "nilKind") (Words (codes "literalValue" ∷ codes "literalCharacter" ∷ codes "logicalValue" ∷ [])) Missing
    ∷ row (codes "nilValue") (Formed form.Literals) Missing
    ∷ row (codes "nilValueDelimiterPolicy") (Words (codes "none" ∷ codes "initiator" ∷ codes "terminator" ∷ codes "both" ∷ [])) (Else (codes "both"))
    ∷ row (codes "emptyValueDelimiterPolicy") (Words (codes "none" ∷ codes "initiator" ∷ codes "terminator" ∷ codes "both" ∷ [])) (Else (codes "both"))
    ∷ row (codes "inputValueCalc") (Formed form.Expression) Nothing
    ∷ row (codes "outputValueCalc") (Formed form.Expression) Nothing
    ∷ []

-- the first property of a name
abbrev pub row_named : List Row → List ℕ → Option Row
row_named [] name = None
row_named (row ∷ rows) name = if bytes_eq row.name name then Some row else row_named rows name

-- the profile has a property of this name; it has none of the name `ref`, which is no property but names a format
abbrev pub is_property : List ℕ → Bool
is_property name = is_some (row_named property_table name)

-- the names of properties
abbrev pub names_of : List Row → List (List ℕ)
names_of rows = map (λ row. row.name) rows
