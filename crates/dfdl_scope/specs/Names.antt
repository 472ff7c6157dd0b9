-- Mirror for the prover: the names of the properties, by their lengths.
use Rattle.std.specs.Prelude.{ℕ, List, [], ◌∷◌, codes}

-- the names that have no byte, one byte and so on
unfoldable pub names_by_length : List (List (List ℕ))
names_by_length =
    []
    ∷ []
    ∷ []
    ∷ []
    ∷ []
    ∷ []
    ∷ (codes "length" ∷ [])
    ∷ (codes "nilKind" ∷ [])
    ∷ (codes "encoding" ∷ codes "bitOrder" ∷ codes "fillByte" ∷ codes "nilValue" ∷ [])
    ∷ (codes "byteOrder" ∷ codes "alignment" ∷ codes "initiator" ∷ codes "separator" ∷ [])
    ∷ (codes "lengthKind" ∷ codes "terminator" ∷ codes "ignoreCase" ∷ [])
    ∷ (codes "lengthUnits" ∷ codes "leadingSkip" ∷ codes "occursCount" ∷ codes "textPadKind" ∷ [])
    ∷ (codes "trailingSkip" ∷ codes "sequenceKind" ∷ codes "textTrimKind" ∷ [])
    ∷ (codes "lengthPattern" ∷ codes "outputNewLine" ∷ codes "textNumberRep" ∷ [])
    ∷ (codes "representation" ∷ codes "alignmentUnits" ∷ codes "hiddenGroupRef" ∷ codes "inputValueCalc" ∷ [])
    ∷ (codes "choiceBranchKey" ∷ codes "occursCountKind" ∷ codes "escapeSchemeRef" ∷ codes "binaryNumberRep" ∷ codes "outputValueCalc" ∷ [])
    ∷ (codes "prefixLengthType" ∷ codes "initiatedContent" ∷ codes "textStandardBase" ∷ [])
    ∷ (codes "separatorPosition" ∷ codes "choiceDispatchKey" ∷ codes "textNumberPattern" ∷ [])
    ∷ (codes "textNumberRounding" ∷ codes "textZonedSignStyle" ∷ codes "textBooleanTrueRep" ∷ [])
    ∷ (codes "encodingErrorPolicy" ∷ codes "textOutputMinLength" ∷ codes "textBooleanFalseRep" ∷ [])
    ∷ (codes "binaryBooleanTrueRep" ∷ [])
    ∷ (codes "binaryBooleanFalseRep" ∷ codes "binaryPackedSignCodes" ∷ [])
    ∷ (codes "textStringPadCharacter" ∷ codes "textNumberPadCharacter" ∷ codes "textNumberRoundingMode" ∷ [])
    ∷ (codes "textStringJustification" ∷ codes "textNumberJustification" ∷ codes "textBooleanPadCharacter" ∷ codes "binaryNumberCheckPolicy" ∷ codes "nilValueDelimiterPolicy" ∷ [])
    ∷ (codes "textBooleanJustification" ∷ [])
    ∷ (codes "binaryDecimalVirtualPoint" ∷ codes "emptyValueDelimiterPolicy" ∷ [])
    ∷ (codes "prefixIncludesPrefixLength" ∷ codes "separatorSuppressionPolicy" ∷ [])
    ∷ []
    ∷ (codes "textStandardDecimalSeparator" ∷ [])
    ∷ (codes "truncateSpecifiedLengthString" ∷ codes "textStandardGroupingSeparator" ∷ [])
    ∷ []
