-- Causes of documents with one number are one.
use Rattle.std.proofs.Common.{◌≡◌, Some, refl, sym, ap, ◌∙◌}
use Rattle.dfdl_report.specs.declared.cause.DocCause.{DocCause}
use Rattle.dfdl_report.specs.declared.cause.DocCause.TheVariants.{NotUtf8, CharacterNotAllowed, Malformed, EndTagMismatch}
use Rattle.dfdl_report.specs.declared.cause.DocCause.TheVariants.{AttributeTwice, UnknownReference, PrefixNotDeclared, DocumentType}
use Rattle.dfdl_report.specs.declared.cause.DocCause.TheVariants.{EncodingRefused, OneRoot, TooDeep, DocumentEnds}
use Rattle.dfdl_report.specs.Causes.{document_number}
use Rattle.std.specs.List.{slice_get}
use Rattle.std.specs.Prelude.{List, [], ◌∷◌}

-- all causes, by their numbers
abbrev all_causes : List DocCause
all_causes = NotUtf8 ∷ NotUtf8 ∷ CharacterNotAllowed ∷ Malformed ∷ EndTagMismatch ∷ AttributeTwice ∷ UnknownReference ∷ PrefixNotDeclared ∷ DocumentType ∷ EncodingRefused ∷ OneRoot ∷ TooDeep ∷ DocumentEnds ∷ []

numbered : (cause : DocCause) → slice_get all_causes (document_number cause) ≡ Some cause
numbered NotUtf8 = refl
numbered CharacterNotAllowed = refl
numbered Malformed = refl
numbered EndTagMismatch = refl
numbered AttributeTwice = refl
numbered UnknownReference = refl
numbered PrefixNotDeclared = refl
numbered DocumentType = refl
numbered EncodingRefused = refl
numbered OneRoot = refl
numbered TooDeep = refl
numbered DocumentEnds = refl

some_is : (a b : DocCause) → Some a ≡ Some b → a ≡ b
some_is a b is = cc

pub one_cause_of : (a b : DocCause) → document_number a ≡ document_number b → a ≡ b
one_cause_of a b is =
    some_is a b (sym (numbered a) ∙ ap (λ n. slice_get all_causes n) is ∙ numbered b)
