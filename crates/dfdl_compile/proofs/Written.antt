-- What the statements are that calculate values.
use Rattle.std.proofs.Common.{◌≡◌, ℕ, List, [], ◌∷◌, slice_get, Option, None, Some, false, subst}
use Rattle.std.specs.List.{AllZip}
use Rattle.std.specs.Option.{IsSomeAnd, MatchOption}
use Rattle.std.proofs.lemmas.Slice.Zip.{AllZip-left}
use Rattle.dfdl_forms.specs.declared.simple.Simple.{Simple}
use Rattle.dfdl_terms.specs.declared.statement.Statement.{Statement}
use Rattle.dfdl_terms.specs.declared.statement.Statement.TheVariants as any
use Rattle.dfdl_statements.specs.Making.{IsMadeOf, IsOfSource}
use Rattle.dfdl_statements.specs.declared.written.Source.{Source}
use Rattle.dfdl_statements.specs.declared.written.Source.TheVariants as source
use Rattle.dfdl_statements.specs.declared.written.Written.{Written}
use Rattle.dfdl_documents.specs.Documents.{SchemaDocument}
use Rattle.dfdl_written.specs.Noting.{AreAsNoted}
use Rattle.dfdl_written.specs.declared.noted.Noted.{Noted}
use Rattle.dfdl_compile.specs.Primitives.{CalculatesType}
use Rattle.dfdl_compile.specs.Shown.{IsAsWritten}

-- what is noted is a calculation of a value of this type
abbrev pub IsNotedCalculation : Simple → Option Noted → Type 0
IsNotedCalculation simple None = ⊥
IsNotedCalculation simple (Some noted) = (text : List ℕ) × (noted.source ≡ source.Calculation simple text false)

-- a statement of it calculates one of the type
by_statement : (simple : Simple) (noted : Noted) (statement : Statement) (text : List ℕ) → noted.source ≡ source.Calculation simple text false
    → IsAsWritten noted statement → CalculatesType simple (Some statement)
by_statement simple noted (any.Calculation calculation) text is made = subst (λ (x : Source). IsOfSource x (any.Calculation calculation)) is made
by_statement simple noted (any.Pattern test) text is made = subst (λ (x : Source). IsOfSource x (any.Pattern test)) is made
by_statement simple noted (any.Expression test) text is made = subst (λ (x : Source). IsOfSource x (any.Expression test)) is made
by_statement simple noted (any.Setting setting) text is made = subst (λ (x : Source). IsOfSource x (any.Setting setting)) is made
by_statement simple noted (any.Question question) text is made = subst (λ (x : Source). IsOfSource x (any.Question question)) is made
by_statement simple noted (any.Opening opening) text is made = subst (λ (x : Source). IsOfSource x (any.Opening opening)) is made

by_place : (simple : Simple) (o : Option Noted) (p : Option Statement) → MatchOption o (Unit {0}) (λ noted. IsSomeAnd p (IsAsWritten noted))
    → IsNotedCalculation simple o → CalculatesType simple p
by_place simple None p made is = absurd is
by_place simple (Some noted) None made is = absurd made
by_place simple (Some noted) (Some statement) made is = by_statement simple noted statement is.0 is.1 made

pub calculates : (simple : Simple) (noted : List Noted) (statements : List Statement) (number : ℕ) → AllZip IsAsWritten noted statements
    → IsNotedCalculation simple (slice_get noted number) → CalculatesType simple (slice_get statements number)
calculates simple noted statements number made is =
    by_place simple (slice_get noted number) (slice_get statements number) (AllZip-left IsAsWritten noted statements made number) is

-- statements that are made of what is written as it is noted
pub all_as_written : (documents : List SchemaDocument) (noted : List Noted) (written : List Written) (statements : List Statement)
    → AreAsNoted documents noted written → AllZip IsMadeOf written statements → AllZip IsAsWritten noted statements
all_as_written documents [] [] [] are made = tt
all_as_written documents [] [] (s ∷ statements) are made = absurd made
all_as_written documents [] (w ∷ written) statements are made = absurd are
all_as_written documents (n ∷ noted) [] statements are made = absurd are
all_as_written documents (n ∷ noted) (w ∷ written) [] are made = absurd made
all_as_written documents (n ∷ noted) (w ∷ written) (s ∷ statements) are made =
    (subst (λ (x : Source). IsOfSource x s) are.0.source made.0, all_as_written documents noted written statements are.1 made.1)
