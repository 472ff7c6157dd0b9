-- Tables of rows: each row's children stand below it.
use Rattle.std.specs.Prelude.{◌≡◌, ℕ, ◌<◌, ◌≤◌, ◌+◌, ◌-◌, List, length, All, IsUtf8, slice_get, Option, None, Some}
use Rattle.dfdl_forms.specs.BinaryNumbers.{IsIntForm, IsPackedForm, IsTruthForm}
use Rattle.dfdl_forms.specs.NumberForms.{IsNumberForm}
use Rattle.dfdl_forms.specs.Packed.{IsZonedForm}
use Rattle.dfdl_value.specs.declared.value.Value.{Value}
use Rattle.dfdl_value.specs.declared.value.Value.TheVariants as value
use Rattle.dfdl_terms.specs.declared.representations.Representations.{Representations}
use Rattle.dfdl_terms.specs.declared.text.TextContent.{TextContent}
use Rattle.dfdl_terms.specs.declared.text.TextContent.TheVariants.{Plain, Octets as TextOctets, Number, Zoned, Truth as TextTruth, Nil}
use Rattle.dfdl_terms.specs.declared.text.DefaultForm.{DefaultForm}
use Rattle.dfdl_terms.specs.declared.text.TextForm.{TextForm}
use Rattle.dfdl_terms.specs.declared.text.TextSize.{TextSize}
use Rattle.dfdl_terms.specs.declared.text.TextSize.TheVariants.{Bits, Characters, Delimited}
use Rattle.dfdl_terms.specs.declared.row.Primitive.{Primitive}
use Rattle.dfdl_terms.specs.declared.row.Primitive.TheVariants.{Integer, Packed, Truth, Octets, Text, NilOctets, Default, NilValues, Pattern}
use Rattle.dfdl_terms.specs.declared.row.Row.{Row}
use Rattle.dfdl_terms.specs.declared.row.Row.TheVariants.{Leaf, Elem, Group, Skip, Align, Initiator, Terminator, Separator, Scope, Boxed, PrefixedLeaf, PrefixedBox, MeasuredLeaf, MeasuredBox, Repeat, Counted, Optional, Choice, Dispatch, Statement, Concluded, Hidden, Spanned, Instance, Separated}
use Rattle.dfdl_terms.specs.declared.delimiters.Delimiters.{Delimiters}
use Rattle.dfdl_terms.specs.declared.statement.Statements.{Statements}
use Rattle.dfdl_terms.specs.declared.statement.Statement.{Statement as AnyStatement}
use Rattle.dfdl_vars.specs.declared.values.VarDef.{VarDef}
use Rattle.dfdl_terms.specs.Tables.{Named}

-- the rows of a schema, and what they name by numbers
pub record Table : Type 0 where
  pub rows : List Row
  pub primitives : List Primitive
  pub delimiters : List Delimiters
  pub statements : List AnyStatement
  pub names : List (Option ℕ)
  pub variables : List VarDef

-- rows, and what they name
abbrev pub table_of : List Row → Named → Table
table_of rows named = record {
  rows = rows;
  primitives = named.primitives;
  delimiters = named.delimiters;
  statements = named.statements;
  names = named.names;
  variables = named.variables;
}

-- what the rows of a table name
abbrev pub named_by : Table → Named
named_by t = record {
  primitives = t.primitives;
  delimiters = t.delimiters;
  statements = t.statements;
  names = t.names;
  variables = t.variables;
}

-- the most rows of one schema
abbrev pub most_rows : ℕ
most_rows = 65535

-- each child of the row is below the bound
abbrev pub ChildrenBelow : ℕ → Row → Type 0
ChildrenBelow bound (Leaf prim) = Unit {0}
ChildrenBelow bound (Elem name simple tried behind body) = body < bound
ChildrenBelow bound (Group children) = All (λ c. c < bound) children
ChildrenBelow bound (Skip bits) = Unit {0}
ChildrenBelow bound (Align bits) = Unit {0}
ChildrenBelow bound (Initiator delimiter) = Unit {0}
ChildrenBelow bound (Terminator delimiter separators) = Unit {0}
ChildrenBelow bound Separator = Unit {0}
ChildrenBelow bound (Scope list body) = body < bound
ChildrenBelow bound (Boxed bits body) = body < bound
ChildrenBelow bound (PrefixedLeaf prefix prim) = Unit {0}
ChildrenBelow bound (PrefixedBox prefix body) = body < bound
ChildrenBelow bound (MeasuredLeaf measure prim) = Unit {0}
ChildrenBelow bound (MeasuredBox measure body) = body < bound
ChildrenBelow bound (Repeat count body) = body < bound
ChildrenBelow bound (Counted question body) = body < bound
ChildrenBelow bound (Optional most item initiated body) = body < bound
ChildrenBelow bound (Choice branches initiated) = All (λ b. b < bound) branches
ChildrenBelow bound (Dispatch question keys) = All (λ key. key.body < bound) keys
ChildrenBelow bound (Statement statement) = Unit {0}
ChildrenBelow bound (Concluded behind body) = body < bound
ChildrenBelow bound (Hidden body) = body < bound
ChildrenBelow bound (Spanned body) = body < bound
ChildrenBelow bound (Instance statement body) = body < bound
ChildrenBelow bound (Separated policy position initiated slots) = All (λ slot. slot.body < bound) slots

-- each child is below its row, for the first so many rows
abbrev pub NestsBelow : ℕ → List Row → Type 0
NestsBelow count rows = (i : ℕ) (row : Row) → i < count → slice_get rows i ≡ Some row → ChildrenBelow i row

-- each child is below its row
abbrev pub Nests : List Row → Type 0
Nests rows = NestsBelow (length rows) rows

-- the row has a child that isn't below it, and no row before it has one
pub record IsFirstBad (rows : List Row) (at : ℕ) : Type 0 where
  pub row : Row
  pub there : slice_get rows at ≡ Some row
  pub bad : ChildrenBelow at row → ⊥
  pub before : NestsBelow at rows

-- the number is one of so many, where there is one
abbrev pub IsWithin : ℕ → Option ℕ → Type 0
IsWithin count None = Unit {0}
IsWithin count (Some number) = number < count

-- the primitives of the representations that are tried are some of so many
abbrev pub AreWithin : ℕ → Representations → Type 0
AreWithin primitives tried = IsWithin primitives tried.nil × IsWithin primitives tried.empty × IsWithin primitives tried.where_tried.empty

-- these statements are some of so many
abbrev pub AreStatements : ℕ → Statements → Type 0
AreStatements count statements = statements.first + statements.count ≤ count

-- the row's numbers are in the tables
abbrev pub NamesWithin : Named → Row → Type 0
NamesWithin named (Leaf prim) = prim < length named.primitives
NamesWithin named (Elem name simple tried behind body) = AreWithin (length named.primitives) tried × AreStatements (length named.statements) behind
NamesWithin named (Group children) = Unit {0}
NamesWithin named (Skip bits) = Unit {0}
NamesWithin named (Align bits) = Unit {0}
NamesWithin named (Initiator delimiter) = delimiter.list < length named.delimiters
NamesWithin named (Terminator delimiter separators) = (delimiter.list < length named.delimiters) × IsWithin (length named.delimiters) separators
NamesWithin named Separator = Unit {0}
NamesWithin named (Scope list body) = list < length named.delimiters
NamesWithin named (Boxed bits body) = Unit {0}
NamesWithin named (PrefixedLeaf prefix prim) = (prefix.prim < length named.primitives) × (prim < length named.primitives)
NamesWithin named (PrefixedBox prefix body) = prefix.prim < length named.primitives
NamesWithin named (MeasuredLeaf measure prim) = (measure.question < length named.statements) × (prim < length named.primitives)
NamesWithin named (MeasuredBox measure body) = measure.question < length named.statements
NamesWithin named (Repeat count body) = Unit {0}
NamesWithin named (Counted question body) = question < length named.statements
NamesWithin named (Optional most item initiated body) = Unit {0}
NamesWithin named (Choice branches initiated) = Unit {0}
NamesWithin named (Dispatch question keys) = question < length named.statements
NamesWithin named (Statement statement) = statement < length named.statements
NamesWithin named (Concluded behind body) = AreStatements (length named.statements) behind
NamesWithin named (Hidden body) = Unit {0}
NamesWithin named (Spanned body) = Unit {0}
NamesWithin named (Instance statement body) = statement < length named.statements
NamesWithin named (Separated policy position initiated slots) = All (λ slot. IsWithin (length named.statements) slot.question) slots

-- the greatest constant length, in bits (profile)
abbrev pub most_length : ℕ
most_length = 8589934592

-- a text has no more bits or characters than the greatest length
abbrev pub IsTextSize : TextSize → Type 0
IsTextSize (Bits n) = n ≤ most_length
IsTextSize (Characters n) = n ≤ most_length
IsTextSize (Delimited scan) = Unit {0}

-- the form of what characters are read as keeps its bounds
abbrev pub IsTextContent : TextContent → Type 0
IsTextContent Plain = Unit {0}
IsTextContent TextOctets = Unit {0}
IsTextContent (Number form kind) = IsNumberForm form
IsTextContent (Zoned form) = IsZonedForm form
IsTextContent (TextTruth form) = Unit {0}
IsTextContent (Nil form) = Unit {0}

-- the form of a text keeps its bounds
pub record IsTextForm (form : TextForm) : Type 0 where
  pub size : IsTextSize form.size
  pub content : IsTextContent form.content

-- a text is one of characters, as UTF-8
abbrev pub IsWritten : Value → Type 0
IsWritten (value.Int number) = Unit {0}
IsWritten (value.Uns number) = Unit {0}
IsWritten (value.Dec number) = Unit {0}
IsWritten (value.Text text) = IsUtf8 text
IsWritten (value.Truth truth) = Unit {0}
IsWritten (value.Bytes bytes) = Unit {0}

-- the form of an empty representation keeps its bounds
pub record IsDefaultForm (form : DefaultForm) : Type 0 where
  pub size : IsTextSize form.size
  pub value : IsWritten form.value

-- the form of a primitive keeps the bounds of its type
abbrev pub IsPrimitive : Primitive → Type 0
IsPrimitive (Integer form) = IsIntForm form
IsPrimitive (Packed form) = IsPackedForm form
IsPrimitive (Truth form) = IsTruthForm form
IsPrimitive (Octets form) = form.bits ≤ most_length
IsPrimitive (Text form) = IsTextForm form
IsPrimitive (NilOctets form) = form.octets.bits ≤ most_length
IsPrimitive (Default form) = IsDefaultForm form
IsPrimitive (NilValues form) = Unit {0}
IsPrimitive (Pattern form) = Unit {0}

-- the row is an element
abbrev pub IsElementRow : Option Row → Type 0
IsElementRow (Some (Elem name simple tried behind body)) = Unit {0}
IsElementRow (Some (Leaf prim)) = ⊥
IsElementRow (Some (Group children)) = ⊥
IsElementRow (Some (Skip bits)) = ⊥
IsElementRow (Some (Align bits)) = ⊥
IsElementRow (Some (Initiator delimiter)) = ⊥
IsElementRow (Some (Terminator delimiter separators)) = ⊥
IsElementRow (Some Separator) = ⊥
IsElementRow (Some (Scope list body)) = ⊥
IsElementRow (Some (Boxed bits body)) = ⊥
IsElementRow (Some (PrefixedLeaf prefix prim)) = ⊥
IsElementRow (Some (PrefixedBox prefix body)) = ⊥
IsElementRow (Some (MeasuredLeaf measure prim)) = ⊥
IsElementRow (Some (MeasuredBox measure body)) = ⊥
IsElementRow (Some (Repeat count body)) = ⊥
IsElementRow (Some (Counted question body)) = ⊥
IsElementRow (Some (Optional most item initiated body)) = ⊥
IsElementRow (Some (Choice branches initiated)) = ⊥
IsElementRow (Some (Dispatch question keys)) = ⊥
IsElementRow (Some (Statement statement)) = ⊥
IsElementRow (Some (Concluded behind body)) = ⊥
IsElementRow (Some (Hidden body)) = ⊥
IsElementRow (Some (Spanned body)) = ⊥
IsElementRow (Some (Instance statement body)) = ⊥
IsElementRow (Some (Separated policy position initiated slots)) = ⊥
IsElementRow None = ⊥

-- the last row is an element
abbrev pub HasElementLast : Table → Type 0
HasElementLast t = IsElementRow (slice_get t.rows (length t.rows - 1))

-- rows that can be a schema's
pub record IsTable (t : Table) : Type 0 where
  pub some : 0 < length t.rows
  pub few : length t.rows ≤ most_rows
  pub nests : Nests t.rows
  pub named : All (NamesWithin (named_by t)) t.rows
  pub bounded : All IsPrimitive t.primitives

-- a row of the content alone: neither fill nor a delimiter nor a prefix nor a box around a content
abbrev pub IsPlainRow : Row → Type 0
IsPlainRow (Leaf prim) = Unit {0}
IsPlainRow (Elem name simple tried behind body) = Unit {0}
IsPlainRow (Group children) = Unit {0}
IsPlainRow (Skip bits) = ⊥
IsPlainRow (Align bits) = ⊥
IsPlainRow (Initiator delimiter) = ⊥
IsPlainRow (Terminator delimiter separators) = ⊥
IsPlainRow Separator = ⊥
IsPlainRow (Scope list body) = ⊥
IsPlainRow (Boxed bits body) = ⊥
IsPlainRow (PrefixedLeaf prefix prim) = ⊥
IsPlainRow (PrefixedBox prefix body) = ⊥
IsPlainRow (MeasuredLeaf measure prim) = ⊥
IsPlainRow (MeasuredBox measure body) = ⊥
IsPlainRow (Repeat count body) = ⊥
IsPlainRow (Counted question body) = ⊥
IsPlainRow (Optional most item initiated body) = ⊥
IsPlainRow (Choice branches initiated) = ⊥
IsPlainRow (Dispatch question keys) = ⊥
IsPlainRow (Statement statement) = ⊥
IsPlainRow (Concluded behind body) = ⊥
IsPlainRow (Hidden body) = ⊥
IsPlainRow (Spanned body) = Unit {0}
IsPlainRow (Instance statement body) = ⊥
IsPlainRow (Separated policy position initiated slots) = ⊥

-- each row is of the content alone
abbrev pub HasPlainRows : List Row → Type 0
HasPlainRows rows = All IsPlainRow rows
