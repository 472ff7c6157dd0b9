-- What a run has decided is what is expected of it, or an end that comes before that.
use Rattle.std.proofs.Common.{◌≡◌, ◌⊎◌, ℕ, zero, suc, ◌+◌, ◌<◌, ◌≤◌, IsTrue, List, length, Option, None, Some, IfSome, Result, Ok}
use Rattle.std.proofs.Common.{Err, refl, sym, ap, subst, ◌∙◌, inl, inr, arith}
use Rattle.dfdl_fronts.specs.Fronts.{IsPlace}
use Rattle.dfdl_fronts.proofs.Places.{one_place}
use Rattle.dfdl_edge.specs.Faults.{Rose}
use Rattle.dfdl_edge.specs.Files.{FilesSeen}
use Rattle.dfdl_report.specs.declared.cause.SchemaCause.{SchemaCause}
use Rattle.dfdl_report.specs.declared.cause.LimitCause.{LimitCause}
use Rattle.dfdl_report.specs.declared.cause.LimitCause.TheVariants.{Input, Schema, Schemas}
use Rattle.dfdl_documents.specs.Documents.{SchemaDocument}
use Rattle.dfdl_documents.specs.Loading.{AreLoaded, document_at}
use Rattle.dfdl_documents.specs.Faults.{EndsBy, Request}
use Rattle.dfdl_documents.specs.Told.{AreTold, IsDue, IsUntold}
use Rattle.dfdl_documents.specs.declared.fault.DocumentsFault.{DocumentsFault}
use Rattle.dfdl_documents.specs.declared.fault.DocumentsFault.TheVariants as fault
use Rattle.dfdl_report.specs.declared.place.Place.{Place}
use Rattle.dfdl_markup.specs.Trees.{node_at}
use Rattle.dfdl_components.specs.declared.site.Site.{Site}
use Rattle.dfdl_components.specs.Sites.{StandsBefore, nodes_of}
use Rattle.dfdl_components.specs.Rules.{AllKeep, IsFirst, Rule, loading_rules}
use Rattle.dfdl_components.specs.Faults.{IsRefused}
use Rattle.dfdl_terms.specs.Rows.{Table}
use Rattle.dfdl_run.specs.declared.stop.Stop.{Stop}
use Rattle.dfdl_run.specs.declared.stop.Stop.TheVariants.{Usage, FilesFailed, NoDocument, Refused}
use Rattle.dfdl_run.specs.declared.stop.Stop.TheVariants.{SourceFailed}
use Rattle.dfdl_run.specs.declared.stop.Stop.TheVariants.{Limit, OutOfMemory}
use Rattle.dfdl_run.specs.declared.command.Verb.{Verb}
use Rattle.dfdl_run.specs.declared.command.Verb.TheVariants.{Parse, Unparse}
use Rattle.dfdl_run.specs.Answer.{End}
use Rattle.dfdl_run.specs.Command.{Order, Orders, IsCommand, verb_word}
use Rattle.dfdl_run.specs.Decided.{Decided, by_words, by_schema, by_data, IsDescribed, IsLoadFault}
use Rattle.dfdl_run.specs.Decided.{IsMeant, IsReadEnd}
use Rattle.dfdl_run.specs.Expects.{Expects, no_command, no_documents, no_schema, no_rows, long_input}
use Rattle.dfdl_run.specs.Expects.{meant, is_excused, most_input}
use Rattle.dfdl_run.specs.Meaning.{end_of}
use Rattle.dfdl_run.specs.Outside.{Inputs}
use Rattle.dfdl_expression_tree.specs.Readings as trees
use Rattle.dfdl_expression_tree.specs.Trees.{Formula}
use Rattle.dfdl_statements.specs.Texts.{IsReading, ReadsTexts}
use Rattle.dfdl_compile.specs.Compiled.{CompileEnd, Laid, compiled, Refused as Refuses, Limit as Passes}
use Rattle.dfdl_compile.specs.Settling.{CompilesTo, EndsWith, Free, Maps, SettlesIf}
use Rattle.dfdl_run.specs.Schemas.{AreDocuments, IsNoSchema, IsPast, IsSchemaOf, breaks, most_depth, most_rows, purpose_of, refuses, asked, stop_of}
use Rattle.dfdl_run.proofs.Excuses.{end_excused, limit_excused, limit_files}

-- the end that was decided is the expected one, or one that comes before it
pub data Ranked (before after : Inputs) (decided expected : End) : Type 0 where
  same : decided ≡ expected → Ranked before after decided expected
  files : (name : List ℕ) → decided ≡ Err (FilesFailed name)
      → Rose before.files.faults after.files.faults
      → IsTrue (is_excused expected 7) → Ranked before after decided expected
  source : decided ≡ Err SourceFailed → Rose before.source.faults after.source.faults
      → IsTrue (is_excused expected 5)
      → Ranked before after decided expected
  memory : decided ≡ Err OutOfMemory → IsTrue (is_excused expected 9)
      → Ranked before after decided expected

-- the words of commands differ
same_verb : (a b : Verb) → verb_word a ≡ verb_word b → a ≡ b
same_verb Parse Parse is = refl
same_verb Parse Unparse is = absurd (cc)
same_verb Unparse Parse is = absurd (cc)
same_verb Unparse Unparse is = refl

orders_verb : (words : List (List ℕ)) (a b : Order) → Orders words a → Orders words b
    → a.verb ≡ b.verb
orders_verb words a b first second =
    same_verb a.verb b.verb (let words_are = sym first.spelled ∙ second.spelled in cc)

orders_schema : (words : List (List ℕ)) (a b : Order) → Orders words a → Orders words b
    → a.schema ≡ b.schema
orders_schema words a b first second = let words_are = sym first.spelled ∙ second.spelled in cc

-- what is told of a file, where it is told
at_told : (P : List ℕ → Type 0) (o : Option (List ℕ)) (bytes : List ℕ) → o ≡ Some bytes → IfSome o P
    → P bytes
at_told P o bytes is told = subst (λ (o : Option (List ℕ)). IfSome o P) is told

-- where a fault is due, a failed load comes before
due_files : (seen : FilesSeen) (name : List ℕ) (due : DocumentsFault) → IsDue seen (asked name) due
    → IsTrue (is_excused (Err (stop_of due)) 7)
due_files seen name (fault.Files missing) is_due = refl
due_files seen name (fault.Document cause place document) is_due = refl
due_files seen name (fault.Limit Schema quantity) is_due = refl
due_files seen name (fault.Limit Schemas quantity) is_due = refl
due_files seen name (fault.Limit cause quantity) is_due = absurd is_due
due_files seen name fault.OutOfMemory is_due = absurd is_due

-- and want of memory
pub due_memory : (seen : FilesSeen) (name : List ℕ) (due : DocumentsFault) → IsDue seen (asked name) due
    → IsTrue (is_excused (Err (stop_of due)) 9)
due_memory seen name (fault.Files missing) is_due = refl
due_memory seen name (fault.Document cause place document) is_due = refl
due_memory seen name (fault.Limit Schema quantity) is_due = refl
due_memory seen name (fault.Limit Schemas quantity) is_due = refl
due_memory seen name (fault.Limit cause quantity) is_due = absurd is_due
due_memory seen name fault.OutOfMemory is_due = absurd is_due

-- what is known of the loading of documents: where it is told what the files are, it has one end
pub record LoadingIsOne : Type 0 where
  pub documents : (files : FilesSeen) (request : Request) (a b : List SchemaDocument)
      → AreLoaded files request.most request.schemas request.first a
      → AreLoaded files request.most request.schemas request.first b → AreTold files b → a ≡ b
  pub no_fault_due : (files : FilesSeen) (request : Request) (a : List SchemaDocument) (due : DocumentsFault)
      → AreLoaded files request.most request.schemas request.first a → IsDue files request due → ⊥
  pub no_fault : (before after : FilesSeen) (request : Request) (found : DocumentsFault) (b : List SchemaDocument)
      → EndsBy before after request found → AreLoaded before request.most request.schemas request.first b
      → AreTold before b → IsUntold found
  pub fault_due : (before after : FilesSeen) (request : Request) (found due : DocumentsFault)
      → EndsBy before after request found → IsDue before request due → (found ≡ due) ⊎ IsUntold found

-- of two elements one stands before the other, or they are one
sites : (a b : Site) → StandsBefore a b ⊎ ((a ≡ b) ⊎ StandsBefore b a)
sites a b = elim (by_number a.document b.document) [
  | inl less ↦ inl (inl less)
  | inr (inr less) ↦ inr (inr (inl less))
  | inr (inl same_document) ↦ elim (by_number a.element b.element) [
    | inl less ↦ inl (inr (same_document, less))
    | inr (inr less) ↦ inr (inr (inr (sym same_document, less)))
    | inr (inl same_element) ↦ inr (inl (ap (λ n. let s : Site = record { document = n; element = a.element } in s) same_document
        ∙ ap (λ n. let s : Site = record { document = b.document; element = n } in s) same_element))
  ]
]
  where
    by_number : (n m : ℕ) → (n < m) ⊎ ((n ≡ m) ⊎ (m < n))
    by_number zero zero = inr (inl refl)
    by_number zero (suc m) = inl (omega arith)
    by_number (suc n) zero = inr (inr (omega arith))
    by_number (suc n) (suc m) = elim (by_number n m) [
      | inl less ↦ inl (omega arith)
      | inr (inl as_many) ↦ inr (inl (ap suc as_many))
      | inr (inr less) ↦ inr (inr (omega arith))
    ]

-- the first element that breaks a rule is one
one_first : (rules : List Rule) (documents : List SchemaDocument) (a b : Site) (x y : SchemaCause)
    → IsFirst rules documents a x → IsFirst rules documents b y → (a ≡ b) × (x ≡ y)
one_first rules documents a b x y first second = elim (sites a b) [
  | inl less ↦ absurd (let none = second.before a first.within less in let some = first.broken in cc)
  | inr (inr less) ↦ absurd (let none = first.before b second.within less in let some = second.broken in cc)
  | inr (inl is) ↦ (is, let some = first.broken in let others = second.broken in cc)
]

-- documents that break a rule are refused in one way
one_broken : (documents : List SchemaDocument) (a b : SchemaCause) (p q : Place) (document name : List ℕ)
    → IsRefused documents a p document → IsRefused documents b q name
    → (a ≡ b) × ((document ≡ name) × (p.at ≡ q.at))
one_broken documents a b p q document name first second =
    let one = one_first (loading_rules documents) documents first.own second.own a b first.first second.first in (
      one.1,
      (
        first.named ∙ ap (λ (s : Site). (document_at documents s.document).name) one.0 ∙ sym second.named,
        first.at ∙ ap (λ (s : Site). (node_at (nodes_of documents s.document) s.element).at) one.0 ∙ sym second.at,
      ),
    )

-- the ends that tell these refusals
alike : (a b : SchemaCause) (document name : List ℕ) (at byte : ℕ) → (a ≡ b) × ((document ≡ name) × (at ≡ byte))
    → (let e : End = Err (Refused a document at) in e) ≡ Err (Refused b name byte)
alike a b document name at byte same_data =
    let causes = same_data.0 in let names = same_data.1.0 in let bytes = same_data.1.1 in cc

-- documents that keep all rules break none
keeps_all : (documents : List SchemaDocument) (cause : SchemaCause) (place : Place) (name : List ℕ)
    → AllKeep (loading_rules documents) documents → IsRefused documents cause place name → ⊥
keeps_all documents cause place name keeps refused =
    let none = keeps refused.own refused.first.within in let some = refused.first.broken in cc

-- what tells the trees of texts
abbrev pub Reading : Type 0
Reading = (read : List ℕ → Option Formula) × ReadsTexts read

-- what a text has as its tree is the same where statements are settled
same_reading : (text : List ℕ) (o : Option Formula) → trees.IsReading text o → IsReading text o
same_reading text None is = is
same_reading text (Some f) is = is

pub reading_of : (read : List ℕ → Option Formula) → trees.ReadsTexts read → Reading
reading_of read reads = (read, λ text. same_reading text (read text) (reads text))

-- the same maps settle statements in one way
settles_once : Reading → (maps : Option Maps) (documents : List SchemaDocument) (laid : Laid) (a b : Result Table CompileEnd)
    → SettlesIf maps documents laid a → SettlesIf maps documents laid b → a ≡ b
settles_once reading None documents laid a b first second = absurd first
settles_once (read, reads) (Some maps) documents laid a b first second = sym (first.settles read reads) ∙ second.settles read reads

ends_once : Reading → (maps : Option Maps) (documents : List SchemaDocument) (answer : Result Laid CompileEnd) (a b : Result Table CompileEnd)
    → EndsWith maps documents answer a → EndsWith maps documents answer b → a ≡ b
ends_once reading maps documents (Ok laid) a b first second = settles_once reading maps documents laid a b first second
ends_once reading maps documents (Err why) a b first second = first ∙ sym second

-- documents come to one end
one_end : Reading → (verb : Verb) (free : Free) (documents : List SchemaDocument) (a b : Result Table CompileEnd)
    → CompilesTo (purpose_of verb) free documents most_depth most_rows a → CompilesTo (purpose_of verb) free documents most_depth most_rows b → a ≡ b
one_end reading verb free documents a b first second =
    ends_once reading free.maps documents (compiled (purpose_of verb) free.refused documents most_depth most_rows) a b first second

-- documents that are refused as a schema are refused in one way
one_refused : Reading → (verb : Verb) (free : Free) (documents : List SchemaDocument) (a b : SchemaCause) (document name : List ℕ) (at byte : ℕ)
    → IsNoSchema verb free documents a document at → IsNoSchema verb free documents b name byte
    → (let e : End = Err (Refused a document at) in e) ≡ Err (Refused b name byte)
one_refused reading verb free documents _ _ _ _ _ _ (breaks a p document first) (breaks b q name second) =
    alike a b document name p.at q.at (one_broken documents a b p q document name first second)
one_refused reading verb free documents _ _ _ _ _ _ (breaks a p document first) (refuses b q keeps is) =
    absurd (keeps_all documents a p document keeps first)
one_refused reading verb free documents _ _ _ _ _ _ (refuses a p keeps is) (breaks b q name second) =
    absurd (keeps_all documents b q name keeps second)
one_refused reading verb free documents _ _ _ _ _ _ (refuses a p keeps is) (refuses b q keeps' is') =
    let both = one_end reading verb free documents (Err (Refuses a p)) (Err (Refuses b q)) is is' in cc

-- a schema is not refused
no_refusal : Reading → (verb : Verb) (free : Free) (documents : List SchemaDocument) (cause : SchemaCause) (document : List ℕ) (at : ℕ) (table : Table)
    → IsNoSchema verb free documents cause document at → IsSchemaOf verb free documents table → ⊥
no_refusal reading verb free documents _ _ _ table (breaks cause place name broken) schema =
    keeps_all documents cause place name schema.keeps broken
no_refusal reading verb free documents _ _ _ table (refuses cause place keeps is) schema =
    absurd (let both = one_end reading verb free documents (Err (Refuses cause place)) (Ok table) is schema.compiled_is in cc)

-- documents are a schema of one table of rows
one_schema : Reading → (verb : Verb) (free : Free) (documents : List SchemaDocument) (a b : Table) → IsSchemaOf verb free documents a → IsSchemaOf verb free documents b → a ≡ b
one_schema reading verb free documents a b first second = let both = one_end reading verb free documents (Ok a) (Ok b) first.compiled_is second.compiled_is in cc

-- documents that pass a limit pass one
one_past : Reading → (verb : Verb) (free : Free) (documents : List SchemaDocument) (a b : LimitCause) (n m : ℕ) → IsPast verb free documents a n → IsPast verb free documents b m
    → (let e : End = Err (Limit a n) in e) ≡ Err (Limit b m)
one_past reading verb free documents a b n m first second = let both = one_end reading verb free documents (Err (Passes a n)) (Err (Passes b m)) first.compiled_is second.compiled_is in cc

-- documents that pass a limit are no schema
no_past : Reading → (verb : Verb) (free : Free) (documents : List SchemaDocument) (cause : LimitCause) (quantity : ℕ) (table : Table)
    → IsPast verb free documents cause quantity → IsSchemaOf verb free documents table → ⊥
no_past reading verb free documents cause quantity table past schema = absurd (let both = one_end reading verb free documents (Err (Passes cause quantity)) (Ok table) past.compiled_is schema.compiled_is in cc)

-- and they are not refused
past_refused : Reading → (verb : Verb) (free : Free) (documents : List SchemaDocument) (cause : SchemaCause) (document : List ℕ) (at : ℕ) (limit : LimitCause) (quantity : ℕ)
    → IsNoSchema verb free documents cause document at → IsPast verb free documents limit quantity → ⊥
past_refused reading verb free documents _ _ _ limit quantity (breaks cause place name broken) past =
    keeps_all documents cause place name past.keeps broken
past_refused reading verb free documents _ _ _ limit quantity (refuses cause place keeps is) past =
    absurd (let both = one_end reading verb free documents (Err (Refuses cause place)) (Err (Passes limit quantity)) is past.compiled_is in cc)

module _ (loading : LoadingIsOne) (reading : Reading) (free : Free) (before after : Inputs) where
  abbrev Fault : Verb → List ℕ → Stop → Type 0
  Fault verb name stop = IsLoadFault verb free before.files after.files before.patterns after.patterns name stop

  -- the loading has ended in the way that is due, or by a failed load
  of_ends : (name : List ℕ) (found due : DocumentsFault) → EndsBy before.files after.files (asked name) found
      → IsDue before.files (asked name) due → (found ≡ due) ⊎ IsUntold found
      → Ranked before after (Err (stop_of found)) (Err (stop_of due))
  of_ends name found due ends is_due (inl is) = same (ap (λ (f : DocumentsFault). let e : End = Err (stop_of f) in e) is)
  of_ends name (fault.Files failed) due ends is_due (inr untold) =
      files failed refl ends.rose (due_files before.files name due is_due)
  of_ends name fault.OutOfMemory due ends is_due (inr untold) = memory refl (due_memory before.files name due is_due)
  of_ends name (fault.Document cause place document) due ends is_due (inr untold) = absurd untold
  of_ends name (fault.Limit cause quantity) due ends is_due (inr untold) = absurd untold

  ends_ranked : (name : List ℕ) (found due : DocumentsFault) → EndsBy before.files after.files (asked name) found
      → IsDue before.files (asked name) due → Ranked before after (Err (stop_of found)) (Err (stop_of due))
  ends_ranked name found due ends is_due =
      of_ends name found due ends is_due (loading.fault_due before.files after.files (asked name) found due ends is_due)

  -- there is no schema, and the documents are due to end
  due_ranked : (verb : Verb) (name : List ℕ) (stop : Stop) (due : DocumentsFault) → Fault verb name stop
      → IsDue before.files (asked name) due → Ranked before after (Err stop) (Err (stop_of due))
  due_ranked verb name (FilesFailed failed) due fault_is expects = ends_ranked name (fault.Files failed) due fault_is.0 expects
  due_ranked verb name OutOfMemory due fault_is expects = memory refl (due_memory before.files name due expects)
  due_ranked verb name (Limit cause quantity) due (inl limit) expects =
      ends_ranked name (fault.Limit cause quantity) due limit.0 expects
  due_ranked verb name (Limit cause quantity) due (inr past) expects =
      absurd (loading.no_fault_due before.files (asked name) past.documents due past.loaded.are expects)
  due_ranked verb name (NoDocument cause document at) due fault_is expects =
      subst (λ (byte : ℕ). Ranked before after (Err (NoDocument cause document byte)) (Err (stop_of due))) fault_is.0.place_is
      (ends_ranked name (fault.Document cause fault_is.0.place document) due fault_is.0.refused expects)
  due_ranked verb name (Refused cause document at) due fault_is expects =
      absurd (loading.no_fault_due before.files (asked name) fault_is.documents due fault_is.loaded.are expects)
  due_ranked verb name (Usage word) due fault_is expects = absurd fault_is
  due_ranked verb name SourceFailed due fault_is expects = absurd fault_is

  -- a failed load or want of memory, where all documents are there
  of_untold : (name : List ℕ) (found : DocumentsFault) (b : End) → EndsBy before.files after.files (asked name) found
      → IsUntold found → IsTrue (is_excused b 7) → IsTrue (is_excused b 9) → Ranked before after (Err (stop_of found)) b
  of_untold name (fault.Files failed) b ends untold seven nine = files failed refl ends.rose seven
  of_untold name fault.OutOfMemory b ends untold seven nine = memory refl nine
  of_untold name (fault.Document cause place document) b ends untold seven nine = absurd untold
  of_untold name (fault.Limit cause quantity) b ends untold seven nine = absurd untold

  -- the documents are not all loaded, although they are there
  loaded_ranked : (name : List ℕ) (documents : List SchemaDocument) (found : DocumentsFault) (b : End)
      → EndsBy before.files after.files (asked name) found
      → AreTold before.files documents → AreDocuments before.files name documents
      → IsTrue (is_excused b 7) → IsTrue (is_excused b 9) → Ranked before after (Err (stop_of found)) b
  loaded_ranked name documents found b ends told loaded seven nine =
      of_untold name found b ends (loading.no_fault before.files after.files (asked name) found documents ends loaded told) seven nine

  -- there is no schema, although the documents are there; where they are refused, `refused_is` tells it, and where they
  -- pass a limit `past_is`
  there_ranked : (verb : Verb) (name : List ℕ) (documents : List SchemaDocument) (stop : Stop) (b : End) → Fault verb name stop
      → AreTold before.files documents → AreDocuments before.files name documents
      → IsTrue (is_excused b 7) → IsTrue (is_excused b 9)
      → ((cause : SchemaCause) (document : List ℕ) (at : ℕ) → stop ≡ Refused cause document at
      → IsNoSchema verb free documents cause document at → Ranked before after (Err stop) b)
      → ((cause : LimitCause) (quantity : ℕ) → stop ≡ Limit cause quantity
      → IsPast verb free documents cause quantity → Ranked before after (Err stop) b)
      → Ranked before after (Err stop) b
  there_ranked verb name documents (FilesFailed failed) b fault_is told loaded seven nine refused_is past_is =
      loaded_ranked name documents (fault.Files failed) b fault_is.0 told loaded seven nine
  there_ranked verb name documents OutOfMemory b fault_is told loaded seven nine refused_is past_is = memory refl nine
  there_ranked verb name documents (Limit cause quantity) b (inl limit) told loaded seven nine refused_is past_is =
      loaded_ranked name documents (fault.Limit cause quantity) b limit.0 told loaded seven nine
  there_ranked verb name documents (Limit cause quantity) b (inr past) told loaded seven nine refused_is past_is =
      past_is cause quantity refl
      (subst (λ (ds : List SchemaDocument). IsPast verb free ds cause quantity)
      (loading.documents before.files (asked name) past.documents documents past.loaded.are loaded told) past.past)
  there_ranked verb name documents (NoDocument cause document at) b fault_is told loaded seven nine refused_is past_is =
      subst (λ (byte : ℕ). Ranked before after (Err (NoDocument cause document byte)) b) fault_is.0.place_is
      (loaded_ranked name documents (fault.Document cause fault_is.0.place document) b fault_is.0.refused told loaded seven nine)
  there_ranked verb name documents (Refused cause document at) b fault_is told loaded seven nine refused_is past_is =
      refused_is cause document at refl
      (subst (λ (ds : List SchemaDocument). IsNoSchema verb free ds cause document at)
      (loading.documents before.files (asked name) fault_is.documents documents fault_is.loaded.are loaded told) fault_is.refusal)
  there_ranked verb name documents (Usage word) b fault_is told loaded seven nine refused_is past_is = absurd fault_is
  there_ranked verb name documents SourceFailed b fault_is told loaded seven nine refused_is past_is = absurd fault_is

  -- the source gives too many bytes
  long_ranked : (bytes : List ℕ) (verb : Verb) (table : Table) (a : End)
      → most_input < length bytes
      → before.source.left ≡ Some bytes → IsReadEnd verb table before.source after.source a
      → Ranked before after a (Err (Limit Input most_input))
  long_ranked bytes verb table (Ok answer) long is read =
      let meant : IsMeant verb table (Ok answer) bytes =
      at_told (IsMeant verb table (Ok answer)) _ bytes is read.meant in
      let fits = meant.fits in absurd (omega arith)
  long_ranked bytes verb table (Err SourceFailed) long is rose = source refl rose refl
  long_ranked bytes verb table (Err OutOfMemory) long is still = memory refl refl
  long_ranked bytes verb table (Err (Limit cause quantity)) long is (inl past) =
      same (let cause_is = past.cause_is in let quantity_is = past.quantity_is in cc)
  long_ranked bytes verb table (Err (Limit cause quantity)) long is (inr answered) =
      let meant : IsMeant verb table (Err (Limit cause quantity)) bytes =
      at_told (IsMeant verb table (Err (Limit cause quantity))) _ bytes is answered.meant in
      let fits = meant.fits in absurd (omega arith)
  long_ranked bytes verb table (Err (Usage word)) long is read = absurd read
  long_ranked bytes verb table (Err (FilesFailed name)) long is read = absurd read
  long_ranked bytes verb table (Err (NoDocument cause document at)) long is read = absurd read
  long_ranked bytes verb table (Err (Refused cause document at)) long is read = absurd read

  -- the bytes have a meaning
  meant_ranked : (bytes : List ℕ) (verb : Verb) (table : Table) (a : End)
      → length bytes ≤ most_input
      → before.source.left ≡ Some bytes → IsReadEnd verb table before.source after.source a
      → Ranked before after a (end_of verb table bytes)
  meant_ranked bytes verb table (Ok answer) fits is read =
      let meant : IsMeant verb table (Ok answer) bytes =
      at_told (IsMeant verb table (Ok answer)) _ bytes is read.meant in
      same meant.end_is
  meant_ranked bytes verb table (Err SourceFailed) fits is rose = source refl rose (end_excused verb table bytes).source
  meant_ranked bytes verb table (Err OutOfMemory) fits is still = memory refl (end_excused verb table bytes).memory
  meant_ranked bytes verb table (Err (Limit cause quantity)) fits is (inl past) =
      let long = at_told (λ all. most_input < length all) _ bytes is past.long in absurd (omega arith)
  meant_ranked bytes verb table (Err (Limit cause quantity)) fits is (inr answered) =
      let meant : IsMeant verb table (Err (Limit cause quantity)) bytes =
      at_told (IsMeant verb table (Err (Limit cause quantity))) _ bytes is answered.meant in
      same meant.end_is
  meant_ranked bytes verb table (Err (Usage word)) fits is read = absurd read
  meant_ranked bytes verb table (Err (FilesFailed name)) fits is read = absurd read
  meant_ranked bytes verb table (Err (NoDocument cause document at)) fits is read = absurd read
  meant_ranked bytes verb table (Err (Refused cause document at)) fits is read = absurd read

  -- the words are an order, so that they have no place at which no command goes on
  module _ (words : List (List ℕ)) where
    at_words : (at : ℕ) (a b : End) → IsPlace IsCommand words at → a ≡ Err (Usage (at + 1))
        → Expects words free before b → Ranked before after a b
    at_words at a _ place is (no_command other place') =
        same (is
        ∙ ap (λ (n : ℕ). let e : End = Err (Usage (n + 1)) in e) (one_place IsCommand words at other place place'))
    at_words at a _ place is (no_documents order due orders expects) = absurd (place.no_text (order, orders))
    at_words at a _ place is (no_schema order documents cause document byte orders told loaded wrong) =
        absurd (place.no_text (order, orders))
    at_words at a _ place is (no_rows order documents cause quantity orders told loaded past) =
        absurd (place.no_text (order, orders))
    at_words at a _ place is (long_input order documents table bytes orders told loaded schema input_is long) =
        absurd (place.no_text (order, orders))
    at_words at a _ place is (meant order documents table bytes orders told loaded schema input_is few) =
        absurd (place.no_text (order, orders))

    -- a fault under the name that another order of the same words has
    renamed : (order other : Order) (stop : Stop) → Orders words order → Orders words other
        → Fault order.verb order.schema stop → Fault other.verb other.schema stop
    renamed order other stop orders others fault_is =
        subst (λ (v : Verb). Fault v other.schema stop) (orders_verb words order other orders others)
        (subst (λ (n : List ℕ). Fault order.verb n stop) (orders_schema words order other orders others) fault_is)

    at_schema : (order : Order) (stop : Stop) (b : End) → Orders words order
        → Fault order.verb order.schema stop → Expects words free before b → Ranked before after (Err stop) b
    at_schema order stop _ orders fault_is (no_command at place) =
        absurd (place.no_text (order, orders))
    at_schema order stop _ orders fault_is (no_documents other due others expects) =
        due_ranked other.verb other.schema stop due (renamed order other stop orders others fault_is) expects
    at_schema order stop _ orders fault_is (no_schema other documents cause document byte others told loaded wrong) =
        there_ranked other.verb other.schema documents stop _ (renamed order other stop orders others fault_is) told loaded refl refl
        (λ found name at is one. same (ap (λ (s : Stop). let e : End = Err s in e) is
        ∙ one_refused reading other.verb free documents found cause name document at byte one wrong))
        (λ limit quantity is past. absurd (past_refused reading other.verb free documents cause document byte limit quantity wrong past))
    at_schema order stop _ orders fault_is (no_rows other documents cause quantity others told loaded past) =
        there_ranked other.verb other.schema documents stop _ (renamed order other stop orders others fault_is) told loaded
        (limit_files cause quantity) (limit_excused cause quantity)
        (λ found name at is one. absurd (past_refused reading other.verb free documents found name at cause quantity one past))
        (λ limit number is other_past. same (ap (λ (s : Stop). let e : End = Err s in e) is
        ∙ one_past reading other.verb free documents limit cause number quantity other_past past))
    at_schema order stop _ orders fault_is (long_input other documents table bytes others told loaded schema input_is long) =
        there_ranked other.verb other.schema documents stop _ (renamed order other stop orders others fault_is) told loaded refl refl
        (λ found name at is one. absurd (no_refusal reading other.verb free documents found name at table one schema))
        (λ limit quantity is past. absurd (no_past reading other.verb free documents limit quantity table past schema))
    at_schema order stop _ orders fault_is (meant other documents table bytes others told loaded schema input_is few) =
        there_ranked other.verb other.schema documents stop _ (renamed order other stop orders others fault_is) told loaded
        (end_excused other.verb table bytes).files (end_excused other.verb table bytes).memory
        (λ found name at is one. absurd (no_refusal reading other.verb free documents found name at table one schema))
        (λ limit quantity is past. absurd (no_past reading other.verb free documents limit quantity table past schema))

    -- the loaded documents are a schema, where another order of the same words has all of them
    schema_of : (order other : Order) (table : Table) (documents : List SchemaDocument)
        → Orders words order → Orders words other
        → IsDescribed order.verb free before.files after.files before.patterns after.patterns order.schema table
        → AreTold before.files documents → AreDocuments before.files other.schema documents
        → IsSchemaOf other.verb free documents table
    schema_of order other table documents orders others found told loaded =
        subst (λ (v : Verb). IsSchemaOf v free documents table) (orders_verb words order other orders others)
        (subst (λ (ds : List SchemaDocument). IsSchemaOf order.verb free ds table)
        (loading.documents before.files (asked other.schema) found.documents documents
        (subst (λ (n : List ℕ). AreDocuments before.files n found.documents) (orders_schema words order other orders others) found.loaded.are) loaded told)
        found.schema)

    at_data : (order : Order) (table : Table) (a b : End) → Orders words order
        → IsDescribed order.verb free before.files after.files before.patterns after.patterns order.schema table
        → IsReadEnd order.verb table before.source after.source a → Expects words free before b
        → Ranked before after a b
    at_data order table a _ orders found read (no_command at place) =
        absurd (place.no_text (order, orders))
    at_data order table a _ orders found read (no_documents other due others expects) =
        absurd (loading.no_fault_due before.files (asked other.schema) found.documents due
        (subst (λ (n : List ℕ). AreDocuments before.files n found.documents) (orders_schema words order other orders others) found.loaded.are) expects)
    at_data order table a _ orders found read (no_schema other documents cause document byte others told loaded wrong) =
        absurd (no_refusal reading other.verb free documents cause document byte table wrong (schema_of order other table documents orders others found told loaded))
    at_data order table a _ orders found read (no_rows other documents cause quantity others told loaded past) =
        absurd (no_past reading other.verb free documents cause quantity table past (schema_of order other table documents orders others found told loaded))
    at_data order table a _ orders found read (long_input other documents table' bytes others told loaded schema input_is long) =
        long_ranked bytes order.verb table a long input_is read
    at_data order table a _ orders found read (meant other documents table' bytes others told loaded schema input_is few) =
        let same_table : table ≡ table' =
        one_schema reading other.verb free documents table table' (schema_of order other table documents orders others found told loaded) schema in
        subst (λ (v : Verb). Ranked before after a (end_of v table' bytes)) (orders_verb words order other orders others)
        (subst (λ (t : Table). Ranked before after a (end_of order.verb t bytes)) same_table
        (meant_ranked bytes order.verb table a few input_is read))

    pub ranked : (a b : End) → Decided words free before after a → Expects words free before b
        → Ranked before after a b
    ranked a b (by_words at place is untouched) expects = at_words at a b place is expects
    ranked a b (by_schema order stop orders is fault_is loads unread) expects =
        subst (λ (e : End). Ranked before after e b) (sym is) (at_schema order stop b orders fault_is expects)
    ranked a b (by_data order table orders found read) expects =
        at_data order table a b orders found read expects
