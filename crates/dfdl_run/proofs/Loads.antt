-- What the loading of a schema comes to.
use Rattle.std.proofs.Common.{◌≡◌, ◌⊎◌, ℕ, List, Result, Ok, Err, refl, sym, ap, subst}
use Rattle.std.proofs.Common.{inl, inr}
use Rattle.dfdl_edge.specs.Files.{FilesSeen}
use Rattle.dfdl_report.specs.declared.cause.LimitCause.{LimitCause}
use Rattle.dfdl_report.specs.declared.cause.SchemaCause.{SchemaCause}
use Rattle.dfdl_report.specs.declared.place.Place.{Place}
use Rattle.dfdl_documents.specs.Documents.{SchemaDocument}
use Rattle.dfdl_documents.specs.Loading.{document_at}
use Rattle.dfdl_components.specs.Faults.{IsLoadedSchema, SchemaEndsBy, UnlessFiles}
use Rattle.dfdl_components.specs.declared.fault.SchemaFault.{SchemaFault}
use Rattle.dfdl_components.specs.declared.fault.SchemaFault.TheVariants as fault
use Rattle.dfdl_compile.specs.Settling.{Free, nothing_free}
use Rattle.dfdl_components.specs.Faults.{IsRefused}
use Rattle.dfdl_components.specs.Rules.{AllKeep, loading_rules}
use Rattle.dfdl_breaches.specs.Builds.{AreBuiltInPart, PatternsSeen}
use Rattle.dfdl_terms.specs.Rows.{Table}
use Rattle.dfdl_compile.specs.Builds.{ComesTo}
use Rattle.dfdl_compile.specs.Compiled.{Refused as Refuses, Limit as Passes}
use Rattle.dfdl_breaches.proofs.Building.{in_part}
use Rattle.dfdl_run.specs.declared.command.Verb.{Verb}
use Rattle.dfdl_run.specs.declared.stop.Stop.{Stop}
use Rattle.dfdl_run.specs.declared.stop.Stop.TheVariants.{Refused, Limit, OutOfMemory}
use Rattle.dfdl_run.specs.Decided.{IsDescribed, IsLoadFault}
use Rattle.dfdl_run.specs.Schemas.{breaks, refuses, asked, most_depth, most_rows, purpose_of, schema_stop}

-- documents that are refused by a rule of loading don't keep all of these
breaks_one : (documents : List SchemaDocument) (cause : SchemaCause) (place : Place) (name : List ℕ)
    → AllKeep (loading_rules documents) documents → IsRefused documents cause place name → ⊥
breaks_one documents cause place name keeps refused =
    let none = keeps refused.own refused.first.within in let some = refused.first.broken in cc

module _ (verb : Verb) (before after : FilesSeen) (seen now : PatternsSeen) (name : List ℕ) where
  -- there are rows, by the patterns that are refused
  abbrev pub Describes : Table → Type 0
  Describes table = (free : Free) × IsDescribed verb free before after seen now name table

  -- there are none
  abbrev pub Stops : Stop → Type 0
  Stops stop = (free : Free) × IsLoadFault verb free before after seen now name stop

  -- the loaded documents come to these rows
  pub compiled_described : (documents : List SchemaDocument) (table : Table) → IsLoadedSchema before after (asked name) documents
      → ComesTo (purpose_of verb) documents most_depth most_rows seen now (Ok table) → Describes table
  compiled_described documents table loaded comes = (
    comes.free,
    record {
      documents = documents;
      loaded = record { are = loaded.loaded; seen = loaded.seen };
      built = comes.built;
      schema = record { keeps = loaded.keeps; compiled_is = comes.is };
    },
  )

  -- a schema that is not loaded
  fault_is : (fault : SchemaFault) → SchemaEndsBy before after (asked name) fault
      → UnlessFiles (let e : Result Table SchemaFault = Err fault in e) (after.faults ≡ before.faults) → now ≡ seen
      → IsLoadFault verb nothing_free before after seen now name (schema_stop fault)
  fault_is (fault.Files failed) ends still none = (ends, none)
  fault_is (fault.Doc cause place document) ends still none =
      (record { place = place; place_is = refl; refused = ends }, none)
  fault_is (fault.Schema cause place document) ends still none = record {
    documents = ends.documents;
    loaded = record { are = ends.loaded; seen = ends.seen };
    built = λ keeps. absurd (breaks_one ends.documents cause place document keeps ends.refused);
    unbuilt = λ broken. none;
    refusal = breaks cause place document ends.refused;
  }
  fault_is (fault.Limit cause quantity) ends still none = inl (ends, none)
  fault_is fault.OutOfMemory ends still none = (still, inl none)

  pub fault_stops : (fault : SchemaFault) (stop : Stop) → stop ≡ schema_stop fault → SchemaEndsBy before after (asked name) fault
      → UnlessFiles (let e : Result Table SchemaFault = Err fault in e) (after.faults ≡ before.faults) → now ≡ seen → Stops stop
  fault_stops fault stop is ends still none =
      subst Stops (sym is) (nothing_free, fault_is fault ends still none)

  -- loaded documents that are refused, or want of memory for the name of one
  pub refused_fault : (documents : List SchemaDocument) (stop : Stop) (cause : SchemaCause) (place : Place)
      → (stop ≡ Refused cause (document_at documents place.document).name place.at) ⊎ (stop ≡ OutOfMemory)
      → IsLoadedSchema before after (asked name) documents
      → ComesTo (purpose_of verb) documents most_depth most_rows seen now (Err (Refuses cause place)) → Stops stop
  refused_fault documents stop cause place (inl is) loaded comes =
      subst Stops (sym is) (
        comes.free,
        record {
          documents = documents;
          loaded = record { are = loaded.loaded; seen = loaded.seen };
          built = λ keeps. comes.built;
          unbuilt = λ broken. absurd (broken loaded.keeps);
          refusal = refuses cause place loaded.keeps comes.is;
        },
      )
  refused_fault documents stop cause place (inr is) loaded comes =
      subst Stops (sym is) (
        comes.free,
        (
          ap (λ (f : FilesSeen). f.faults) loaded.seen,
          inr (record {
            documents = documents;
            loaded = record { are = loaded.loaded; seen = loaded.seen };
            built = in_part (purpose_of verb) comes.free.refused documents seen now comes.built;
          }),
        ),
      )

  -- loaded documents that pass a limit
  pub limit_fault : (documents : List SchemaDocument) (stop : Stop) (cause : LimitCause) (quantity : ℕ)
      → stop ≡ Limit cause quantity → IsLoadedSchema before after (asked name) documents
      → ComesTo (purpose_of verb) documents most_depth most_rows seen now (Err (Passes cause quantity)) → Stops stop
  limit_fault documents stop cause quantity is loaded comes =
      subst Stops (sym is) (
        comes.free,
        inr (record {
          documents = documents;
          loaded = record { are = loaded.loaded; seen = loaded.seen };
          built = comes.built;
          past = record { keeps = loaded.keeps; compiled_is = comes.is };
        }),
      )

  -- no memory, where the documents were loaded
  pub memory_fault : (documents : List SchemaDocument) → IsLoadedSchema before after (asked name) documents
      → AreBuiltInPart (purpose_of verb) documents seen now → Stops OutOfMemory
  memory_fault documents loaded part = (
    nothing_free,
    (
      ap (λ (f : FilesSeen). f.faults) loaded.seen,
      inr (record { documents = documents; loaded = record { are = loaded.loaded; seen = loaded.seen }; built = part }),
    ),
  )
