-- What documents come to by the builds of their patterns.
use Rattle.std.proofs.Common.{◌≡◌, ℕ, List, Option, Some, None, Result, Ok, Err, IfOk, IfErr, refl, subst, sym, ap, ◌∙◌, option_map}
use Rattle.dfdl_report.specs.declared.cause.SchemaCause.TheVariants.{NameNotFound}
use Rattle.dfdl_documents.specs.Documents.{SchemaDocument}
use Rattle.dfdl_components.specs.declared.site.Site.{Site}
use Rattle.dfdl_checks.specs.declared.purpose.Purpose.{Purpose}
use Rattle.dfdl_terms.specs.Rows.{Table}
use Rattle.dfdl_breaches.specs.Builds.{AreJudged, PatternsSeen}
use Rattle.dfdl_breaches.specs.Roots.{root_of}
use Rattle.dfdl_breaches.specs.declared.judgement.Judgement.{Judgement}
use Rattle.dfdl_breaches.proofs.Building.{in_part}
use Rattle.dfdl_compile.specs.Builds.{ComesTo, ComesToFault}
use Rattle.dfdl_compile.specs.Compiled as ends
use Rattle.dfdl_compile.specs.Compiled.{CompileEnd, by_root, compiled, first_place}
use Rattle.dfdl_compile.specs.Faults.{IsEndFault}
use Rattle.dfdl_compile.specs.Settling.{Ends, EndsWith}
use Rattle.dfdl_components.specs.Recursion.{number_of}
use Rattle.dfdl_compile.specs.Components.{components_of}
use Rattle.dfdl_compile.specs.Whole.{IsCompiled, writings_of}
use Rattle.dfdl_compile.specs.declared.whole.CompiledSchema.{CompiledSchema}
use Rattle.dfdl_compile.specs.declared.fault.CompileFault.{CompileFault}
use Rattle.dfdl_compile.specs.declared.fault.CompileFault.TheVariants as fault

module _ (purpose : Purpose) (documents : List SchemaDocument) (depth rows : ℕ) (before after : PatternsSeen) (judgements : List Judgement)
    (judged : AreJudged purpose documents before after judgements) where
  comes : (root : Option Site) (end : Result Table CompileEnd) → root ≡ root_of documents
      → Ends documents (by_root purpose judged.refused documents depth rows root) end → ComesTo purpose documents depth rows before after end
  unfolding compiled
  comes root end at (maps, is) = record {
    free = record { refused = judged.refused; maps = maps };
    built = judged.built;
    is = subst (λ (o : Option Site). EndsWith maps documents (by_root purpose judged.refused documents depth rows o) end) at is;
  }

  comes_fault : (root : Option Site) (e : CompileFault) → root ≡ root_of documents
      → IsEndFault documents (by_root purpose judged.refused documents depth rows root) e → ComesToFault purpose documents depth rows before after e
  comes_fault root (fault.Refused cause place) at is = comes root (Err (ends.Refused cause place)) at is
  comes_fault root (fault.Limit cause quantity) at is = comes root (Err (ends.Limit cause quantity)) at is
  comes_fault root fault.OutOfMemory at is = in_part purpose judged.refused documents before after judged.built

  -- the same of what is answered
  pub rows_come : (root : Site) (r : Result CompiledSchema CompileFault) → Some root ≡ root_of documents
      → IfOk r (λ whole. Ends documents (by_root purpose judged.refused documents depth rows (Some root)) (Ok whole.terms))
      → IfOk r (λ whole. whole.components ≡ components_of purpose judged.refused documents) → IfOk r (λ whole. whole.root ≡ number_of documents root)
      → IfOk r (λ whole. whole.writings.items ≡ writings_of purpose judged.refused documents) → IfOk r (IsCompiled purpose documents depth rows before after)
  unfolding comes
  rows_come root (Ok whole) at ends components number writings =
      let come = comes (Some root) (Ok whole.terms) at ends in
      record {
        free = come.free;
        built = come.built;
        terms = come.is;
        components = components;
        root = ap (option_map (number_of documents)) (sym at) ∙ ap Some (sym number);
        writings = writings;
      }
  rows_come root (Err e) at ends components number writings = tt

  pub faults_come : (root : Site) (r : Result CompiledSchema CompileFault) → Some root ≡ root_of documents
      → IfErr r (IsEndFault documents (by_root purpose judged.refused documents depth rows (Some root)))
      → IfErr r (ComesToFault purpose documents depth rows before after)
  faults_come root (Ok whole) at is = tt
  faults_come root (Err e) at is = comes_fault (Some root) e at is

  -- there is no root
  pub no_root : None ≡ root_of documents
      → ComesTo purpose documents depth rows before after (Err (ends.Refused NameNotFound first_place))
  no_root at = comes None (Err (ends.Refused NameNotFound first_place)) at (None, refl)

-- the terms of a schema that is compiled are what its documents come to
pub terms_come : (purpose : Purpose) (documents : List SchemaDocument) (depth rows : ℕ) (before after : PatternsSeen) (whole : CompiledSchema)
    → IsCompiled purpose documents depth rows before after whole → ComesTo purpose documents depth rows before after (Ok whole.terms)
terms_come purpose documents depth rows before after whole compiled =
    record { free = compiled.free; built = compiled.built; is = compiled.terms }
