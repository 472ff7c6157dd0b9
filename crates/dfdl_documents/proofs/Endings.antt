-- How the loop over documents ends before all are loaded.
use Rattle.std.proofs.Common.{◌≡◌, ℕ, ◌<◌, List, length, sym, ap, ◌∙◌, subst, arith, true, false, Option, None, Some}
use Rattle.std.specs.Borrow.{Bor}
use Rattle.std.specs.List.{slice_get}
use Rattle.std.specs.Option.{is_some, option_copied}
use Rattle.dfdl_edge.specs.Files.{FilesSeen}
use Rattle.dfdl_report.specs.declared.cause.LimitCause.TheVariants.{Schemas}
use Rattle.dfdl_documents.specs.declared.fault.DocumentsFault.{DocumentsFault}
use Rattle.dfdl_documents.specs.declared.fault.DocumentsFault.TheVariants as fault
use Rattle.dfdl_documents.specs.Documents.{SchemaDocument}
use Rattle.dfdl_documents.specs.Loading.{after_loads}
use Rattle.dfdl_documents.specs.Faults.{EndsBy, IsFailed, IsLimit, IsNext, IsNoDocument, request}
use Rattle.dfdl_documents.specs.Shown.{load_of, LoadEndsBy}
use Rattle.dfdl_documents.proofs.Loops.{IsSoFar, next_is}

-- an option that is there has a value, and one that is not has none
pub some_value : (o : Option (Bor (List ℕ))) (p : Option (List ℕ)) → is_some o ≡ true
    → option_copied o ≡ p → (x : List ℕ) × (p ≡ Some x)
some_value None p is copied = absurd cc
some_value (Some x) p is copied = (x.now, sym copied)

pub none_value : (o : Option (Bor (List ℕ))) (p : Option (List ℕ)) → is_some o ≡ false
    → option_copied o ≡ p → p ≡ None
none_value None p is copied = sym copied
none_value (Some x) p is copied = absurd cc

-- the load of the next document ends by a fault
ended : (before after : FilesSeen) (most schemas number : ℕ) (first name : List ℕ)
    (documents : List SchemaDocument) (f : DocumentsFault) → length documents ≡ number
    → IsNext before (request most schemas first) documents name
    → LoadEndsBy (after_loads (length documents) before) after (load_of name most number) f
    → EndsBy before after (request most schemas first) f
ended before after most schemas number first name documents (fault.Files failed) count next ends =
    subst (λ (n : List ℕ). IsFailed before after (request most schemas first) n) (sym ends.0)
    (record { documents = documents; next = next; rose = ends.1; last = ends.2; loads = ends.3 })
ended before after most schemas number first name documents (fault.Document cause place refused) count next ends =
    subst (λ (n : List ℕ). IsNoDocument before after (request most schemas first) cause place n) (sym ends.0)
    (record {
      documents = documents;
      next = next;
      there = ends.2.there;
      number = ends.1 ∙ sym count;
      refused = ends.3;
      seen = ends.2.seen;
    })
ended before after most schemas number first name documents (fault.Limit cause quantity) count next ends =
    subst (λ c. IsLimit before after (request most schemas first) c quantity) (sym ends.0) (
      ends.1,
      record {
        documents = documents;
        name = name;
        next = next;
        there = ends.2.there;
        longer = ends.3;
        seen = ends.2.seen;
      },
    )
ended before after most schemas number first name documents fault.OutOfMemory count next ends = tt

pub ends_by : (before now after : FilesSeen) (most schemas number : ℕ) (first name : List ℕ)
    (documents : List SchemaDocument) (names : List (List ℕ)) (f : DocumentsFault)
    → IsSoFar before now most first documents names number → slice_get names number ≡ Some name
    → number < schemas → LoadEndsBy now after (load_of name most number) f
    → EndsBy before after (request most schemas first) f
ends_by before now after most schemas number first name documents names f so next room ends =
    ended before after most schemas number first name documents f so.count
    (record {
      loading = so.loading;
      next = next_is before now most first documents names number (Some name) so next;
      room = omega (arith, so.count);
    })
    (subst (λ (s : FilesSeen). LoadEndsBy s after (load_of name most number) f) so.seen ends)

-- one document more than is allowed is to be loaded
pub ends_full : (before now : FilesSeen) (most schemas number quantity : ℕ) (first : List ℕ)
    (documents : List SchemaDocument) (names : List (List ℕ))
    → IsSoFar before now most first documents names number → number ≡ schemas → quantity ≡ schemas
    → (name : List ℕ) × (slice_get names schemas ≡ Some name)
    → IsLimit before now (request most schemas first) Schemas quantity
ends_full before now most schemas number quantity first documents names so full told waits = (
  told,
  record {
    documents = documents;
    name = waits.0;
    loading = so.loading;
    next = next_is before now most first documents names number (Some waits.0) so (ap (slice_get names) full ∙ waits.1);
    full = so.count ∙ full;
    seen = so.seen;
  },
)
