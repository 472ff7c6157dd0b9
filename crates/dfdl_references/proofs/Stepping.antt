-- The formats that are still looked at, one after the other.
use Rattle.std.proofs.Common.{◌≡◌, ap, ◌∙◌, ℕ, suc, ◌+◌, ◌-◌, ◌<◌, ◌≤◌, List, Option, Some, None, arith}
use Rattle.std.specs.Option.{option_or, option_and_then}
use Rattle.dfdl_documents.specs.Documents.{SchemaDocument}
use Rattle.dfdl_components.specs.declared.site.Site.{Site}
use Rattle.dfdl_references.specs.References.{format_after}
use Rattle.dfdl_references.specs.Writers.{format_own_writer, writer_within}

module _ (documents : List SchemaDocument) (name : List ℕ) (count step : ℕ) (format : Site) where
  -- a format, and then the one that it refers to
  one-more : step < count
      → writer_within (count - step) documents name format
      ≡ option_or (format_own_writer documents name format) (option_and_then (writer_within (count - (step + 1)) documents name) (format_after documents format))
  unfolding writer_within
  one-more low =
      let more : count - step ≡ suc (count - (step + 1)) = omega (arith, low) in
      ap (λ (n : ℕ). writer_within n documents name format) more

  -- the format writes it
  pub here : (writer : Site) → step < count → format_own_writer documents name format ≡ Some writer
      → writer_within (count - step) documents name format ≡ Some writer
  here writer low is = one-more low ∙ ap (λ (o : Option Site). option_or o (option_and_then (writer_within (count - (step + 1)) documents name) (format_after documents format))) is

  -- the format doesn't write it, and the same is found from what it refers to
  pub behind : step < count → format_own_writer documents name format ≡ None
      → writer_within (count - step) documents name format ≡ option_and_then (writer_within (count - (step + 1)) documents name) (format_after documents format)
  behind low is = one-more low ∙ ap (λ (o : Option Site). option_or o (option_and_then (writer_within (count - (step + 1)) documents name) (format_after documents format))) is

  -- no more formats are looked at
  pub over : count ≤ step → writer_within (count - step) documents name format ≡ None
  unfolding writer_within
  over low = let none : count - step ≡ 0 = omega (arith, low) in ap (λ (n : ℕ). writer_within n documents name format) none
