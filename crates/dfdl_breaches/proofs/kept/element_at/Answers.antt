use Rattle.dfdl_breaches.proofs.Keeping.{default_format, number_within, of_format, same_element}
use Rattle.dfdl_references.specs.References.{default_of, format_of}
use Rattle.dfdl_breaches.specs.Elements.{element_at}
use Rattle.dfdl_breaches.proofs.kept.element_at.Goals as goal

pub format_at-requires-clause-within : goal.format_at-requires-clause-within
format_at-requires-clause-within c =
    number_within c.args.schema.now c.args.kept.now.formats.now (format_of c.args.schema.now c.args.site) c.entry_at-entry.result.now.format
    c.entry_at-entry.ensures.format (of_format c.args.schema.now c.args.site) c.requires.kept.formats.counted

pub format_at-requires-2-clause-within : goal.format_at-requires-2-clause-within
format_at-requires-2-clause-within c =
    number_within c.args.schema.now c.args.kept.now.formats.now (default_of c.args.schema.now c.args.site.document) c.entry_at-entry.result.now.default
    c.entry_at-entry.ensures.by_default (default_format c.args.schema.now c.args.site.document) c.requires.kept.formats.counted

pub returns : goal.returns
returns c =
    same_element _ (element_at c.args.schema.now c.args.site)
    c.entry_at-entry.ensures.place
    c.entry_at-entry.ensures.values
    c.entry_at-entry.ensures.twice
    (λ name. c.format_at.ensures (format_of c.args.schema.now c.args.site) name c.entry_at-entry.ensures.format (of_format c.args.schema.now c.args.site))
    (λ name.
    c.format_at-2.ensures (default_of c.args.schema.now c.args.site.document) name c.entry_at-entry.ensures.by_default
    (default_format c.args.schema.now c.args.site.document))
