use Rattle.std.proofs.Common.{◌∙◌, All, List, ap, length, subst, sym}
use Rattle.std.proofs.lemmas.List.{length-map}
use Rattle.dfdl_components.specs.declared.site.Site.{Site}
use Rattle.dfdl_written.specs.Noting.{StatesWithin, noted_each, stated_by}
use Rattle.dfdl_written.specs.declared.noted.Stated.{Stated}
use Rattle.dfdl_compile.specs.Shown.{IsStatedWithin}
use Rattle.dfdl_compile.proofs.Fitting.{each, sites_within}
use Rattle.dfdl_compile.proofs.compiling.tell.Goals as goal

pub note-requires-clause-sites : goal.note-requires-clause-sites
note-requires-clause-sites c = sites_within c.args.schema.now c.as_slice.result.now (c.as_slice.ensures.value ∙ c.in_ok-sites.ensures)

pub note-requires-clause-counted : goal.note-requires-clause-counted
note-requires-clause-counted c =
    ap (λ (sites : List Site). length sites) (c.as_slice.ensures.value ∙ c.in_ok-sites.ensures)
    ∙ (sym c.requires.told
    ∙ (sym (length-map c.args.judgements.items stated_by) ∙ ap (λ (ss : List Stated). length ss) (sym c.in_ok-primitives.ensures.stated)))

pub note-requires-clause-within : goal.note-requires-clause-within
note-requires-clause-within c =
    subst (λ (ss : List Stated). All (StatesWithin c.args.schema.now) ss) (sym c.in_ok-primitives.ensures.stated)
    (each (IsStatedWithin c.args.schema.now) (StatesWithin c.args.schema.now) stated_by (λ told within. within) c.args.judgements.items c.requires.stated)

pub returns-clause-noted : goal.returns-clause-noted
returns-clause-noted c =
    c.in_ok-noted.ensures.noted
    ∙ (ap (λ (sites : List Site). noted_each c.args.schema.now sites c.in_ok-primitives.field-0.stated.items) (c.as_slice.ensures.value ∙ c.in_ok-sites.ensures)
    ∙ ap (noted_each c.args.schema.now _) c.in_ok-primitives.ensures.stated)
