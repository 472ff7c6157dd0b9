use Rattle.std.proofs.Common.{◌∙◌, List, map, length, option_map, ap, sym}
use Rattle.dfdl_components.specs.declared.site.Site.{Site}
use Rattle.dfdl_chains.specs.Everywhere.{all_sites}
use Rattle.dfdl_breaches.specs.Elements.{place_of}
use Rattle.dfdl_breaches.specs.Judging.{judgement_at}
use Rattle.dfdl_breaches.specs.declared.judgement.Judgement.{Judgement}
use Rattle.dfdl_compile.specs.Components.{components_of, component_at, part_numbers, refusal_of}
use Rattle.dfdl_compile.proofs.Fitting.{sites_within, twice}
use Rattle.dfdl_compile.proofs.compiling.gather.Goals as goal

pub components-requires-clause-sites : goal.components-requires-clause-sites
components-requires-clause-sites c = c.as_slice.ensures.value ∙ c.in_ok-sites.ensures

pub components-requires-clause-told : goal.components-requires-clause-told
components-requires-clause-told c =
    c.requires.told ∙ ap (λ (sites : List Site). length sites) (sym (c.as_slice.ensures.value ∙ c.in_ok-sites.ensures))

pub places-requires : goal.places-requires
places-requires c = sites_within c.args.schema.now c.as_slice-2.result.now (c.as_slice-2.ensures.value ∙ c.in_ok-sites.ensures)

pub uses-requires-clause-sites : goal.uses-requires-clause-sites
uses-requires-clause-sites c = sites_within c.args.schema.now c.as_slice-3.result.now (c.as_slice-3.ensures.value ∙ c.in_ok-sites.ensures)

pub uses-requires-clause-told : goal.uses-requires-clause-told
uses-requires-clause-told c =
    c.requires.told ∙ ap (λ (sites : List Site). length sites) (sym (c.as_slice-3.ensures.value ∙ c.in_ok-sites.ensures))

pub returns-clause-gathered : goal.returns-clause-gathered
unfolding components_of
returns-clause-gathered c = λ refused told.
    let sites = c.in_ok-sites.ensures in
    let judged = told ∙ ap (map (judgement_at c.args.purpose refused c.args.schema.now)) (sym (c.as_slice.ensures.value ∙ sites)) in
    record {
      sites = sites;
      uses = c.in-Ok.ensures.uses refused (told ∙ ap (map (judgement_at c.args.purpose refused c.args.schema.now)) (sym (c.as_slice-3.ensures.value ∙ sites)))
          ∙ ap (map (part_numbers c.args.purpose refused c.args.schema.now)) (c.as_slice-3.ensures.value ∙ sites);
      components = c.in_ok-components.ensures refused judged
          ∙ ap (map (component_at c.args.purpose refused c.args.schema.now)) (c.as_slice.ensures.value ∙ sites);
      refusals = c.in_ok-refusals.ensures
          ∙ (ap (map (λ (j : Judgement). option_map refusal_of j.breach)) told
          ∙ twice (λ (j : Judgement). option_map refusal_of j.breach) (judgement_at c.args.purpose refused c.args.schema.now) (all_sites c.args.schema.now));
      places = c.in_ok-places.ensures ∙ ap (map (place_of c.args.schema.now)) (c.as_slice-2.ensures.value ∙ sites);
    }
