use Rattle.std.proofs.Common.{◌≡◌, ◌∙◌, List, None, Some, ap, length, subst, sym}
use Rattle.std.proofs.lemmas.List.{length-map}
use Rattle.dfdl_checks.specs.declared.purpose.Purpose.{Purpose}
use Rattle.dfdl_chains.specs.Everywhere.{all_sites}
use Rattle.dfdl_breaches.specs.Judging.{judgement_at}
use Rattle.dfdl_breaches.specs.declared.judgement.Judgement.{Judgement}
use Rattle.dfdl_rows.specs.Components.{Schema}
use Rattle.dfdl_rows.specs.Leaves.{HaveBareLeaves, HaveLeaves}
use Rattle.dfdl_compile.specs.Compiled.{by_root, first_recursive}
use Rattle.dfdl_compile.specs.Components.{components_of}
use Rattle.dfdl_compile.specs.Faults.{IsFaultOf}
use Rattle.dfdl_compile.proofs.Ending.{root_laid, root_fault, root_within}
use Rattle.dfdl_compile.proofs.Fitting.{each_hides}
use Rattle.dfdl_compile.proofs.Tabled.{have, have_lists, have_statements}
use Rattle.dfdl_compile.proofs.Bare.{bare_components}
use Rattle.dfdl_compile.proofs.Rooted.{root_element}
use Rattle.dfdl_compile.proofs.compiling.lay.Goals as goal

pub gather-requires-clause-told : goal.gather-requires-clause-told
gather-requires-clause-told c =
    ap (λ (js : List Judgement). length js) c.requires.told.1
    ∙ length-map (all_sites c.args.schema.now) (judgement_at c.args.purpose c.requires.told.0 c.args.schema.now)

pub gather-requires-clause-hidden : goal.gather-requires-clause-hidden
gather-requires-clause-hidden c =
    each_hides c.args.purpose c.requires.told.0 c.args.schema.now (λ purpose own content is. c.hidden_groups_are_within.ensures purpose c.args.schema.now own content is)
    c.args.judgements.now c.requires.told.1

pub ordered-requires : goal.ordered-requires
ordered-requires c = (c.requires.told.0, c.in_ok-gathered.ensures.gathered c.requires.told.0 c.requires.told.1)

pub rows_of-requires : goal.rows_of-requires
rows_of-requires c =
    root_within c.args.purpose c.requires.told.0 c.args.schema.now c.args.root c.in_ok-components.components c.number-number.result
    (c.in_ok-components.ensures.components c.requires.told.0 (c.in_ok-gathered.ensures.gathered c.requires.told.0 c.requires.told.1)
    ∙ ap (λ (q : Purpose). components_of q c.requires.told.0 c.args.schema.now) c.in_ok-gathered.ensures.purpose)
    c.number-number.ensures c.requires.within

pub returns-in-Ok-clause-rows : goal.returns-in-Ok-clause-rows
returns-in-Ok-clause-rows c = λ refused told.
    root_laid c.args.purpose refused c.args.schema.now c.args.depth c.args.rows c.args.root c.in_ok-components.components c.number-number.result c.in-Ok.made.rows.items c.in-Ok.made.refused
    (c.in_ok-components.ensures.components refused (c.in_ok-gathered.ensures.gathered refused told)
    ∙ ap (λ (q : Purpose). components_of q refused c.args.schema.now) c.in_ok-gathered.ensures.purpose)
    c.number-number.ensures
    (subst (λ (q : Purpose). first_recursive (components_of q refused c.args.schema.now).uses ≡ None) c.in_ok-gathered.ensures.purpose
    (c.in_ok-components.ensures.none refused (c.in_ok-gathered.ensures.gathered refused told)))
    c.in-Ok.ensures.rows

pub returns-in-Err-clause-fault : goal.returns-in-Err-clause-fault
returns-in-Err-clause-fault c = λ refused told.
    subst (IsFaultOf (by_root c.args.purpose refused c.args.schema.now c.args.depth c.args.rows (Some c.args.root))) (sym c.fault_of.ensures)
    (root_fault c.args.purpose refused c.args.schema.now c.args.depth c.args.rows c.args.root c.in_ok-components.components c.number-number.result c.in-Err.fault
    (c.in_ok-components.ensures.components refused (c.in_ok-gathered.ensures.gathered refused told)
    ∙ ap (λ (q : Purpose). components_of q refused c.args.schema.now) c.in_ok-gathered.ensures.purpose)
    c.number-number.ensures
    (subst (λ (q : Purpose). first_recursive (components_of q refused c.args.schema.now).uses ≡ None) c.in_ok-gathered.ensures.purpose
    (c.in_ok-components.ensures.none refused (c.in_ok-gathered.ensures.gathered refused told)))
    c.in-Err.ensures.fault)

pub returns-in-Ok-clause-named : goal.returns-in-Ok-clause-named
returns-in-Ok-clause-named c = λ refused told named primitives delimiters counted.
    let schema_is = c.in_ok-components.ensures.components refused (c.in_ok-gathered.ensures.gathered refused told)
    ∙ ap (λ (q : Purpose). components_of q refused c.args.schema.now) c.in_ok-gathered.ensures.purpose in
    c.in-Ok.ensures.named named
    (have c.args.purpose refused c.args.schema.now c.in_ok-components.components named.primitives schema_is primitives)
    (have_lists c.args.purpose refused c.args.schema.now c.in_ok-components.components named.delimiters schema_is delimiters)
    (have_statements c.args.purpose refused c.args.schema.now c.in_ok-components.components (length named.statements) schema_is counted)

pub returns-in-Ok-clause-element : goal.returns-in-Ok-clause-element
returns-in-Ok-clause-element c =
    root_element c.args.purpose c.requires.told.0 c.args.schema.now c.args.root c.in_ok-components.components c.number-number.result c.in-Ok.made.rows.items
    (c.in_ok-components.ensures.components c.requires.told.0 (c.in_ok-gathered.ensures.gathered c.requires.told.0 c.requires.told.1)
    ∙ ap (λ (q : Purpose). components_of q c.requires.told.0 c.args.schema.now) c.in_ok-gathered.ensures.purpose)
    c.number-number.ensures c.requires.within c.requires.global c.in-Ok.ensures.root

pub returns-in-Ok-clause-leaves : goal.returns-in-Ok-clause-leaves
returns-in-Ok-clause-leaves c = λ refused told.
    subst (λ (s : Schema). HaveLeaves s.components c.in-Ok.made.rows.items)
    (c.in_ok-components.ensures.components refused (c.in_ok-gathered.ensures.gathered refused told)
    ∙ ap (λ (q : Purpose). components_of q refused c.args.schema.now) c.in_ok-gathered.ensures.purpose)
    c.in-Ok.ensures.leaves

pub returns-in-Ok-clause-bare : goal.returns-in-Ok-clause-bare
returns-in-Ok-clause-bare c = λ unparsing refused told.
    let schema_is = c.in_ok-components.ensures.components refused (c.in_ok-gathered.ensures.gathered refused told)
    ∙ ap (λ (q : Purpose). components_of q refused c.args.schema.now) c.in_ok-gathered.ensures.purpose in
    subst (λ (s : Schema). HaveBareLeaves s.components c.in-Ok.made.rows.items) schema_is
    (c.in-Ok.ensures.bare (bare_components refused c.args.schema.now c.sound_elements_have_bounded_primitives.ensures.parsing
    c.statements_are_for_parsing.ensures.tests c.statements_are_for_parsing.ensures.checks c.statements_are_for_parsing.ensures.calculated c.statements_are_for_parsing.ensures.settings
    c.statements_are_for_parsing.ensures.hidden c.statements_are_for_parsing.ensures.unmeasured c.statements_are_for_parsing.ensures.uncounted c.args.purpose c.in_ok-components.components unparsing schema_is))

pub returns-in-Ok-clause-plain : goal.returns-in-Ok-clause-plain
returns-in-Ok-clause-plain c = λ unparsing.
    let refused = c.requires.told.0 in
    let schema_is = c.in_ok-components.ensures.components refused (c.in_ok-gathered.ensures.gathered refused c.requires.told.1)
    ∙ ap (λ (q : Purpose). components_of q refused c.args.schema.now) c.in_ok-gathered.ensures.purpose in
    c.in-Ok.ensures.plain (bare_components refused c.args.schema.now c.sound_elements_have_bounded_primitives.ensures.parsing
    c.statements_are_for_parsing.ensures.tests c.statements_are_for_parsing.ensures.checks c.statements_are_for_parsing.ensures.calculated c.statements_are_for_parsing.ensures.settings
    c.statements_are_for_parsing.ensures.hidden c.statements_are_for_parsing.ensures.unmeasured c.statements_are_for_parsing.ensures.uncounted c.args.purpose c.in_ok-components.components unparsing schema_is)

pub returns-in-Ok-clause-components : goal.returns-in-Ok-clause-components
returns-in-Ok-clause-components c = λ refused told.
    c.in_ok-components.ensures.components refused (c.in_ok-gathered.ensures.gathered refused told)
    ∙ ap (λ (q : Purpose). components_of q refused c.args.schema.now) c.in_ok-gathered.ensures.purpose
