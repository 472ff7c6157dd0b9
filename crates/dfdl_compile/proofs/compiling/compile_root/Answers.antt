use Rattle.std.proofs.Common.{◌≡◌, ◌∙◌, All, List, ℕ, Ok, Some, ap, length, subst, sym}
use Rattle.std.specs.List.{AllZip}
use Rattle.std.proofs.lemmas.List.{length-map}
use Rattle.dfdl_checks.specs.Forms.{IsWhole}
use Rattle.dfdl_chains.specs.Everywhere.{all_sites}
use Rattle.dfdl_terms.specs.Rows.{HasElementLast, HasPlainRows, Table}
use Rattle.dfdl_terms.specs.declared.row.Row.{Row}
use Rattle.dfdl_breaches.specs.Judging.{judgement_at}
use Rattle.dfdl_breaches.specs.declared.judgement.Judgement.{Judgement}
use Rattle.dfdl_written.specs.declared.noted.Noted.{Noted}
use Rattle.dfdl_components.specs.Recursion.{number_of}
use Rattle.dfdl_rows.specs.Components.{Schema}
use Rattle.dfdl_terms.specs.declared.writing.Writing.{Writing}
use Rattle.dfdl_compile.specs.Components.{components_of}
use Rattle.dfdl_compile.specs.Faults.{IsEndFault}
use Rattle.dfdl_compile.specs.Settling.{Ends}
use Rattle.dfdl_compile.specs.Whole.{writings_of}
use Rattle.dfdl_compile.specs.declared.whole.CompiledSchema.{CompiledSchema}
use Rattle.dfdl_compile.specs.Compiled.{Laid, by_root, laid, told_of}
use Rattle.dfdl_compile.specs.Primitives.{HasBareTypedLeaves, HasTypedLeaves}
use Rattle.dfdl_compile.specs.Shown.{EndsWithElement, IsAsWritten, told_shown}
use Rattle.dfdl_compile.proofs.Finishing.{all_end, all_faults, both, if_there, laid_is, told_is}
use Rattle.dfdl_compile.proofs.Noted.{all_stated, noted_are}
use Rattle.dfdl_compile.proofs.Taken.{bounded, lists_are, tables_are, wholes}
use Rattle.dfdl_compile.proofs.Typed.{bare_typed, leaves_typed}
use Rattle.dfdl_compile.proofs.Complete.{fails, holds, of_one, parted, writings_are}
use Rattle.dfdl_compile.proofs.compiling.compile_root.Goals as goal

pub lay-requires-clause-told : goal.lay-requires-clause-told
lay-requires-clause-told c = (c.requires.told.0, c.as_slice.ensures.value ∙ c.requires.told.1)

pub tell-requires-clause-told : goal.tell-requires-clause-told
tell-requires-clause-told c =
    ap (λ (js : List Judgement). length js) c.requires.told.1
    ∙ length-map (all_sites c.args.schema.now) (judgement_at c.args.purpose c.requires.told.0 c.args.schema.now)

pub tell-requires-clause-stated : goal.tell-requires-clause-stated
tell-requires-clause-stated c =
    all_stated c.args.purpose c.requires.told.0 c.args.schema.now
    (λ own within. c.told_statements_are_within.ensures.checks c.args.purpose c.requires.told.0 c.args.schema.now own within)
    (λ own within. c.told_statements_are_within.ensures.settings c.args.purpose c.args.schema.now own within) c.args.judgements.items c.requires.told.1

pub finish-terms-requires-clause-named : goal.finish-terms-requires-clause-named
finish-terms-requires-clause-named c = λ named primitives delimiters counted.
    c.in_ok-made.ensures.named c.requires.told.0 (c.as_slice.ensures.value ∙ c.requires.told.1) named
    (primitives ∙ tables_are c.args.purpose c.requires.told.0 c.args.schema.now c.args.judgements.items c.in_ok-told.field-0.lists.primitives.items c.requires.told.1 c.in_ok-told.ensures.primitives)
    (delimiters ∙ lists_are c.args.purpose c.requires.told.0 c.args.schema.now c.args.judgements.items c.in_ok-told.field-0.lists.delimiters.items c.requires.told.1 c.in_ok-told.ensures.delimiters)
    (counted ∙ ap (λ (ns : List Noted). length ns) (noted_are c.args.purpose c.requires.told.0 c.args.schema.now c.args.judgements.items c.in_ok-told.field-0.lists.noted.items c.requires.told.1 c.in_ok-told.ensures.noted))

pub finish-terms-requires-clause-bounded : goal.finish-terms-requires-clause-bounded
finish-terms-requires-clause-bounded c =
    bounded c.args.purpose c.requires.told.0 c.args.schema.now c.sound_elements_have_bounded_primitives.ensures.bounded
    c.sound_elements_have_bounded_primitives.ensures.prefix c.sound_elements_have_bounded_primitives.ensures.nil
    c.sound_elements_have_bounded_primitives.ensures.required c.sound_elements_have_bounded_primitives.ensures.where_tried c.in_ok-told.field-0.lists.primitives.items
    (tables_are c.args.purpose c.requires.told.0 c.args.schema.now c.args.judgements.items c.in_ok-told.field-0.lists.primitives.items c.requires.told.1 c.in_ok-told.ensures.primitives)
    c.in_ok-told.ensures.written

pub returns-clause-rows : goal.returns-clause-rows
returns-clause-rows c = λ refused told.
    holds (λ (t : Table). Ends c.args.schema.now (by_root c.args.purpose refused c.args.schema.now c.args.depth c.args.rows (Some c.args.root)) (Ok t)) c.with_terms.result c.finish-terms.result c.with_terms.ensures.terms
    (all_end c.args.schema.now (by_root c.args.purpose refused c.args.schema.now c.args.depth c.args.rows (Some c.args.root))
    (laid c.in_ok-made.field-0.rows.items c.in_ok-made.field-0.refused (told_shown c.in_ok-told.field-0.lists c.in_ok-variables.variables.items)) c.finish-terms.result
    (c.in_ok-made.ensures.rows refused (c.as_slice.ensures.value ∙ told)
    ∙ ap (λ (l : Laid). Ok l) (sym (laid_is c.in_ok-made.field-0.rows.items c.in_ok-made.field-0.refused (told_shown c.in_ok-told.field-0.lists c.in_ok-variables.variables.items) (told_of c.args.purpose refused c.args.schema.now)
    (told_is c.args.purpose refused c.args.schema.now c.in_ok-told.field-0.lists c.in_ok-variables.variables.items
    (tables_are c.args.purpose refused c.args.schema.now c.args.judgements.items c.in_ok-told.field-0.lists.primitives.items told c.in_ok-told.ensures.primitives)
    (lists_are c.args.purpose refused c.args.schema.now c.args.judgements.items c.in_ok-told.field-0.lists.delimiters.items told c.in_ok-told.ensures.delimiters)
    (noted_are c.args.purpose refused c.args.schema.now c.args.judgements.items c.in_ok-told.field-0.lists.noted.items told c.in_ok-told.ensures.noted)
    c.in_ok-variables.ensures.items))))
    c.finish-terms.ensures.settled)

pub returns-clause-fault : goal.returns-clause-fault
returns-clause-fault c = λ refused told.
    fails (IsEndFault c.args.schema.now (by_root c.args.purpose refused c.args.schema.now c.args.depth c.args.rows (Some c.args.root))) c.with_terms.result c.finish-terms.result c.with_terms.ensures.terms
    (all_faults c.args.schema.now (by_root c.args.purpose refused c.args.schema.now c.args.depth c.args.rows (Some c.args.root))
    (laid c.in_ok-made.field-0.rows.items c.in_ok-made.field-0.refused (told_shown c.in_ok-told.field-0.lists c.in_ok-variables.variables.items)) c.finish-terms.result
    (c.in_ok-made.ensures.rows refused (c.as_slice.ensures.value ∙ told)
    ∙ ap (λ (l : Laid). Ok l) (sym (laid_is c.in_ok-made.field-0.rows.items c.in_ok-made.field-0.refused (told_shown c.in_ok-told.field-0.lists c.in_ok-variables.variables.items) (told_of c.args.purpose refused c.args.schema.now)
    (told_is c.args.purpose refused c.args.schema.now c.in_ok-told.field-0.lists c.in_ok-variables.variables.items
    (tables_are c.args.purpose refused c.args.schema.now c.args.judgements.items c.in_ok-told.field-0.lists.primitives.items told c.in_ok-told.ensures.primitives)
    (lists_are c.args.purpose refused c.args.schema.now c.args.judgements.items c.in_ok-told.field-0.lists.delimiters.items told c.in_ok-told.ensures.delimiters)
    (noted_are c.args.purpose refused c.args.schema.now c.args.judgements.items c.in_ok-told.field-0.lists.noted.items told c.in_ok-told.ensures.noted)
    c.in_ok-variables.ensures.items))))
    c.finish-terms.ensures.fault)

pub returns-clause-element : goal.returns-clause-element
returns-clause-element c =
    holds HasElementLast c.with_terms.result c.finish-terms.result c.with_terms.ensures.terms
    (if_there (λ (t : Table). t.rows ≡ c.in_ok-made.field-0.rows.items) HasElementLast c.finish-terms.result c.finish-terms.ensures.rows
    (λ t is. subst (λ (rs : List Row). EndsWithElement rs) (sym is) c.in_ok-made.ensures.element))

pub returns-clause-leaves : goal.returns-clause-leaves
returns-clause-leaves c =
    holds HasTypedLeaves c.with_terms.result c.finish-terms.result c.with_terms.ensures.terms
    (if_there (λ (t : Table). (t.rows ≡ c.in_ok-made.field-0.rows.items)
    × ((t.primitives ≡ c.in_ok-told.field-0.lists.primitives.items) × AllZip IsAsWritten c.in_ok-told.field-0.lists.noted.items t.statements)) HasTypedLeaves c.finish-terms.result
    (both (λ (t : Table). t.rows ≡ c.in_ok-made.field-0.rows.items)
    (λ (t : Table). (t.primitives ≡ c.in_ok-told.field-0.lists.primitives.items) × AllZip IsAsWritten c.in_ok-told.field-0.lists.noted.items t.statements)
    c.finish-terms.result c.finish-terms.ensures.rows
    (both (λ (t : Table). t.primitives ≡ c.in_ok-told.field-0.lists.primitives.items)
    (λ (t : Table). AllZip IsAsWritten c.in_ok-told.field-0.lists.noted.items t.statements) c.finish-terms.result c.finish-terms.ensures.primitives c.finish-terms.ensures.written))
    (λ t is. leaves_typed c.args.purpose c.requires.told.0 c.args.schema.now t c.in_ok-made.field-0.rows.items is.0
    (is.1.0 ∙ tables_are c.args.purpose c.requires.told.0 c.args.schema.now c.args.judgements.items c.in_ok-told.field-0.lists.primitives.items c.requires.told.1 c.in_ok-told.ensures.primitives)
    (subst (λ (ns : List Noted). AllZip IsAsWritten ns t.statements)
    (noted_are c.args.purpose c.requires.told.0 c.args.schema.now c.args.judgements.items c.in_ok-told.field-0.lists.noted.items c.requires.told.1 c.in_ok-told.ensures.noted) is.1.1)
    (c.in_ok-made.ensures.leaves c.requires.told.0 (c.as_slice.ensures.value ∙ c.requires.told.1))))

pub returns-clause-whole : goal.returns-clause-whole
returns-clause-whole c = λ unparsing.
    holds (λ (t : Table). All IsWhole t.primitives) c.with_terms.result c.finish-terms.result c.with_terms.ensures.terms
    (if_there (λ (t : Table). t.primitives ≡ c.in_ok-told.field-0.lists.primitives.items) (λ (t : Table). All IsWhole t.primitives) c.finish-terms.result c.finish-terms.ensures.primitives
    (λ t is. wholes c.args.purpose c.requires.told.0 c.args.schema.now unparsing c.sound_elements_have_bounded_primitives.ensures.whole
    c.sound_elements_have_bounded_primitives.ensures.parsing c.sound_elements_have_bounded_primitives.ensures.normal t.primitives
    (is ∙ tables_are c.args.purpose c.requires.told.0 c.args.schema.now c.args.judgements.items c.in_ok-told.field-0.lists.primitives.items c.requires.told.1 c.in_ok-told.ensures.primitives)))

pub returns-clause-bare : goal.returns-clause-bare
returns-clause-bare c = λ unparsing.
    holds HasBareTypedLeaves c.with_terms.result c.finish-terms.result c.with_terms.ensures.terms
    (if_there (λ (t : Table). (t.rows ≡ c.in_ok-made.field-0.rows.items) × (t.primitives ≡ c.in_ok-told.field-0.lists.primitives.items)) HasBareTypedLeaves c.finish-terms.result
    (both (λ (t : Table). t.rows ≡ c.in_ok-made.field-0.rows.items) (λ (t : Table). t.primitives ≡ c.in_ok-told.field-0.lists.primitives.items)
    c.finish-terms.result c.finish-terms.ensures.rows c.finish-terms.ensures.primitives)
    (λ t is. bare_typed c.args.purpose c.requires.told.0 c.args.schema.now t c.in_ok-made.field-0.rows.items is.0
    (is.1 ∙ tables_are c.args.purpose c.requires.told.0 c.args.schema.now c.args.judgements.items c.in_ok-told.field-0.lists.primitives.items c.requires.told.1 c.in_ok-told.ensures.primitives)
    (c.in_ok-made.ensures.bare unparsing c.requires.told.0 (c.as_slice.ensures.value ∙ c.requires.told.1))))

pub returns-clause-plain : goal.returns-clause-plain
returns-clause-plain c = λ unparsing.
    holds (λ (t : Table). HasPlainRows t.rows) c.with_terms.result c.finish-terms.result c.with_terms.ensures.terms
    (if_there (λ (t : Table). t.rows ≡ c.in_ok-made.field-0.rows.items) (λ (t : Table). HasPlainRows t.rows) c.finish-terms.result c.finish-terms.ensures.rows
    (λ t is. subst (λ (rs : List Row). HasPlainRows rs) (sym is) (c.in_ok-made.ensures.plain unparsing)))

pub returns-clause-components : goal.returns-clause-components
returns-clause-components c = λ refused told.
    parted (λ (schema : Schema). schema ≡ components_of c.args.purpose refused c.args.schema.now) (λ (whole : CompiledSchema). whole.components) c.in_ok-made.field-0.components
    c.with_terms.result c.with_terms.ensures.components (c.in_ok-made.ensures.components refused (c.as_slice.ensures.value ∙ told))

pub returns-clause-root : goal.returns-clause-root
returns-clause-root c =
    parted (λ (n : ℕ). n ≡ number_of c.args.schema.now c.args.root) (λ (whole : CompiledSchema). whole.root) c.number.result c.with_terms.result c.with_terms.ensures.root
    c.number.ensures

pub returns-clause-writings : goal.returns-clause-writings
returns-clause-writings c = λ refused told.
    parted (λ (ws : List Writing). ws ≡ writings_of c.args.purpose refused c.args.schema.now) (λ (whole : CompiledSchema). whole.writings.items)
    c.in_ok-told.field-0.writings.items c.with_terms.result c.with_terms.ensures.writings
    (c.in_ok-told.ensures.writings ∙ writings_are c.args.purpose refused c.args.schema.now c.args.judgements.items told)

pub returns-clause-of_one : goal.returns-clause-of_one
returns-clause-of_one c =
    of_one c.args.purpose c.requires.told.0 c.args.schema.now c.args.root c.requires.within c.in_ok-made.field-0.components c.number.result c.in_ok-told.field-0.writings.items
    c.with_terms.result c.with_terms.ensures.components c.with_terms.ensures.root c.with_terms.ensures.writings
    (c.in_ok-made.ensures.components c.requires.told.0 (c.as_slice.ensures.value ∙ c.requires.told.1)) c.number.ensures
    (c.in_ok-told.ensures.writings ∙ writings_are c.args.purpose c.requires.told.0 c.args.schema.now c.args.judgements.items c.requires.told.1)
