use Rattle.std.proofs.Common.{refl, sym, ◌∙◌}
use Rattle.dfdl_chains.specs.Kinds.{kind_at}
use Rattle.dfdl_chains.specs.Facts.{facts_at}
use Rattle.dfdl_checks.specs.Numbers.{type_of}
use Rattle.dfdl_breaches.specs.Hidden.{hides, hiding_at, kind_where}
use Rattle.dfdl_breaches.specs.Roots.{chain_at}
use Rattle.dfdl_breaches.proofs.Calculating.{still_represented, typed_before}
use Rattle.dfdl_breaches.specs.Judging.{judged_at}
use Rattle.dfdl_checks.specs.declared.purpose.Purpose.TheVariants.{Unparsing}
use Rattle.dfdl_breaches.proofs.Forms.{bounded_before, none_before}
use Rattle.dfdl_breaches.proofs.HiddenKinds.{first_none, same_type, still_simple}
use Rattle.dfdl_breaches.proofs.laws.sound_elements_have_bounded_primitives.Goals as goal

pub returns-clause-whole : goal.returns-clause-whole
returns-clause-whole c =
    λ refused documents own p is. c.primitives_for_unparsing_are_whole.ensures (judged_at Unparsing refused documents own) p refl is

pub returns-clause-prefix : goal.returns-clause-prefix
returns-clause-prefix c = λ purpose refused documents own f is.
    bounded_before c.prefixes_are_bounded.ensures.bounded (judged_at purpose refused documents own) f is

pub returns-clause-parsing : goal.returns-clause-parsing
returns-clause-parsing c = λ refused documents own. none_before c.prefixes_are_bounded.ensures.parsing (judged_at Unparsing refused documents own) refl

pub returns-clause-kind : goal.returns-clause-kind
returns-clause-kind c = λ purpose refused documents own p is.
    sym (same_type (hides (hiding_at purpose documents own)) (kind_at documents own))
    ∙ typed_before purpose (facts_at documents own) (chain_at documents own)
    (kind_where (hides (hiding_at purpose documents own)) (kind_at documents own)) (type_of p)
    (c.primitives_are_bounded.ensures.kind (judged_at purpose refused documents own) p is)

pub returns-clause-sound : goal.returns-clause-sound
returns-clause-sound c = λ purpose refused documents own sound uncalculated simple.
    c.sound_elements_have_primitives.ensures.primitive (judged_at purpose refused documents own) (first_none _ _ sound)
    (still_represented purpose (facts_at documents own) (chain_at documents own)
    (kind_where (hides (hiding_at purpose documents own)) (kind_at documents own)) uncalculated
    ∙ (still_simple (hides (hiding_at purpose documents own)) (kind_at documents own) ∙ simple))

pub returns-clause-nil : goal.returns-clause-nil
returns-clause-nil c = λ purpose refused documents own p is. c.representations_are_bounded.ensures.nil (judged_at purpose refused documents own) p is

pub returns-clause-required : goal.returns-clause-required
returns-clause-required c =
    λ purpose refused documents own p is written. c.representations_are_bounded.ensures.required (judged_at purpose refused documents own) p is written

pub returns-clause-where_tried : goal.returns-clause-where_tried
returns-clause-where_tried c =
    λ purpose refused documents own p is written. c.representations_are_bounded.ensures.where_tried (judged_at purpose refused documents own) p is written
