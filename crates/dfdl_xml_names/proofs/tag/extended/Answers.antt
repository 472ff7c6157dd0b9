use Rattle.std.proofs.Common.{subst}
use Rattle.dfdl_xml_names.specs.Indexed.{IsKept}
use Rattle.dfdl_xml_names.proofs.tag.extended.Goals as goal

pub returns-in_ok-more-in-Some : goal.returns-in_ok-more-in-Some
returns-in_ok-more-in-Some c = λ old value attributes is kept.
    c.in_ok-more-in-Some.ensures old value attributes is (subst (λ i. IsKept i old attributes) c.in-Some.is kept)
