use Rattle.std.proofs.Common.{◌≡◌, ℕ, List, ◌<◌, length, get_or, true, sym, subst, ◌∙◌}
use Rattle.std.specs.Str.{IsUtf8}
use Rattle.std.proofs.lemmas.Str.{IsCharBoundary-after_ascii}
use Rattle.dfdl_markup.specs.Grammar.{is_white}
use Rattle.dfdl_properties.proofs.White.{white-is-ascii}
use Rattle.dfdl_properties.proofs.trim.without_leading_white.Goals as goal

pub range_from-rest-requires : goal.range_from-rest-requires
range_from-rest-requires c = λ _.
    IsCharBoundary-after_ascii c.loop-first.rest.now 0
    (subst IsUtf8 c.as_bytes.ensures.value c.as_bytes.ensures.utf8)
    (subst (λ (bs : List ℕ). 0 < length bs) c.as_bytes.ensures.value c.in-len1-up.len_at_least)
    (white-is-ascii (get_or c.loop-first.rest.now 0 0)
    (subst (λ (bs : List ℕ). is_white (get_or bs 0 0) ≡ true) c.as_bytes.ensures.value (sym c.is_white.ensures ∙ c.if-not-is_white.false)))
