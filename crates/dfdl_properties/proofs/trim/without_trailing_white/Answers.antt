use Rattle.std.proofs.Common.{◌≡◌, ℕ, List, ◌-◌, ◌<◌, length, get_or, true, false, sym, subst, ap, ◌∙◌, arith}
use Rattle.std.proofs.lemmas.Str.{IsCharBoundary-before_ascii}
use Rattle.dfdl_lemmas.specs.Trimmed.{without_trailing}
use Rattle.dfdl_lemmas.proofs.TrimmedLists.{without_trailing-end_passes, without_trailing-end_stops}
use Rattle.dfdl_markup.specs.Grammar.{is_white}
use Rattle.dfdl_properties.proofs.White.{white-is-ascii, front}
use Rattle.dfdl_properties.proofs.trim.without_trailing_white.Goals as goal

pub range-rest-requires-clause-end_boundary : goal.range-rest-requires-clause-end_boundary
range-rest-requires-clause-end_boundary c =
    let some : 0 < length c.loop-last.rest.now = subst (λ (bs : List ℕ). 0 < length bs) c.as_bytes.ensures.value c.in-len1-up.len_at_least in
    IsCharBoundary-before_ascii c.loop-last.rest.now (length c.loop-last.rest.now - 1) (omega (arith, some))
    (white-is-ascii (get_or c.loop-last.rest.now (length c.loop-last.rest.now - 1) 0)
    (subst (λ (bs : List ℕ). is_white (get_or bs (length bs - 1) 0) ≡ true) c.as_bytes.ensures.value (sym c.is_white.ensures ∙ c.if-not-is_white.false)))

pub loop-last-preserved : goal.loop-last-preserved
loop-last-preserved c = (
  c.range-rest.utf8,
  ap (without_trailing is_white) (c.range-rest.ensures.value ∙ front c.loop-last.rest.now (length c.loop-last.rest.now - 1))
      ∙ (without_trailing-end_passes is_white c.loop-last.rest.now
      (subst (λ (bs : List ℕ). 0 < length bs) c.as_bytes.ensures.value c.in-len1-up.len_at_least)
      (subst (λ (bs : List ℕ). is_white (get_or bs (length bs - 1) 0) ≡ true) c.as_bytes.ensures.value (sym c.is_white.ensures ∙ c.if-not-is_white.false))
      ∙ c.loop-last.invariant.1),
)

pub returns-then-not-is_white : goal.returns-then-not-is_white
returns-then-not-is_white c =
    sym (without_trailing-end_stops is_white c.loop-last.rest.now
    (subst (λ (bs : List ℕ). 0 < length bs) c.as_bytes.ensures.value c.in-len1-up.len_at_least)
    (subst (λ (bs : List ℕ). is_white (get_or bs (length bs - 1) 0) ≡ false) c.as_bytes.ensures.value (sym c.is_white.ensures ∙ c.if-not-is_white.true)))
    ∙ c.loop-last.invariant.1
