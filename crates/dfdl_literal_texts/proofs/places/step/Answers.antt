use Rattle.std.proofs.Common.{◌∙◌}
use Rattle.dfdl_literal_texts.specs.Texts.{after_any, spaces}
use Rattle.dfdl_literal_texts.proofs.Steps.{maybe_same, nothing_same, piece_passed, spaces_passed}
use Rattle.dfdl_literal_texts.proofs.places.step.Goals as goal

pub returns-in-Nothing-clause-stepped : goal.returns-in-Nothing-clause-stepped
returns-in-Nothing-clause-stepped c = λ is_rest.
    rw c.in-Nothing.is (nothing_same c.args.encoding c.args.fold is_rest c.args.bytes.now c.args.places.now)

pub returns-in-MaybeSpaces-clause-stepped : goal.returns-in-MaybeSpaces-clause-stepped
returns-in-MaybeSpaces-clause-stepped c = λ is_rest.
    c.spread_all.ensures.spread is_rest
    ∙ rw c.in-MaybeSpaces.is (maybe_same c.args.encoding c.args.fold is_rest c.args.bytes.now c.args.places.now)

pub returns-in-Spaces-clause-stepped : goal.returns-in-Spaces-clause-stepped
returns-in-Spaces-clause-stepped c = λ is_rest.
    c.spread_all-in-Spaces.ensures.spread is_rest ∙ c.pass_all.ensures.passed (after_any c.args.encoding spaces is_rest)
    ∙ rw c.in-Spaces.is (spaces_passed c.args.encoding c.args.fold is_rest c.args.bytes.now c.args.places.now)

pub returns-in_default : goal.returns-in_default
returns-in_default c = record {
  stepped = λ is_rest.
      c.pass_all-in_default.ensures.passed is_rest
      ∙ piece_passed c.args.encoding c.args.fold c.args.piece is_rest c.args.bytes.now c.args.places.now
      c.in_default.not-Spaces c.in_default.not-MaybeSpaces c.in_default.not-Nothing;
  length = c.pass_all-in_default.ensures.length;
}
