use Rattle.std.proofs.Common.{◌≡◌, refl, subst, codes, IfOk}
use Rattle.std.specs.Str.{chars}
use Rattle.dfdl_checks.specs.BooleanTexts.{texts_told}
use Rattle.dfdl_checks.proofs.boolean_texts.false_texts.Goals as goal

pub texts_told-requires : goal.texts_told-requires
unfolding chars
texts_told-requires c = refl

pub returns : goal.returns
returns c =
    subst (λ told. IfOk c.texts_told.result (λ list. list ≡ texts_told (codes "false") told)) c.property.ensures c.texts_told.ensures
