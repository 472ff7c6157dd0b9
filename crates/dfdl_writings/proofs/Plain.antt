-- A text without an escape scheme.
use Rattle.std.proofs.Common.{◌≡◌, ℕ, List, [], ◌∷◌, Some, refl, ap, ◌∙◌}
use Rattle.std.specs.Prelude.{Ok}
use Rattle.std.specs.Option.{ok_or}
use Rattle.dfdl_delims.specs.Lists.{Opened}
use Rattle.dfdl_escapes.specs.Written.{placed, plain_text, written, written_by}
use Rattle.dfdl_forms.specs.declared.encoding.Encoding.{Encoding}
use Rattle.dfdl_forms.specs.declared.text.EscapeKind.{EscapeKind}
use Rattle.dfdl_forms.specs.declared.text.EscapeKind.TheVariants.{Absent}
use Rattle.dfdl_forms.specs.declared.text.EscapeScheme.{EscapeScheme}
use Rattle.dfdl_writings.specs.declared.fault.Unwritten.{Unwritten}

plain : (encoding : Encoding) (opened : List Opened) (cs : List ℕ) → plain_text (placed encoding opened cs) ≡ cs
plain encoding opened [] = refl
plain encoding opened (c ∷ cs) = ap (λ rest. c ∷ rest) (plain encoding opened cs)

by_kind : (kind : EscapeKind) (scheme : EscapeScheme) (encoding : Encoding) (opened : List Opened) (cs : List ℕ) → kind ≡ Absent
    → written_by kind scheme (placed encoding opened cs) ≡ Some cs
by_kind kind scheme encoding opened cs is =
    ap (λ k. written_by k scheme (placed encoding opened cs)) is ∙ ap Some (plain encoding opened cs)

-- it is written as it is
pub as_it_is : (scheme : EscapeScheme) (encoding : Encoding) (opened : List Opened) (cs : List ℕ) (cause : Unwritten) → scheme.kind ≡ Absent
    → ok_or (written scheme encoding opened cs) cause ≡ Ok cs
as_it_is scheme encoding opened cs cause is =
    ap (λ text. ok_or text cause) (by_kind scheme.kind scheme encoding opened cs is)
