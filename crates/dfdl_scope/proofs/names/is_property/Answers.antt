use Rattle.std.proofs.Common.{List, ℕ, ap, ◌∙◌, bytes_eq}
use Rattle.std.specs.List.{list_any}
use Rattle.dfdl_scope.proofs.ByLength.{is_by_length}
use Rattle.dfdl_scope.proofs.names.is_property.Goals as goal

pub returns : goal.returns
returns c =
    c.is_among.ensures
    ∙ (ap (λ (names : List (List ℕ)). list_any (λ n. bytes_eq n c.args.name.now) names) c.names_of_length.ensures
    ∙ is_by_length c.args.name.now)
