-- Which namespaces may be bound.
use Rattle.std.specs.Prelude.{◌≡◌, ℕ, true, ◌==◌, List, [], ◌∷◌, length}
use Rattle.std.proofs.Common.{refl, sym, ◌∙◌}
use Rattle.std.proofs.lemmas.Bool.{false≢true}
use Rattle.dfdl_markup.specs.Values.{may_bind, xml_namespace, xmlns_namespace}
use Rattle.dfdl_xml_names.proofs.Texts.{not_none}

-- the empty namespace, for the empty prefix alone
pub bind_none : (prefix namespace : List ℕ) → true ≡ (length namespace == 0) → (length prefix == 0) ≡ may_bind prefix namespace
unfolding xml_namespace xmlns_namespace
bind_none [] [] none = refl
bind_none (c ∷ prefix) [] none = not_none (length prefix)
bind_none prefix (d ∷ namespace) none = absurd (false≢true (sym (none ∙ not_none (length namespace))))
