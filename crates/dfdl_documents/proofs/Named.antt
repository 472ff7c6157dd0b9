-- Names that follow others, each once.
use Rattle.std.proofs.lemmas.List.{append_assoc, append-nil}
use Rattle.std.proofs.Common.{◌++◌, ◌∷◌, ap, sym, ◌≡◌, ℕ, List, [], refl, Option, None, Some}
use Rattle.std.specs.List.{cons_option}
use Rattle.dfdl_documents.specs.Documents.{Reference}
use Rattle.dfdl_documents.specs.References.{names_in}
use Rattle.dfdl_documents.specs.Names.{with_names}

-- the name of one reference, and then those of others
pub one_named : (names : List (List ℕ)) (reference : Option Reference) (others : List Reference)
    → with_names names (names_in (cons_option reference others))
    ≡ with_names (with_names names (names_in (cons_option reference []))) (names_in others)
one_named names None others = refl
one_named names (Some reference) others = refl

-- one reference, and then others
pub one_referred : (before : List Reference) (reference : Option Reference) (others : List Reference)
    → before ++ cons_option reference others ≡ (before ++ cons_option reference []) ++ others
one_referred before None others = ap (λ l. l ++ others) (sym (append-nil before))
one_referred before (Some reference) others = sym (append_assoc before (reference ∷ []) others)
