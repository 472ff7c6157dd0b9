-- Which annotations are not known where they stand ('Syntax of DFDL Annotation Elements').
use Rattle.std.specs.Prelude.{ℕ, Bool, true, false, List}
use Rattle.dfdl_markup.specs.Trees.{Node}
use Rattle.dfdl_constructs.specs.declared.role.Role.{Role}
use Rattle.dfdl_constructs.specs.declared.role.Role.TheVariants as role
use Rattle.dfdl_constructs.specs.Roles.{role_at}

-- the role of an annotation that is not known
abbrev pub is_unknown : Role → Bool
is_unknown role.UnknownAnnotation = true
is_unknown _ = false

-- the element is an annotation that is not known where it stands
abbrev pub is_unknown_annotation : List Node → ℕ → Bool
is_unknown_annotation nodes element = is_unknown (role_at nodes element)
