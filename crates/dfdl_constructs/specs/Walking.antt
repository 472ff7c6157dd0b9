-- Mirror for the prover: the roles of elements while a walk over the parents places their children.
use Rattle.std.specs.Prelude.{◌≡◌, ℕ, ◌<◌, ◌&&◌, nat_lt, min, List, length, get_or, Option, if◌then◌else◌}
use Rattle.dfdl_markup.specs.Trees.{Node}
use Rattle.dfdl_constructs.specs.declared.role.Role.{Role}
use Rattle.dfdl_constructs.specs.declared.role.Role.TheVariants.{Skipped}
use Rattle.dfdl_constructs.specs.Roles.{is_among, parent_before, role_in, role_by, role_at}

-- the role of an element, where the children of the first elements are placed
unfoldable pub role_so_far : ℕ → List Node → ℕ → Role
role_so_far n nodes element =
    role_by nodes (role_at nodes) element (parent_before (min n element) nodes element)

-- these are the roles
pub record AreSoFar (n : ℕ) (nodes : List Node) (roles : List Role) : Type 0 where
  pub count : length roles ≡ length nodes
  pub each : (element : ℕ) → element < length nodes → get_or roles element Skipped ≡ role_so_far n nodes element

-- an element of a document, its role, and the part that stands once in it
pub record Parent : Type 0 where
  pub nodes : List Node
  pub element : ℕ
  pub role : Role
  pub single : Option ℕ

-- one
abbrev pub parent_with : List Node → ℕ → Role → Option ℕ → Parent
parent_with nodes element role single =
    record { nodes = nodes; element = element; role = role; single = single }

-- the role of an element, where these children of the parent are placed that stand behind it, and the
-- element had this role before
abbrev pub placed : Parent → List ℕ → ℕ → Role → Role
placed p children element old =
    if is_among element children && nat_lt p.element element then role_in p.nodes p.role p.single element else old

-- the new roles, where the old ones were before
pub record ArePlaced (p : Parent) (children : List ℕ) (old new : List Role) : Type 0 where
  pub count : length new ≡ length old
  pub each : (element : ℕ) → element < length old
      → get_or new element Skipped ≡ placed p children element (get_or old element Skipped)
