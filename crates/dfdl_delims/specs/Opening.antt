-- Which lists are open.
use Rattle.std.specs.Prelude.{◌≡◌, ℕ, List, map, slice_get, Some}
use Rattle.dfdl_delims.specs.declared.open_lists.OpenLists.{OpenLists}
use Rattle.dfdl_delims.specs.Lists.{Opened}
use Rattle.dfdl_delims.specs.Registers.{Holds, Register}

-- The register holds some lists, and these are the ones that the numbers name, in the order of the numbers.
pub record Names (register : Register) (numbers : List ℕ) (opened : List Opened) : Type 0 where
  pub all : List Opened
  pub holds : Holds register all
  pub named : map (slice_get all) numbers ≡ map Some opened

-- these lists are open, the outermost first
abbrev pub Opens : OpenLists → List Opened → Type 0
Opens lists opened = Names lists.markup.now lists.numbers.now opened
