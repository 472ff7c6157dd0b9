-- Mirror for the prover: what was found in an infoset so far, and what is still to be read.
use Rattle.std.specs.Prelude.{◌≡◌, ℕ, suc, ◌+◌, Bool, List, [], ◌∷◌, ◌++◌, drop, fold, map, None, Some}
use denote.Ref.{Bor}
use Rattle.serde_json.specs.declared.value.Value.{Value}
use Rattle.serde_json.specs.Data.{Data}
use Rattle.serde_json.specs.View.{view}
use Rattle.dfdl_terms.specs.Arrays.{MarksItems}
use Rattle.dfdl_terms.specs.Rows.{Table}
use Rattle.dfdl_terms.specs.declared.event.Event.TheVariants.{End}
use Rattle.dfdl_json.specs.Children.{name_of}
use Rattle.dfdl_json.specs.Found.{Found, noted}
use Rattle.dfdl_json.specs.Hidden.{MarksHidden}
use Rattle.dfdl_json.specs.Members.{is_declared}
use Rattle.dfdl_json.specs.Paths.{Names}
use Rattle.dfdl_json.specs.ReadingSteps.{array_cost, cost}
use Rattle.dfdl_json.specs.Infosets.{Finding, Says, array_findings, findings}
use Rattle.dfdl_json.specs.declared.marks.Marks.{Marks}
use Rattle.dfdl_json.specs.declared.reading.Reading.{Reading}
use Rattle.dfdl_json.specs.declared.reading.Task.{Task}
use Rattle.dfdl_json.specs.declared.reading.Task.TheVariants.{Read, Item, Array, Close}

-- how many steps the tasks that are left take with their contents
abbrev pub steps_left : Table → List Task → List Data → ℕ
steps_left t [] contents = 0
steps_left t (Close ∷ tasks) contents = suc (steps_left t tasks contents)
steps_left t (Read row ∷ tasks) [] = suc (steps_left t tasks [])
steps_left t (Item row place ∷ tasks) [] = suc (steps_left t tasks [])
steps_left t (Array row ∷ tasks) [] = suc (steps_left t tasks [])
steps_left t (Read row ∷ tasks) (content ∷ contents) = suc (cost t row content) + steps_left t tasks contents
steps_left t (Item row place ∷ tasks) (content ∷ contents) = suc (cost t row content) + steps_left t tasks contents
steps_left t (Array row ∷ tasks) (content ∷ contents) = array_cost (cost t row) content + steps_left t tasks contents

-- what the tasks that are left find in their contents, in elements of these names
abbrev pub coming : Table → List Task → List Data → Names → List Finding
coming t [] contents names = []
coming t (Close ∷ tasks) contents names = Says End ∷ coming t tasks contents (drop 1 names)
coming t (Read row ∷ tasks) [] names = coming t tasks [] names
coming t (Item row place ∷ tasks) [] names = coming t tasks [] names
coming t (Array row ∷ tasks) [] names = coming t tasks [] names
coming t (Read row ∷ tasks) (content ∷ contents) names = findings t row None content names ++ coming t tasks contents names
coming t (Item row place ∷ tasks) (content ∷ contents) names = findings t row (Some place) content names ++ coming t tasks contents names
coming t (Array row ∷ tasks) (content ∷ contents) names =
    array_findings (findings t row) (name_of t row) names content ++ coming t tasks contents names

-- what references lead to, as data
abbrev pub data_at : List (Bor Value) → List Data
data_at contents = map (λ content. view content.now) contents

-- what all comes to
abbrev pub all_found : Table → Reading → Found
all_found t r = fold noted r.found (coming t r.tasks.items (data_at r.contents.items) r.around)

-- the test has exactly the names of the elements of these rows
pub record HasNames (has : Bor (List ℕ) → Bool) (t : Table) (elements : List ℕ) : Type 0 where
  pub exactly : (name : Bor (List ℕ)) → has name ≡ is_declared t elements name.now

-- the rows that are marked are those of items, and those of hidden elements
pub record AreMarks (t : Table) (marks : Marks) : Type 0 where
  pub items : MarksItems t.rows marks.items
  pub hidden : MarksHidden t marks.hidden
